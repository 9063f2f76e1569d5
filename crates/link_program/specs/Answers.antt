-- What a step of a link answers. Want of memory alone is free.
use Rattle.std.specs.Prelude.{◌≡◌, Option, Some, None, Result, Ok, Err}
use Rattle.name_meanings.specs.name_entries.wl_base.declared.fault.Fault.{Fault}
use Rattle.name_meanings.specs.name_entries.wl_base.declared.fault.Fault.TheVariants.{Overflow}
use Rattle.name_meanings.specs.name_entries.wl_base.declared.layout_error.LayoutError.{LayoutError}
use Rattle.name_meanings.specs.name_entries.wl_base.declared.layout_error.LayoutError.TheVariants as layouts
use Rattle.link_program.specs.declared.error.LinkError.{LinkError}
use Rattle.link_program.specs.declared.error.LinkError.TheVariants.{Refused, OutOfMemory}

-- ---- of a step that gives something, or the first fault

abbrev pub Fails : {Y : Type 0} → LinkError → Result Y Fault → Type 0
Fails (Refused fault) said = said ≡ Err fault
Fails OutOfMemory said = Unit {0}

-- The answer, seen by view, is what is said.
abbrev pub Answers : {X Y : Type 0} → (X → Y) → Result X LinkError → Result Y Fault → Type 0
Answers view (Ok x) said = said ≡ Ok (view x)
Answers view (Err e) said = Fails e said

-- ---- of a step that looks for a fault

abbrev pub Stops : LinkError → Option Fault → Type 0
Stops (Refused fault) said = said ≡ Some fault
Stops OutOfMemory said = Unit {0}

-- It is passed exactly where there is no fault, and else stops at the fault.
abbrev pub Passes : {A : Type 0} → Result A LinkError → Option Fault → Type 0
Passes (Ok a) said = said ≡ None
Passes (Err e) said = Stops e said

-- ---- errors of the layout

abbrev pub of_layout : LayoutError → LinkError
of_layout (layouts.Overflow what needed) = Refused (Overflow what needed)
of_layout layouts.OutOfMemory = OutOfMemory

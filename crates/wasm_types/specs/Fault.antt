-- Faults of the calls that read one type alone: they name no place.
use Rattle.std.specs.Prelude.{◌≡◌, ℕ, Result, Ok, Err}
use Rattle.wasm_grammar.specs.declared.fault.Stop.{Stop}
use Rattle.wasm_grammar.specs.declared.fault.Stop.TheVariants as stops
use Rattle.wasm_grammar.specs.declared.fault.ReadFault.{ReadFault}
use Rattle.wasm_grammar.specs.declared.fault.ReadFault.TheVariants as reads
use Rattle.wasm_types.specs.declared.fault.PlainFault.{PlainFault}
use Rattle.wasm_types.specs.declared.fault.PlainFault.TheVariants as plain
use Rattle.wasm_types.specs.declared.fault.FormFault.{FormFault}
use Rattle.wasm_types.specs.declared.fault.FormFault.TheVariants as forms

-- A fault with its place taken away.
abbrev pub plain_fault : Stop → PlainFault
plain_fault (stops.Broken place) = plain.Broken
plain_fault (stops.Foreign item) = plain.Foreign item

abbrev pub form_fault : ReadFault → FormFault
form_fault (reads.Stopped (stops.Broken place)) = forms.Broken
form_fault (reads.Stopped (stops.Foreign item)) = forms.Foreign item
form_fault reads.OutOfMemory = forms.OutOfMemory

-- What the call answered, seen by view, is what reading gives, but for the place.
abbrev pub ReadsPlainly : {X Y : Type 0} → (X → Y) → Result X PlainFault → Result Y Stop → Type 0
ReadsPlainly view (Ok x) read = read ≡ Ok (view x)
ReadsPlainly view (Err plain.Broken) read = (place : ℕ) × (read ≡ Err (stops.Broken place))
ReadsPlainly view (Err (plain.Foreign item)) read = read ≡ Err (stops.Foreign item)

-- The same, unless memory ran out.
abbrev pub GivesPlainly : {X Y : Type 0} → (X → Y) → Result X FormFault → Result Y Stop → Type 0
GivesPlainly view (Ok x) read = read ≡ Ok (view x)
GivesPlainly view (Err forms.Broken) read = (place : ℕ) × (read ≡ Err (stops.Broken place))
GivesPlainly view (Err (forms.Foreign item)) read = read ≡ Err (stops.Foreign item)
GivesPlainly view (Err forms.OutOfMemory) read = Unit {0}

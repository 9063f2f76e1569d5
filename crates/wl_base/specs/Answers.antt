-- What the call of a layout answers.
use Rattle.std.specs.Prelude.{◌≡◌, Result, Ok, Err}
use Rattle.wl_base.specs.declared.layout_error.LayoutError.{LayoutError}
use Rattle.wl_base.specs.declared.layout_error.LayoutError.TheVariants.{Overflow, OutOfMemory}

-- the answer is the one that the definition gives, or want of memory
abbrev pub Answers : {A : Type 0} → Result A LayoutError → Result A LayoutError → Type 0
Answers (Ok a) said = said ≡ Ok a
Answers (Err (Overflow what needed)) said = said ≡ Err (Overflow what needed)
Answers (Err OutOfMemory) said = Unit {0}

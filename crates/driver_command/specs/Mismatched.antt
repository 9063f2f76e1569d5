-- The lines of functions that are called by another type than their definition has.
use Rattle.std.specs.Prelude.{◌≡◌, ◌⊎◌, ℕ, Bool, true, false, List, [], ◌∷◌, ◌++◌, Some, IsTrue, IfOk, codes}
use Rattle.std.specs.List.{flat_map}
use Rattle.wl_outside.specs.Shelf.{Shown}
use Rattle.link_words.specs.Words.{plan_of}
use Rattle.link_lines.specs.Pieces.{joined}
use Rattle.link_command.specs.Command.{input_names}
use Rattle.link_command.specs.declared.status.Status.{Status}
use Rattle.link_command.specs.declared.status.Status.TheVariants.{Linked, Refused, Usage, ReadFault, WriteFault, NoMemory}
use Rattle.link_command.specs.mismatch_rules.declared.mismatch.Mismatch.{Mismatch}
use Rattle.driver_lines.specs.Mismatch.{mismatch_line}
use Rattle.driver_command.specs.Named.{names_held}

-- Each is a warning, or an error where warnings are errors.
abbrev pub severity : Bool → List ℕ
severity true = codes "error"
severity false = codes "warning"

abbrev pub line_of : List ℕ → List ℕ → List (List ℕ) → Mismatch → List ℕ
line_of program word inputs m = mismatch_line program word inputs m.name m.called m.input m.defined m.definer

-- An empty line stands behind lines that belong together, where more follows.
abbrev pub next_lines : List ℕ → List ℕ → List (List ℕ) → Mismatch → List ℕ
next_lines program word inputs m = joined (codes "\n" ∷ []) ++ line_of program word inputs m

-- the lines of all, and what stands behind them
abbrev pub told_lines : List ℕ → List ℕ → List (List ℕ) → List Mismatch → List ℕ → List ℕ
told_lines program word inputs [] end = []
told_lines program word inputs (m ∷ ms) end = line_of program word inputs m ++ (flat_map (next_lines program word inputs) ms ++ joined (end ∷ []))

-- what stands between warnings and the line of a status
abbrev pub gap_before : Status → List ℕ
gap_before Linked = []
gap_before (Refused fault) = codes "\n"
gap_before (Usage usage) = codes "\n"
gap_before (ReadFault k) = codes "\n"
gap_before WriteFault = codes "\n"
gap_before NoMemory = codes "\n"

-- Errors are the last that is told.
abbrev pub gap : Bool → Status → List ℕ
gap true status = []
gap false status = gap_before status

-- The lines of all that is told, by the names of the inputs, or by their numbers where names are lacking.
pub record AreTold (told : List Mismatch) (program word end : List ℕ) (shelf : Shown) (own : List (List ℕ)) (lines : List ℕ) : Type 0 where
  pub inputs : List (List ℕ)
  pub line : lines ≡ told_lines program word inputs told end
  pub named : IfOk (plan_of own) (λ plan. IsTrue shelf.tells → (names_held shelf.held (input_names own plan) ≡ Some inputs) ⊎ (inputs ≡ []))

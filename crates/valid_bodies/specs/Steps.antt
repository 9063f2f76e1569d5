-- What instructions do to the blocks that are open.
use Rattle.std.specs.Prelude.{ℕ, List, [], ◌∷◌, ◌++◌, None, Bool, true, false, slice_get}
use Rattle.wasm_types.specs.declared.value.ValType.{ValType}
use Rattle.wasm_types.specs.declared.value.ValType.TheVariants.{I32}
use Rattle.valid_rules.specs.declared.types.Opener.{Opener}
use Rattle.valid_rules.specs.declared.types.Opener.TheVariants.{If}
use Rattle.valid_rules.specs.declared.types.Shape.{Shape}
use Rattle.valid_rules.specs.declared.types.Frame.{Frame}
use Rattle.valid_rules.specs.Reading.{Read, step, labels, arity, fits}

-- The blocks behind one instruction; none may follow where none is open.
abbrev pub step_on : List Frame → Shape → Read
step_on [] s = None
step_on (f ∷ fs) s = step fs f s

-- Whether a block is open.
abbrev pub is_open : List Frame → Bool
is_open [] = false
is_open (f ∷ fs) = true

-- What opening a block with these parameters takes.
abbrev pub asked : Opener → List ValType → List ValType
asked If ps = ps ++ I32 ∷ []
asked _ ps = ps

-- How many operands a branch to a label takes: none where it isn't there.
abbrev pub label_arity : List Frame → ℕ → ℕ
label_arity fs l = arity (slice_get (labels fs) l)

-- A branch to a label takes so many operands, and the innermost block has them.
abbrev pub label_fits : List Frame → ℕ → ℕ → Bool
label_fits [] n l = false
label_fits (f ∷ fs) n l = fits f.unreachable f.operands n (slice_get (labels (f ∷ fs)) l)

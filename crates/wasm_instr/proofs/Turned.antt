-- The second part of an `if` in place of the first: the last of a list is set.
use Rattle.std.proofs.Common.{◌≡◌, ◌∙◌, ℕ, ◌+◌, ◌-◌, ◌<◌, true, false, ◌∷◌, ◌++◌, [], length, take, slice_set, slice_get, Some, sym, ap, arith}
use Rattle.std.proofs.Math.Seq.{take-length}
use Rattle.std.proofs.lemmas.List.{length-set, take_more_set}
use Rattle.std.proofs.lemmas.Option.{slice_get_within, get_or_from_slice_get}
use Rattle.wasm_instr.specs.Bodies.{Nest, closed, may_else}

last_set : (nest : Nest) → length nest - 1 < length nest → slice_set nest (length nest - 1) false ≡ closed nest ++ false ∷ []
last_set nest some =
    let i = length nest - 1 in
    let all : length (slice_set nest i false) ≡ i + 1 = length-set nest i false ∙ omega (arith, some) in
    sym (take-length (slice_set nest i false)) ∙ ap (λ n. take n (slice_set nest i false)) all ∙ take_more_set nest i false some

pub turned : (nest : Nest) → slice_get nest (length nest - 1) ≡ Some true
    → (may_else nest ≡ true) × (slice_set nest (length nest - 1) false ≡ closed nest ++ false ∷ [])
turned nest last = (get_or_from_slice_get nest (length nest - 1) true false last, last_set nest (slice_get_within nest (length nest - 1) true last))

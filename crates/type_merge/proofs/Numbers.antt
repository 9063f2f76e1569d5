-- The number of a new type, and that numbers stay.
use Rattle.std.proofs.Common.{◌≡◌, ℕ, ◌≤◌, List, [], ◌∷◌, ◌++◌, Bool, true, false, refl, ◌∙◌, arith, length, Some, None, nat_lt, cond, length-append, not}
use Rattle.std.specs.Prelude.{position, fold, if◌then◌else◌}
use Rattle.std.specs.List.{position_or_len, list_any}
use Rattle.std.proofs.lemmas.Grind.{common_steps}
use Rattle.std.proofs.lemmas.List.Folds.{position_or_len_push}
use Rattle.std.proofs.lemmas.List.Sums.{prefix_len-le-length}
use Rattle.wasm_types.specs.declared.function.FuncType.{FuncType}
use Rattle.wasm_grammar.specs.wl_base.Choice.{distinct_onto}
use Rattle.wasm_types.specs.Same.{same_type}
use Rattle.wasm_types.specs.SameLaws.{same_type_is}
use Rattle.type_merge.specs.Types.{type_number, with_type}

same_as_itself : (t : FuncType) → same_type t t ≡ true
same_as_itself t = (same_type_is t t).1 refl

by_place : (n m : ℕ) → n ≤ m → cond (nat_lt n m) (Some n) None ≡ None → n ≡ m
by_place n m le none = grind (arith, common_steps)

pub new_last : (types : List FuncType) (t : FuncType) → position (same_type t) types ≡ None → position (same_type t) (types ++ t ∷ []) ≡ Some (length types)
new_last types t none =
    let last : position_or_len (same_type t) types ≡ length types = by_place (position_or_len (same_type t) types) (length types) (prefix_len-le-length (λ x. not (same_type t x)) types) none in
    let at : position_or_len (same_type t) (types ++ t ∷ []) ≡ length types =
    position_or_len_push (same_type t) types t ∙ rw (last, same_as_itself t) (grind (arith, common_steps)) in
    rw (at, length-append types (t ∷ [])) (grind (arith, common_steps))

-- what is found stays where it is, if another type is put behind
stays_behind : (types : List FuncType) (x t : FuncType) (n : ℕ) → position (same_type t) types ≡ Some n → position (same_type t) (types ++ x ∷ []) ≡ Some n
stays_behind types x t n at =
    let push = position_or_len_push (same_type t) types x in
    rw (push, length-append types (x ∷ [])) (grind (arith, common_steps))

stays : (types : List FuncType) (x t : FuncType) (n : ℕ) → type_number types t ≡ Some n → type_number (with_type types x) t ≡ Some n
stays types x t n at = by_cases (list_any (same_type x) types)
  where
    by_cases : (held : Bool) → type_number (if held then types else types ++ x ∷ []) t ≡ Some n
    by_cases true = at
    by_cases false = stays_behind types x t n at

pub numbers_stay : (types more : List FuncType) (t : FuncType) (n : ℕ) → type_number types t ≡ Some n → type_number (distinct_onto same_type types more) t ≡ Some n
numbers_stay types [] t n at = at
numbers_stay types (x ∷ more) t n at = numbers_stay (with_type types x) more t n (stays types x t n at)

pub in_turn : (seen all : List FuncType) → fold with_type seen all ≡ distinct_onto same_type seen all
in_turn seen [] = refl
in_turn seen (x ∷ all) = in_turn (with_type seen x) all

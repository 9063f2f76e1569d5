-- The short form of a list of operands, and what one more operand makes of it.
use Rattle.std.proofs.Common.{◌≡◌, ℕ, zero, suc, ◌+◌, ◌<◌, ◌≤◌, ◌∙◌, cond, List, [], ◌∷◌, ◌++◌, length, drop, map, get_or, refl, sym, ap, append_assoc}
use Rattle.std.specs.Prelude.{replicate}
use Rattle.std.specs.List.{filter}
use Rattle.std.proofs.lemmas.List.{at_drop_more, drop_all, replicate-append-replicate}
use Rattle.body_windows.specs.declared.operand.Operand.{Operand}
use Rattle.body_windows.specs.declared.operand.Operand.TheVariants.{Number}
use Rattle.body_windows.specs.declared.operands.Reference.{Reference}
use Rattle.body_windows.specs.Operands.{is_reference, operand_of, spread}

replicate_more : (n : ℕ) → replicate (suc n) Number ≡ replicate n Number ++ Number ∷ []
replicate_more zero = refl
replicate_more (suc n) = ap (λ (xs : List Operand). Number ∷ xs) (replicate_more n)

-- one number more
pub spread_number : (rs : List Reference) (n : ℕ) → spread rs (suc n) ≡ spread rs n ++ Number ∷ []
spread_number [] n = replicate_more n
spread_number (r ∷ rs) n =
    ap (λ (xs : List Operand). replicate r.numbers Number ++ (operand_of r ∷ xs)) (spread_number rs n)
    ∙ sym (append_assoc (replicate r.numbers Number) (operand_of r ∷ spread rs n) (Number ∷ []))

-- so many numbers more
pub spread_numbers : (rs : List Reference) (n m : ℕ) → spread rs (n + m) ≡ spread rs n ++ replicate m Number
spread_numbers [] n m = sym (replicate-append-replicate n m Number)
spread_numbers (r ∷ rs) n m =
    ap (λ (xs : List Operand). replicate r.numbers Number ++ (operand_of r ∷ xs)) (spread_numbers rs n m)
    ∙ sym (append_assoc (replicate r.numbers Number) (operand_of r ∷ spread rs n) (replicate m Number))

-- one reference more
pub spread_reference : (rs : List Reference) (kept : Reference) → spread (rs ++ kept ∷ []) 0 ≡ spread rs kept.numbers ++ operand_of kept ∷ []
spread_reference [] kept = refl
spread_reference (r ∷ rs) kept =
    ap (λ (xs : List Operand). replicate r.numbers Number ++ (operand_of r ∷ xs)) (spread_reference rs kept)
    ∙ sym (append_assoc (replicate r.numbers Number) (operand_of r ∷ spread rs kept.numbers) (operand_of kept ∷ []))

filter_numbers : (n : ℕ) (xs : List Operand) → filter is_reference (replicate n Number ++ xs) ≡ filter is_reference xs
filter_numbers zero xs = refl
filter_numbers (suc n) xs = filter_numbers n xs

filter_none : (n : ℕ) → filter is_reference (replicate n Number) ≡ []
filter_none zero = refl
filter_none (suc n) = filter_none n

-- the references are those of the list
pub filter_spread : (rs : List Reference) (n : ℕ) → filter is_reference (spread rs n) ≡ filter is_reference (map operand_of rs)
filter_spread [] n = filter_none n
filter_spread (r ∷ rs) n =
    filter_numbers r.numbers (operand_of r ∷ spread rs n) ∙ ap (λ (xs : List Operand). cond (is_reference (operand_of r)) (operand_of r ∷ xs) xs) (filter_spread rs n)

-- a list and what is still to be put behind it
pub spread_step : (list : List Operand) (rs : List Reference) (behind i : ℕ) (d : Reference) → i < length rs
    → ((list ++ replicate (get_or rs i d).numbers Number) ++ operand_of (get_or rs i d) ∷ []) ++ spread (drop (i + 1) rs) behind ≡ list ++ spread (drop i rs) behind
spread_step list rs behind i d lt =
    let r : Reference = get_or rs i d in
    let here : drop i rs ≡ r ∷ drop (i + 1) rs = at_drop_more (λ xs. xs) rs i d lt in
    let rest : List Operand = spread (drop (i + 1) rs) behind in
    append_assoc (list ++ replicate r.numbers Number) (operand_of r ∷ []) rest
    ∙ append_assoc list (replicate r.numbers Number) (operand_of r ∷ rest)
    ∙ sym (rw here refl)

pub spread_done : (list : List Operand) (rs : List Reference) (behind i : ℕ) → length rs ≤ i → list ++ spread (drop i rs) behind ≡ list ++ replicate behind Number
spread_done list rs behind i le =
    let none : drop i rs ≡ [] = drop_all i rs le in
    rw none refl

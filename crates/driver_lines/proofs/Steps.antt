-- The names of inputs, an item at a time.
use Rattle.std.proofs.Common.{◌≡◌, ◌≤◌, ◌+◌, ◌++◌, ℕ, suc, min, List, [], ◌∷◌, length, map, drop, Some, slice_get, refl, sym, ap, ◌∙◌, arith, append_assoc, append-nil, drop-cons, length-drop}
use Rattle.std.proofs.lemmas.Option.{slice_get_within, get_or_from_slice_get}
use Rattle.driver_lines.specs.Members.{input_names}

-- the item at a place is the first of what is left
at_front : {A : Type 0} (xs : List A) (k : ℕ) (x : A) → Some x ≡ slice_get xs k → drop k xs ≡ x ∷ drop (k + 1) xs
at_front xs k x is =
    let found = sym is in
    let next : suc k ≡ k + 1 = omega arith in
    drop-cons xs k x (slice_get_within xs k x found) ∙ ap (λ y. y ∷ drop (suc k) xs) (get_or_from_slice_get xs k x x found)
    ∙ ap (λ (n : ℕ). x ∷ drop n xs) next

-- a member's name is put behind the others
pub member_added : {A : Type 0} (f : A → List ℕ) (xs : List A) (k : ℕ) (x : A) (names new : List (List ℕ)) (text : List ℕ) (all : List (List ℕ))
    → Some x ≡ slice_get xs k → text ≡ f x → new ≡ names ++ text ∷ [] → names ++ map f (drop k xs) ≡ all → new ++ map f (drop (k + 1) xs) ≡ all
member_added f xs k x names new text all is told put so_far =
    let rest = map f (drop (k + 1) xs) in
    ap (λ (l : List (List ℕ)). l ++ rest) put ∙ append_assoc names (text ∷ []) rest ∙ ap (λ (t : List ℕ). names ++ t ∷ rest) told
    ∙ ap (λ l. names ++ map f l) (sym (at_front xs k x is)) ∙ so_far

none_left : (names files : List (List ℕ)) → min (length names) (length files) ≡ 0 → input_names names files ≡ []
none_left [] files e = refl
none_left (n ∷ ns) [] e = refl
none_left (n ∷ ns) (f ∷ fs) e = absurd (omega (arith, e))

-- where either list is at its end, all is told
pub ended : (names files all whole : List (List ℕ)) (at : ℕ) → min (length names) (length files) ≤ at
    → all ++ input_names (drop at names) (drop at files) ≡ whole → all ≡ whole
ended names files all whole at past so_far =
    let none : min (length (drop at names)) (length (drop at files)) ≡ 0 = omega (arith, past, length-drop at names, length-drop at files) in
    sym (append-nil all) ∙ ap (λ (l : List (List ℕ)). all ++ l) (sym (none_left (drop at names) (drop at files) none)) ∙ so_far

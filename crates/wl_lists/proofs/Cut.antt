-- Lists that are cut from one list: one list more, and the list at a place.
use Rattle.std.proofs.Common.{◌≡◌, ℕ, zero, suc, ◌+◌, ◌-◌, ◌<◌, ◌≤◌, ◌∙◌, List, [], ◌∷◌, ◌++◌, length, take, drop, get_or, Some, None, refl, sym, ap, arith}
use Rattle.std.specs.Prelude.{slice_get}
use Rattle.std.proofs.lemmas.List.{length-drop, take-append-le, drop-append-le, drop-take, take_all}
use Rattle.std.proofs.lemmas.Option.{get_or_from_slice_get}
use Rattle.std.proofs.Math.Seq.{drop-append_seam}
use Rattle.wl_lists.specs.Lists.{cut, Rise}

pub rise_start : (start : ℕ) (ends : List ℕ) (total : ℕ) → Rise start ends total → start ≤ total
rise_start start [] total r = omega (arith, r)
rise_start start (e ∷ es) total r = omega (arith, r.0, rise_start e es total r.1)

-- ---- one list more

pub rise_more : (start : ℕ) (ends : List ℕ) (total more : ℕ) → Rise start ends total → total ≤ more → Rise start (ends ++ more ∷ []) more
rise_more start [] total more r le = (omega (arith, r), refl)
rise_more start (e ∷ es) total more r le = (r.0, rise_more e es total more r.1 le)

pub cut_more : {A : Type 0} (start : ℕ) (ends : List ℕ) (items more : List A) → Rise start ends (length items) → cut start (ends ++ (length items + length more) ∷ []) (items ++ more) ≡ cut start ends items ++ more ∷ []
cut_more start [] items more r =
    let rest : drop start (items ++ more) ≡ more = ap (λ n. drop n (items ++ more)) r ∙ drop-append_seam items more in
    ap (λ xs. xs ∷ []) (ap (take (length items + length more - start)) rest ∙ take_all (length items + length more - start) more (omega (arith, r)))
cut_more start (e ∷ es) items more r =
    let inside : e ≤ length items = rise_start e es (length items) r.1 in
    let part : take (e - start) (drop start (items ++ more)) ≡ take (e - start) (drop start items)
    = ap (take (e - start)) (drop-append-le start items more (omega (arith, inside, r.0)))
    ∙ take-append-le (e - start) (drop start items) more (omega (arith, inside, r.0, length-drop start items)) in
    ap (λ xs. xs ∷ cut e (es ++ (length items + length more) ∷ []) (items ++ more)) part
    ∙ ap (λ xs. take (e - start) (drop start items) ∷ xs) (cut_more e es items more r.1)

-- ---- the list at a place

pub cut_length : {A : Type 0} (start : ℕ) (ends : List ℕ) (items : List A) → length (cut start ends items) ≡ length ends
cut_length start [] items = refl
cut_length start (e ∷ es) items = ap suc (cut_length e es items)

pub cut_at : {A : Type 0} (start : ℕ) (ends : List ℕ) (items : List A) (k : ℕ) → k < length ends
    → slice_get (cut start ends items) k ≡ Some (take (get_or ends k 0 - get_or (start ∷ ends) k 0) (drop (get_or (start ∷ ends) k 0) items))
cut_at start [] items k lt = absurd (omega (arith, lt))
cut_at start (e ∷ es) items zero lt = refl
cut_at start (e ∷ es) items (suc k) lt = cut_at e es items k (omega (arith, lt))

pub none_at : {A : Type 0} (start : ℕ) (ends : List ℕ) (items : List A) (k : ℕ) → length ends ≤ k → slice_get (cut start ends items) k ≡ None
none_at start [] items k le = refl
none_at start (e ∷ es) items zero le = absurd (omega (arith, le))
none_at start (e ∷ es) items (suc k) le = none_at e es items k (omega (arith, le))

pub rise_at : (start : ℕ) (ends : List ℕ) (total k : ℕ) → Rise start ends total → k < length ends → get_or (start ∷ ends) k 0 ≤ get_or ends k 0
rise_at start [] total k r lt = absurd (omega (arith, lt))
rise_at start (e ∷ es) total zero r lt = r.0
rise_at start (e ∷ es) total (suc k) r lt = rise_at e es total k r.1 (omega (arith, lt))

pub end_inside : (start : ℕ) (ends : List ℕ) (total k : ℕ) → Rise start ends total → k < length ends → get_or ends k 0 ≤ total
end_inside start [] total k r lt = absurd (omega (arith, lt))
end_inside start (e ∷ es) total zero r lt = rise_start e es total r.1
end_inside start (e ∷ es) total (suc k) r lt = end_inside e es total k r.1 (omega (arith, lt))

-- ---- a place that holds an end, and one that holds none

inside : (ends : List ℕ) (k e : ℕ) → slice_get ends k ≡ Some e → k < length ends
inside [] k e is = absurd cc
inside (x ∷ xs) zero e is = omega arith
inside (x ∷ xs) (suc k) e is = omega (arith, inside xs k e is)

outside : (ends : List ℕ) (k : ℕ) → slice_get ends k ≡ None → length ends ≤ k
outside [] k is = omega arith
outside (x ∷ xs) zero is = absurd cc
outside (x ∷ xs) (suc k) is = omega (arith, outside xs k is)

pub begins_before : (ends : List ℕ) (total k e start : ℕ) → Rise 0 ends total → slice_get ends k ≡ Some e → start ≡ get_or (0 ∷ ends) k 0 → start ≤ e
begins_before ends total k e start r is begins = omega (arith, begins, rise_at 0 ends total k r (inside ends k e is), get_or_from_slice_get ends k e 0 is)

pub ends_inside : (ends : List ℕ) (total k e : ℕ) → Rise 0 ends total → slice_get ends k ≡ Some e → e ≤ total
ends_inside ends total k e r is = omega (arith, end_inside 0 ends total k r (inside ends k e is), get_or_from_slice_get ends k e 0 is)

pub list_at : {A : Type 0} (ends : List ℕ) (items : List A) (k e start : ℕ) → slice_get ends k ≡ Some e → start ≡ get_or (0 ∷ ends) k 0 → Some (take (e - start) (drop start items)) ≡ slice_get (cut 0 ends items) k
list_at ends items k e start is begins =
    ap (λ n. Some (take (e - n) (drop n items))) begins
    ∙ ap (λ n. Some (take (n - get_or (0 ∷ ends) k 0) (drop (get_or (0 ∷ ends) k 0) items))) (sym (get_or_from_slice_get ends k e 0 is))
    ∙ sym (cut_at 0 ends items k (inside ends k e is))

pub no_list_at : {A : Type 0} (ends : List ℕ) (items : List A) (k : ℕ) → slice_get ends k ≡ None → None ≡ slice_get (cut 0 ends items) k
no_list_at ends items k is = sym (none_at 0 ends items k (outside ends k is))

-- ---- fewer lists

take_take : {A : Type 0} (n m : ℕ) (xs : List A) → n ≤ m → take n (take m xs) ≡ take n xs
take_take zero m xs le = refl
take_take (suc n) zero xs le = absurd (omega (arith, le))
take_take (suc n) (suc m) [] le = refl
take_take (suc n) (suc m) (x ∷ xs) le = ap (λ ys. x ∷ ys) (take_take n m xs (omega (arith, le)))

same_part : {A : Type 0} (start e m : ℕ) (items : List A) → start ≤ e → e ≤ m → take (e - start) (drop start (take m items)) ≡ take (e - start) (drop start items)
same_part start e m items up le =
    let sum : m ≡ start + (m - start) = omega (arith, up, le) in
    ap (take (e - start)) (ap (λ n. drop start (take n items)) sum ∙ drop-take start (m - start) items)
    ∙ take_take (e - start) (m - start) (drop start items) (omega (arith, le))

rise_from : (start : ℕ) (ends : List ℕ) (total k : ℕ) → Rise start ends total → k ≤ length ends → start ≤ get_or (start ∷ ends) k 0
rise_from start ends total zero r le = omega arith
rise_from start [] total (suc k) r le = absurd (omega (arith, le))
rise_from start (e ∷ es) total (suc k) r le = omega (arith, r.0, rise_from e es total k r.1 (omega (arith, le)))

pub rise_take : (start : ℕ) (ends : List ℕ) (total k : ℕ) → Rise start ends total → k ≤ length ends → Rise start (take k ends) (get_or (start ∷ ends) k 0)
rise_take start ends total zero r le = refl
rise_take start [] total (suc k) r le = absurd (omega (arith, le))
rise_take start (e ∷ es) total (suc k) r le = (r.0, rise_take e es total k r.1 (omega (arith, le)))

pub cut_take : {A : Type 0} (start : ℕ) (ends : List ℕ) (items : List A) (total k : ℕ) → Rise start ends total → k ≤ length ends
    → cut start (take k ends) (take (get_or (start ∷ ends) k 0) items) ≡ take k (cut start ends items)
cut_take start ends items total zero r le = refl
cut_take start [] items total (suc k) r le = absurd (omega (arith, le))
cut_take start (e ∷ es) items total (suc k) r le =
    let m : ℕ = get_or (e ∷ es) k 0 in
    ap (λ xs. xs ∷ cut e (take k es) (take m items)) (same_part start e m items r.0 (rise_from e es total k r.1 (omega (arith, le))))
    ∙ ap (λ xs. take (e - start) (drop start items) ∷ xs) (cut_take e es items total k r.1 (omega (arith, le)))

pub start_inside : (ends : List ℕ) (total k : ℕ) → Rise 0 ends total → k ≤ length ends → get_or (0 ∷ ends) k 0 ≤ total
start_inside ends total zero r le = omega arith
start_inside ends total (suc k) r le = end_inside 0 ends total k r (omega (arith, le))

pub none_less : {A : Type 0} (ends : List ℕ) (items : List A) (k : ℕ) → length ends ≤ k → cut 0 ends items ≡ take k (cut 0 ends items)
none_less ends items k le = sym (take_all k (cut 0 ends items) (omega (arith, le, cut_length 0 ends items)))

-- A stable sort by a key is the sort by insertion.
use Rattle.std.proofs.Common.{◌≡◌, ℕ, zero, suc, ◌<◌, ◌≤◌, Bool, true, false, cond, List, [], ◌∷◌, length, get_or, filter, nat_cmp, is_lt, refl, sym, ap, ◌∙◌, arith, inl, inr, suc-le-suc, zero-le}
use Rattle.std.specs.Prelude.{nat_le}
use Rattle.std.proofs.lemmas.Bool.{cond-true, cond-false, cases_Bool}
use Rattle.std.proofs.lemmas.Bool.Decides.{nat_tests}
use Rattle.std.specs.List.Sorted.{ties, IsNonDecreasingBy, IsStableByKey}
use Rattle.program_tables.specs.Inits.{insert_by, by_key}

module _ {A : Type 0} (key : A → ℕ) where
  abbrev same_key : A → A → Bool
  same_key = ties (λ x y. is_lt (nat_cmp (key x) (key y)))

  ties_at : (m n : ℕ) → (ties (λ x y. is_lt (nat_cmp x y)) m n ≡ true → m ≡ n) × (m ≡ n → ties (λ x y. is_lt (nat_cmp x y)) m n ≡ true)
  ties_at m n = (λ h. grind (arith, nat_tests), λ h. grind (arith, nat_tests))

  same_key-true : (x y : A) → same_key x y ≡ true → key x ≡ key y
  same_key-true x y = (ties_at (key x) (key y)).0

  same_key_from : (x y : A) → key x ≡ key y → same_key x y ≡ true
  same_key_from x y = (ties_at (key x) (key y)).1

  kept : (p : A → Bool) (y : A) (ys : List A) → p y ≡ true → filter p (y ∷ ys) ≡ y ∷ filter p ys
  kept p y ys h = cond-true _ _ _ h

  dropped : (p : A → Bool) (y : A) (ys : List A) → p y ≡ false → filter p (y ∷ ys) ≡ filter p ys
  dropped p y ys h = cond-false _ _ _ h

  -- ---- insertion is stable

  stays : (x y : A) (ys : List A) → nat_le (key x) (key y) ≡ true → insert_by key x (y ∷ ys) ≡ x ∷ y ∷ ys
  stays x y ys h = cond-true _ _ _ h

  past : (x y : A) (ys : List A) → nat_le (key x) (key y) ≡ false → insert_by key x (y ∷ ys) ≡ y ∷ insert_by key x ys
  past x y ys h = cond-false _ _ _ h

  differ_keys : (m n : ℕ) → nat_le m n ≡ false → n < m
  differ_keys m n h = grind (arith, nat_tests)

  filter_insert : (x c : A) (ds : List A) → filter (same_key x) (insert_by key c ds) ≡ filter (same_key x) (c ∷ ds)
  filter_insert x c [] = refl
  filter_insert x c (d ∷ ds) =
      let p = same_key x in
      elim (cases_Bool (nat_le (key c) (key d))) [
        | inl stay ↦ ap (filter p) (stays c d ds stay)
        | inr far ↦
            let apart = differ_keys (key c) (key d) far in
            ap (filter p) (past c d ds far)
            ∙ elim (cases_Bool (p d)) [
              | inr without ↦
                  dropped p d (insert_by key c ds) without ∙ filter_insert x c ds
                  ∙ ap (λ l. cond (p c) (c ∷ l) l) (sym (dropped p d ds without))
              | inl with ↦
                  elim (cases_Bool (p c)) [
                    | inl both ↦ absurd (omega (arith, same_key-true x c both, same_key-true x d with))
                    | inr only ↦
                        kept p d (insert_by key c ds) with ∙ ap (λ l. d ∷ l) (filter_insert x c ds ∙ dropped p c ds only)
                        ∙ sym (dropped p c (d ∷ ds) only ∙ kept p d ds with)
                  ]
            ]
      ]

  filter_by_key : (x : A) (cs : List A) → filter (same_key x) (by_key key cs) ≡ filter (same_key x) cs
  filter_by_key x [] = refl
  filter_by_key x (c ∷ cs) = filter_insert x c (by_key key cs) ∙ ap (λ l. cond (same_key x c) (c ∷ l) l) (filter_by_key x cs)

  -- ---- and its answer rises

  abbrev AreAtLeast : ℕ → List A → Type 0
  AreAtLeast n [] = Unit {0}
  AreAtLeast n (y ∷ ys) = (n ≤ key y) × AreAtLeast n ys

  abbrev Rises : List A → Type 0
  Rises [] = Unit {0}
  Rises (y ∷ ys) = AreAtLeast (key y) ys × Rises ys

  at_least_le : (n m : ℕ) (ys : List A) → n ≤ m → AreAtLeast m ys → AreAtLeast n ys
  at_least_le n m [] le h = tt
  at_least_le n m (y ∷ ys) le h = let first = h.0 in (omega arith, at_least_le n m ys le h.1)

  at_least_at : (n : ℕ) (ys : List A) → ((j : ℕ) (d : A) → j < length ys → n ≤ key (get_or ys j d)) → AreAtLeast n ys
  at_least_at n [] h = tt
  at_least_at n (y ∷ ys) h = (h zero y (suc-le-suc zero-le), at_least_at n ys (λ j d lt. h (suc j) d (suc-le-suc lt)))

  rises_from_sort : (ys : List A) → IsNonDecreasingBy key ys → Rises ys
  rises_from_sort [] h = tt
  rises_from_sort (y ∷ ys) h = (
    at_least_at (key y) ys (λ j d lt. h zero (suc j) d zero-le (suc-le-suc lt)),
    rises_from_sort ys (λ i j d le lt. h (suc i) (suc j) d (suc-le-suc le) (suc-le-suc lt)),
  )

  below_inserted : (n : ℕ) (c : A) (ds : List A) → n ≤ key c → AreAtLeast n ds → AreAtLeast n (insert_by key c ds)
  below_inserted n c [] le h = (le, tt)
  below_inserted n c (d ∷ ds) le h =
      elim (cases_Bool (nat_le (key c) (key d))) [
        | inl stay ↦ rw (stays c d ds stay) (le, h)
        | inr far ↦ rw (past c d ds far) (h.0, below_inserted n c ds le h.1)
      ]

  le_keys : (m n : ℕ) → nat_le m n ≡ true → m ≤ n
  le_keys m n h = grind (arith, nat_tests)

  rises_inserted : (c : A) (ds : List A) → Rises ds → Rises (insert_by key c ds)
  rises_inserted c [] h = (tt, tt)
  rises_inserted c (d ∷ ds) h =
      elim (cases_Bool (nat_le (key c) (key d))) [
        | inl stay ↦
            let le = le_keys (key c) (key d) stay in
            rw (stays c d ds stay) ((le, at_least_le (key c) (key d) ds le h.0), h)
        | inr far ↦
            let lt = differ_keys (key c) (key d) far in
            rw (past c d ds far) (below_inserted (key d) c ds (omega arith) h.0, rises_inserted c ds h.1)
      ]

  rises_by_key : (cs : List A) → Rises (by_key key cs)
  rises_by_key [] = tt
  rises_by_key (c ∷ cs) = rises_inserted c (by_key key cs) (rises_by_key cs)

  -- ---- lists that rise are the same where the items of each key are

  at_least_found : (n : ℕ) (x : A) (ys : List A) (w : A) (ws : List A) → AreAtLeast n ys → filter (same_key x) ys ≡ w ∷ ws → n ≤ key x
  at_least_found n x [] w ws h e = cc
  at_least_found n x (y ∷ ys) w ws h e =
      elim (cases_Bool (same_key x y)) [
        | inl with ↦ omega (arith, h.0, same_key-true x y with)
        | inr without ↦ at_least_found n x ys w ws h.1 (sym (dropped (same_key x) y ys without) ∙ e)
      ]

  same_from_keys : (ys zs : List A) → Rises ys → Rises zs → ((x : A) → filter (same_key x) ys ≡ filter (same_key x) zs) → ys ≡ zs
  same_from_keys [] [] left right same = refl
  same_from_keys [] (z ∷ zs) left right same =
      let clash = same z ∙ kept (same_key z) z zs (same_key_from z z refl) in cc
  same_from_keys (y ∷ ys) [] left right same =
      let clash = sym (same y) ∙ kept (same_key y) y ys (same_key_from y y refl) in cc
  same_from_keys (y ∷ ys) (z ∷ zs) left right same =
      let at_y = kept (same_key y) y ys (same_key_from y y refl) in
      let at_z = kept (same_key z) z zs (same_key_from z z refl) in
      let up = at_least_found (key z) y (z ∷ zs) y _ (omega arith, right.0) (sym (same y) ∙ at_y) in
      let down = at_least_found (key y) z (y ∷ ys) z _ (omega arith, left.0) (same z ∙ at_z) in
      let heads = sym at_y ∙ same y ∙ kept (same_key y) z zs (same_key_from y z (omega arith)) in
      let head : y ≡ z = cc in
      let tails : (x : A) → filter (same_key x) ys ≡ filter (same_key x) zs =
      λ x. elim (cases_Bool (same_key x y)) [
        | inl with ↦
            let both = sym (kept (same_key x) y ys with) ∙ same x ∙ kept (same_key x) z zs (ap (same_key x) (sym head) ∙ with) in cc
        | inr without ↦
            sym (dropped (same_key x) y ys without) ∙ same x ∙ dropped (same_key x) z zs (ap (same_key x) (sym head) ∙ without)
      ] in
      let rest = same_from_keys ys zs left.1 right.1 tails in cc

  -- what rises and keeps the order of each key
  pub sorted_is : (xs ys : List A) → IsNonDecreasingBy key ys → IsStableByKey key nat_cmp xs ys → ys ≡ by_key key xs
  sorted_is xs ys rise stable =
      same_from_keys ys (by_key key xs) (rises_from_sort ys rise) (rises_by_key xs) (λ x. stable x ∙ sym (filter_by_key x xs))

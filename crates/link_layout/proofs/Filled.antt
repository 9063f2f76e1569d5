-- Columns that are filled at rising places.
use Rattle.std.proofs.Common.{◌≡◌, ◌≢◌, ℕ, zero, suc, ◌<◌, ◌≤◌, ◌==◌, Bool, true, false, ◌||◌, cond, List, [], ◌∷◌, map, filter, length, get_or, set, position, Option, Some, None, option_map, refl, sym, ap, ◌∙◌, arith, get_or-set_same, get_or-set_other, length-set, ne_eqb, eqb-true, eq-eqb}
use Rattle.std.specs.List.{list_any, AllPairs}
use Rattle.link_numbers.proofs.link_keys_lemmas.Positions.{position_next, position_first, position_none}
use Rattle.link_layout.specs.Segments.{set_each}

-- The value of the number that stands at this place, or what there was.
abbrev pub value_at : {A : Type 0} → List A → Option ℕ → A → A → A
value_at xs None old d = old
value_at xs (Some k) old d = get_or xs k d

value_next : {A : Type 0} (x : A) (xs : List A) (o : Option ℕ) (old d : A) → value_at xs o old d ≡ value_at (x ∷ xs) (option_map suc o) old d
value_next x xs None old d = refl
value_next x xs (Some k) old d = refl

rise_rest : (n : ℕ) (ns : List ℕ) → AllPairs (λ a b. a < b) (n ∷ ns) → AllPairs (λ a b. a < b) ns
rise_rest n ns rise i j d lt below = rise (suc i) (suc j) d (omega arith) (omega arith)

above_first : (n : ℕ) (ns : List ℕ) → AllPairs (λ a b. a < b) (n ∷ ns) → list_any (λ k. n == k) ns ≡ false
above_first n [] rise = refl
above_first n (k ∷ ns) rise =
    let lt : n < k = rise 0 1 0 (omega arith) (omega arith) in
    let ne : (n == k) ≡ false = ne_eqb n k (λ e. omega (arith, e, lt)) in
    ap (λ r. r || list_any (λ k. n == k) ns) ne ∙ above_first n ns (without_second n k ns rise)
  where
    without_second : (n k : ℕ) (ns : List ℕ) → AllPairs (λ a b. a < b) (n ∷ k ∷ ns) → AllPairs (λ a b. a < b) (n ∷ ns)
    without_second n k ns rise zero zero d lt below = absurd (omega arith)
    without_second n k ns rise zero (suc j) d lt below = rise 0 (suc (suc j)) d (omega arith) (omega arith)
    without_second n k ns rise (suc i) zero d lt below = absurd (omega arith)
    without_second n k ns rise (suc i) (suc j) d lt below = rise (suc (suc i)) (suc (suc j)) d (omega arith) (omega arith)

pub set_each_at : {A : Type 0} (ns : List ℕ) (xs : List A) (column : List A) (m : ℕ) (d : A) → AllPairs (λ a b. a < b) ns → length ns ≤ length xs → m < length column
    → get_or (set_each ns xs column) m d ≡ value_at xs (position (λ n. m == n) ns) (get_or column m d) d
set_each_at [] xs column m d rise le lt = refl
set_each_at (n ∷ ns) [] column m d rise le lt = absurd (omega arith)
set_each_at {A} (n ∷ ns) (x ∷ xs) column m d rise le lt =
    let inside : m < length (set column n x) = omega (arith, lt, length-set {A = A} column n x) in
    by_test (m == n) refl (set_each_at ns xs (set column n x) m d (rise_rest n ns rise) (omega (arith, le)) inside)
  where
    by_test : (r : Bool) → (m == n) ≡ r
        → get_or (set_each ns xs (set column n x)) m d ≡ value_at xs (position (λ k. m == k) ns) (get_or (set column n x) m d) d
        → get_or (set_each ns xs (set column n x)) m d ≡ value_at (x ∷ xs) (position (λ k. m == k) (n ∷ ns)) (get_or column m d) d
    by_test true is again =
        let same : m ≡ n = eqb-true m n is in
        let none : list_any (λ k. m == k) ns ≡ false = ap (λ v. list_any (λ k. v == k) ns) same ∙ above_first n ns rise in
        again
        ∙ ap (λ o. value_at xs o (get_or (set column n x) m d) d) (position_none (λ k. m == k) ns none)
        ∙ ap (λ v. get_or (set column v x) m d) (sym same)
        ∙ get_or-set_same column m x d lt
        ∙ ap (λ o. value_at (x ∷ xs) o (get_or column m d) d) (sym (position_first (λ k. m == k) n ns is))
    by_test false is again =
        let ne : m ≢ n = (λ e. let t : (m == n) ≡ true = eq-eqb m n e in absurd cc) in
        again
        ∙ ap (λ v. value_at xs (position (λ k. m == k) ns) v d) (get_or-set_other column n m x d ne)
        ∙ value_next x xs (position (λ k. m == k) ns) (get_or column m d) d
        ∙ ap (λ o. value_at (x ∷ xs) o (get_or column m d) d) (sym (position_next (λ k. m == k) n ns is))

pub set_each_long : {A : Type 0} (ns : List ℕ) (xs column : List A) → length (set_each ns xs column) ≡ length column
set_each_long [] xs column = refl
set_each_long (n ∷ ns) [] column = refl
set_each_long (n ∷ ns) (x ∷ xs) column = set_each_long ns xs (set column n x) ∙ length-set column n x

-- ---- flags

any_kept : (f : ℕ → Bool) (m : ℕ) (ns : List ℕ) → list_any (λ n. m == n) ns ≡ false → list_any (λ n. m == n) (filter f ns) ≡ false
any_kept f m [] none = refl
any_kept f m (n ∷ ns) none = by_first (m == n) (f n) refl (any_kept f m ns)
  where
    by_first : (a r : Bool) → (m == n) ≡ a → (list_any (λ k. m == k) ns ≡ false → list_any (λ k. m == k) (filter f ns) ≡ false)
        → list_any (λ k. m == k) (cond r (n ∷ filter f ns) (filter f ns)) ≡ false
    by_first true r is again = absurd cc
    by_first false true is again = let rest : list_any (λ k. m == k) ns ≡ false = cc in ap (λ v. v || list_any (λ k. m == k) (filter f ns)) is ∙ again rest
    by_first false false is again = let rest : list_any (λ k. m == k) ns ≡ false = cc in again rest

-- The flag of a number is whether it is kept.
pub flag_kept : (f : ℕ → Bool) (m : ℕ) (ns : List ℕ) → AllPairs (λ a b. a < b) ns → value_at (map f ns) (position (λ n. m == n) ns) false false ≡ list_any (λ n. m == n) (filter f ns)
flag_kept f m [] rise = refl
flag_kept f m (n ∷ ns) rise = by_test (m == n) refl (flag_kept f m ns (rise_rest n ns rise))
  where
    others : (r : Bool) → (m == n) ≡ false → list_any (λ k. m == k) (cond r (n ∷ filter f ns) (filter f ns)) ≡ list_any (λ k. m == k) (filter f ns)
    others true is = ap (λ v. v || list_any (λ k. m == k) (filter f ns)) is
    others false is = refl

    itself : (r : Bool) → (m == n) ≡ true → list_any (λ k. m == k) (filter f ns) ≡ false → r ≡ list_any (λ k. m == k) (cond r (n ∷ filter f ns) (filter f ns))
    itself true is none = sym (ap (λ v. v || list_any (λ k. m == k) (filter f ns)) is)
    itself false is none = sym none

    by_test : (r : Bool) → (m == n) ≡ r → value_at (map f ns) (position (λ k. m == k) ns) false false ≡ list_any (λ k. m == k) (filter f ns)
        → value_at (f n ∷ map f ns) (position (λ k. m == k) (n ∷ ns)) false false ≡ list_any (λ k. m == k) (filter f (n ∷ ns))
    by_test true is again =
        let same : m ≡ n = eqb-true m n is in
        let none : list_any (λ k. m == k) ns ≡ false = ap (λ v. list_any (λ k. v == k) ns) same ∙ above_first n ns rise in
        ap (λ o. value_at (f n ∷ map f ns) o false false) (position_first (λ k. m == k) n ns is)
        ∙ itself (f n) is (any_kept f m ns none)
    by_test false is again =
        ap (λ o. value_at (f n ∷ map f ns) o false false) (position_next (λ k. m == k) n ns is)
        ∙ sym (value_next (f n) (map f ns) (position (λ k. m == k) ns) false false)
        ∙ again ∙ sym (others (f n) is)

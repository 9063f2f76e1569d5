-- The least of definitions: what may be left out.
use Rattle.std.proofs.Common.{◌≡◌, ℕ, ◌<◌, ◌≤◌, Bool, true, false, cond, nat_lt, List, [], ◌∷◌, ◌++◌, filter, refl, sym, ap, subst, ◌∙◌, arith}
use Rattle.std.specs.Prelude.{Option, Some, None, if◌then◌else◌, All}
use Rattle.std.proofs.lemmas.Bool.{lt-ltb, le-ltb}
use Rattle.std.proofs.lemmas.Bool.Decides.{nat_tests}
use Rattle.std.proofs.lemmas.List.Elements.{All-head, All-tail, All-cons}
use Rattle.name_rules.specs.Entries.{InputSymbol}
use Rattle.name_rules.specs.Meanings.{entry_rank, lesser, least}
use Rattle.partial_laws.proofs.Lists.{filter_all}

-- ---- the least of two lists

abbrev pub merge : Option InputSymbol → Option InputSymbol → Option InputSymbol
merge None o = o
merge (Some e) o = lesser e o

below : (n k : ℕ) → nat_lt n k ≡ true → n < k
below n k e = grind (arith, nat_tests, e)

not_below : (n k : ℕ) → nat_lt n k ≡ false → k ≤ n
not_below n k e = grind (arith, nat_tests, e)

lesser_merge : (e : InputSymbol) (o r : Option InputSymbol) → lesser e (merge o r) ≡ merge (lesser e o) r
lesser_merge e None r = refl
lesser_merge e (Some f) None = by_test (nat_lt (entry_rank f) (entry_rank e))
  where
    by_test : (b : Bool) → (if b then Some f else Some e) ≡ merge (if b then Some f else Some e) None
    by_test true = refl
    by_test false = refl
lesser_merge e (Some f) (Some g) = by_tests (nat_lt (entry_rank g) (entry_rank f)) (nat_lt (entry_rank f) (entry_rank e)) refl refl
  where
    by_tests : (a b : Bool) → nat_lt (entry_rank g) (entry_rank f) ≡ a → nat_lt (entry_rank f) (entry_rank e) ≡ b
        → lesser e (if a then Some g else Some f) ≡ merge (if b then Some f else Some e) (Some g)
    by_tests true true x y =
        let z : nat_lt (entry_rank g) (entry_rank e) ≡ true = lt-ltb (entry_rank g) (entry_rank e) (omega (arith, below (entry_rank g) (entry_rank f) x, below (entry_rank f) (entry_rank e) y)) in
        rw (z, x) refl
    by_tests true false x y = refl
    by_tests false true x y = rw (x, y) refl
    by_tests false false x y =
        let z : nat_lt (entry_rank g) (entry_rank e) ≡ false = le-ltb (entry_rank g) (entry_rank e) (omega (arith, not_below (entry_rank g) (entry_rank f) x, not_below (entry_rank f) (entry_rank e) y)) in
        rw (y, z) refl

pub least_append : (xs ys : List InputSymbol) → least (xs ++ ys) ≡ merge (least xs) (least ys)
least_append [] ys = refl
least_append (x ∷ xs) ys = ap (lesser x) (least_append xs ys) ∙ lesser_merge x (least xs) (least ys)

-- Those of one run may be replaced by others that have the same least one.
pub least_replaced : (front run other back : List InputSymbol) → least run ≡ least other → least (front ++ (run ++ back)) ≡ least (front ++ (other ++ back))
least_replaced front run other back same =
    least_append front (run ++ back) ∙ (ap (merge (least front)) (least_append run back ∙ (ap (λ o. merge o (least back)) same ∙ sym (least_append other back))) ∙ sym (least_append front (other ++ back)))

-- ---- the least of some of them

same_some : (a b : InputSymbol) → (let o : Option InputSymbol = Some a in o ≡ Some b) → a ≡ b
same_some a b e = cc

-- only of none there is none
pub least_none : (ys : List InputSymbol) → least ys ≡ None → ys ≡ []
least_none [] e = refl
least_none (y ∷ ys) e = absurd (some_lesser y (least ys) e)
  where
    some_lesser : (y : InputSymbol) (o : Option InputSymbol) → lesser y o ≡ None → ⊥
    some_lesser y None e = absurd cc
    some_lesser y (Some f) e = by_test (nat_lt (entry_rank f) (entry_rank y)) e
      where
        by_test : (b : Bool) → (if b then Some f else Some y) ≡ None → ⊥
        by_test true e = absurd cc
        by_test false e = absurd cc

-- the least is not above any of them
pub least_below : (xs : List InputSymbol) (w : InputSymbol) → least xs ≡ Some w → All (λ x. entry_rank w ≤ entry_rank x) xs
least_below [] w e = absurd cc
least_below (x ∷ xs) w e = by_rest (least xs) refl e (least_below xs)
  where
    by_rest : (o : Option InputSymbol) → least xs ≡ o → lesser x o ≡ Some w → ((v : InputSymbol) → least xs ≡ Some v → All (λ y. entry_rank v ≤ entry_rank y) xs) → All (λ y. entry_rank w ≤ entry_rank y) (x ∷ xs)
    by_rest None none is again =
        let same : x ≡ w = same_some x w is in
        All-cons (λ y. entry_rank w ≤ entry_rank y) x xs (subst (λ v. entry_rank v ≤ entry_rank x) same (omega arith)) (subst (λ ys. All (λ y. entry_rank w ≤ entry_rank y) ys) (sym (least_none xs none)) (λ k d lt. absurd (omega (arith, lt))))
    by_rest (Some f) some is again = by_test (nat_lt (entry_rank f) (entry_rank x)) refl is
      where
        over : (v : InputSymbol) → entry_rank v ≤ entry_rank f → (ys : List InputSymbol) → All (λ y. entry_rank f ≤ entry_rank y) ys → All (λ y. entry_rank v ≤ entry_rank y) ys
        over v le [] all = λ k d lt. absurd (omega (arith, lt))
        over v le (y ∷ ys) all =
            All-cons (λ y. entry_rank v ≤ entry_rank y) y ys (omega (arith, le, All-head (λ y. entry_rank f ≤ entry_rank y) y ys all)) (over v le ys (All-tail (λ y. entry_rank f ≤ entry_rank y) y ys all))

        by_test : (b : Bool) → nat_lt (entry_rank f) (entry_rank x) ≡ b → (if b then Some f else Some x) ≡ Some w → All (λ y. entry_rank w ≤ entry_rank y) (x ∷ xs)
        by_test true t is =
            let same : f ≡ w = same_some f w is in
            subst (λ v. All (λ y. entry_rank v ≤ entry_rank y) (x ∷ xs)) same
            (All-cons (λ y. entry_rank f ≤ entry_rank y) x xs (omega (arith, below (entry_rank f) (entry_rank x) t)) (again f some))
        by_test false t is =
            let same : x ≡ w = same_some x w is in
            subst (λ v. All (λ y. entry_rank v ≤ entry_rank y) (x ∷ xs)) same
            (All-cons (λ y. entry_rank x ≤ entry_rank y) x xs (omega arith) (over x (not_below (entry_rank f) (entry_rank x) t) xs (again f some)))

-- what least is is one of them
pub least_among : (P : InputSymbol → Type 0) (xs : List InputSymbol) (w : InputSymbol) → All P xs → least xs ≡ Some w → P w
least_among P [] w all e = absurd cc
least_among P (x ∷ xs) w all e = by_rest (least xs) refl e (least_among P xs)
  where
    by_rest : (o : Option InputSymbol) → least xs ≡ o → lesser x o ≡ Some w → ((v : InputSymbol) → All P xs → least xs ≡ Some v → P v) → P w
    by_rest None none is again = subst P (same_some x w is) (All-head P x xs all)
    by_rest (Some f) some is again = by_test (nat_lt (entry_rank f) (entry_rank x)) is
      where
        by_test : (b : Bool) → (if b then Some f else Some x) ≡ Some w → P w
        by_test true is = subst P (same_some f w is) (again f (All-tail P x xs all) some)
        by_test false is = subst P (same_some x w is) (All-head P x xs all)

-- Where one before them is less than all of the run, the run may be left out: the winner of a name whose group an earlier input wins.
pub least_left_out : (front run back : List InputSymbol) (e : InputSymbol) → least front ≡ Some e → All (λ x. entry_rank e ≤ entry_rank x) run → least (front ++ (run ++ back)) ≡ least (front ++ back)
least_left_out front run back e first high =
    least_append front (run ++ back) ∙ (ap (λ o. merge o (least (run ++ back))) first ∙ (ap (lesser e) (least_append run back) ∙ (lesser_merge e (least run) (least back)
    ∙ (ap (λ o. merge o (least back)) (stays (least run) refl) ∙ (ap (λ o. merge o (least back)) (sym first) ∙ sym (least_append front back))))))
  where
    stays : (o : Option InputSymbol) → least run ≡ o → lesser e (least run) ≡ Some e
    stays None none = rw none refl
    stays (Some f) some =
        let le : entry_rank e ≤ entry_rank f = least_among (λ x. entry_rank e ≤ entry_rank x) run f high some in
        let test : nat_lt (entry_rank f) (entry_rank e) ≡ false = le-ltb (entry_rank f) (entry_rank e) le in
        ap (lesser e) some ∙ rw test refl

-- The least of all is the least of some of them, if it is one of these: definitions that an earlier input's group takes away are no less.
pub least_kept : (t : InputSymbol → Bool) (xs : List InputSymbol) (w : InputSymbol) → least xs ≡ Some w → t w ≡ true → least (filter t xs) ≡ Some w
least_kept t [] w e is = absurd cc
least_kept t (x ∷ xs) w e is = by_rest (least xs) refl e (least_kept t xs)
  where
    by_rest : (o : Option InputSymbol) → least xs ≡ o → lesser x o ≡ Some w → ((v : InputSymbol) → least xs ≡ Some v → t v ≡ true → least (filter t xs) ≡ Some v) → least (filter t (x ∷ xs)) ≡ Some w
    by_rest None none some again =
        let same : x ≡ w = same_some x w some in
        let passes : t x ≡ true = ap t same ∙ is in
        let none_kept : least (filter t xs) ≡ None = ap (λ ys. least (filter t ys)) (least_none xs none) in
        rw passes (ap (lesser x) none_kept ∙ ap Some same)
    by_rest (Some f) found some again = by_test (nat_lt (entry_rank f) (entry_rank x)) refl some
      where
        high : All (λ y. entry_rank f ≤ entry_rank y) xs
        high = least_below xs f found

        kept_high : (ys : List InputSymbol) → All (λ y. entry_rank f ≤ entry_rank y) ys → All (λ y. entry_rank f ≤ entry_rank y) (filter t ys)
        kept_high ys all = filter_all (λ y. entry_rank f ≤ entry_rank y) t ys all

        with_head : (b : Bool) → t x ≡ b → least (filter t xs) ≡ Some f → nat_lt (entry_rank f) (entry_rank x) ≡ true → least (cond b (x ∷ filter t xs) (filter t xs)) ≡ Some f
        with_head true tx rest less = ap (lesser x) rest ∙ rw less refl
        with_head false tx rest less = rest

        first_stays : (o : Option InputSymbol) → least (filter t xs) ≡ o → nat_lt (entry_rank f) (entry_rank x) ≡ false → lesser x (least (filter t xs)) ≡ Some x
        first_stays None none more = ap (lesser x) none
        first_stays (Some g) some_g more =
            let le : entry_rank f ≤ entry_rank g = least_among (λ y. entry_rank f ≤ entry_rank y) (filter t xs) g (kept_high xs high) some_g in
            let test : nat_lt (entry_rank g) (entry_rank x) ≡ false = le-ltb (entry_rank g) (entry_rank x) (omega (arith, le, not_below (entry_rank f) (entry_rank x) more)) in
            ap (lesser x) some_g ∙ rw test refl

        by_test : (b : Bool) → nat_lt (entry_rank f) (entry_rank x) ≡ b → (if b then Some f else Some x) ≡ Some w → least (filter t (x ∷ xs)) ≡ Some w
        by_test true less some =
            let same : f ≡ w = same_some f w some in
            with_head (t x) refl (again f found (ap t same ∙ is)) less ∙ ap Some same
        by_test false more some =
            let same : x ≡ w = same_some x w some in
            let passes : t x ≡ true = ap t same ∙ is in
            rw passes (first_stays (least (filter t xs)) refl more ∙ ap Some same)

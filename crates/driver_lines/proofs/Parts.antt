-- What is printed in several steps, of which one may fail.
use Rattle.std.proofs.Common.{◌≡◌, ℕ, zero, suc, ◌<◌, List, [], ◌∷◌, ◌++◌, length, take, drop, get_or, IsTrue, IsErr, Some, Result, Ok, Err, refl, sym, ap, subst, ◌∙◌, append_assoc, append-nil, ◌+◌, drop-cons, take-append-drop, arith}
use Rattle.std.specs.List.{flat_map}
use Rattle.std.proofs.lemmas.Bool.{false≢true}
use Rattle.std.proofs.lemmas.Option.{same_Some}
use Rattle.std.proofs.lemmas.List.Concat.{flat_map-append}
use Rattle.std.proofs.Math.Seq.{take-append-add}
use Rattle.wl_outside.specs.Sink.{Told, Rose, Added, Wrote}
use Rattle.wl_outside.specs.declared.sink.Failed.{Failed}
use Rattle.driver_lines.specs.Mismatch.{first_and_rest, headed}

pub both : (a b : List ℕ) (old mid new : Told) → Added a old mid → Added b mid new → Added (a ++ b) old new
both a b old mid new x y = record {
  tells = y.tells ∙ x.tells;
  faults = omega (arith, x.faults, y.faults);
  grown = λ told. y.grown (subst IsTrue (sym x.tells) told) ∙ ap (λ l. l ++ b) (x.grown told) ∙ append_assoc old.bytes a b;
}

-- the last text may not be printed whole
pub last : (a b : List ℕ) (r : Result (Unit {0}) Failed) (old mid new : Told) → Added a old mid → Wrote r b mid new → Wrote r (a ++ b) old new
last a b (Ok done) old mid new x wrote = both a b old mid new x wrote
last a b (Err failed) old mid new x wrote = (
  omega (arith, x.faults, wrote.0),
  (
    length a + wrote.1.0,
    subst (λ l. Added l old new) (sym (take-append-add a b wrote.1.0)) (both a (take wrote.1.0 b) old mid new x wrote.1.1),
  ),
)

-- a front of what comes behind a is a front of the whole
front : (a b c : List ℕ) (n : ℕ) → (m : ℕ) × (take m (a ++ (b ++ c)) ≡ a ++ take n b)
front [] [] c zero = (0, refl)
front [] [] c (suc n) = (0, refl)
front [] (y ∷ b) c zero = (0, refl)
front [] (y ∷ b) c (suc n) = let r = front [] b c n in (suc r.0, ap (λ l. y ∷ l) r.1)
front (x ∷ a) b c n = let r = front a b c n in (suc r.0, ap (λ l. x ∷ l) r.1)

-- a text behind others isn't printed whole, and what comes behind it not at all
pub stops : (a b c : List ℕ) (r : Result (Unit {0}) Failed) (old mid new : Told) → IsErr r → Added a old mid
    → Rose mid.faults new.faults × ((n : ℕ) × Added (take n b) mid new) → Wrote r (a ++ (b ++ c)) old new
stops a b c (Ok done) old mid new e added h = absurd (false≢true e)
stops a b c (Err failed) old mid new e added h =
    let p = front a b c h.1.0 in (
      omega (arith, added.faults, h.0),
      (p.0, subst (λ l. Added l old new) (sym p.1) (both a (take h.1.0 b) old mid new added h.1.1)),
    )

none : (old : Told) → Added [] old old
none old = record { tells = refl; faults = omega arith; grown = λ told. sym (append-nil old.bytes) }

-- the first text isn't printed whole
pub stops_first : (b c : List ℕ) (r : Result (Unit {0}) Failed) (old new : Told) → IsErr r → Rose old.faults new.faults × ((n : ℕ) × Added (take n b) old new) → Wrote r (b ++ c) old new
stops_first b c r old new e h = stops [] b c r old old new e (none old) h

parts : {A : Type 0} (f : A → List ℕ) (xs : List A) (i : ℕ) (d : A) → i < length xs
    → flat_map f xs ≡ flat_map f (take i xs) ++ (f (get_or xs i d) ++ flat_map f (drop (suc i) xs))
parts f xs i d within =
    ap (flat_map f) (sym (take-append-drop i xs)) ∙ flat_map-append f (take i xs) (drop i xs)
    ∙ ap (λ l. flat_map f (take i xs) ++ flat_map f l) (drop-cons xs i d within)

-- where an item isn't printed whole, a front of all of them is printed
pub stopped_at : {A : Type 0} (f : A → List ℕ) (xs : List A) (i : ℕ) (d : A) (old mid new : Told) (r : Result (Unit {0}) Failed) → IsErr r → i < length xs
    → Added (flat_map f (take i xs)) old mid → Rose mid.faults new.faults × ((n : ℕ) × Added (take n (f (get_or xs i d))) mid new) → Wrote r (flat_map f xs) old new
stopped_at f xs i d old mid new r e within added h =
    subst (λ l. Wrote r l old new) (sym (parts f xs i d within)) (stops (flat_map f (take i xs)) (f (get_or xs i d)) (flat_map f (drop (suc i) xs)) r old mid new e added h)

-- the same of an item that is known
pub stopped : {A : Type 0} (f : A → List ℕ) (xs : List A) (i : ℕ) (x : A) (old mid new : Told) (r : Result (Unit {0}) Failed) → IsErr r → i < length xs
    → x ≡ get_or xs i x → Added (flat_map f (take i xs)) old mid → Rose mid.faults new.faults × ((n : ℕ) × Added (take n (f x)) mid new)
    → Wrote r (flat_map f xs) old new
stopped f xs i x old mid new r e within is added h =
    stopped_at f xs i x old mid new r e within added (subst (λ y. Rose mid.faults new.faults × ((n : ℕ) × Added (take n (f y)) mid new)) is h)

-- the same with the texts in front of it put together
pub later : (a b c : List ℕ) (r : Result (Unit {0}) Failed) (old new : Told) → Wrote r ((a ++ b) ++ c) old new → Wrote r (a ++ (b ++ c)) old new
later a b c r old new wrote = subst (λ l. Wrote r l old new) (append_assoc a b c) wrote

-- ---- the first item and the others

headed_is : {A : Type 0} (first next : A → List ℕ) (xs : List A) (x : A) (rest : List A) → Some (x, rest) ≡ first_and_rest xs → first x ++ flat_map next rest ≡ headed first next xs
headed_is first next [] x rest is = absurd cc
headed_is first next (y ∷ ys) x rest is =
    let same : (x, rest) ≡ (y, ys) = same_Some (x, rest) (y, ys) is in
    λ i. first (same i).0 ++ flat_map next (same i).1

pub headed_stops : {A : Type 0} (first next : A → List ℕ) (xs : List A) (x : A) (rest : List A) (r : Result (Unit {0}) Failed) (old new : Told) → Some (x, rest) ≡ first_and_rest xs → IsErr r
    → Rose old.faults new.faults × ((n : ℕ) × Added (take n (first x)) old new) → Wrote r (headed first next xs) old new
headed_stops first next xs x rest r old new is e torn =
    subst (λ l. Wrote r l old new) (headed_is first next xs x rest is) (stops_first (first x) (flat_map next rest) r old new e torn)

pub headed_said : {A : Type 0} (first next : A → List ℕ) (xs : List A) (x : A) (rest : List A) (r : Result (Unit {0}) Failed) (old mid new : Told) → Some (x, rest) ≡ first_and_rest xs
    → Added (first x) old mid → Wrote r (flat_map next rest) mid new → Wrote r (headed first next xs) old new
headed_said first next xs x rest r old mid new is added wrote =
    subst (λ l. Wrote r l old new) (headed_is first next xs x rest is) (last (first x) (flat_map next rest) r old mid new added wrote)

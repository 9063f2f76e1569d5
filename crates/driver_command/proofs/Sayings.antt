-- What is said in several steps, of which one may fail.
use Rattle.std.proofs.Common.{◌≡◌, ◌⊎◌, inl, inr, ℕ, zero, suc, ◌+◌, ◌<◌, List, [], ◌∷◌, ◌++◌, length, take, drop, get_or, IsTrue, IsErr, IsOk, Result, Ok, Err, refl, sym, ap, subst, ◌∙◌, append_assoc, drop-cons, take-append-drop, arith}
use Rattle.std.specs.List.{flat_map}
use Rattle.std.proofs.lemmas.Bool.{false≢true}
use Rattle.std.proofs.lemmas.List.Concat.{flat_map-append}
use Rattle.std.proofs.Math.Seq.{take-append-add}
use Rattle.wl_outside.specs.Sink.{Told, Rose, Added, Wrote}
use Rattle.wl_outside.specs.declared.sink.Failed.{Failed}
use Rattle.link_command.specs.Said.{Said}

pub written : (line : List ℕ) (r : Result (Unit {0}) Failed) (old new : Told) → Wrote r line old new → Said line old new
written line (Ok done) old new wrote = inl wrote
written line (Err failed) old new wrote = inr wrote

both : (a b : List ℕ) (old mid new : Told) → Added a old mid → Added b mid new → Added (a ++ b) old new
both a b old mid new x y = record {
  tells = y.tells ∙ x.tells;
  faults = omega (arith, x.faults, y.faults);
  grown = λ told. y.grown (subst IsTrue (sym x.tells) told) ∙ ap (λ l. l ++ b) (x.grown told) ∙ append_assoc old.bytes a b;
}

-- two texts, of which the second may not be said whole
pub second : (a b : List ℕ) (r : Result (Unit {0}) Failed) (old mid new : Told) → Added a old mid → Wrote r b mid new → Said (a ++ b) old new
second a b (Ok done) old mid new x wrote = inl (both a b old mid new x wrote)
second a b (Err failed) old mid new x wrote =
    inr (
      omega (arith, x.faults, wrote.0),
      (
        length a + wrote.1.0,
        subst (λ l. Added l old new) (sym (take-append-add a b wrote.1.0)) (both a (take wrote.1.0 b) old mid new x wrote.1.1),
      ),
    )

-- a front of what comes behind a is a front of the whole
front : (a b c : List ℕ) (n : ℕ) → (m : ℕ) × (take m (a ++ (b ++ c)) ≡ a ++ take n b)
front [] [] c zero = (0, refl)
front [] [] c (suc n) = (0, refl)
front [] (y ∷ b) c zero = (0, refl)
front [] (y ∷ b) c (suc n) = let r = front [] b c n in (suc r.0, ap (λ l. y ∷ l) r.1)
front (x ∷ a) b c n = let r = front a b c n in (suc r.0, ap (λ l. x ∷ l) r.1)

-- the first text is not said whole, and the second not at all
pub first : (a b : List ℕ) (old new : Told) → Rose old.faults new.faults × ((n : ℕ) × Added (take n a) old new) → Said (a ++ b) old new
first a b old new h =
    let p = front [] a b h.1.0 in inr (h.0, (p.0, subst (λ l. Added l old new) (sym p.1) h.1.1))

parts : {A : Type 0} (f : A → List ℕ) (xs : List A) (i : ℕ) (d : A) → i < length xs
    → flat_map f xs ≡ flat_map f (take i xs) ++ (f (get_or xs i d) ++ flat_map f (drop (suc i) xs))
parts f xs i d within =
    ap (flat_map f) (sym (take-append-drop i xs)) ∙ flat_map-append f (take i xs) (drop i xs)
    ∙ ap (λ l. flat_map f (take i xs) ++ flat_map f l) (drop-cons xs i d within)

-- where an item is not said whole, a front of all of them is said
pub stopped : {A : Type 0} (f : A → List ℕ) (xs : List A) (i : ℕ) (x : A) (old mid new : Told) (r : Result (Unit {0}) Failed) → IsErr r → i < length xs
    → x ≡ get_or xs i x → Added (flat_map f (take i xs)) old mid → Rose mid.faults new.faults × ((n : ℕ) × Added (take n (f x)) mid new)
    → Wrote r (flat_map f xs) old new
stopped f xs i x old mid new (Ok done) e within is added h = absurd (false≢true e)
stopped f xs i x old mid new (Err failed) e within is added h =
    let p = front (flat_map f (take i xs)) (f x) (flat_map f (drop (suc i) xs)) h.1.0 in
    let whole : flat_map f xs ≡ flat_map f (take i xs) ++ (f x ++ flat_map f (drop (suc i) xs)) =
    parts f xs i x within ∙ ap (λ y. flat_map f (take i xs) ++ (f y ++ flat_map f (drop (suc i) xs))) (sym is) in (
      omega (arith, added.faults, h.0),
      (p.0, subst (λ l. Added l old new) (sym (ap (take p.0) whole ∙ p.1)) (both _ _ old mid new added h.1.1)),
    )

pub heard : (text : List ℕ) (r : Result (Unit {0}) Failed) (old new : Told) → IsOk r → Wrote r text old new → Added text old new
heard text (Ok done) old new is wrote = wrote
heard text (Err failed) old new is wrote = absurd (false≢true is)

pub unheard : (text : List ℕ) (r : Result (Unit {0}) Failed) (old new : Told) → IsErr r → Wrote r text old new
    → Rose old.faults new.faults × ((n : ℕ) × Added (take n text) old new)
unheard text (Ok done) old new is wrote = absurd (false≢true is)
unheard text (Err failed) old new is wrote = wrote

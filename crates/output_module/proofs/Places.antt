-- Where references stand among those of a body, and bytes that are written there.
use Rattle.std.proofs.Common.{◌≡◌, ℕ, ◌+◌, ◌≤◌, ◌<◌, List, [], ◌∷◌, ◌++◌, length, take, drop, Option, Some, None, refl, sym, ap, ◌∙◌, inl, inr, arith, append_assoc}
use Rattle.std.specs.Prelude.{cond}
use Rattle.std.proofs.lemmas.Bool.{eq-eqb, ne_eqb}
use Rattle.std.proofs.Math.Seq.{drop-append-add, take-append-add}
use Rattle.std.proofs.lemmas.List.{append-nil}
use Rattle.list_places.specs.Has.{Has}
use Rattle.body_windows.specs.declared.immediate.Immediate.{Immediate}
use Rattle.body_windows.specs.Immediates.{AreInOrder}
use Rattle.reloc_apply.specs.Windows.{over}
use Rattle.link_worlds.specs.link_rules.Program.{Named, a_symbol, a_type}
use Rattle.link_worlds.specs.Bodies.{place_of, named_at}
use Rattle.output_module.specs.Filled.{StandsOn, AllStandOn, names_in}

-- bytes of the same length in the place of those behind a front
pub over_here : (front old new rest : List ℕ) (at : ℕ) → at ≡ length front → length new ≡ length old → over at new (front ++ (old ++ rest)) ≡ front ++ (new ++ rest)
over_here front old new rest at e n =
    let z : length front + 0 ≡ at = omega (arith, e) in
    let k : at + length new ≡ length front + length old = omega (arith, e, n) in
    let first : take at (front ++ (old ++ rest)) ≡ front = ap (λ m. take m (front ++ (old ++ rest))) (sym z) ∙ take-append-add front (old ++ rest) 0 ∙ append-nil front in
    let y : length old + 0 ≡ length old = omega arith in
    let last : drop (at + length new) (front ++ (old ++ rest)) ≡ rest =
    ap (λ m. drop m (front ++ (old ++ rest))) k ∙ drop-append-add front (old ++ rest) (length old)
    ∙ ap (λ m. drop m (old ++ rest)) (sym y) ∙ drop-append-add old rest 0 in
    ap (λ x. x ++ new ++ drop (at + length new) (front ++ (old ++ rest))) first ∙ ap (λ x. front ++ new ++ x) last ∙ append_assoc front new rest

-- references that stand elsewhere aren't found
skipped : (place : ℕ) (before ns : List Named) → ((n : Named) → Has before n → place_of n ≡ place → ⊥) → named_at (before ++ ns) place ≡ named_at ns place
skipped place [] ns h = refl
skipped place (b ∷ bs) ns h =
    ap (λ t. cond t (Some b) (named_at (bs ++ ns) place)) (ne_eqb (place_of b) place (h b (inl refl))) ∙ skipped place bs ns (λ n m. h n (inr m))

pub none_there : (place : ℕ) (ns : List Named) → ((n : Named) → Has ns n → place_of n ≡ place → ⊥) → named_at ns place ≡ None
none_there place [] h = refl
none_there place (n ∷ ns) h =
    ap (λ t. cond t (Some n) (named_at ns place)) (ne_eqb (place_of n) place (h n (inl refl))) ∙ none_there place ns (λ m k. h m (inr k))

-- All stand before a place, or from a place on.
abbrev pub Before : ℕ → List Named → Type 0
Before at ns = (n : Named) → Has ns n → place_of n < at

abbrev pub From : ℕ → List Named → Type 0
From at ns = (n : Named) → Has ns n → at ≤ place_of n

-- the reference that stands there is found, behind those before
pub found_here : (place at : ℕ) (n : Named) (before ns : List Named) → Before at before → at ≤ place → place_of n ≡ place → named_at (before ++ (n ∷ ns)) place ≡ Some n
found_here place at n before ns b l e =
    skipped place before (n ∷ ns) (λ m h q. let k : place_of m < at = b m h in omega (arith, k, q, l))
    ∙ ap (λ t. cond t (Some n) (named_at ns place)) (eq-eqb (place_of n) place e)

-- none stands there
pub nothing_here : (place at : ℕ) (before ns : List Named) → Before at before → at ≤ place → From (place + 1) ns → named_at (before ++ ns) place ≡ None
nothing_here place at before ns b l f =
    skipped place before ns (λ m h q. let k : place_of m < at = b m h in omega (arith, k, q, l))
    ∙ none_there place ns (λ m h q. let k : place + 1 ≤ place_of m = f m h in omega (arith, k, q))

-- where a reference stands that stands on an immediate
pub stands_at : (i : Immediate) (n : Named) → StandsOn i (Some n) → place_of n ≡ i.place
stands_at i (a_symbol ref) h = h.0
stands_at i (a_type w) h = h.0

-- references on immediates stand from the first one on
pub from_order : (from end : ℕ) (is : List Immediate) (os : List (Option Named)) → AreInOrder from end is → AllStandOn is os → From from (names_in os)
from_order from end [] [] o a n h = absurd h
from_order from end [] (x ∷ os) o a n h = absurd a
from_order from end (i ∷ is) [] o a n h = absurd a
from_order from end (i ∷ is) (None ∷ os) o a n h = let k : i.place + i.len ≤ place_of n = from_order (i.place + i.len) end is os o.2 a.1 n h in omega (arith, k, o.0)
from_order from end (i ∷ is) (Some m ∷ os) o a n (inl e) = let k : place_of m ≡ i.place = stands_at i m a.0 in let q : place_of m ≡ place_of n = ap place_of e in omega (arith, k, q, o.0)
from_order from end (i ∷ is) (Some m ∷ os) o a n (inr h) = let k : i.place + i.len ≤ place_of n = from_order (i.place + i.len) end is os o.2 a.1 n h in omega (arith, k, o.0)

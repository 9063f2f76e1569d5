-- Windows that lie apart.
use Rattle.std.proofs.Common.{◌≡◌, ℕ, zero, suc, ◌+◌, ◌-◌, ◌≤◌, ◌<◌, List, [], ◌∷◌, ◌++◌, map, arith, drop, take, length, refl, ap, ◌∙◌, subst}
use Rattle.std.specs.Prelude.{slice_index_or, slice_range}
use Rattle.std.specs.List.{AllByRecursion, All}
use Rattle.std.proofs.lemmas.List.Elements.{All-from_recursion}
use Rattle.std.proofs.Math.Seq.{drop-cons}
use Rattle.std.proofs.lemmas.List.{drop-drop}
use Rattle.reloc_apply.specs.declared.window.Patch.{Patch}
use Rattle.reloc_apply.specs.Apart.{AreApart, LiesIn, size_of, moved, from_here}
use Rattle.reloc_apply.specs.Parts.{place_or}

-- such windows end within the bytes
pub apart_le : (at end : ℕ) (ps : List Patch) → AreApart at end ps → at ≤ end
apart_le at end [] h = h
apart_le at end (p ∷ ps) h = omega (arith, h.0, apart_le (p.place + size_of p.form) end ps h.1)

-- they lie apart in more bytes, too
pub apart_low : (low at end : ℕ) (ps : List Patch) → low ≤ at → AreApart at end ps → AreApart low end ps
apart_low low at end [] le h = omega (arith, le, h)
apart_low low at end (p ∷ ps) le h = (omega (arith, le, h.0), h.1)

pub apart_high : (at end high : ℕ) (ps : List Patch) → end ≤ high → AreApart at end ps → AreApart at high ps
apart_high at end high [] le h = omega (arith, le, h)
apart_high at end high (p ∷ ps) le h = (h.0, apart_high (p.place + size_of p.form) end high ps le h.1)

pub apart_end : (at end : ℕ) (p : Patch) (ps : List Patch) → AreApart at end (p ∷ ps) → p.place + size_of p.form ≤ end
apart_end at end p ps h = apart_le (p.place + size_of p.form) end ps h.1

pub apart_rest : (at end : ℕ) (p : Patch) (ps : List Patch) → AreApart at end (p ∷ ps) → AreApart at end ps
apart_rest at end p ps h = apart_low at (p.place + size_of p.form) end ps (omega (arith, h.0)) h.1

-- each of them lies in the bytes
pub apart_lie_in : (at end : ℕ) (ps : List Patch) → AreApart at end ps → AllByRecursion (LiesIn end) ps
apart_lie_in at end [] h = tt
apart_lie_in at end (p ∷ ps) h = (apart_end at end p ps h, apart_lie_in (p.place + size_of p.form) end ps h.1)

-- windows of two runs of bytes that stand side by side
pub apart_append : (at middle end : ℕ) (ps qs : List Patch) → AreApart at middle ps → AreApart middle end qs → AreApart at end (ps ++ qs)
apart_append at middle end [] qs low high = apart_low at middle end qs low high
apart_append at middle end (p ∷ ps) qs low high = (low.0, apart_append (p.place + size_of p.form) middle end ps qs low.1 high)

-- windows that are moved together
pub apart_moved : (n at end : ℕ) (ps : List Patch) → AreApart at end ps → AreApart (n + at) (n + end) (map (moved n) ps)
apart_moved n at end [] h = omega (arith, h)
apart_moved n at end (p ∷ ps) h =
    let sum : n + (p.place + size_of p.form) ≡ n + p.place + size_of p.form = omega arith in
    (omega (arith, h.0), subst (λ k. AreApart k (n + end) (map (moved n) ps)) sum (apart_moved n (p.place + size_of p.form) end ps h.1))

-- windows by their places in bytes that begin before them
pub apart_from : (start at end : ℕ) (ps : List Patch) → start ≤ at → AreApart at end ps → AreApart (at - start) (end - start) (from_here start ps)
apart_from start at end [] le h = omega (arith, le, h)
apart_from start at end (p ∷ ps) le h =
    let sum : p.place + size_of p.form - start ≡ p.place - start + size_of p.form = omega (arith, le, h.0) in
    (omega (arith, le, h.0), subst (λ k. AreApart k (end - start) (from_here start ps)) sum (apart_from start (p.place + size_of p.form) end ps (omega (arith, le, h.0)) h.1))

-- places that are told from another start
pub here_append : (start : ℕ) (ps qs : List Patch) → from_here start (ps ++ qs) ≡ from_here start ps ++ from_here start qs
here_append start [] qs = refl
here_append start (p ∷ ps) qs = ap (λ rest. (record p { place = p.place - start }) ∷ rest) (here_append start ps qs)

pub here_none : (ps : List Patch) → from_here 0 ps ≡ ps
here_none [] = refl
here_none (p ∷ ps) = let none : p.place - 0 ≡ p.place = omega arith in rw none (ap (λ rest. p ∷ rest) (here_none ps))

pub here_moved : (start at end n : ℕ) (ps : List Patch) → at ≡ start + n → AreApart at end ps → from_here start ps ≡ map (moved n) (from_here at ps)
here_moved start at end n [] is h = refl
here_moved start at end n (p ∷ ps) is h =
    let same : p.place - start ≡ n + (p.place - at) = omega (arith, is, h.0) in
    let rest = here_moved start at end n ps is (apart_rest at end p ps h) in
    rw same (ap (λ zs. (record p { place = n + (p.place - at) }) ∷ zs) rest)

-- the next one, and those behind it
pub next_is : (ps : List Patch) (i : ℕ) (none : Patch) → i < length ps → drop i ps ≡ slice_index_or ps i none ∷ drop (i + 1) ps
next_is ps i none below = let e : i + 1 ≡ suc i = omega arith in rw e (drop-cons ps i none below)

-- those from a window on, those before one, and those between
rest_apart : (at end : ℕ) (ps : List Patch) (i : ℕ) → AreApart at end ps → AreApart (place_or end (drop i ps)) end (drop i ps)
rest_apart at end [] zero h = omega arith
rest_apart at end [] (suc i) h = omega arith
rest_apart at end (p ∷ ps) zero h = (omega arith, h.1)
rest_apart at end (p ∷ ps) (suc i) h = rest_apart (p.place + size_of p.form) end ps i h.1

pub front_apart : (at end : ℕ) (ps : List Patch) (n : ℕ) → AreApart at end ps → AreApart at (place_or end (drop n ps)) (take n ps)
front_apart at end [] zero h = h
front_apart at end [] (suc n) h = h
front_apart at end (p ∷ ps) zero h = h.0
front_apart at end (p ∷ ps) (suc n) h = (h.0, front_apart (p.place + size_of p.form) end ps n h.1)

pub range_apart : (at end : ℕ) (ps : List Patch) (i j : ℕ) → i ≤ j → AreApart at end ps → AreApart (place_or end (drop i ps)) (place_or end (drop j ps)) (slice_range ps i j)
range_apart at end ps i j le h =
    let sum : i + (j - i) ≡ j = omega (arith, le) in
    let behind : drop (j - i) (drop i ps) ≡ drop j ps = drop-drop (j - i) i ps ∙ ap (λ (n : ℕ). drop n ps) sum in
    subst (λ rest. AreApart (place_or end (drop i ps)) (place_or end rest) (slice_range ps i j)) behind (front_apart (place_or end (drop i ps)) end (drop i ps) (j - i) (rest_apart at end ps i h))

pub lie_in_all : (at end : ℕ) (ps : List Patch) → AreApart at end ps → All (LiesIn end) ps
lie_in_all at end ps h = All-from_recursion (LiesIn end) ps (apart_lie_in at end ps h)

-- What windows hold when all are filled, and what is left as it was.
use Rattle.std.proofs.Common.{◌≡◌, ℕ, ◌+◌, ◌-◌, ◌<◌, ◌≤◌, ◌⊎◌, ⊎_elim, List, [], ◌∷◌, ◌++◌, length, take, drop, get_or, map, arith, refl, sym, ap, ◌∙◌, append_assoc, subst}
use Rattle.std.specs.Prelude.{slice_range, slice_index}
use Rattle.std.specs.List.{AllByRecursion, All}
use Rattle.std.proofs.Math.ListN.{get_or-append}
use Rattle.std.proofs.Math.Seq.{take-append_seam, drop-append_seam, get_or-append_right}
use Rattle.std.proofs.lemmas.List.{length-append, length-take-le, take-append-drop, get_or-take, get_or-drop}
use Rattle.std.proofs.lemmas.List.Elements.{recursion_from_All, All-from_recursion}
use Rattle.reloc_apply.specs.declared.window.Patch.{Patch}
use Rattle.reloc_apply.specs.Windows.{over, spelled, patched, filled}
use Rattle.reloc_apply.specs.Apart.{AreApart, LiesIn, IsOutside, size_of, moved, from_here}
use Rattle.reloc_apply.proofs.Apart.{apart_le, apart_end, here_none, here_moved}
use Rattle.reloc_apply.proofs.Over.{spelled_size, patched_long, patched_lie_in, filled_behind}

-- windows from some place on leave the bytes before it as they are
front_stays : (e end : ℕ) (ps : List Patch) (bytes : List ℕ) → e ≤ length bytes → AreApart e end ps
    → filled ps bytes ≡ take e bytes ++ filled (from_here e ps) (drop e bytes)
front_stays e end ps bytes le h =
    let moves : ps ≡ map (moved e) (from_here e ps) = sym (here_none ps) ∙ here_moved 0 e end e ps (omega arith) h in
    ap (λ qs. filled qs bytes) moves ∙ (ap (filled (map (moved e) (from_here e ps))) (sym (take-append-drop e bytes))
    ∙ subst (λ n. filled (map (moved n) (from_here e ps)) (take e bytes ++ drop e bytes) ≡ take e bytes ++ filled (from_here e ps) (drop e bytes)) (length-take-le e bytes le)
    (filled_behind (from_here e ps) (take e bytes) (drop e bytes)))

-- the middle one of three parts
middle : (front new rest : List ℕ) (from end : ℕ) → length front ≡ from → from + length new ≡ end → slice_range (front ++ new ++ rest) from end ≡ new
middle front new rest from end is ends =
    let size : end - from ≡ length new = omega (arith, ends) in
    let behind : drop from (front ++ new ++ rest) ≡ new ++ rest = ap (drop from) (append_assoc front new rest) ∙ subst (λ n. drop n (front ++ (new ++ rest)) ≡ new ++ rest) is (drop-append_seam front (new ++ rest)) in
    ap (λ (n : ℕ). take n (drop from (front ++ new ++ rest))) size ∙ (ap (take (length new)) behind ∙ take-append_seam new rest)

abbrev Held : List ℕ → Patch → Type 0
Held bytes p = slice_range bytes p.place (p.place + size_of p.form) ≡ spelled p.form p.value

first_held : (p : Patch) (ps : List Patch) (bytes : List ℕ) → AreApart (p.place + size_of p.form) (length bytes) ps → Held (filled ps (patched p bytes)) p
first_held p ps bytes h =
    let new = spelled p.form p.value in
    let e : ℕ = p.place + size_of p.form in
    let size = spelled_size p.form p.value in
    let inside : e ≤ length bytes = apart_le e (length bytes) ps h in
    let front : length (take p.place bytes) ≡ p.place = length-take-le p.place bytes (omega (arith, inside)) in
    let both : length (take p.place bytes ++ new) ≡ e = omega (arith, length-append (take p.place bytes) new, front, size) in
    let before : take e (patched p bytes) ≡ take p.place bytes ++ new =
    subst (λ n. take n (patched p bytes) ≡ take p.place bytes ++ new) both (take-append_seam (take p.place bytes ++ new) (drop (p.place + length new) bytes)) in
    let long : e ≤ length (patched p bytes) = omega (arith, inside, patched_long p bytes inside) in
    let rest = filled (from_here e ps) (drop e (patched p bytes)) in
    ap (λ zs. slice_range zs p.place e) (front_stays e (length bytes) ps (patched p bytes) long h ∙ ap (λ zs. zs ++ rest) before)
    ∙ middle (take p.place bytes) new rest p.place e front (omega (arith, size))

held : (at : ℕ) (ps : List Patch) (bytes : List ℕ) → AreApart at (length bytes) ps → AllByRecursion (Held (filled ps bytes)) ps
held at [] bytes h = tt
held at (p ∷ ps) bytes h =
    let inside = apart_end at (length bytes) p ps h in
    (first_held p ps bytes h.1, held (p.place + size_of p.form) ps (patched p bytes) (subst (λ n. AreApart (p.place + size_of p.form) n ps) (sym (patched_long p bytes inside)) h.1))

pub held_all : (ps : List Patch) (bytes : List ℕ) → AreApart 0 (length bytes) ps → All (Held (filled ps bytes)) ps
held_all ps bytes h = All-from_recursion (Held (filled ps bytes)) ps (held 0 ps bytes h)

-- a byte outside of what is written
over_other : (bytes new : List ℕ) (at i : ℕ) → at + length new ≤ length bytes → (i < at) ⊎ (at + length new ≤ i) → get_or (over at new bytes) i 0 ≡ get_or bytes i 0
over_other bytes new at i inside outside =
    let front : length (take at bytes) ≡ at = length-take-le at bytes (omega (arith, inside)) in
    let both : length (take at bytes ++ new) ≡ at + length new = omega (arith, length-append (take at bytes) new, front) in
    ⊎_elim
    (λ (low : i < at). get_or-append (take at bytes ++ new) (drop (at + length new) bytes) 0 i (omega (arith, low, both))
    ∙ (get_or-append (take at bytes) new 0 i (omega (arith, low, front)) ∙ get_or-take at bytes i 0 low))
    (λ (high : at + length new ≤ i).
    let sum : at + length new + (i - length (take at bytes ++ new)) ≡ i = omega (arith, high, both) in
    get_or-append_right (take at bytes ++ new) (drop (at + length new) bytes) i 0 (omega (arith, high, both))
    ∙ (get_or-drop (at + length new) bytes (i - length (take at bytes ++ new)) 0 ∙ ap (λ (n : ℕ). get_or bytes n 0) sum))
    outside

others : (i : ℕ) (ps : List Patch) (bytes : List ℕ) → AllByRecursion (LiesIn (length bytes)) ps → AllByRecursion (IsOutside i) ps → get_or (filled ps bytes) i 0 ≡ get_or bytes i 0
others i [] bytes h outside = refl
others i (p ∷ ps) bytes h outside =
    let size = spelled_size p.form p.value in
    let new = spelled p.form p.value in
    let out : (i < p.place) ⊎ (p.place + length new ≤ i) = subst (λ n. (i < p.place) ⊎ (p.place + n ≤ i)) (sym size) outside.0 in
    others i ps (patched p bytes) (patched_lie_in p ps bytes h.0 h.1) outside.1 ∙ over_other bytes new p.place i (omega (arith, h.0, size)) out

pub others_all : (i : ℕ) (ps : List Patch) (bytes : List ℕ) → All (LiesIn (length bytes)) ps → All (IsOutside i) ps → slice_index (filled ps bytes) i ≡ slice_index bytes i
others_all i ps bytes h outside = others i ps bytes (recursion_from_All (LiesIn (length bytes)) ps h) (recursion_from_All (IsOutside i) ps outside)

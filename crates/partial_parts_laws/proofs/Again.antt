-- Windows that are written twice: what was there before is nowhere seen.
use Rattle.std.proofs.Common.{◌≡◌, ℕ, ◌+◌, ◌≤◌, List, [], ◌∷◌, ◌++◌, length, take, drop, arith, refl, sym, ap, ◌∙◌, subst}
use Rattle.std.proofs.Math.Seq.{drop-append_seam}
use Rattle.std.proofs.lemmas.List.{length-take-le, take-append-drop}
use Rattle.reloc_apply.specs.declared.window.Patch.{Patch}
use Rattle.reloc_apply.specs.Windows.{over, spelled, patched, filled}
use Rattle.partial_rules.specs.Moving.{SameWindows}
use Rattle.reloc_apply.specs.Apart.{AreApart, LiesIn, size_of}
use Rattle.reloc_apply.proofs.Apart.{apart_le}
use Rattle.reloc_apply.proofs.Over.{over_behind, over_before, over_long, spelled_size, patched_long}

-- a window, and another one behind it
commute_parts : (front rest x y : List ℕ) (a : ℕ) → a + length x ≤ length front
    → over a x (over (length front + 0) y (front ++ rest)) ≡ over (length front + 0) y (over a x (front ++ rest))
commute_parts front rest x y a inside =
    let lhs : over a x (over (length front + 0) y (front ++ rest)) ≡ over a x front ++ over 0 y rest =
    ap (over a x) (over_behind front rest y 0) ∙ over_before front (over 0 y rest) x a inside in
    let long : length (over a x front) ≡ length front = over_long front x a inside in
    let behind : over (length (over a x front) + 0) y (over a x front ++ rest) ≡ over a x front ++ over 0 y rest = over_behind (over a x front) rest y 0 in
    let rhs : over (length front + 0) y (over a x (front ++ rest)) ≡ over a x front ++ over 0 y rest =
    ap (over (length front + 0) y) (over_before front rest x a inside)
    ∙ subst (λ n. over (n + 0) y (over a x front ++ rest) ≡ over a x front ++ over 0 y rest) long behind in
    lhs ∙ sym rhs

pub over_commutes : (bytes x y : List ℕ) (a b : ℕ) → a + length x ≤ b → b ≤ length bytes
    → over a x (over b y bytes) ≡ over b y (over a x bytes)
over_commutes bytes x y a b apart inside =
    let front : List ℕ = take b bytes in
    let long : length front ≡ b = length-take-le b bytes inside in
    let at : length front + 0 ≡ b = omega (arith, long) in
    let parts : front ++ drop b bytes ≡ bytes = take-append-drop b bytes in
    let moved = commute_parts front (drop b bytes) x y a (omega (arith, apart, long)) in
    subst (λ zs. over a x (over b y zs) ≡ over b y (over a x zs)) parts
    (subst (λ n. over a x (over n y (front ++ drop b bytes)) ≡ over n y (over a x (front ++ drop b bytes))) at moved)

seam : (x y rest : List ℕ) → length x ≡ length y → drop (0 + length x) (y ++ drop (0 + length y) rest) ≡ drop (0 + length x) rest
seam x y rest same =
    let first : 0 + length x ≡ length y = omega (arith, same) in
    let second : 0 + length y ≡ length y = omega arith in
    rw (first, second) (drop-append_seam y (drop (length y) rest))

-- what stood in a window before isn't seen behind what is written there
again_parts : (front rest x y : List ℕ) → length x ≡ length y
    → over (length front + 0) x (over (length front + 0) y (front ++ rest)) ≡ over (length front + 0) x (front ++ rest)
again_parts front rest x y same =
    let twice : over 0 x (over 0 y rest) ≡ over 0 x rest =
    ap (λ zs. x ++ zs) (seam x y rest same) in
    ap (over (length front + 0) x) (over_behind front rest y 0)
    ∙ (over_behind front (over 0 y rest) x 0 ∙ (ap (λ zs. front ++ zs) twice ∙ sym (over_behind front rest x 0)))

pub over_again : (bytes x y : List ℕ) (a : ℕ) → length x ≡ length y → a ≤ length bytes → over a x (over a y bytes) ≡ over a x bytes
over_again bytes x y a same inside =
    let front : List ℕ = take a bytes in
    let long : length front ≡ a = length-take-le a bytes inside in
    let at : length front + 0 ≡ a = omega (arith, long) in
    subst (λ zs. over a x (over a y zs) ≡ over a x zs) (take-append-drop a bytes)
    (subst (λ n. over n x (over n y (front ++ drop a bytes)) ≡ over n x (front ++ drop a bytes)) at (again_parts front (drop a bytes) x y same))

-- ---- whole lists of windows

inside_of : (p : Patch) (ps : List Patch) (at : ℕ) (bytes : List ℕ) → AreApart at (length bytes) (p ∷ ps) → LiesIn (length bytes) p
inside_of p ps at bytes h = apart_le (p.place + size_of p.form) (length bytes) ps h.1

rest_of : (q : Patch) (ps : List Patch) (bytes : List ℕ) → LiesIn (length bytes) q → AreApart (q.place + size_of q.form) (length bytes) ps
    → AreApart (q.place + size_of q.form) (length (patched q bytes)) ps
rest_of q ps bytes inside h = subst (λ n. AreApart (q.place + size_of q.form) n ps) (sym (patched_long q bytes inside)) h

-- A window before others may be written after them.
pub filled_commutes : (p : Patch) (ps : List Patch) (bytes : List ℕ) (at : ℕ) → p.place + size_of p.form ≤ at → AreApart at (length bytes) ps
    → patched p (filled ps bytes) ≡ filled ps (patched p bytes)
filled_commutes p [] bytes at before h = refl
filled_commutes p (q ∷ ps) bytes at before h =
    let inside : LiesIn (length bytes) q = inside_of q ps at bytes h in
    let again = filled_commutes p ps (patched q bytes) (q.place + size_of q.form) (omega (arith, before, h.0)) (rest_of q ps bytes inside h.1) in
    let swap : patched p (patched q bytes) ≡ patched q (patched p bytes) =
    over_commutes bytes (spelled p.form p.value) (spelled q.form q.value) p.place q.place
    (omega (arith, before, h.0, spelled_size p.form p.value)) (omega (arith, inside)) in
    again ∙ ap (filled ps) swap

same_sizes : (p q : Patch) → p.form ≡ q.form → length (spelled q.form q.value) ≡ length (spelled p.form p.value)
same_sizes p q same = spelled_size q.form q.value ∙ (ap size_of (sym same) ∙ sym (spelled_size p.form p.value))

-- Windows that are written twice hold what was written last.
pub filled_again : (ps qs : List Patch) (bytes : List ℕ) (at : ℕ) → SameWindows ps qs → AreApart at (length bytes) ps
    → filled qs (filled ps bytes) ≡ filled qs bytes
filled_again [] [] bytes at same h = refl
filled_again [] (q ∷ qs) bytes at same h = absurd same
filled_again (p ∷ ps) [] bytes at same h = absurd same
filled_again (p ∷ ps) (q ∷ qs) bytes at same h =
    let inside : LiesIn (length bytes) p = inside_of p ps at bytes h in
    let behind = rest_of p ps bytes inside h.1 in
    let place : q.place ≡ p.place = sym same.0 in
    let size : size_of q.form ≡ size_of p.form = ap size_of (sym same.1) in
    let out : patched q (filled ps (patched p bytes)) ≡ filled ps (patched q (patched p bytes)) =
    filled_commutes q ps (patched p bytes) (p.place + size_of p.form) (omega (arith, place, size)) behind in
    let once : patched q (patched p bytes) ≡ patched q bytes =
    subst (λ a. over q.place (spelled q.form q.value) (over a (spelled p.form p.value) bytes) ≡ over q.place (spelled q.form q.value) bytes) place
    (over_again bytes (spelled q.form q.value) (spelled p.form p.value) q.place (same_sizes p q same.1) (omega (arith, inside, place))) in
    let inside_q : LiesIn (length bytes) q = omega (arith, inside, place, size) in
    let rest : AreApart (p.place + size_of p.form) (length (patched q bytes)) ps =
    subst (λ n. AreApart (p.place + size_of p.form) n ps) (sym (patched_long q bytes inside_q)) h.1 in
    ap (filled qs) (out ∙ ap (filled ps) once) ∙ filled_again ps qs (patched q bytes) (p.place + size_of p.form) same.2 rest

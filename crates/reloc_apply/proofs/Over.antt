-- Windows of a part of the bytes.
use Rattle.std.proofs.Common.{◌≡◌, ℕ, ◌+◌, ◌≤◌, List, [], ◌∷◌, ◌++◌, length, take, drop, map, arith, refl, sym, ap, ◌∙◌, append_assoc, subst, ℤ, pos, negsuc}
use Rattle.std.specs.List.{AllByRecursion, All}
use Rattle.std.proofs.lemmas.List.{take-append-le, drop-append-le, length-append, length-take-le, length-drop}
use Rattle.std.proofs.lemmas.List.Elements.{recursion_from_All}
use Rattle.std.proofs.Math.Seq.{take-append-add, drop-append-add}
use Rattle.leb_codec.specs.Shortest.{u32_padded, s32_padded}
use Rattle.reloc_apply.specs.declared.window.Form.{Form}
use Rattle.reloc_apply.specs.declared.window.Form.TheVariants.{Unsigned5, Signed5, Word4}
use Rattle.reloc_apply.specs.declared.window.Patch.{Patch}
use Rattle.reloc_apply.specs.Windows.{over, spelled, patched, filled, signed32}
use Rattle.reloc_apply.specs.Apart.{LiesIn, size_of, moved}

-- a window behind other bytes
pub over_behind : (front bytes new : List ℕ) (at : ℕ) → over (length front + at) new (front ++ bytes) ≡ front ++ over at new bytes
over_behind front bytes new at =
    let sum : length front + at + length new ≡ length front + (at + length new) = omega arith in
    rw (take-append-add front bytes at, sum, drop-append-add front bytes (at + length new))
    (append_assoc (front ++ take at bytes) new (drop (at + length new) bytes) ∙ (append_assoc front (take at bytes) (new ++ drop (at + length new) bytes)
    ∙ ap (λ zs. front ++ zs) (sym (append_assoc (take at bytes) new (drop (at + length new) bytes)))))

-- a window before other bytes
pub over_before : (bytes rest new : List ℕ) (at : ℕ) → at + length new ≤ length bytes → over at new (bytes ++ rest) ≡ over at new bytes ++ rest
over_before bytes rest new at inside =
    rw (take-append-le at bytes rest (omega (arith, inside)), drop-append-le (at + length new) bytes rest inside)
    (sym (append_assoc (take at bytes ++ new) (drop (at + length new) bytes) rest))

pub over_long : (bytes new : List ℕ) (at : ℕ) → at + length new ≤ length bytes → length (over at new bytes) ≡ length bytes
over_long bytes new at inside = omega (
  arith,
  inside,
  length-append (take at bytes ++ new) (drop (at + length new) bytes),
  length-append (take at bytes) new,
  length-take-le at bytes (omega (arith, inside)),
  length-drop (at + length new) bytes,
)

pub over_within : (front bytes rest new : List ℕ) (at : ℕ) → at + length new ≤ length bytes
    → over (length front + at) new (front ++ bytes ++ rest) ≡ front ++ over at new bytes ++ rest
over_within front bytes rest new at inside =
    let reach : length front + at + length new ≤ length (front ++ bytes) = omega (arith, inside, length-append front bytes) in
    over_before (front ++ bytes) rest new (length front + at) reach ∙ ap (λ zs. zs ++ rest) (over_behind front bytes new at)

-- how many bytes a window has
pub spelled_size : (form : Form) (value : ℕ) → length (spelled form value) ≡ size_of form
unfolding u32_padded s32_padded
spelled_size Unsigned5 value = refl
spelled_size Signed5 value = signed_size (signed32 value)
  where
    signed_size : (z : ℤ) → length (s32_padded z) ≡ 5
    signed_size (pos n) = refl
    signed_size (negsuc n) = refl
spelled_size Word4 value = refl

pub patched_long : (p : Patch) (bytes : List ℕ) → LiesIn (length bytes) p → length (patched p bytes) ≡ length bytes
patched_long p bytes inside = over_long bytes (spelled p.form p.value) p.place (omega (arith, inside, spelled_size p.form p.value))

-- the other windows lie in the bytes after one is written
pub patched_lie_in : (p : Patch) (ps : List Patch) (bytes : List ℕ) → LiesIn (length bytes) p → AllByRecursion (LiesIn (length bytes)) ps → AllByRecursion (LiesIn (length (patched p bytes))) ps
patched_lie_in p ps bytes inside h = subst (λ n. AllByRecursion (LiesIn n) ps) (sym (patched_long p bytes inside)) h

-- windows don't change how many bytes there are
pub filled_long : (ps : List Patch) (bytes : List ℕ) → AllByRecursion (LiesIn (length bytes)) ps → length (filled ps bytes) ≡ length bytes
filled_long [] bytes h = refl
filled_long (p ∷ ps) bytes h = filled_long ps (patched p bytes) (patched_lie_in p ps bytes h.0 h.1) ∙ patched_long p bytes h.0

-- windows are written one after another
pub filled_append : (ps qs : List Patch) (bytes : List ℕ) → filled (ps ++ qs) bytes ≡ filled qs (filled ps bytes)
filled_append [] qs bytes = refl
filled_append (p ∷ ps) qs bytes = filled_append ps qs (patched p bytes)

-- windows before other bytes leave these as they are
pub filled_before : (ps : List Patch) (bytes rest : List ℕ) → AllByRecursion (LiesIn (length bytes)) ps → filled ps (bytes ++ rest) ≡ filled ps bytes ++ rest
filled_before [] bytes rest h = refl
filled_before (p ∷ ps) bytes rest h =
    let inside : p.place + length (spelled p.form p.value) ≤ length bytes = omega (arith, h.0, spelled_size p.form p.value) in
    ap (filled ps) (over_before bytes rest (spelled p.form p.value) p.place inside) ∙ filled_before ps (patched p bytes) rest (patched_lie_in p ps bytes h.0 h.1)

-- and so do windows behind them
pub filled_behind : (ps : List Patch) (front bytes : List ℕ) → filled (map (moved (length front)) ps) (front ++ bytes) ≡ front ++ filled ps bytes
filled_behind [] front bytes = refl
filled_behind (p ∷ ps) front bytes = ap (filled (map (moved (length front)) ps)) (over_behind front bytes (spelled p.form p.value) p.place) ∙ filled_behind ps front (patched p bytes)

-- windows of the middle one of three parts
pub filled_within : (front bytes rest : List ℕ) (ps : List Patch) → AllByRecursion (LiesIn (length bytes)) ps
    → filled (map (moved (length front)) ps) (front ++ bytes ++ rest) ≡ front ++ filled ps bytes ++ rest
filled_within front bytes rest ps h =
    ap (filled (map (moved (length front)) ps)) (append_assoc front bytes rest)
    ∙ (filled_behind ps front (bytes ++ rest) ∙ (ap (λ zs. front ++ zs) (filled_before ps bytes rest h) ∙ sym (append_assoc front (filled ps bytes) rest)))

-- the windows of two parts that stand side by side
pub filled_both : (ps qs : List Patch) (xs ys : List ℕ) → AllByRecursion (LiesIn (length xs)) ps
    → filled (ps ++ map (moved (length xs)) qs) (xs ++ ys) ≡ filled ps xs ++ filled qs ys
filled_both ps qs xs ys h =
    filled_append ps (map (moved (length xs)) qs) (xs ++ ys) ∙ (ap (filled (map (moved (length xs)) qs)) (filled_before ps xs ys h)
    ∙ subst (λ n. filled (map (moved n) qs) (filled ps xs ++ ys) ≡ filled ps xs ++ filled qs ys) (filled_long ps xs h) (filled_behind qs (filled ps xs) ys))

-- the same, where each of them lies in the bytes
pub within_all : (front bytes rest : List ℕ) (ps : List Patch) → All (LiesIn (length bytes)) ps
    → filled (map (moved (length front)) ps) (front ++ bytes ++ rest) ≡ front ++ filled ps bytes ++ rest
within_all front bytes rest ps h = filled_within front bytes rest ps (recursion_from_All (LiesIn (length bytes)) ps h)

pub both_all : (ps qs : List Patch) (xs ys : List ℕ) → All (LiesIn (length xs)) ps
    → filled (ps ++ map (moved (length xs)) qs) (xs ++ ys) ≡ filled ps xs ++ filled qs ys
both_all ps qs xs ys h = filled_both ps qs xs ys (recursion_from_All (LiesIn (length xs)) ps h)

pub long_all : (ps : List Patch) (bytes : List ℕ) → All (LiesIn (length bytes)) ps → length (filled ps bytes) ≡ length bytes
long_all ps bytes h = filled_long ps bytes (recursion_from_All (LiesIn (length bytes)) ps h)

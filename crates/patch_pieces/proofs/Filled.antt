-- Windows that are filled piece by piece.
use Rattle.std.proofs.Common.{◌≡◌, ℕ, ◌+◌, ◌≤◌, List, [], ◌∷◌, ◌++◌, length, drop, drop-cons, add-one, get_or, slice_get, Some, zero, suc, refl, sym, ap, subst, ◌∙◌, arith}
use Rattle.std.proofs.lemmas.Option.{slice_get_within, get_or_from_slice_get}
use Rattle.reloc_apply.specs.declared.window.Patch.{Patch}
use Rattle.reloc_apply.specs.declared.window.Patches.{Patches}
use Rattle.reloc_apply.specs.Windows.{filled}
use Rattle.reloc_apply.specs.Apart.{AreApart, size_of}
use Rattle.reloc_apply.proofs.Apart.{apart_le, apart_low, lie_in_all}
use Rattle.reloc_apply.proofs.Over.{filled_append, long_all}
use Rattle.patch_pieces.specs.Pieces.{all_patches}

-- windows that lie apart do so without those behind them, and without those before them
pub front_apart : (at end : ℕ) (ps qs : List Patch) → AreApart at end (ps ++ qs) → AreApart at end ps
front_apart at end [] qs h = apart_le at end qs h
front_apart at end (p ∷ ps) qs h = (h.0, front_apart (p.place + size_of p.form) end ps qs h.1)

pub rest_apart : (at end : ℕ) (ps qs : List Patch) → AreApart at end (ps ++ qs) → AreApart at end qs
rest_apart at end [] qs h = h
rest_apart at end (p ∷ ps) qs h = apart_low at (p.place + size_of p.form) end qs (omega (arith, h.0)) (rest_apart (p.place + size_of p.form) end ps qs h.1)

-- one piece more
pub taken_off : (pieces : List Patches) (i : ℕ) (piece : Patches) → slice_get pieces i ≡ Some piece
    → all_patches (drop i pieces) ≡ piece.patches ++ all_patches (drop (i + 1) pieces)
taken_off pieces i piece at =
    ap all_patches (drop-cons pieces i piece (slice_get_within pieces i piece at))
    ∙ ap (λ (k : ℕ). (get_or pieces i piece).patches ++ all_patches (drop k pieces)) (sym (add-one i))
    ∙ ap (λ (p : Patches). p.patches ++ all_patches (drop (i + 1) pieces)) (get_or_from_slice_get pieces i piece piece at)

none_left : (pieces : List Patches) (n : ℕ) → length pieces ≤ n → drop n pieces ≡ []
none_left [] zero past = refl
none_left [] (suc n) past = refl
none_left (p ∷ pieces) zero past = absurd (omega (arith, past))
none_left (p ∷ pieces) (suc n) past = none_left pieces n (omega (arith, past))

-- What is left is apart in the bytes that are there, and filling it gives what filling all gives.
pub record AreLeft (pieces : List Patches) (i : ℕ) (bytes all : List ℕ) : Type 0 where
  pub apart : AreApart 0 (length bytes) (all_patches (drop i pieces))
  pub is : filled (all_patches (drop i pieces)) bytes ≡ all

pub piece_apart : (pieces : List Patches) (i : ℕ) (piece : Patches) (bytes all : List ℕ) → slice_get pieces i ≡ Some piece → AreLeft pieces i bytes all
    → AreApart 0 (length bytes) piece.patches
piece_apart pieces i piece bytes all at left =
    front_apart 0 (length bytes) piece.patches (all_patches (drop (i + 1) pieces)) (subst (AreApart 0 (length bytes)) (taken_off pieces i piece at) left.apart)

pub piece_filled : (pieces : List Patches) (i : ℕ) (piece : Patches) (bytes new all : List ℕ) → slice_get pieces i ≡ Some piece → AreLeft pieces i bytes all
    → new ≡ filled piece.patches bytes → AreLeft pieces (i + 1) new all
piece_filled pieces i piece bytes new all at left is =
    let rest = all_patches (drop (i + 1) pieces) in
    let off = taken_off pieces i piece at in
    let both : AreApart 0 (length bytes) (piece.patches ++ rest) = subst (AreApart 0 (length bytes)) off left.apart in
    let long : length new ≡ length bytes =
    ap length is ∙ long_all piece.patches bytes (lie_in_all 0 (length bytes) piece.patches (front_apart 0 (length bytes) piece.patches rest both)) in
    record {
      apart = subst (λ n. AreApart 0 n rest) (sym long) (rest_apart 0 (length bytes) piece.patches rest both);
      is = ap (filled rest) is ∙ sym (filled_append piece.patches rest bytes) ∙ sym (ap (λ ps. filled ps bytes) off) ∙ left.is;
    }

pub all_filled : (pieces : List Patches) (n : ℕ) (bytes all : List ℕ) → length pieces ≤ n → AreLeft pieces n bytes all → bytes ≡ all
all_filled pieces n bytes all past left = sym (ap (λ ps. filled (all_patches ps) bytes) (none_left pieces n past)) ∙ left.is

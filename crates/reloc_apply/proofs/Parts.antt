-- The parts of an output are filled.
use Rattle.std.proofs.Common.{◌≡◌, ℕ, zero, suc, ◌+◌, ◌-◌, ◌/◌, ◌<◌, ◌≤◌, min, List, [], ◌∷◌, ◌++◌, length, take, drop, map, arith, sym, ap, ◌∙◌, subst}
use Rattle.std.specs.Prelude.{slice_range, slice_index_or}
use Rattle.std.specs.List.{AllByRecursion}
use Rattle.std.proofs.Math.Nat.{div-add-mod, mod-lt, mul-le-mul_right}
use Rattle.std.proofs.Math.Seq.{take-add, take-length, drop-length}
use Rattle.std.proofs.lemmas.List.{drop-drop}
use Rattle.wl_fan.specs.Slices.{Works}
use Rattle.wl_fan.proofs.Whole.{whole}
use Rattle.reloc_apply.specs.declared.window.Patch.{Patch}
use Rattle.reloc_apply.specs.Apart.{AreApart, LiesIn, size_of, moved, from_here}
use Rattle.reloc_apply.specs.Parts.{begins, place_or, first_of, windows_before, windows_in}
use Rattle.reloc_apply.specs.PartLaws.{begins_later, begins_rises, first_rises}
use Rattle.reloc_apply.specs.Windows.{filled, over, spelled}
use Rattle.reloc_apply.proofs.Apart.{apart_from, apart_low, apart_lie_in, apart_end, apart_rest, range_apart, next_is, here_append, here_none, here_moved}
use Rattle.reloc_apply.proofs.Over.{filled_both}

-- no window, and one and those behind it
pub range_none : (ps : List Patch) (i : ℕ) → slice_range ps i i ≡ []
range_none ps i = let none : i - i ≡ 0 = omega arith in ap (λ (n : ℕ). take n (drop i ps)) none

pub range_next : (ps : List Patch) (i j : ℕ) (none : Patch) → i < j → j ≤ length ps → slice_range ps i j ≡ slice_index_or ps i none ∷ slice_range ps (i + 1) j
range_next ps i j none lt le =
    let count : j - i ≡ suc (j - (i + 1)) = omega (arith, lt) in
    ap (λ (n : ℕ). take n (drop i ps)) count ∙ ap (take (suc (j - (i + 1)))) (next_is ps i none (omega (arith, lt, le)))

pub range_append : (ps : List Patch) (i j k : ℕ) → i ≤ j → j ≤ k → slice_range ps i k ≡ slice_range ps i j ++ slice_range ps j k
range_append ps i j k a b =
    let count : k - i ≡ j - i + (k - j) = omega (arith, a, b) in
    let place : i + (j - i) ≡ j = omega (arith, a) in
    ap (λ (n : ℕ). take n (drop i ps)) count ∙ (take-add (j - i) (k - j) (drop i ps)
    ∙ ap (λ rest. take (j - i) (drop i ps) ++ take (k - j) rest) (drop-drop (j - i) i ps ∙ ap (λ (n : ℕ). drop n ps) place))

pub range_all : (ps : List Patch) → slice_range ps 0 (length ps) ≡ ps
range_all ps = let all : length ps - 0 ≡ length ps = omega arith in ap (λ (n : ℕ). take n ps) all ∙ take-length ps

-- the first k parts have no more than all windows, and all parts have all of them
pub before_low : (count parts k : ℕ) → k ≤ parts → windows_before count parts k ≤ count
before_low count parts k le = omega (arith, div-add-mod count parts, mul-le-mul_right {m = k} {n = parts} (count / parts) le)

pub first_low : (count parts k : ℕ) → first_of count parts k ≤ count
first_low count parts k = before_low count parts (min k parts) (omega arith)

-- all windows are in all parts
first_all : (count parts : ℕ) → 1 ≤ parts → first_of count parts parts ≡ count
first_all count parts some =
    let same : min parts parts ≡ parts = omega arith in
    ap (λ (k : ℕ). windows_before count parts k) same ∙ omega (arith, some, div-add-mod count parts, mod-lt count some)

-- the windows of some parts lie between where these begin and end
pub part_apart : (ps : List Patch) (end parts p q : ℕ) → AreApart 0 end ps → p ≤ q → AreApart (begins ps end parts p) (begins ps end parts q) (windows_in ps parts p q)
part_apart ps end parts zero zero h le =
    let none : windows_in ps parts zero zero ≡ [] = range_none ps (first_of (length ps) parts zero) in
    subst (AreApart 0 0) (sym none) (omega arith)
part_apart ps end parts zero (suc q) h le =
    let i : ℕ = first_of (length ps) parts zero in
    let j : ℕ = first_of (length ps) parts (suc q) in
    subst (λ e. AreApart 0 e (windows_in ps parts zero (suc q))) (sym (begins_later ps end parts (suc q) (omega arith)))
    (apart_low 0 (place_or end (drop i ps)) (place_or end (drop j ps)) (windows_in ps parts zero (suc q)) (omega arith) (range_apart 0 end ps i j (first_rises (length ps) parts zero (suc q) le) h))
part_apart ps end parts (suc p) q h le =
    let i : ℕ = first_of (length ps) parts (suc p) in
    let j : ℕ = first_of (length ps) parts q in
    subst (λ b. AreApart b (begins ps end parts q) (windows_in ps parts (suc p) q)) (sym (begins_later ps end parts (suc p) (omega arith)))
    (subst (λ e. AreApart (place_or end (drop i ps)) e (windows_in ps parts (suc p) q)) (sym (begins_later ps end parts q (omega (arith, le)))) (range_apart 0 end ps i j (first_rises (length ps) parts (suc p) q le) h))

-- the windows of a part, in bytes of its length
pub part_begun : (ps : List Patch) (end parts part start i j : ℕ) (bytes : List ℕ) → AreApart 0 end ps
    → start ≡ begins ps end parts part → i ≡ first_of (length ps) parts part → j ≡ first_of (length ps) parts (part + 1)
    → length bytes ≡ begins ps end parts (part + 1) - begins ps end parts part → AreApart start (start + length bytes) (slice_range ps i j)
part_begun ps end parts part start i j bytes h start_is i_is j_is long =
    let sum : begins ps end parts (part + 1) ≡ start + length bytes = omega (arith, start_is, long, begins_rises ps end parts part (part + 1) h (omega arith)) in
    let at : (n m : ℕ) → n ≡ begins ps end parts part → m ≡ begins ps end parts (part + 1) → AreApart n m (windows_in ps parts part (part + 1)) = λ n m n_is m_is.
    subst (λ k. AreApart k m (windows_in ps parts part (part + 1))) (sym n_is) (subst (λ k. AreApart (begins ps end parts part) k (windows_in ps parts part (part + 1))) (sym m_is) (part_apart ps end parts part (part + 1) h (omega arith))) in
    subst (λ k. AreApart start (start + length bytes) (slice_range ps k j)) (sym i_is)
    (subst (λ k. AreApart start (start + length bytes) (slice_range ps (first_of (length ps) parts part) k)) (sym j_is) (at start (start + length bytes) start_is (sym sum)))

-- the windows from i on, up to j: the next one lies where it may be written, and those behind it as before
module _ (ps : List Patch) (start : ℕ) (bytes : List ℕ) (i j : ℕ) (none : Patch) (lt : i < j) (le : j ≤ length ps)
    (apart : AreApart start (start + length bytes) (slice_range ps i j)) where
  parted : AreApart start (start + length bytes) (slice_index_or ps i none ∷ slice_range ps (i + 1) j)
  parted = subst (AreApart start (start + length bytes)) (range_next ps i j none lt le) apart

  pub next_low : start ≤ (slice_index_or ps i none).place
  next_low = parted.0

  pub next_high : (slice_index_or ps i none).place - start + size_of (slice_index_or ps i none).form ≤ length bytes
  next_high = omega (arith, parted.0, apart_end start (start + length bytes) (slice_index_or ps i none) (slice_range ps (i + 1) j) parted)

  pub next_apart : (new : List ℕ) → length new ≡ length bytes → AreApart start (start + length new) (slice_range ps (i + 1) j)
  next_apart new same = subst (λ n. AreApart start (start + n) (slice_range ps (i + 1) j)) (sym same) (apart_rest start (start + length bytes) (slice_index_or ps i none) (slice_range ps (i + 1) j) parted)

  pub next_filled : (all new : List ℕ) → new ≡ over ((slice_index_or ps i none).place - start) (spelled (slice_index_or ps i none).form (slice_index_or ps i none).value) bytes
      → filled (from_here start (slice_range ps i j)) bytes ≡ all → filled (from_here start (slice_range ps (i + 1) j)) new ≡ all
  next_filled all new is told = ap (filled (from_here start (slice_range ps (i + 1) j))) is ∙ (sym (ap (λ zs. filled (from_here start zs) bytes) (range_next ps i j none lt le)) ∙ told)

-- All parts together. Where each one's windows were written in its bytes, all windows were written in all bytes
module _ (ps : List Patch) (end parts : ℕ) (some : 1 ≤ parts) (h : AreApart 0 end ps) where
  abbrev at : ℕ → ℕ
  at k = begins ps end parts k

  abbrev windows : ℕ → ℕ → List Patch
  windows p q = windows_in ps parts p q

  abbrev Worked : ℕ → List ℕ → List ℕ → Type 0
  Worked k old new = new ≡ filled (from_here (at k) (windows k (k + 1))) old

  abbrev Filled : ℕ → ℕ → List ℕ → List ℕ → Type 0
  Filled p q old new = (p ≤ q) × (new ≡ filled (from_here (at p) (windows p q)) old)

  windows_append : (p q r : ℕ) → p ≤ q → q ≤ r → windows p r ≡ windows p q ++ windows q r
  windows_append p q r a b = range_append ps (first_of (length ps) parts p) (first_of (length ps) parts q) (first_of (length ps) parts r) (first_rises (length ps) parts p q a) (first_rises (length ps) parts q r b)

  -- the windows of the second run, by their places in the first one's bytes
  behind : (p q r : ℕ) (xs : List ℕ) → p ≤ q → q ≤ r → length xs ≡ at q - at p → from_here (at p) (windows q r) ≡ map (moved (length xs)) (from_here (at q) (windows q r))
  behind p q r xs a b long =
      let rises = begins_rises ps end parts p q h a in
      here_moved (at p) (at q) (at r) (length xs) (windows q r) (omega (arith, long, rises)) (part_apart ps end parts q r h b)

  both : (p q r : ℕ) (xs xs' ys ys' : List ℕ) → length xs ≡ at q - at p → length ys ≡ at r - at q → Filled p q xs xs' → Filled q r ys ys' → Filled p r (xs ++ ys) (xs' ++ ys')
  both p q r xs xs' ys ys' long long' (a, f) (b, g) =
      let inside = apart_lie_in (at p - at p) (at q - at p) (from_here (at p) (windows p q)) (apart_from (at p) (at p) (at q) (windows p q) (omega arith) (part_apart ps end parts p q h a)) in
      let inside' : AllByRecursion (LiesIn (length xs)) (from_here (at p) (windows p q)) = subst (λ n. AllByRecursion (LiesIn n) (from_here (at p) (windows p q))) (sym long) inside in
      let split : from_here (at p) (windows p r) ≡ from_here (at p) (windows p q) ++ map (moved (length xs)) (from_here (at q) (windows q r)) =
      ap (from_here (at p)) (windows_append p q r a b) ∙ (here_append (at p) (windows p q) (windows q r) ∙ ap (λ zs. from_here (at p) (windows p q) ++ zs) (behind p q r xs a b long)) in (
        omega (arith, a, b),
        ap (λ zs. zs ++ ys') f ∙ (ap (λ zs. filled (from_here (at p) (windows p q)) xs ++ zs) g
            ∙ sym (ap (λ zs. filled zs (xs ++ ys)) split ∙ filled_both (from_here (at p) (windows p q)) (from_here (at q) (windows q r)) xs ys inside')),
      )

  -- the windows of all parts are all windows
  windows_all : from_here (at 0) (windows 0 parts) ≡ ps
  windows_all =
      let none : min 0 parts ≡ 0 = omega arith in
      let low : first_of (length ps) parts 0 ≡ 0 = ap (λ (k : ℕ). windows_before (length ps) parts k) none ∙ omega arith in
      let high = first_all (length ps) parts some in
      ap (λ (i : ℕ). from_here 0 (slice_range ps i (first_of (length ps) parts parts))) low
      ∙ (ap (λ (j : ℕ). from_here 0 (slice_range ps 0 j)) high
      ∙ (ap (from_here 0) (range_all ps) ∙ here_none ps))

  ends : at parts ≡ end
  ends = begins_later ps end parts parts some ∙ (ap (λ (i : ℕ). place_or end (drop i ps)) (first_all (length ps) parts some) ∙ ap (place_or end) (drop-length ps))

  pub all_filled : (old new : List ℕ) → length old ≡ end → length new ≡ length old → Works Worked at 0 parts old new → new ≡ filled ps old
  all_filled old new long same works =
      let width : ℕ = parts - 1 in
      let count : width + 1 ≡ parts = omega (arith, some) in
      let sum : 0 + (width + 1) ≡ parts = omega (arith, some) in
      let long' : length old ≡ at (0 + (width + 1)) - at 0 = omega (arith, long, ends, ap at sum) in
      let rises : (p q : ℕ) → p ≤ q → q ≤ 0 + (width + 1) → at p ≤ at q = λ p q le top. begins_rises ps end parts p q h le in
      let one : (k : ℕ) (xs ys : List ℕ) → Worked k xs ys → Filled k (k + 1) xs ys = λ k xs ys e. (omega arith, e) in
      let done = whole at Worked Filled one both 0 width rises old new long' same (subst (λ n. Works Worked at 0 n old new) (sym count) works) in
      (subst (λ n. Filled 0 n old new) sum done).1 ∙ ap (λ zs. filled zs old) windows_all

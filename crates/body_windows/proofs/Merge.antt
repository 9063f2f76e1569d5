-- One pass over immediates and relocations gives what looking up gives, where the places of both
-- rise.
use Rattle.std.proofs.Common.{◌≡◌, ℕ, suc, ◌+◌, ◌<◌, ◌≤◌, ◌∙◌, Bool, true, false, cond, List, [], ◌∷◌, ◌++◌, refl, sym, ap, append_assoc, arith, Option, Some, None, Result, Err}
use Rattle.std.specs.Prelude.{map, ◌&&◌, nat_le, nat_lt}
use Rattle.std.specs.List.{list_any}
use Rattle.std.proofs.lemmas.Bool.{eqb-true, ne_eqb, eq-eqb, leb-true, leb-false, ltb-false}
use Rattle.std.proofs.lemmas.List.{append-nil}
use Rattle.wasm_instr.specs.wl_base.Choice.{first_some, unless}
use Rattle.reloc_section.specs.declared.entry.Reloc.{Reloc}
use Rattle.body_windows.specs.declared.operand.Operand.{Operand}
use Rattle.body_windows.specs.declared.fault.Mismatch.{Mismatch}
use Rattle.body_windows.specs.declared.fault.Mismatch.TheVariants.{Overlap, OffImmediate, BareIndex}
use Rattle.body_windows.specs.declared.immediate.Immediate.{Immediate}
use Rattle.body_windows.specs.Immediates.{AreInOrder, needs_window, plain_operand, fills, operand_of}
use Rattle.body_windows.specs.Windows.{overlaps_behind, least_with, least_from, least_overlap, operands_at, reloc_at, operand_by, operand_at, first_off, is_bare, first_bare, fault_with}
use Rattle.body_windows.specs.Merging.{State, bare_with, left_bare, met, offered_to, offered, offered_all, off_at_last, finished}

-- offsets rise, from this place on
abbrev pub Rising : ℕ → List Reloc → Type 0
Rising from [] = Unit {0}
Rising from (r ∷ rs) = (from ≤ r.offset) × Rising (suc r.offset) rs

-- places rise, from this place on
abbrev pub RisingPlaces : ℕ → List Immediate → Type 0
RisingPlaces from [] = Unit {0}
RisingPlaces from (i ∷ is) = (from ≤ i.place) × RisingPlaces (suc i.place) is

-- ---- what stands behind isn't met

-- no window begins before the first
not_filled : (base from : ℕ) (r : Reloc) (i : Immediate) → (base + i.place < r.offset) → fills base r i ≡ false
not_filled base from r i lt = rw (ne_eqb (base + i.place) r.offset (omega arith)) refl

not_filled_above : (base : ℕ) (r : Reloc) (i : Immediate) → (r.offset < base + i.place) → fills base r i ≡ false
not_filled_above base r i lt = rw (ne_eqb (base + i.place) r.offset (omega arith)) refl

-- no immediate stands on a window before the first of them
none_before : (base from : ℕ) (r : Reloc) (is : List Immediate) → RisingPlaces from is → r.offset < base + from → list_any (fills base r) is ≡ false
none_before base from r [] rising lt = refl
none_before base from r (i ∷ is) rising lt =
    rw (not_filled_above base r i (omega (arith, rising.0)), none_before base (suc i.place) r is rising.1 (omega (arith, rising.0))) refl

-- no relocation stands before the first of them
none_at : (offset from : ℕ) (rs : List Reloc) → Rising from rs → offset < from → reloc_at offset rs ≡ None
none_at offset from [] rising lt = refl
none_at offset from (r ∷ rs) rising lt =
    rw (ne_eqb r.offset offset (omega (arith, rising.0)), none_at offset (suc r.offset) rs rising.1 (omega (arith, rising.0))) refl

-- an immediate before all windows fills none of them
same_off : (base from : ℕ) (i : Immediate) (is : List Immediate) (rs : List Reloc) → Rising from rs → base + i.place < from → first_off base (i ∷ is) rs ≡ first_off base is rs
same_off base from i is [] rising lt = refl
same_off base from i is (r ∷ rs) rising lt =
    rw (not_filled base from r i (omega (arith, rising.0)), same_off base (suc r.offset) i is rs rising.1 (omega (arith, rising.0))) refl

-- a relocation before all of these immediates is looked up for none of them
same_operands : (base from : ℕ) (r : Reloc) (rs : List Reloc) (is : List Immediate) → RisingPlaces from is → r.offset < base + from → map (operand_at base (r ∷ rs)) is ≡ map (operand_at base rs) is
same_operands base from r rs [] rising lt = refl
same_operands base from r rs (i ∷ is) rising lt =
    rw (ne_eqb r.offset (base + i.place) (omega (arith, rising.0)), same_operands base (suc i.place) r rs is rising.1 (omega (arith, rising.0))) refl

same_bare : (base from : ℕ) (r : Reloc) (rs : List Reloc) (is : List Immediate) → RisingPlaces from is → r.offset < base + from → first_bare base (r ∷ rs) is ≡ first_bare base rs is
same_bare base from r rs [] rising lt = refl
same_bare base from r rs (i ∷ is) rising lt =
    rw (ne_eqb r.offset (base + i.place) (omega (arith, rising.0)), same_bare base (suc i.place) r rs is rising.1 (omega (arith, rising.0))) refl

-- ---- what is known, and the rest by looking up

abbrev or_else : {A : Type 0} → Option A → Option A → Option A
or_else (Some x) other = Some x
or_else None other = other

abbrev judged : Option ℕ → Option ℕ → List Operand → Result (List Operand) Mismatch
judged off bare operands = unless (first_some (fault_with OffImmediate off ∷ fault_with BareIndex bare ∷ [])) operands

abbrev pub rest_of : State → List Immediate → Result (List Operand) Mismatch
rest_of s is =
    judged (or_else s.off (first_off s.base is s.left)) (or_else s.bare (first_bare s.base s.left is)) (s.operands ++ map (operand_at s.base s.left) is)

judged_same : {off off' bare bare' : Option ℕ} {operands operands' : List Operand} → off ≡ off' → bare ≡ bare' → operands ≡ operands' → judged off bare operands ≡ judged off' bare' operands'
judged_same e f g = rw (e, f, g) refl

bare_same : (bare : Option ℕ) (base : ℕ) (i : Immediate) (later : Option ℕ) → or_else bare (cond (needs_window i.kind) (Some (base + i.place)) later) ≡ or_else (bare_with bare base i) later
bare_same (Some place) base i later = refl
bare_same None base i later = by_case (needs_window i.kind)
  where
    by_case : (q : Bool) → cond q (Some (base + i.place)) later ≡ or_else (cond q (Some (base + i.place)) None) later
    by_case true = refl
    by_case false = refl

-- an immediate without a relocation
left_step : (s : State) (i : Immediate) (is : List Immediate) → reloc_at (s.base + i.place) s.left ≡ None → first_off s.base (i ∷ is) s.left ≡ first_off s.base is s.left
    → rest_of s (i ∷ is) ≡ rest_of (left_bare s i) is
left_step s i is none same =
    judged_same (ap (or_else s.off) same)
    (ap (λ (found : Option Reloc). or_else s.bare (cond (is_bare i found) (Some (s.base + i.place)) (first_bare s.base s.left is))) none
    ∙ bare_same s.bare s.base i (first_bare s.base s.left is))
    (ap (λ (found : Option Reloc). s.operands ++ (operand_by i found ∷ map (operand_at s.base s.left) is)) none
    ∙ sym (append_assoc s.operands (plain_operand i.kind ∷ []) (map (operand_at s.base s.left) is)))

-- where a window is off, that is all
off_is : (s : State) (is : List Immediate) (place : ℕ) → or_else s.off (first_off s.base is s.left) ≡ Some place → rest_of s is ≡ Err (OffImmediate place)
off_is s is place e = rw e refl

first_true : (a b c : Bool) → (a && b) && c ≡ true → a ≡ true
first_true true b c e = refl
first_true false b c e = e

-- an immediate that is the window of the next relocation
met_step : (s : State) (i : Immediate) (is : List Immediate) (r : Reloc) (rs : List Reloc) → s.left ≡ r ∷ rs → Rising (suc r.offset) rs → RisingPlaces (suc i.place) is → fills s.base r i ≡ true
    → rest_of s (i ∷ is) ≡ rest_of (record s { left = rs; operands = s.operands ++ operand_of i r ∷ [] }) is
met_step s i is r rs f rising places q =
    let here : s.base + i.place ≡ r.offset = eqb-true (s.base + i.place) r.offset (first_true _ _ _ q) in
    let found : reloc_at (s.base + i.place) s.left ≡ Some r = ap (reloc_at (s.base + i.place)) f ∙ (rw (eq-eqb r.offset (s.base + i.place) (sym here)) refl) in
    let off : first_off s.base (i ∷ is) s.left ≡ first_off s.base is rs =
    ap (first_off s.base (i ∷ is)) f ∙ (rw q (same_off s.base (suc r.offset) i is rs rising (omega (arith, here)))) in
    let bare : first_bare s.base s.left is ≡ first_bare s.base rs is =
    ap (λ (left : List Reloc). first_bare s.base left is) f ∙ same_bare s.base (suc i.place) r rs is places (omega (arith, here)) in
    let others : map (operand_at s.base s.left) is ≡ map (operand_at s.base rs) is =
    ap (λ (left : List Reloc). map (operand_at s.base left) is) f ∙ same_operands s.base (suc i.place) r rs is places (omega (arith, here)) in
    judged_same (ap (or_else s.off) off)
    (ap (λ (found : Option Reloc). or_else s.bare (cond (is_bare i found) (Some (s.base + i.place)) (first_bare s.base s.left is))) found ∙ ap (or_else s.bare) bare)
    (ap (λ (found : Option Reloc). s.operands ++ (operand_by i found ∷ map (operand_at s.base s.left) is)) found
    ∙ ap (λ (xs : List Operand). s.operands ++ (operand_of i r ∷ xs)) others
    ∙ sym (append_assoc s.operands (operand_of i r ∷ []) (map (operand_at s.base rs) is)))

-- a window that is no immediate of its kind
off_step : (s : State) (i : Immediate) (is : List Immediate) (r : Reloc) (rs : List Reloc) → s.off ≡ None → s.left ≡ r ∷ rs → RisingPlaces (suc i.place) is → r.offset ≤ s.base + i.place → fills s.base r i ≡ false
    → rest_of s (i ∷ is) ≡ rest_of (record s { off = Some r.offset }) is
off_step s i is r rs e f places le q =
    let off : first_off s.base (i ∷ is) s.left ≡ Some r.offset =
    ap (first_off s.base (i ∷ is)) f ∙ (rw (q, none_before s.base (suc i.place) r is places (omega (arith, le))) refl) in
    off_is s (i ∷ is) r.offset (ap (λ (o : Option ℕ). or_else o (first_off s.base (i ∷ is) s.left)) e ∙ off)
    ∙ sym (off_is (record s { off = Some r.offset }) is r.offset refl)

offered_step : (s : State) (i : Immediate) (is : List Immediate) (off : Option ℕ) (left : List Reloc) (from : ℕ) → s.off ≡ off → s.left ≡ left → Rising from left → RisingPlaces (suc i.place) is
    → rest_of s (i ∷ is) ≡ rest_of (offered_to s i off left) is
offered_step s i is (Some place) left from e f rising places =
    off_is s (i ∷ is) place (ap (λ (o : Option ℕ). or_else o (first_off s.base (i ∷ is) s.left)) e)
    ∙ sym (off_is s is place (ap (λ (o : Option ℕ). or_else o (first_off s.base is s.left)) e))
offered_step s i is None [] from e f rising places =
    left_step s i is (ap (reloc_at (s.base + i.place)) f) (ap (first_off s.base (i ∷ is)) f ∙ sym (ap (first_off s.base is) f))
offered_step s i is None (r ∷ rs) from e f rising places = by_place (nat_le r.offset (s.base + i.place)) refl
  where
    by_fill : (q : Bool) → fills s.base r i ≡ q → r.offset ≤ s.base + i.place → rest_of s (i ∷ is) ≡ rest_of (cond q (record s { left = rs; operands = s.operands ++ operand_of i r ∷ [] }) (record s { off = Some r.offset })) is
    by_fill true q le = met_step s i is r rs f rising.1 places q
    by_fill false q le = off_step s i is r rs e f places le q

    by_place : (q : Bool) → nat_le r.offset (s.base + i.place) ≡ q → rest_of s (i ∷ is) ≡ rest_of (cond q (met s i r rs) (left_bare s i)) is
    by_place true q = by_fill (fills s.base r i) refl (leb-true r.offset (s.base + i.place) q)
    by_place false q =
        let lt : s.base + i.place < r.offset = omega (arith, leb-false r.offset (s.base + i.place) q) in
        let here : Rising r.offset (r ∷ rs) = (omega arith, rising.1) in
        left_step s i is
        (ap (reloc_at (s.base + i.place)) f ∙ none_at (s.base + i.place) r.offset (r ∷ rs) here lt)
        (ap (first_off s.base (i ∷ is)) f ∙ same_off s.base r.offset i is (r ∷ rs) here lt ∙ sym (ap (first_off s.base is) f))

-- offsets still rise behind a step
still_rising : (s : State) (i : Immediate) (off : Option ℕ) (left : List Reloc) (from : ℕ) → s.left ≡ left → Rising from left → (next : ℕ) × Rising next (offered_to s i off left).left
still_rising s i (Some place) left from f rising = (from, rw f rising)
still_rising s i None [] from f rising = (from, rw f rising)
still_rising s i None (r ∷ rs) from f rising = by_place (nat_le r.offset (s.base + i.place))
  where
    all : Rising from s.left
    all = rw f rising

    by_fill : (q : Bool) → (next : ℕ) × Rising next (cond q (record s { left = rs; operands = s.operands ++ operand_of i r ∷ [] }) (record s { off = Some r.offset })).left
    by_fill true = (suc r.offset, rising.1)
    by_fill false = (from, all)

    by_place : (q : Bool) → (next : ℕ) × Rising next (cond q (met s i r rs) (left_bare s i)).left
    by_place true = by_fill (fills s.base r i)
    by_place false = (from, all)

-- the merge
pub merged : (s : State) (is : List Immediate) (from at : ℕ) → Rising from s.left → RisingPlaces at is → rest_of s is ≡ rest_of (offered_all s is) []
merged s [] from at rising places = refl
merged s (i ∷ is) from at rising places =
    let next = still_rising s i s.off s.left from refl rising in
    offered_step s i is s.off s.left from refl refl rising places.1 ∙ merged (offered s i) is next.0 (suc i.place) next.1 places.1

-- ---- where offsets rise, and places

rising_less : (a b : ℕ) (rs : List Reloc) → a ≤ b → Rising b rs → Rising a rs
rising_less a b [] le rising = tt
rising_less a b (r ∷ rs) le rising = (omega (arith, rising.0), rising.1)

least_there : (n : ℕ) (ns : List ℕ) → (m : ℕ) × (least_from (Some n) ns ≡ Some m)
least_there n [] = (n, refl)
least_there n (k ∷ ns) = least_there (least_with k (Some n)) ns

-- where no window overlaps, offsets rise
no_overlap : (end : ℕ) (rs : List Reloc) → least_from None (overlaps_behind end rs) ≡ None → Rising end rs
no_overlap end [] e = tt
no_overlap end (r ∷ rs) e = by_test (nat_lt r.offset end) refl e (no_overlap (r.offset + 5) rs)
  where
    later : List ℕ
    later = overlaps_behind (r.offset + 5) rs

    by_test : (q : Bool) → nat_lt r.offset end ≡ q → least_from None (cond q (r.offset ∷ later) later) ≡ None → (least_from None later ≡ None → Rising (r.offset + 5) rs) → Rising end (r ∷ rs)
    by_test true q none rest = let there = least_there r.offset later in absurd cc
    by_test false q none rest = (ltb-false r.offset end q, rising_less (suc r.offset) (r.offset + 5) rs (omega arith) (rest none))

places_less : (a b : ℕ) (is : List Immediate) → a ≤ b → RisingPlaces b is → RisingPlaces a is
places_less a b [] le rising = tt
places_less a b (i ∷ is) le rising = (omega (arith, rising.0), rising.1)

places_rise : (from end : ℕ) (is : List Immediate) → AreInOrder from end is → RisingPlaces from is
places_rise from end [] order = tt
places_rise from end (i ∷ is) order =
    (order.0, places_less (suc i.place) (i.place + i.len) is (omega (arith, order.1)) (places_rise (i.place + i.len) end is order.2))

-- ---- the whole pass

abbrev pub start : ℕ → List Reloc → State
start base relocs = record { base = base; left = relocs; operands = []; off = None; bare = None }

last_off : (base : ℕ) (off : Option ℕ) (left : List Reloc) → off_at_last off left ≡ or_else off (first_off base [] left)
last_off base (Some place) left = refl
last_off base None [] = refl
last_off base None (r ∷ rs) = refl

or_none : (o : Option ℕ) → o ≡ or_else o None
or_none (Some x) = refl
or_none None = refl

-- The pass gives what looking up gives.
pub merge_is : (base : ℕ) (relocs : List Reloc) (is : List Immediate) (from end : ℕ) → AreInOrder from end is → finished (offered_all (start base relocs) is) (least_overlap relocs) ≡ operands_at base relocs is
unfolding operands_at
merge_is base relocs is from end order = by_overlap (least_overlap relocs) refl
  where
    last : State
    last = offered_all (start base relocs) is

    by_overlap : (o : Option ℕ) → least_overlap relocs ≡ o → finished last o
        ≡ unless (first_some (fault_with Overlap o ∷ fault_with OffImmediate (first_off base is relocs) ∷ fault_with BareIndex (first_bare base relocs is) ∷ [])) (map (operand_at base relocs) is)
    by_overlap (Some place) e = refl
    by_overlap None e =
        judged_same (last_off last.base last.off last.left) (or_none last.bare) (sym (append-nil last.operands))
        ∙ sym (merged (start base relocs) is 0 from (no_overlap 0 relocs e) (places_rise from end is order))

-- the same, of what calls answer
pub merge_said : (base : ℕ) (relocs : List Reloc) (is seen : List Immediate) (from end : ℕ) (first last : State) (overlap : Option ℕ) → AreInOrder from end is
    → first ≡ start base relocs → seen ≡ is → last ≡ offered_all first seen → overlap ≡ least_overlap relocs → operands_at base relocs is ≡ finished last overlap
merge_said base relocs is seen from end first last overlap order a b c d = sym (rw (c, a, b, d) (merge_is base relocs is from end order))

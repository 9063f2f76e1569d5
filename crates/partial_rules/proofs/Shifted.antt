-- The relocations of a body stand on the same immediates where the body stands later.
use Rattle.std.proofs.Common.{◌≡◌, ℕ, ◌+◌, ◌≤◌, List, [], ◌∷◌, map, refl, ap, subst, ◌∙◌, arith, Bool, true, false, nat_lt}
use Rattle.std.specs.Prelude.{Option, Some, None, option_map, Result, Ok, if◌then◌else◌, ◌==◌}
use Rattle.std.specs.List.{list_any}
use Rattle.std.proofs.lemmas.Bool.{le-ltb}
use Rattle.std.proofs.lemmas.Bool.Decides.{nat_tests}
use Rattle.wasm_instr.specs.wl_base.Choice.{first_some, unless}
use Rattle.wasm_instr.specs.declared.body.Body.{Body}
use Rattle.reloc_section.specs.declared.entry.Reloc.{Reloc}
use Rattle.body_windows.specs.declared.operand.Operand.{Operand}
use Rattle.body_windows.specs.declared.fault.Mismatch.{Mismatch}
use Rattle.body_windows.specs.declared.fault.Mismatch.TheVariants.{Overlap, OffImmediate, BareIndex}
use Rattle.body_windows.specs.declared.immediate.Immediate.{Immediate}
use Rattle.body_windows.specs.Immediates.{immediates, fills}
use Rattle.body_windows.specs.Windows.{reloc_at, operand_by, operand_at, overlaps_behind, least_with, least_from, least_overlap, first_off, is_bare, first_bare, fault_with, operands_at, windows_of}
use Rattle.partial_rules.specs.Relocatable.{later}

shift_eq : (n a b : ℕ) → ((n + a) == (n + b)) ≡ (a == b)
shift_eq n a b = grind (arith, nat_tests)

-- ---- looking up

found_later : (n offset : ℕ) (rs : List Reloc) → reloc_at (n + offset) (map {A = Reloc} {B = Reloc} (later n) rs) ≡ option_map (later n) (reloc_at offset rs)
found_later n offset [] = refl
found_later n offset (r ∷ rs) =
    rw (shift_eq n r.offset offset) (by_test (r.offset == offset) (found_later n offset rs))
  where
    by_test : (t : Bool) → reloc_at (n + offset) (map {A = Reloc} {B = Reloc} (later n) rs) ≡ option_map (later n) (reloc_at offset rs)
        → (if t then Some (later n r) else reloc_at (n + offset) (map {A = Reloc} {B = Reloc} (later n) rs)) ≡ option_map (later n) (if t then Some r else reloc_at offset rs)
    by_test true rest = refl
    by_test false rest = rest

operand_later : (n : ℕ) (i : Immediate) (o : Option Reloc) → operand_by i (option_map (later n) o) ≡ operand_by i o
operand_later n i None = refl
operand_later n i (Some r) = refl

bare_later : (n : ℕ) (i : Immediate) (o : Option Reloc) → is_bare i (option_map (later n) o) ≡ is_bare i o
bare_later n i None = refl
bare_later n i (Some r) = refl

operands_later : (n : ℕ) (rs : List Reloc) (is : List Immediate) → map (operand_at n (map {A = Reloc} {B = Reloc} (later n) rs)) is ≡ map (operand_at 0 rs) is
operands_later n rs [] = refl
operands_later n rs (i ∷ is) =
    let zero_plus : 0 + i.place ≡ i.place = omega arith in
    rw (found_later n i.place rs, operand_later n i (reloc_at i.place rs), zero_plus) (ap (λ os. operand_by i (reloc_at i.place rs) ∷ os) (operands_later n rs is))

-- ---- faults

fills_later : (n : ℕ) (r : Reloc) (is : List Immediate) → list_any (fills n (later n r)) is ≡ list_any (fills 0 r) is
fills_later n r [] = refl
fills_later n r (i ∷ is) =
    let zero_plus : 0 + i.place ≡ i.place = omega arith in
    rw (shift_eq n i.place r.offset, zero_plus, fills_later n r is) refl

on_all : (n : ℕ) (is : List Immediate) (rs : List Reloc) → first_off 0 is rs ≡ None → first_off n is (map {A = Reloc} {B = Reloc} (later n) rs) ≡ None
on_all n is [] none = refl
on_all n is (r ∷ rs) none = rw (fills_later n r is) (by_test (list_any (fills 0 r) is) refl (on_all n is rs))
  where
    by_test : (t : Bool) → list_any (fills 0 r) is ≡ t → (first_off 0 is rs ≡ None → first_off n is (map {A = Reloc} {B = Reloc} (later n) rs) ≡ None) → (if t then first_off n is (map {A = Reloc} {B = Reloc} (later n) rs) else Some (n + r.offset)) ≡ None
    by_test true e again = again (subst (λ t. (if t then first_off 0 is rs else Some r.offset) ≡ None) e none)
    by_test false e again = let bad : Some r.offset ≡ None = subst (λ t. (if t then first_off 0 is rs else Some r.offset) ≡ None) e none in absurd cc

covered : (n : ℕ) (rs : List Reloc) (is : List Immediate) → first_bare 0 rs is ≡ None → first_bare n (map {A = Reloc} {B = Reloc} (later n) rs) is ≡ None
covered n rs [] none = refl
covered n rs (i ∷ is) none =
    let zero_plus : 0 + i.place ≡ i.place = omega arith in
    rw (found_later n i.place rs, bare_later n i (reloc_at i.place rs)) (by_test (is_bare i (reloc_at i.place rs)) refl (covered n rs is) (subst (λ k. (if is_bare i (reloc_at k rs) then Some k else first_bare 0 rs is) ≡ None) zero_plus none))
  where
    by_test : (t : Bool) → is_bare i (reloc_at i.place rs) ≡ t → (first_bare 0 rs is ≡ None → first_bare n (map {A = Reloc} {B = Reloc} (later n) rs) is ≡ None) → (if is_bare i (reloc_at i.place rs) then Some i.place else first_bare 0 rs is) ≡ None
        → (if t then Some (n + i.place) else first_bare n (map {A = Reloc} {B = Reloc} (later n) rs) is) ≡ None
    by_test true e again h = let bad : Some i.place ≡ None = subst (λ t. (if t then Some i.place else first_bare 0 rs is) ≡ None) e h in absurd cc
    by_test false e again h = again (subst (λ t. (if t then Some i.place else first_bare 0 rs is) ≡ None) e h)

overlap_later : (n high low : ℕ) (rs : List Reloc) → high ≤ n + low → overlaps_behind low rs ≡ [] → overlaps_behind high (map {A = Reloc} {B = Reloc} (later n) rs) ≡ []
overlap_later n high low [] le none = refl
overlap_later n high low (r ∷ rs) le none = by_test (nat_lt r.offset low) refl (overlap_later n (n + r.offset + 5) (r.offset + 5) rs (omega arith))
  where
    by_test : (t : Bool) → nat_lt r.offset low ≡ t → (overlaps_behind (r.offset + 5) rs ≡ [] → overlaps_behind (n + r.offset + 5) (map {A = Reloc} {B = Reloc} (later n) rs) ≡ []) → overlaps_behind high (map {A = Reloc} {B = Reloc} (later n) (r ∷ rs)) ≡ []
    by_test true e again = let bad : r.offset ∷ overlaps_behind (r.offset + 5) rs ≡ [] = subst (λ t. (if t then r.offset ∷ overlaps_behind (r.offset + 5) rs else overlaps_behind (r.offset + 5) rs) ≡ []) e none in absurd cc
    by_test false e again =
        let apart : low ≤ r.offset = grind (arith, nat_tests, e) in
        let test : nat_lt (n + r.offset) high ≡ false = le-ltb (n + r.offset) high (omega (arith, apart, le)) in
        rw test (again
        (subst (λ t. (if t then r.offset ∷ overlaps_behind (r.offset + 5) rs else overlaps_behind (r.offset + 5) rs) ≡ []) e none))

never_none : (n : ℕ) (ns : List ℕ) → least_from (Some n) ns ≡ None → ⊥
never_none n [] e = absurd cc
never_none n (m ∷ ms) e = never_none (least_with m (Some n)) ms e

no_overlap : (ns : List ℕ) → least_from None ns ≡ None → ns ≡ []
no_overlap [] e = refl
no_overlap (n ∷ ns) e = absurd (never_none (least_with n None) ns e)

-- ---- all together

pub record NoFault (base : ℕ) (rs : List Reloc) (is : List Immediate) : Type 0 where
  pub overlap : least_overlap rs ≡ None
  pub off : first_off base is rs ≡ None
  pub bare : first_bare base rs is ≡ None

three : (a b c : Option ℕ) (ops operands : List Operand) → unless (first_some (fault_with Overlap a ∷ fault_with OffImmediate b ∷ fault_with BareIndex c ∷ [])) ops ≡ Ok operands
    → (a ≡ None) × (b ≡ None) × (c ≡ None) × (ops ≡ operands)
three (Some a) b c ops operands e = absurd cc
three None (Some b) c ops operands e = absurd cc
three None None (Some c) ops operands e = absurd cc
three None None None ops operands e = (refl, refl, refl, by_ok e)
  where
    by_ok : {xs ys : List Operand} → (let r : Result (List Operand) Mismatch = Ok xs in r ≡ Ok ys) → xs ≡ ys
    by_ok e = cc

pub shifted : (n : ℕ) (rs : List Reloc) (body : Body) (operands : List Operand) → windows_of 0 rs body ≡ Ok operands → windows_of n (map {A = Reloc} {B = Reloc} (later n) rs) body ≡ Ok operands
unfolding operands_at
shifted n rs body operands e =
    let is : List Immediate = immediates body.code in
    let t = three (least_overlap rs) (first_off 0 is rs) (first_bare 0 rs is) (map (operand_at 0 rs) is) operands e in
    let apart : overlaps_behind 0 (map {A = Reloc} {B = Reloc} (later n) rs) ≡ [] = overlap_later n 0 0 rs (omega arith) (no_overlap (overlaps_behind 0 rs) t.0) in
    let overlap : least_overlap (map {A = Reloc} {B = Reloc} (later n) rs) ≡ None = ap (least_from None) apart in
    rw (overlap, on_all n is rs t.1, covered n rs is t.2) (ap (λ (ops : List Operand). Ok ops) (operands_later n rs is ∙ t.3))

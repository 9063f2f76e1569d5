-- The operands of a body stand on its immediates.
use Rattle.std.proofs.Common.{◌≡◌, ℕ, ◌+◌, ◌≤◌, ◌⊎◌, inl, inr, Bool, true, false, cond, eqb, not, List, [], ◌∷◌, length, map, refl, sym, ap, subst, ◌∙◌, Option, Some, None, Result, Ok, Err, arith}
use Rattle.std.specs.Prelude.{All, ◌&&◌, ◌==◌}
use Rattle.std.specs.List.{list_any}
use Rattle.std.proofs.lemmas.Bool.{and_parts, or_cases, eqb-true}
use Rattle.std.proofs.lemmas.List.Elements.{All-nil, All-cons, All-head, All-tail, All-weaker}
use Rattle.object_rules.specs.wl_base.Choice.{first_some, unless}
use Rattle.object_rules.specs.reloc_section.declared.entry.Reloc.{Reloc}
use Rattle.object_rules.specs.body_windows.declared.operand.Operand.{Operand}
use Rattle.object_rules.specs.body_windows.declared.operand.Operand.TheVariants.{Number, Symbol, TypeRef, TableZero}
use Rattle.object_rules.specs.body_windows.declared.fault.Mismatch.{Mismatch}
use Rattle.object_rules.specs.body_windows.declared.fault.Mismatch.TheVariants.{Overlap, OffImmediate, BareIndex}
use Rattle.object_rules.specs.body_windows.declared.immediate.Immediate.{Immediate}
use Rattle.object_rules.specs.body_windows.declared.immediate.ImmediateKind.{ImmediateKind}
use Rattle.object_rules.specs.body_windows.declared.immediate.ImmediateKind.TheVariants.{FunctionIndex, TypeIndex, TableIndex, GlobalIndex, MemoryOffset, Constant}
use Rattle.object_rules.specs.body_windows.Immediates.{immediates, AreInOrder, may_stand, needs_window, plain_operand, fills, operand_of}
use Rattle.object_rules.specs.body_windows.Windows.{reloc_at, operand_by, operand_at, is_bare, least_overlap, first_off, first_bare, fault_with, operands_at, windows_of}
use Rattle.object_rules.proofs.body_windows_lemmas.Order.{body_order}
use Rattle.object_rules.proofs.body_windows_lemmas.Within.{operands_are}
use Rattle.object_rules.specs.wasm_instr.declared.body.Body.{Body}
use Rattle.object_rules.specs.wasm_instr.Bodies.{SpellsBody}
use Rattle.object_rules.specs.Windows.{is_placed, is_covered}
use Rattle.object_rules.specs.wasm_module.declared.parts.Export.{Export}
use Rattle.object_rules.specs.object_parts.declared.parts.CodeBody.{CodeBody}
use Rattle.object_file.specs.Objects.{operands_of}
use Rattle.object_file.specs.Bodies.{IsOperandOf, AreOperandsOf, BodyStands}
use Rattle.object_file.proofs.Made.{made}
use Rattle.object_file.proofs.Told.{BodyTold}

-- ---- what no fault says

none_wrong : (overlap off bare : Option ℕ) (xs os : List Operand) → unless (first_some (fault_with Overlap overlap ∷ fault_with OffImmediate off ∷ fault_with BareIndex bare ∷ [])) xs ≡ Ok os → (off ≡ None) × (bare ≡ None)
none_wrong (Some n) off bare xs os e = absurd cc
none_wrong None (Some n) bare xs os e = absurd cc
none_wrong None None (Some n) xs os e = absurd cc
none_wrong None None None xs os e = (refl, refl)

pub all_right : (base : ℕ) (relocs : List Reloc) (is : List Immediate) (os : List Operand) → operands_at base relocs is ≡ Ok os → (first_off base is relocs ≡ None) × (first_bare base relocs is ≡ None)
unfolding operands_at
all_right base relocs is os e = none_wrong (least_overlap relocs) (first_off base is relocs) (first_bare base relocs is) (map (operand_at base relocs) is) os e

-- Some immediate is the window.
abbrev pub Fills : ℕ → List Immediate → Reloc → Type 0
Fills base is r = list_any (fills base r) is ≡ true

pub all_fill : (base : ℕ) (is : List Immediate) (relocs : List Reloc) → first_off base is relocs ≡ None → All (Fills base is) relocs
all_fill base is [] e = All-nil (Fills base is)
all_fill base is (r ∷ rs) e = by (list_any (fills base r) is) refl e (all_fill base is rs)
  where
    by : (q : Bool) → list_any (fills base r) is ≡ q → cond q (first_off base is rs) (Some r.offset) ≡ None → (first_off base is rs ≡ None → All (Fills base is) rs) → All (Fills base is) (r ∷ rs)
    by true found f others = All-cons (Fills base is) r rs found (others f)
    by false found f others = absurd cc

-- What a relocation that was looked up is.
pub found_at : (place : ℕ) (relocs : List Reloc) (r : Reloc) (P : Reloc → Type 0) → All P relocs → reloc_at place relocs ≡ Some r → (r.offset ≡ place) × P r
found_at place [] r P known e = absurd cc
found_at place (x ∷ xs) r P known e = by (eqb x.offset place) refl e (found_at place xs r P (All-tail P x xs known))
  where
    some_is : {y : Reloc} → (let a : Option Reloc = Some y in a ≡ Some r) → y ≡ r
    some_is f = cc

    by : (q : Bool) → eqb x.offset place ≡ q → cond q (Some x) (reloc_at place xs) ≡ Some r → (reloc_at place xs ≡ Some r → (r.offset ≡ place) × P r) → (r.offset ≡ place) × P r
    by true is f others = subst (λ y. (y.offset ≡ place) × P y) (some_is f) (eqb-true x.offset place is, All-head P x xs known)
    by false is f others = others f

-- ---- the immediate that a window stands on is the one at its place

-- an immediate that fills a window lies behind the first place
fills_behind : (base from end : ℕ) (r : Reloc) (is : List Immediate) → AreInOrder from end is → list_any (fills base r) is ≡ true → base + from ≤ r.offset
fills_behind base from end r [] order e = absurd cc
fills_behind base from end r (i ∷ is) order e = by (or_cases (fills base r i) (list_any (fills base r) is) e) (fills_behind base (i.place + i.len) end r is order.2)
  where
    by : (fills base r i ≡ true) ⊎ (list_any (fills base r) is ≡ true) → (list_any (fills base r) is ≡ true → base + (i.place + i.len) ≤ r.offset) → base + from ≤ r.offset
    by (inl here) others =
        let at = and_parts ((base + i.place) == r.offset) (i.len == 5) (and_parts (((base + i.place) == r.offset) && (i.len == 5)) (may_stand r.kind i.kind) here).0 in
        omega (arith, eqb-true (base + i.place) r.offset at.0, order.0)
    by (inr there) others = omega (arith, others there, order.0, order.1)

-- the first of some immediates, where a window stands at its place
fills_first : (base end : ℕ) (r : Reloc) (i : Immediate) (is : List Immediate) → 1 ≤ i.len → AreInOrder (i.place + i.len) end is → r.offset ≡ base + i.place → list_any (fills base r) (i ∷ is) ≡ true
    → (i.len ≡ 5) × (may_stand r.kind i.kind ≡ true)
fills_first base end r i is long order at e = by (or_cases (fills base r i) (list_any (fills base r) is) e)
  where
    by : (fills base r i ≡ true) ⊎ (list_any (fills base r) is ≡ true) → (i.len ≡ 5) × (may_stand r.kind i.kind ≡ true)
    by (inl here) =
        let both = and_parts (((base + i.place) == r.offset) && (i.len == 5)) (may_stand r.kind i.kind) here in
        (eqb-true i.len 5 (and_parts ((base + i.place) == r.offset) (i.len == 5) both.0).1, both.1)
    by (inr there) = absurd (omega (arith, fills_behind base (i.place + i.len) end r is order there, long, at))

-- a window that stands before the other immediates is one of those
fills_others : (base : ℕ) (r : Reloc) (i : Immediate) (is : List Immediate) → base + i.place + 1 ≤ r.offset → list_any (fills base r) (i ∷ is) ≡ true → list_any (fills base r) is ≡ true
fills_others base r i is later e = by (or_cases (fills base r i) (list_any (fills base r) is) e)
  where
    by : (fills base r i ≡ true) ⊎ (list_any (fills base r) is ≡ true) → list_any (fills base r) is ≡ true
    by (inl here) =
        let at = and_parts ((base + i.place) == r.offset) (i.len == 5) (and_parts (((base + i.place) == r.offset) && (i.len == 5)) (may_stand r.kind i.kind) here).0 in
        absurd (omega (arith, eqb-true (base + i.place) r.offset at.0, later))
    by (inr there) = there

-- ---- operands

type_kind : (kind : ImmediateKind) → may_stand 6 kind ≡ true → kind ≡ TypeIndex
type_kind FunctionIndex e = absurd cc
type_kind TypeIndex e = refl
type_kind (TableIndex table) e = absurd cc
type_kind GlobalIndex e = absurd cc
type_kind MemoryOffset e = absurd cc
type_kind Constant e = absurd cc

met_is : (i : Immediate) (r : Reloc) → i.len ≡ 5 → may_stand r.kind i.kind ≡ true → IsOperandOf i (operand_of i r)
met_is i r long may = by (eqb r.kind 6) refl
  where
    by : (q : Bool) → eqb r.kind 6 ≡ q → IsOperandOf i (cond q (TypeRef i.place r.index) (Symbol r.kind i.place r.index r.addend))
    by true is = (refl, long, type_kind i.kind (subst (λ n. may_stand n i.kind ≡ true) (eqb-true r.kind 6 is) may))
    by false is = (refl, long, may)

plain_is : (i : Immediate) → needs_window i.kind ≡ false → IsOperandOf i (plain_operand i.kind)
plain_is i e = by i.kind refl e
  where
    at_zero : (table : ℕ) (q : Bool) → eqb table 0 ≡ q → i.kind ≡ TableIndex table → needs_window i.kind ≡ false → not q ≡ false → IsOperandOf i (cond q TableZero Number)
    at_zero table true is same f g = same ∙ ap (λ n. TableIndex n) (eqb-true table 0 is)
    at_zero table false is same f g = f

    by : (kind : ImmediateKind) → i.kind ≡ kind → needs_window kind ≡ false → IsOperandOf i (plain_operand kind)
    by FunctionIndex is f = absurd cc
    by TypeIndex is f = absurd cc
    by (TableIndex table) is f = at_zero table (eqb table 0) refl is e f
    by GlobalIndex is f = absurd cc
    by MemoryOffset is f = e
    by Constant is f = e

-- Each immediate of those that are left, where each window behind the others is one of them.
each_operand : (base end from : ℕ) (relocs : List Reloc) (is : List Immediate) → AreInOrder from end is
    → All (λ r. base + from ≤ r.offset → list_any (fills base r) is ≡ true) relocs → first_bare base relocs is ≡ None → AreOperandsOf is (map (operand_at base relocs) is)
each_operand base end from relocs [] order fill bare = tt
each_operand base end from relocs (i ∷ is) order fill bare =
    let here = by (reloc_at (base + i.place) relocs) refl bare in
    let later : All (λ r. base + (i.place + i.len) ≤ r.offset → list_any (fills base r) is ≡ true) relocs =
    All-weaker (λ r. base + from ≤ r.offset → list_any (fills base r) (i ∷ is) ≡ true) (λ r. base + (i.place + i.len) ≤ r.offset → list_any (fills base r) is ≡ true)
    (λ r f le. fills_others base r i is (omega (arith, le, order.1)) (f (omega (arith, le, order.0)))) relocs fill in
    (here.0, each_operand base end (i.place + i.len) relocs is order.2 later here.1)
  where
    no_first : (q : Bool) (place : ℕ) (others : Option ℕ) → cond q (Some place) others ≡ None → (q ≡ false) × (others ≡ None)
    no_first true place others e = absurd cc
    no_first false place others e = (refl, e)

    by : (found : Option Reloc) → reloc_at (base + i.place) relocs ≡ found → cond (is_bare i found) (Some (base + i.place)) (first_bare base relocs is) ≡ None
        → IsOperandOf i (operand_by i found) × (first_bare base relocs is ≡ None)
    by None is_there f =
        let both = no_first (needs_window i.kind) (base + i.place) (first_bare base relocs is) f in
        (plain_is i both.0, both.1)
    by (Some r) is_there f =
        let known = found_at (base + i.place) relocs r (λ x. base + from ≤ x.offset → list_any (fills base x) (i ∷ is) ≡ true) fill is_there in
        let on = fills_first base end r i is order.1 order.2 known.0 (known.1 (omega (arith, known.0, order.0))) in
        (met_is i r on.0 on.1, f)

operands_stand : (base : ℕ) (relocs : List Reloc) (body : Body) (text : List ℕ) (os : List Operand) → SpellsBody body text → windows_of base relocs body ≡ Ok os → AreOperandsOf (immediates body.code) os
operands_stand base relocs body text os spelled e =
    let is : List Immediate = immediates body.code in
    let right = all_right base relocs is os e in
    let fill : All (λ r. base + 0 ≤ r.offset → list_any (fills base r) is ≡ true) relocs =
    All-weaker (Fills base is) (λ r. base + 0 ≤ r.offset → list_any (fills base r) is ≡ true) (λ r f le. f) relocs (all_fill base is relocs right.0) in
    subst (AreOperandsOf is) (sym (operands_are base relocs is os e)) (each_operand base (length text) 0 relocs is (body_order body text spelled).0 fill right.1)

-- ---- a body without a fault

no_fault : (windows : Result (List Operand) Mismatch) → is_placed windows ≡ true → is_covered windows ≡ true → (os : List Operand) × (windows ≡ Ok os)
no_fault (Ok os) placed covered = (os, refl)
no_fault (Err (Overlap place)) placed covered = absurd cc
no_fault (Err (OffImmediate place)) placed covered = absurd cc
no_fault (Err (BareIndex place)) placed covered = absurd cc

pub made_stands : {begin : ℕ} (bytes : List ℕ) (relocs : List Reloc) (exports : List Export) (n t : ℕ) (b : CodeBody) → BodyTold begin bytes relocs b → is_placed b.windows ≡ true → is_covered b.windows ≡ true → BodyStands bytes (made exports n t b)
made_stands bytes relocs exports n t b told placed covered =
    let os = no_fault b.windows placed covered in
    let read : windows_of told.base told.some told.body ≡ Ok os.0 = sym told.windows ∙ os.1 in
    record {
      body = told.body;
      spelled = subst (SpellsBody told.body) told.stands told.spelled;
      operands = subst (λ w. AreOperandsOf (immediates told.body.code) (operands_of w)) (sym os.1) (operands_stand told.base told.some told.body told.text os.0 told.spelled read);
    }

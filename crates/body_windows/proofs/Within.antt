-- The windows of references lie in their body, one behind another.
use Rattle.std.proofs.Common.{◌≡◌, ℕ, ◌+◌, ◌≤◌, ◌∙◌, Bool, true, false, cond, eqb, List, [], ◌∷◌, ◌++◌, refl, sym, subst, arith, Option, Some, None, Ok}
use Rattle.std.specs.Prelude.{map, ◌&&◌, nat_le}
use Rattle.std.specs.List.{filter}
use Rattle.std.proofs.lemmas.Bool.{eqb-true}
use Rattle.wasm_instr.specs.wl_base.Choice.{first_some, unless}
use Rattle.reloc_section.specs.declared.entry.Reloc.{Reloc}
use Rattle.body_windows.specs.declared.operand.Operand.{Operand}
use Rattle.body_windows.specs.declared.operand.Operand.TheVariants.{Number, Symbol, TypeRef, TableZero}
use Rattle.body_windows.specs.declared.fault.Mismatch.{Mismatch}
use Rattle.body_windows.specs.declared.fault.Mismatch.TheVariants.{Overlap, OffImmediate, BareIndex}
use Rattle.body_windows.specs.declared.immediate.Immediate.{Immediate}
use Rattle.body_windows.specs.declared.immediate.ImmediateKind.{ImmediateKind}
use Rattle.body_windows.specs.declared.immediate.ImmediateKind.TheVariants as kinds
use Rattle.body_windows.specs.Operands.{is_reference, StandIn}
use Rattle.body_windows.specs.Immediates.{AreInOrder, may_stand, plain_operand, fills, operand_of}
use Rattle.body_windows.specs.Windows.{least_overlap, operand_at, operands_at, first_off, first_bare, fault_with}
use Rattle.body_windows.specs.Merging.{State, left_bare, met, offered_to, offered, offered_all, off_at_last}
use Rattle.body_windows.proofs.Merge.{start, merge_is}

-- Each window ends by the end.
pub stand_ends : (from end : ℕ) (os : List Operand) → StandIn from end os → from ≤ end
stand_ends from end [] s = s
stand_ends from end (Number ∷ os) s = stand_ends from end os s
stand_ends from end (Symbol kind place symbol addend ∷ os) s = omega (arith, s.0, stand_ends (place + 5) end os s.1)
stand_ends from end (TypeRef place index ∷ os) s = omega (arith, s.0, stand_ends (place + 5) end os s.1)
stand_ends from end (TableZero ∷ os) s = stand_ends from end os s

stand_later : (from end later : ℕ) (os : List Operand) → end ≤ later → StandIn from end os → StandIn from later os
stand_later from end later [] le s = omega (arith, le, s)
stand_later from end later (Number ∷ os) le s = stand_later from end later os le s
stand_later from end later (Symbol kind place symbol addend ∷ os) le s = (s.0, stand_later (place + 5) end later os le s.1)
stand_later from end later (TypeRef place index ∷ os) le s = (s.0, stand_later (place + 5) end later os le s.1)
stand_later from end later (TableZero ∷ os) le s = stand_later from end later os le s

stand_append : (from mid end : ℕ) (xs ys : List Operand) → StandIn from mid xs → StandIn mid end ys → StandIn from end (xs ++ ys)
stand_append from mid end [] ys a b = stand_earlier from mid end ys a b
  where
    stand_earlier : (a b end : ℕ) (os : List Operand) → a ≤ b → StandIn b end os → StandIn a end os
    stand_earlier a b end [] le s = omega (arith, le, s)
    stand_earlier a b end (Number ∷ os) le s = stand_earlier a b end os le s
    stand_earlier a b end (Symbol kind place symbol addend ∷ os) le s = (omega (arith, le, s.0), s.1)
    stand_earlier a b end (TypeRef place index ∷ os) le s = (omega (arith, le, s.0), s.1)
    stand_earlier a b end (TableZero ∷ os) le s = stand_earlier a b end os le s
stand_append from mid end (Number ∷ xs) ys a b = stand_append from mid end xs ys a b
stand_append from mid end (Symbol kind place symbol addend ∷ xs) ys a b = (a.0, stand_append (place + 5) mid end xs ys a.1 b)
stand_append from mid end (TypeRef place index ∷ xs) ys a b = (a.0, stand_append (place + 5) mid end xs ys a.1 b)
stand_append from mid end (TableZero ∷ xs) ys a b = stand_append from mid end xs ys a b

-- the operand without a relocation has no window
plain_stands : (kind : ImmediateKind) (from : ℕ) → StandIn from from (plain_operand kind ∷ [])
plain_stands kinds.FunctionIndex from = omega arith
plain_stands kinds.TypeIndex from = omega arith
plain_stands (kinds.TableIndex table) from = by_test (eqb table 0)
  where
    by_test : (q : Bool) → StandIn from from (cond q TableZero Number ∷ [])
    by_test true = omega arith
    by_test false = omega arith
plain_stands kinds.GlobalIndex from = omega arith
plain_stands kinds.MemoryOffset from = omega arith
plain_stands kinds.Constant from = omega arith

met_stands : (from : ℕ) (i : Immediate) (r : Reloc) → from ≤ i.place → i.len ≡ 5 → StandIn from (i.place + i.len) (operand_of i r ∷ [])
met_stands from i r le long = by_test (eqb r.kind 6)
  where
    by_test : (q : Bool) → StandIn from (i.place + i.len) (cond q (TypeRef i.place r.index) (Symbol r.kind i.place r.index r.addend) ∷ [])
    by_test true = (le, omega (arith, long))
    by_test false = (le, omega (arith, long))

second_true : (a b c : Bool) → (a && b) && c ≡ true → b ≡ true
second_true true true c e = refl
second_true true false c e = e
second_true false b c e = absurd cc

-- one immediate
offered_stands : (s : State) (i : Immediate) (off : Option ℕ) (left : List Reloc) (from at : ℕ) → StandIn from at s.operands → at ≤ i.place → StandIn from (i.place + i.len) (offered_to s i off left).operands
offered_stands s i (Some place) left from at stands le = stand_later from at (i.place + i.len) s.operands (omega (arith, le)) stands
offered_stands s i None [] from at stands le =
    stand_later from at (i.place + i.len) (s.operands ++ plain_operand i.kind ∷ []) (omega (arith, le)) (stand_append from at at s.operands (plain_operand i.kind ∷ []) stands (plain_stands i.kind at))
offered_stands s i None (r ∷ rs) from at stands le = by_place (nat_le r.offset (s.base + i.place))
  where
    by_fill : (q : Bool) → fills s.base r i ≡ q → StandIn from (i.place + i.len) (cond q (record s { left = rs; operands = s.operands ++ operand_of i r ∷ [] }) (record s { off = Some r.offset })).operands
    by_fill true q =
        let long : i.len ≡ 5 = eqb-true i.len 5 (second_true (eqb (s.base + i.place) r.offset) (eqb i.len 5) (may_stand r.kind i.kind) q) in
        stand_append from at (i.place + i.len) s.operands (operand_of i r ∷ []) stands (met_stands at i r le long)
    by_fill false q = stand_later from at (i.place + i.len) s.operands (omega (arith, le)) stands

    by_place : (q : Bool) → StandIn from (i.place + i.len) (cond q (met s i r rs) (left_bare s i)).operands
    by_place true = by_fill (fills s.base r i) refl
    by_place false =
        stand_later from at (i.place + i.len) (s.operands ++ plain_operand i.kind ∷ []) (omega (arith, le)) (stand_append from at at s.operands (plain_operand i.kind ∷ []) stands (plain_stands i.kind at))

all_stand : (s : State) (is : List Immediate) (from at end : ℕ) → StandIn from at s.operands → AreInOrder at end is → StandIn from end (offered_all s is).operands
all_stand s [] from at end stands order = stand_later from at end s.operands order stands
all_stand s (i ∷ is) from at end stands order =
    all_stand (offered s i) is from (i.place + i.len) end (offered_stands s i s.off s.left from at stands order.0) order.2

unless_is : (fault : Option Mismatch) (xs ys : List Operand) → unless fault xs ≡ Ok ys → xs ≡ ys
unless_is None xs ys e = cc
unless_is (Some f) xs ys e = absurd cc

-- The windows of a body's operands lie where its immediates do.
pub operands_stand : (base : ℕ) (relocs : List Reloc) (is : List Immediate) (from end : ℕ) (operands : List Operand) → AreInOrder from end is → operands_at base relocs is ≡ Ok operands → StandIn from end operands
operands_stand base relocs is from end operands order e =
    let last : State = offered_all (start base relocs) is in
    let same : last.operands ≡ operands =
    unless_is (first_some (fault_with Overlap (least_overlap relocs) ∷ fault_with OffImmediate (off_at_last last.off last.left) ∷ fault_with BareIndex last.bare ∷ [])) last.operands operands
    (merge_is base relocs is from end order ∙ e) in
    subst (StandIn from end) same (all_stand (start base relocs) is from from end (omega arith) order)

-- The operands are what looking up gives.
pub operands_are : (base : ℕ) (relocs : List Reloc) (is : List Immediate) (operands : List Operand) → operands_at base relocs is ≡ Ok operands → operands ≡ map (operand_at base relocs) is
unfolding operands_at
operands_are base relocs is operands e =
    sym (unless_is (first_some (fault_with Overlap (least_overlap relocs) ∷ fault_with OffImmediate (first_off base is relocs) ∷ fault_with BareIndex (first_bare base relocs is) ∷ [])) (map (operand_at base relocs) is) operands e)

-- Without the numbers they stand as they do with them.
pub references_stand : (from end : ℕ) (os : List Operand) → StandIn from end os → StandIn from end (filter is_reference os)
references_stand from end [] s = s
references_stand from end (Number ∷ os) s = references_stand from end os s
references_stand from end (Symbol kind place symbol addend ∷ os) s = (s.0, references_stand (place + 5) end os s.1)
references_stand from end (TypeRef place index ∷ os) s = (s.0, references_stand (place + 5) end os s.1)
references_stand from end (TableZero ∷ os) s = references_stand from end os s

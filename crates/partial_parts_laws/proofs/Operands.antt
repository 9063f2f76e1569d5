-- The operands of a body whose relocations rise and stand on its immediates: those that name something are the relocations', in their order.
use Rattle.std.proofs.Common.{◌≡◌, ℕ, ◌+◌, ◌<◌, ◌≤◌, ◌==◌, Bool, true, false, ◌||◌, List, [], ◌∷◌, map, filter, refl, sym, ap, ◌∙◌, subst, arith, nat_lt}
use Rattle.std.specs.Prelude.{if◌then◌else◌, cond, Option, Some, None, Result, Ok}
use Rattle.std.specs.List.{list_any}
use Rattle.std.proofs.lemmas.Bool.{eq-eqb, ne_eqb}
use Rattle.std.proofs.lemmas.Bool.Decides.{nat_tests}
use Rattle.list_places.proofs.Lists.{by_test}
use Rattle.object_rules.specs.wl_base.Choice.{first_some, unless}
use Rattle.name_rules.specs.object_file.reloc_section.declared.entry.Reloc.{Reloc}
use Rattle.name_rules.specs.object_file.reloc_section.declared.kinds.TheConstants.{TYPE_INDEX_LEB}
use Rattle.name_rules.specs.object_file.body_windows.declared.operand.Operand.{Operand}
use Rattle.name_rules.specs.object_file.body_windows.declared.operand.Operand.TheVariants as operands
use Rattle.object_rules.specs.body_windows.wasm_instr.declared.body.Body.{Body}
use Rattle.object_rules.specs.body_windows.declared.fault.Mismatch.{Mismatch}
use Rattle.object_rules.specs.body_windows.declared.fault.Mismatch.TheVariants.{Overlap, OffImmediate, BareIndex}
use Rattle.object_rules.specs.body_windows.declared.immediate.Immediate.{Immediate}
use Rattle.object_rules.specs.body_windows.declared.immediate.ImmediateKind.{ImmediateKind}
use Rattle.object_rules.specs.body_windows.declared.immediate.ImmediateKind.TheVariants as immediate_kinds
use Rattle.object_rules.specs.body_windows.Immediates.{immediates, fills, operand_of, plain_operand, AreInOrder}
use Rattle.object_rules.specs.body_windows.Windows.{reloc_at, operand_by, operand_at, overlaps_behind, least_with, least_from, least_overlap, first_off, first_bare, fault_with, operands_at, windows_of}
use Rattle.partial_parts_laws.specs.PartsRead.{names_something}

-- The operand of a relocation, where it stands.
abbrev pub named_by : Reloc → Operand
named_by r = if r.kind == TYPE_INDEX_LEB then operands.TypeRef r.offset r.index else operands.Symbol r.kind r.offset r.index r.addend

-- From a place on each begins where the one before it ends, or later.
abbrev pub Rise : ℕ → List Reloc → Type 0
Rise from [] = Unit {0}
Rise from (r ∷ rs) = (from ≤ r.offset) × Rise (r.offset + 5) rs

-- ---- one immediate

plain_names : (kind : ImmediateKind) → names_something (plain_operand kind) ≡ false
plain_names immediate_kinds.FunctionIndex = refl
plain_names immediate_kinds.TypeIndex = refl
plain_names (immediate_kinds.TableIndex table) = choose (table == 0)
  where
    choose : (b : Bool) → names_something (if b then operands.TableZero else operands.Number) ≡ false
    choose true = refl
    choose false = refl
plain_names immediate_kinds.GlobalIndex = refl
plain_names immediate_kinds.MemoryOffset = refl
plain_names immediate_kinds.Constant = refl

named_names : (i : Immediate) (r : Reloc) → names_something (operand_of i r) ≡ true
named_names i r = choose (r.kind == TYPE_INDEX_LEB)
  where
    choose : (b : Bool) → names_something (if b then operands.TypeRef i.place r.index else operands.Symbol r.kind i.place r.index r.addend) ≡ true
    choose true = refl
    choose false = refl

named_there : (i : Immediate) (r : Reloc) → i.place ≡ r.offset → operand_of i r ≡ named_by r
named_there i r at = ap (λ n. if r.kind == TYPE_INDEX_LEB then operands.TypeRef n r.index else operands.Symbol r.kind n r.index r.addend) at

filled_at : (i : Immediate) (r : Reloc) → fills 0 r i ≡ true → (i.place ≡ r.offset) × (i.len ≡ 5)
filled_at i r e = (grind (arith, nat_tests, e), grind (arith, nat_tests, e))

not_filled : (i : Immediate) (r : Reloc) → i.place < r.offset → fills 0 r i ≡ false
not_filled i r before = by_test (fills 0 r i) (λ e. absurd (omega (arith, before, (filled_at i r e).0))) (λ e. e)

-- ---- looking up

none_there : (place from : ℕ) (rs : List Reloc) → place < from → Rise from rs → reloc_at place rs ≡ None
none_there place from [] before rise = refl
none_there place from (r ∷ rs) before rise = rw (ne_eqb r.offset place (λ e. omega (arith, e, before, rise.0))) (none_there place (r.offset + 5) rs (omega (arith, before, rise.0)) rise.1)

-- a relocation before all these immediates isn't looked up
passed : (r : Reloc) (rs : List Reloc) (from end : ℕ) (is : List Immediate) → AreInOrder from end is → r.offset < from → map (operand_at 0 (r ∷ rs)) is ≡ map (operand_at 0 rs) is
passed r rs from end [] order before = refl
passed r rs from end (i ∷ is) order before =
    rw (ne_eqb r.offset (0 + i.place) (λ e. omega (arith, e, before, order.0)))
    (ap (λ os. operand_at 0 rs i ∷ os) (passed r rs (i.place + i.len) end is order.2 (omega (arith, before, order.0))))

-- ---- where relocations stand

filled_behind : (r : Reloc) (from end : ℕ) (is : List Immediate) → AreInOrder from end is → list_any (fills 0 r) is ≡ true → from ≤ r.offset
filled_behind r from end [] order e = absurd cc
filled_behind r from end (i ∷ is) order e =
    by_test (fills 0 r i) (λ here. omega (arith, order.0, (filled_at i r here).0))
    (λ other. let e' = subst (λ b. (b || list_any (fills 0 r) is) ≡ true) other e in let behind = filled_behind r (i.place + i.len) end is order.2 e' in omega (arith, behind, order.0))

-- those that stand behind an immediate stand on others
others_on : (i : Immediate) (is : List Immediate) (from : ℕ) (rs : List Reloc) → i.place < from → Rise from rs → first_off 0 (i ∷ is) rs ≡ None → first_off 0 is rs ≡ None
others_on i is from [] before rise on = refl
others_on i is from (r ∷ rs) before rise on = choose (list_any (fills 0 r) is) refl (others_on i is (r.offset + 5) rs (omega (arith, before, rise.0)) rise.1)
  where
    it : (if list_any (fills 0 r) is then first_off 0 (i ∷ is) rs else Some r.offset) ≡ None
    it = subst (λ b. (if b || list_any (fills 0 r) is then first_off 0 (i ∷ is) rs else Some r.offset) ≡ None) (not_filled i r (omega (arith, before, rise.0))) on

    choose : (b : Bool) → list_any (fills 0 r) is ≡ b → (first_off 0 (i ∷ is) rs ≡ None → first_off 0 is rs ≡ None) → (if b then first_off 0 is rs else Some r.offset) ≡ None
    choose true e rest = rest (subst (λ b. (if b then first_off 0 (i ∷ is) rs else Some r.offset) ≡ None) e it)
    choose false e rest = let bad : Some r.offset ≡ None = subst (λ b. (if b then first_off 0 (i ∷ is) rs else Some r.offset) ≡ None) e it in absurd cc

-- the first stands on some immediate, and the others do too
first_on : (is : List Immediate) (r : Reloc) (rs : List Reloc) → first_off 0 is (r ∷ rs) ≡ None → (list_any (fills 0 r) is ≡ true) × (first_off 0 is rs ≡ None)
first_on is r rs on = choose (list_any (fills 0 r) is) refl on
  where
    choose : (b : Bool) → list_any (fills 0 r) is ≡ b → (if b then first_off 0 is rs else Some r.offset) ≡ None → (list_any (fills 0 r) is ≡ true) × (first_off 0 is rs ≡ None)
    choose true e h = (e, h)
    choose false e h = absurd cc

-- ---- all immediates

named_operands : (from end : ℕ) (is : List Immediate) (rs : List Reloc) → AreInOrder from end is → Rise from rs → first_off 0 is rs ≡ None → filter names_something (map (operand_at 0 rs) is) ≡ map named_by rs
named_operands from end [] [] order rise on = refl
named_operands from end [] (r ∷ rs) order rise on = absurd cc
named_operands from end (i ∷ is) [] order rise on = rw (plain_names i.kind) (named_operands (i.place + i.len) end is [] order.2 tt refl)
named_operands from end (i ∷ is) (r ∷ rs) order rise on =
    by_test (fills 0 r i) (here (named_operands (i.place + i.len) end is rs order.2)) (behind (named_operands (i.place + i.len) end is (r ∷ rs) order.2))
  where
    zero_plus : 0 + i.place ≡ i.place
    zero_plus = omega arith

    both : (list_any (fills 0 r) (i ∷ is) ≡ true) × (first_off 0 (i ∷ is) rs ≡ None)
    both = first_on (i ∷ is) r rs on

    here : (Rise (i.place + i.len) rs → first_off 0 is rs ≡ None → filter names_something (map (operand_at 0 rs) is) ≡ map named_by rs) → fills 0 r i ≡ true
        → filter names_something (map (operand_at 0 (r ∷ rs)) (i ∷ is)) ≡ map named_by (r ∷ rs)
    here rest e =
        let at = filled_at i r e in
        let found : (r.offset == (0 + i.place)) ≡ true = eq-eqb r.offset (0 + i.place) (sym at.0 ∙ sym zero_plus) in
        let others = rest (subst (λ n. Rise n rs) (omega (arith, at.0, at.1)) rise.1) (others_on i is (r.offset + 5) rs (omega (arith, at.0)) rise.1 both.1) in
        rw (found, named_names i r, passed r rs (i.place + i.len) end is order.2 (omega (arith, at.0, at.1)))
        (λ k. named_there i r at.0 k ∷ others k)

    behind : (Rise (i.place + i.len) (r ∷ rs) → first_off 0 is (r ∷ rs) ≡ None → filter names_something (map (operand_at 0 (r ∷ rs)) is) ≡ map named_by (r ∷ rs)) → fills 0 r i ≡ false
        → filter names_something (map (operand_at 0 (r ∷ rs)) (i ∷ is)) ≡ map named_by (r ∷ rs)
    behind rest e =
        let on_others : list_any (fills 0 r) is ≡ true = subst (λ b. (b || list_any (fills 0 r) is) ≡ true) e both.0 in
        let above : i.place + i.len ≤ r.offset = filled_behind r (i.place + i.len) end is order.2 on_others in
        let rises : Rise (i.place + i.len) (r ∷ rs) = (above, rise.1) in
        let none : reloc_at (0 + i.place) (r ∷ rs) ≡ None = ap (λ n. reloc_at n (r ∷ rs)) zero_plus ∙ none_there i.place (i.place + i.len) (r ∷ rs) (omega (arith, order.1)) rises in
        let plain : operand_at 0 (r ∷ rs) i ≡ plain_operand i.kind = ap (operand_by i) none in
        ap (λ o. cond (names_something o) (o ∷ filter names_something (map (operand_at 0 (r ∷ rs)) is)) (filter names_something (map (operand_at 0 (r ∷ rs)) is))) plain
        ∙ (ap (λ b. cond b (plain_operand i.kind ∷ filter names_something (map (operand_at 0 (r ∷ rs)) is)) (filter names_something (map (operand_at 0 (r ∷ rs)) is))) (plain_names i.kind)
        ∙ rest rises (others_on i is (i.place + i.len) (r ∷ rs) (omega (arith, order.1)) rises on))

-- ---- a body

never_none : (n : ℕ) (ns : List ℕ) → least_from (Some n) ns ≡ None → ⊥
never_none n [] e = absurd cc
never_none n (m ∷ ms) e = never_none (least_with m (Some n)) ms e

no_overlap : (ns : List ℕ) → least_from None ns ≡ None → ns ≡ []
no_overlap [] e = refl
no_overlap (n ∷ ns) e = absurd (never_none (least_with n None) ns e)

three : (a b c : Option ℕ) (ops operands : List Operand) → unless (first_some (fault_with Overlap a ∷ fault_with OffImmediate b ∷ fault_with BareIndex c ∷ [])) ops ≡ Ok operands → (a ≡ None) × (b ≡ None) × (ops ≡ operands)
three (Some a) b c ops operands e = absurd cc
three None (Some b) c ops operands e = absurd cc
three None None (Some c) ops operands e = absurd cc
three None None None ops operands e = (refl, refl, by_ok e)
  where
    by_ok : {xs ys : List Operand} → (let r : Result (List Operand) Mismatch = Ok xs in r ≡ Ok ys) → xs ≡ ys
    by_ok e = cc

rising : (low : ℕ) (rs : List Reloc) → overlaps_behind low rs ≡ [] → Rise low rs
rising low [] none = tt
rising low (r ∷ rs) none = choose (nat_lt r.offset low) refl none (rising (r.offset + 5) rs)
  where
    choose : (b : Bool) → nat_lt r.offset low ≡ b → (if b then r.offset ∷ overlaps_behind (r.offset + 5) rs else overlaps_behind (r.offset + 5) rs) ≡ [] → (overlaps_behind (r.offset + 5) rs ≡ [] → Rise (r.offset + 5) rs)
        → (low ≤ r.offset) × Rise (r.offset + 5) rs
    choose true e h rest = absurd cc
    choose false e h rest = (grind (arith, nat_tests, e), rest h)

-- The operands of a body that name something are those of its relocations, in their order.
pub operands_named : (relocs : List Reloc) (body : Body) (end : ℕ) (ops : List Operand) → AreInOrder 0 end (immediates body.code) → windows_of 0 relocs body ≡ Ok ops → filter names_something ops ≡ map named_by relocs
unfolding operands_at
operands_named relocs body end ops order e =
    let is : List Immediate = immediates body.code in
    let t = three (least_overlap relocs) (first_off 0 is relocs) (first_bare 0 relocs is) (map (operand_at 0 relocs) is) ops e in
    ap (filter names_something) (sym t.2) ∙ named_operands 0 end is relocs order (rising 0 relocs (no_overlap (overlaps_behind 0 relocs) t.0)) t.1

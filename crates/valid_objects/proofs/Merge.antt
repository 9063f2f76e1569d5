-- Meeting references in order gives what looking each up by its place gives: they rise, and so do instructions.
use Rattle.std.proofs.Common.{◌≡◌, ℕ, zero, suc, ◌+◌, ◌<◌, ◌≤◌, ◌==◌, Bool, true, false, cond, List, [], ◌∷◌, ◌++◌, map, replicate, Option, Some, None, refl, ap, sym, ◌∙◌, subst, arith}
use Rattle.std.proofs.lemmas.Bool.{ne_eqb, ltb-true, ltb-false}
use Rattle.wasm_types.specs.declared.function.FuncType.{FuncType}
use Rattle.object_file.specs.body_windows.declared.operand.Operand.{Operand}
use Rattle.object_file.specs.body_windows.declared.operand.Operand.TheVariants as operands
use Rattle.object_file.specs.body_windows.declared.operands.Reference.{Reference}
use Rattle.object_file.specs.body_windows.Operands.{operand_of, spread, StandIn}
use Rattle.object_file.specs.declared.object.Object.{Object}
use Rattle.wasm_instr.specs.declared.instr.Instr.{Instr}
use Rattle.wasm_instr.specs.declared.instr.Instr.TheVariants as instrs
use Rattle.wasm_instr.specs.declared.instr.BlockKind.TheVariants as blocks
use Rattle.wasm_instr.specs.declared.body.LocalRun.{LocalRun}
use Rattle.wasm_instr.specs.declared.body.Placed.{Placed}
use Rattle.wasm_instr.specs.Places.{Rise}
use Rattle.valid_bodies.specs.Shapes.{shape_as}
use Rattle.valid_objects.specs.Objects.{is_at, operand_at, object_meaning, object_shape}
use Rattle.valid_objects.specs.Merging.{stands_before, behind, first_at, named_place, left_at, operand_in, meaning_by, merged}

-- ---- references that rise

-- The operands of references.
abbrev all : List Reference → List Operand
all left = map operand_of left

less_stands : (a b end : ℕ) (xs : List Operand) → b ≤ a → StandIn a end xs → StandIn b end xs
less_stands a b end [] le s = omega (arith, le, s)
less_stands a b end (operands.Number ∷ xs) le s = less_stands a b end xs le s
less_stands a b end (operands.Symbol kind at symbol addend ∷ xs) le s = (omega (arith, le, s.0), s.1)
less_stands a b end (operands.TypeRef at index ∷ xs) le s = (omega (arith, le, s.0), s.1)
less_stands a b end (operands.TableZero ∷ xs) le s = less_stands a b end xs le s

-- None stands before where they begin.
none_at : (from end place : ℕ) (xs : List Operand) → StandIn from end xs → place < from → operand_at xs place ≡ None
none_at from end place [] s lt = refl
none_at from end place (operands.Number ∷ xs) s lt = none_at from end place xs s lt
none_at from end place (operands.Symbol kind at symbol addend ∷ xs) s lt =
    ap (λ b. cond b (Some (operands.Symbol kind at symbol addend)) (operand_at xs place)) (ne_eqb at place (λ e. omega (arith, e, s.0, lt)))
    ∙ none_at (at + 5) end place xs s.1 (omega (arith, s.0, lt))
none_at from end place (operands.TypeRef at index ∷ xs) s lt =
    ap (λ b. cond b (Some (operands.TypeRef at index)) (operand_at xs place)) (ne_eqb at place (λ e. omega (arith, e, s.0, lt)))
    ∙ none_at (at + 5) end place xs s.1 (omega (arith, s.0, lt))
none_at from end place (operands.TableZero ∷ xs) s lt = none_at from end place xs s lt

-- ---- one reference at the front

-- Where it stands before a place it isn't what stands there or behind it.
passed : (place later : ℕ) (x : Operand) (xs : List Operand) → place ≤ later → stands_before place x ≡ true → operand_at (x ∷ xs) later ≡ operand_at xs later
passed place later operands.Number xs le b = refl
passed place later (operands.Symbol kind at symbol addend) xs le b =
    let below : at < place = ltb-true at place b in
    ap (λ t. cond t (Some (operands.Symbol kind at symbol addend)) (operand_at xs later)) (ne_eqb at later (λ e. omega (arith, e, le, below)))
passed place later (operands.TypeRef at index) xs le b =
    let below : at < place = ltb-true at place b in
    ap (λ t. cond t (Some (operands.TypeRef at index)) (operand_at xs later)) (ne_eqb at later (λ e. omega (arith, e, le, below)))
passed place later operands.TableZero xs le b = refl

no_truth : true ≡ false → ⊥
no_truth e = grind (arith, e)

met_at : (t : Bool) (x o : Option Operand) → (t ≡ false → o ≡ None) → cond t x o ≡ cond t x None
met_at true x o f = refl
met_at false x o f = f refl

-- Where it doesn't, it is what stands there, or nothing does.
met : (from end place : ℕ) (x : Operand) (xs : List Operand) → StandIn from end (x ∷ xs) → stands_before place x ≡ false → operand_at (x ∷ xs) place ≡ cond (is_at place x) (Some x) None
met from end place operands.Number xs s b = absurd (no_truth b)
met from end place (operands.Symbol kind at symbol addend) xs s b =
    met_at (at == place) (Some (operands.Symbol kind at symbol addend)) (operand_at xs place)
    (λ e. none_at (at + 5) end place xs s.1 (let past : place ≤ at = ltb-false at place b in omega (arith, past)))
met from end place (operands.TypeRef at index) xs s b =
    met_at (at == place) (Some (operands.TypeRef at index)) (operand_at xs place)
    (λ e. none_at (at + 5) end place xs s.1 (let past : place ≤ at = ltb-false at place b in omega (arith, past)))
met from end place operands.TableZero xs s b = absurd (no_truth b)

rest_stands : (from end : ℕ) (x : Operand) (xs : List Operand) → StandIn from end (x ∷ xs) → StandIn from end xs
rest_stands from end operands.Number xs s = s
rest_stands from end (operands.Symbol kind at symbol addend) xs s = less_stands (at + 5) from end xs (omega (arith, s.0)) s.1
rest_stands from end (operands.TypeRef at index) xs s = less_stands (at + 5) from end xs (omega (arith, s.0)) s.1
rest_stands from end operands.TableZero xs s = s

-- ---- those that are left

one_left : (from end : ℕ) (t : Bool) (xs ys : List Reference) → StandIn from end (all xs) → StandIn from end (all ys) → StandIn from end (all (cond t xs ys))
one_left from end true xs ys a b = a
one_left from end false xs ys a b = b

behind_stands : (from end place : ℕ) (left : List Reference) → StandIn from end (all left) → StandIn from end (all (behind place left))
behind_stands from end place [] s = s
behind_stands from end place (r ∷ rs) s =
    one_left from end (stands_before place (operand_of r)) (behind place rs) (r ∷ rs) (behind_stands from end place rs (rest_stands from end (operand_of r) (all rs) s)) s

-- By the test of the first.
by_test : (P : List Reference → Type 0) (t : Bool) (xs ys : List Reference) → (t ≡ true → P xs) → (t ≡ false → P ys) → P (cond t xs ys)
by_test P true xs ys a b = a refl
by_test P false xs ys a b = b refl

behind_later : (place later : ℕ) (left : List Reference) → place ≤ later → operand_at (all left) later ≡ operand_at (all (behind place left)) later
behind_later place later [] le = refl
behind_later place later (r ∷ rs) le =
    by_test (λ xs. operand_at (all (r ∷ rs)) later ≡ operand_at (all xs) later) (stands_before place (operand_of r)) (behind place rs) (r ∷ rs)
    (λ e. passed place later (operand_of r) (all rs) le e ∙ behind_later place later rs le) (λ e. refl)

behind_first : (from end place : ℕ) (left : List Reference) → StandIn from end (all left) → operand_at (all left) place ≡ first_at place (behind place left)
behind_first from end place [] s = refl
behind_first from end place (r ∷ rs) s =
    by_test (λ xs. operand_at (all (r ∷ rs)) place ≡ first_at place xs) (stands_before place (operand_of r)) (behind place rs) (r ∷ rs)
    (λ e. passed place place (operand_of r) (all rs) (omega arith) e ∙ behind_first from end place rs (rest_stands from end (operand_of r) (all rs) s))
    (λ e. met from end place (operand_of r) (all rs) s e)

-- ---- instructions

-- These references tell what stands from a place on.
abbrev TellFrom : ℕ → List Operand → List Reference → Type 0
TellFrom from ops left = (place : ℕ) → from ≤ place → operand_at ops place ≡ operand_at (all left) place

-- What an instruction names is found by its place.
meaning_is : (o : Object) (ops : List Operand) (x : Placed) (i : Instr) (at : Option Operand)
    → ((place : ℕ) → named_place x i ≡ Some place → operand_at ops place ≡ at) → meaning_by o at i ≡ object_meaning o ops x i
meaning_is o ops x (instrs.Block op (blocks.Index n)) at e = ap (λ r. meaning_by o r (instrs.Block op (blocks.Index n))) (sym (e x.mid refl))
meaning_is o ops x (instrs.Block op blocks.Empty) at e = refl
meaning_is o ops x (instrs.Block op (blocks.Value t)) at e = refl
meaning_is o ops x (instrs.Call f) at e = ap (λ r. meaning_by o r (instrs.Call f)) (sym (e x.mid refl))
meaning_is o ops x (instrs.CallIndirect kind table) at e = ap (λ r. meaning_by o r (instrs.CallIndirect kind table)) (sym (e (x.at + 1) refl))
meaning_is o ops x (instrs.GlobalAt op g) at e = ap (λ r. meaning_by o r (instrs.GlobalAt op g)) (sym (e x.mid refl))
meaning_is o ops x (instrs.Plain op) at e = refl
meaning_is o ops x (instrs.Branch op label) at e = refl
meaning_is o ops x (instrs.BranchTable labels last) at e = refl
meaning_is o ops x (instrs.SelectTyped kinds) at e = refl
meaning_is o ops x (instrs.Local op local) at e = refl
meaning_is o ops x (instrs.Access op align offset) at e = refl
meaning_is o ops x instrs.MemorySize at e = refl
meaning_is o ops x instrs.MemoryGrow at e = refl
meaning_is o ops x (instrs.I32Const n) at e = refl
meaning_is o ops x (instrs.I64Const n) at e = refl
meaning_is o ops x (instrs.F32Const n) at e = refl
meaning_is o ops x (instrs.F64Const n) at e = refl
meaning_is o ops x (instrs.Truncate n) at e = refl
meaning_is o ops x instrs.MemoryCopy at e = refl
meaning_is o ops x instrs.MemoryFill at e = refl

-- That place lies in the instruction, or at its end.
named_within : (x : Placed) (i : Instr) (place : ℕ) → x.at < x.mid → x.mid ≤ x.end → named_place x i ≡ Some place → (x.at ≤ place) × (place ≤ x.end)
named_within x (instrs.Block op (blocks.Index n)) place a b e = grind (arith, a, b, e)
named_within x (instrs.Call f) place a b e = grind (arith, a, b, e)
named_within x (instrs.CallIndirect kind table) place a b e = grind (arith, a, b, e)
named_within x (instrs.GlobalAt op g) place a b e = grind (arith, a, b, e)
named_within x i place a b e = grind (arith, a, b, e)

-- At an instruction the references that are left say what stands at its place, and go on telling what stands behind it.
module _ (from end : ℕ) (ops : List Operand) (left : List Reference) (stand : StandIn from end (all left)) where
  operand_is : (start place : ℕ) (o : Option ℕ) → TellFrom start ops left → ((p : ℕ) → o ≡ Some p → start ≤ p) → o ≡ Some place → operand_at ops place ≡ operand_in o (left_at o left)
  operand_is start place None tell within e = absurd (grind (arith, e))
  operand_is start place (Some p) tell within e =
      let same : p ≡ place = grind (arith, e) in
      subst (λ q. operand_at ops q ≡ first_at p (behind p left)) same (tell p (within p refl) ∙ behind_first from end p left stand)

  left_stands : (o : Option ℕ) → StandIn from end (all (left_at o left))
  left_stands None = stand
  left_stands (Some p) = behind_stands from end p left stand

left_tells : (start next : ℕ) (ops : List Operand) (left : List Reference) (o : Option ℕ) → start ≤ next → ((p : ℕ) → o ≡ Some p → p ≤ next) → TellFrom start ops left → TellFrom next ops (left_at o left)
left_tells start next ops left None le within tell = λ place later. tell place (omega (arith, le, later))
left_tells start next ops left (Some p) le within tell = λ place later.
    tell place (omega (arith, le, later)) ∙ behind_later p place left (omega (arith, within p refl, later))

-- ---- bodies

merged_at : (o : Object) (t : FuncType) (locals : List LocalRun) (ops : List Operand) (start finish from end : ℕ) (left : List Reference) (code : List Placed)
    → Rise start finish code → StandIn from end (all left) → TellFrom start ops left → merged o t locals left code ≡ map (object_shape o ops t locals) code
merged_at o t locals ops start finish from end left [] rise stand tell = refl
merged_at o t locals ops start finish from end left (x ∷ xs) rise stand tell =
    let within : (p : ℕ) → named_place x x.instr ≡ Some p → (x.at ≤ p) × (p ≤ x.end) = λ p e. named_within x x.instr p rise.1 rise.2 e in
    let above : (p : ℕ) → named_place x x.instr ≡ Some p → start ≤ p = λ p e. omega (arith, rise.0, (within p e).0) in
    let below : (p : ℕ) → named_place x x.instr ≡ Some p → p ≤ x.end = λ p e. (within p e).1 in
    let named = meaning_is o ops x x.instr (operand_in (named_place x x.instr) (left_at (named_place x x.instr) left)) (λ p e. operand_is from end ops left stand start p (named_place x x.instr) tell above e) in
    let others = merged_at o t locals ops x.end finish from end (left_at (named_place x x.instr) left) xs rise.3 (left_stands from end ops left stand (named_place x x.instr))
    (left_tells start x.end ops left (named_place x x.instr) (omega (arith, rise.0, rise.1, rise.2)) below tell) in
    ap (λ m. shape_as true t locals m x.instr ∷ merged o t locals (left_at (named_place x x.instr) left) xs) named
    ∙ ap (λ rest. object_shape o ops t locals x ∷ rest) others

-- ---- numbers between references stand nowhere

behind_numbers : (n place : ℕ) (xs : List Operand) → operand_at (replicate n operands.Number ++ xs) place ≡ operand_at xs place
behind_numbers zero place xs = refl
behind_numbers (suc n) place xs = behind_numbers n place xs

numbers_stand : (n from end : ℕ) (xs : List Operand) → StandIn from end (replicate n operands.Number ++ xs) → StandIn from end xs
numbers_stand zero from end xs s = s
numbers_stand (suc n) from end xs s = numbers_stand n from end xs s

numbers_alone : (n place : ℕ) → operand_at (replicate n operands.Number) place ≡ None
numbers_alone zero place = refl
numbers_alone (suc n) place = numbers_alone n place

numbers_end : (n from end : ℕ) → StandIn from end (replicate n operands.Number) → from ≤ end
numbers_end zero from end s = s
numbers_end (suc n) from end s = numbers_end n from end s

ap_rest : (x : Operand) (xs ys : List Operand) (place : ℕ) → operand_at xs place ≡ operand_at ys place → operand_at (x ∷ xs) place ≡ operand_at (x ∷ ys) place
ap_rest x xs ys place e = ap (λ r. cond (is_at place x) (Some x) r) e

spread_at : (left : List Reference) (numbers place : ℕ) → operand_at (spread left numbers) place ≡ operand_at (all left) place
spread_at [] numbers place = numbers_alone numbers place
spread_at (r ∷ rs) numbers place =
    behind_numbers r.numbers place (operand_of r ∷ spread rs numbers) ∙ ap_rest (operand_of r) (spread rs numbers) (all rs) place (spread_at rs numbers place)

-- The tail may be told anew, from any place on.
rest_told : (x : Operand) (xs ys : List Operand) (from end : ℕ) → ((a : ℕ) → StandIn a end xs → StandIn a end ys) → StandIn from end (x ∷ xs) → StandIn from end (x ∷ ys)
rest_told operands.Number xs ys from end f s = f from s
rest_told (operands.Symbol kind at symbol addend) xs ys from end f s = (s.0, f (at + 5) s.1)
rest_told (operands.TypeRef at index) xs ys from end f s = (s.0, f (at + 5) s.1)
rest_told operands.TableZero xs ys from end f s = f from s

spread_stands : (left : List Reference) (numbers from end : ℕ) → StandIn from end (spread left numbers) → StandIn from end (all left)
spread_stands [] numbers from end s = numbers_end numbers from end s
spread_stands (r ∷ rs) numbers from end s =
    rest_told (operand_of r) (spread rs numbers) (all rs) from end (λ a. spread_stands rs numbers a end)
    (numbers_stand r.numbers from end (operand_of r ∷ spread rs numbers) s)

-- All references of a body, met from its first instruction on.
pub merged_is : (o : Object) (t : FuncType) (locals : List LocalRun) (left : List Reference) (numbers start finish end : ℕ) (code : List Placed)
    → Rise start finish code → StandIn 0 end (spread left numbers) → merged o t locals left code ≡ map (object_shape o (spread left numbers) t locals) code
merged_is o t locals left numbers start finish end code rise stand =
    merged_at o t locals (spread left numbers) start finish 0 end left code rise (spread_stands left numbers 0 end stand) (λ place later. spread_at left numbers place)

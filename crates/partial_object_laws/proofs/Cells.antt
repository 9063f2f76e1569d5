-- In a body with emptied windows, what a window takes the address of a function or datum for is read, as in the object that the body is from.
use Rattle.std.proofs.Common.{◌≡◌, ℕ, ◌+◌, ◌-◌, ◌≤◌, Bool, true, false, List, [], ◌∷◌, map, inl, inr, ⊎_elim, refl, sym, ap, ◌∙◌, subst}
use Rattle.std.specs.Prelude.{Some, slice_get, slice_index_or, All}
use Rattle.list_places.specs.Has.{Has}
use Rattle.list_places.proofs.Lists.{all_has, has_either, has_pick, map_has}
use Rattle.object_rules.specs.wasm_instr.declared.opcodes.TheConstants.{GLOBAL_GET}
use Rattle.object_rules.specs.wasm_instr.declared.instr.BlockKind.TheVariants as blocks
use Rattle.object_rules.specs.wasm_instr.declared.instr.Instr.{Instr}
use Rattle.object_rules.specs.wasm_instr.declared.instr.Instr.TheVariants as instrs
use Rattle.object_rules.specs.wasm_instr.declared.body.Placed.{Placed}
use Rattle.object_rules.specs.body_windows.declared.operand.Operand.{Operand}
use Rattle.object_rules.specs.body_windows.declared.operand.Operand.TheVariants as operands
use Rattle.object_rules.specs.body_windows.declared.immediate.Immediate.{Immediate}
use Rattle.object_rules.specs.body_windows.declared.immediate.ImmediateKind.{ImmediateKind}
use Rattle.object_rules.specs.body_windows.declared.immediate.ImmediateKind.TheVariants.{FunctionIndex, TypeIndex, TableIndex, GlobalIndex, MemoryOffset, Constant}
use Rattle.object_rules.specs.body_windows.Immediates.{between, immediates_in, immediates, may_stand}
use Rattle.object_rules.specs.Windows.{is_global_kind, is_global_symbol}
use Rattle.object_file.specs.declared.object.Object.{Object}
use Rattle.object_file.specs.ObjectOf.{IsObject}
use Rattle.object_file.specs.Bodies.{IsOperandOf, AreOperandsOf}
use Rattle.object_file.specs.Addresses.{IsRead, ReadsAt, ReadsAddresses}
use Rattle.link_rules.specs.Program.{Program, Part, Ref, Named, a_symbol, ref_to, operand_named}
use Rattle.output_module.specs.link_worlds.Bodies.{linked_at, linked_placed}
use Rattle.output_module.specs.Filled.{names_in, FilledBody}
use Rattle.partial_rules.specs.Partial.{windowed}
use Rattle.partial_parts_laws.specs.Linked.{Linked, program}
use Rattle.partial_parts_laws.proofs.Parts.{res}
use Rattle.partial_parts_laws.proofs.Symbols.{symbol_at}
use Rattle.partial_parts_laws.proofs.Stood.{ref_told, symbol_told}
use Rattle.partial_object_laws.specs.ReadAlone.{bytes_of}
use Rattle.partial_object_laws.proofs.Emptied.{empty_layout, unmeant, emptied}
use Rattle.partial_object_laws.proofs.Opcodes.{StandsBefore, before_index}
use Rattle.partial_object_laws.proofs.Functions.{IsBody, stood, emptied_spelled}

abbrev pub AddressesLaw : Type 0
AddressesLaw = (input : ℕ) (bytes : List ℕ) (object : Object) → IsObject input bytes object → All (ReadsAddresses bytes object) object.functions

no_true : false ≡ true → ⊥
no_true e = absurd cc

-- ---- the instruction of an index of a global

abbrev is_global : ImmediateKind → Bool
is_global FunctionIndex = false
is_global TypeIndex = false
is_global (TableIndex n) = false
is_global GlobalIndex = true
is_global MemoryOffset = false
is_global Constant = false

record OfGlobal (x : Placed) (j : Instr) (i : Immediate) : Type 0 where
  op : ℕ
  index : ℕ
  instr : j ≡ instrs.GlobalAt op index
  place : i.place ≡ x.mid

other : (k : ImmediateKind) (from to : ℕ) (i : Immediate) → is_global k ≡ false → between k from to ≡ i → is_global i.kind ≡ true → ⊥
other k from to i none e global =
    let same : is_global k ≡ is_global i.kind = ap (λ (j : Immediate). is_global j.kind) e in
    no_true (sym none ∙ (same ∙ global))

in_instr : (x : Placed) (j : Instr) (i : Immediate) → Has (immediates_in j x.at x.mid x.end) i → is_global i.kind ≡ true → OfGlobal x j i
in_instr x (instrs.GlobalAt op g) i (inl e) global = record { op = op; index = g; instr = refl; place = ap (λ (k : Immediate). k.place) (sym e) }
in_instr x (instrs.GlobalAt op g) i (inr none) global = absurd none
in_instr x (instrs.Block op (blocks.Index n)) i (inl e) global = absurd (other TypeIndex x.mid x.end i refl e global)
in_instr x (instrs.Block op (blocks.Index n)) i (inr none) global = absurd none
in_instr x (instrs.Block op blocks.Empty) i none global = absurd none
in_instr x (instrs.Block op (blocks.Value v)) i none global = absurd none
in_instr x (instrs.Call f) i (inl e) global = absurd (other FunctionIndex x.mid x.end i refl e global)
in_instr x (instrs.Call f) i (inr none) global = absurd none
in_instr x (instrs.CallIndirect k t) i (inl e) global = absurd (other TypeIndex (x.at + 1) x.mid i refl e global)
in_instr x (instrs.CallIndirect k t) i (inr (inl e)) global = absurd (other (TableIndex t) x.mid x.end i refl e global)
in_instr x (instrs.CallIndirect k t) i (inr (inr none)) global = absurd none
in_instr x (instrs.Access op align offset) i (inl e) global = absurd (other MemoryOffset x.mid x.end i refl e global)
in_instr x (instrs.Access op align offset) i (inr none) global = absurd none
in_instr x (instrs.I32Const n) i (inl e) global = absurd (other Constant x.mid x.end i refl e global)
in_instr x (instrs.I32Const n) i (inr none) global = absurd none
in_instr x (instrs.Plain op) i none global = absurd none
in_instr x (instrs.Branch op k) i none global = absurd none
in_instr x (instrs.BranchTable ks k) i none global = absurd none
in_instr x (instrs.SelectTyped ts) i none global = absurd none
in_instr x (instrs.Local op k) i none global = absurd none
in_instr x instrs.MemorySize i none global = absurd none
in_instr x instrs.MemoryGrow i none global = absurd none
in_instr x (instrs.I64Const n) i none global = absurd none
in_instr x (instrs.F32Const n) i none global = absurd none
in_instr x (instrs.F64Const n) i none global = absurd none
in_instr x (instrs.Truncate n) i none global = absurd none
in_instr x instrs.MemoryCopy i none global = absurd none
in_instr x instrs.MemoryFill i none global = absurd none

record InCode (code : List Placed) (i : Immediate) : Type 0 where
  here : Placed
  there : Has code here
  of : OfGlobal here here.instr i

in_code : (code : List Placed) (i : Immediate) → Has (immediates code) i → is_global i.kind ≡ true → InCode code i
in_code [] i has global = absurd has
in_code (x ∷ code) i has global = ⊎_elim
    (λ h. record { here = x; there = inl refl; of = in_instr x x.instr i h global })
    (λ h. let c = in_code code i h global in record { here = c.here; there = inr c.there; of = c.of })
    (has_either (immediates_in x.instr x.at x.mid x.end) (immediates code) i has)

-- ---- the immediate of an operand

immediate_of : (is : List Immediate) (ops : List Operand) → AreOperandsOf is ops → (op : Operand) → Has ops op → (i : Immediate) × Has is i × IsOperandOf i op
immediate_of [] [] s op has = absurd has
immediate_of [] (o ∷ ops) s op has = absurd s
immediate_of (i ∷ is) [] s op has = absurd s
immediate_of (i ∷ is) (o ∷ ops) s op (inl e) = (i, inl refl, subst (IsOperandOf i) e s.0)
immediate_of (i ∷ is) (o ∷ ops) s op (inr has) = let m = immediate_of is ops s.1 op has in (m.0, inr m.1, m.2)

seven : (k : ImmediateKind) → may_stand 7 k ≡ true → is_global k ≡ true
seven FunctionIndex e = absurd (no_true e)
seven TypeIndex e = absurd (no_true e)
seven (TableIndex n) e = absurd (no_true e)
seven GlobalIndex e = refl
seven MemoryOffset e = absurd (no_true e)
seven Constant e = absurd (no_true e)

-- ---- a reference of a kept function

-- what an instruction of a global reads, operand by operand
read_by : (o : Object) (ops : List Operand) (y : Placed) (op index : ℕ) → y.instr ≡ instrs.GlobalAt op index → ReadsAt o ops y y.instr → (x : Operand) → Has ops x → IsRead o y.mid op x
read_by o ops y op index instr reads x has = all_has (IsRead o y.mid op) ops (subst (ReadsAt o ops y) instr reads) x has

-- `global.get` stands before the window.
pub record IsGot (bytes : List ℕ) (place : ℕ) : Type 0 where
  pub behind : 1 ≤ place
  pub opcode : slice_index_or bytes (place - 1) 0 ≡ GLOBAL_GET

module _ (addresses_law : AddressesLaw) (filled_body : FilledBody) (l : Linked) (objects : List Object) (x : Part) (b : IsBody l objects x) where
  abbrev p : Program
  p = program l objects

  abbrev o : Object
  o = b.object

  abbrev ops : List Operand
  ops = b.definition.operands

  abbrev code : List Placed
  code = b.body.code

  reads : (y : Placed) → Has code y → ReadsAt o ops y y.instr
  reads y has =
      all_has (λ (z : Placed). ReadsAt o ops z z.instr) code
      (all_has (ReadsAddresses (bytes_of l b.from.candidate) o) o.functions (addresses_law o.input (bytes_of l b.from.candidate) o b.from.is) b.definition b.one_of b.body b.in_file) y has

  -- the byte before an instruction of a global, with emptied windows
  emptied_before : (y : Placed) → Has code y → (op index : ℕ) → y.instr ≡ instrs.GlobalAt op index → StandsBefore (windowed p x).bytes y op
  emptied_before y has op index instr =
      let names : List Named = map unmeant (names_in (stood l objects x b)) in
      let s = before_index (emptied p (stood l objects x b) b.body) (windowed p x).bytes (emptied_spelled filled_body l objects x b) (linked_placed p empty_layout names y)
      (map_has (linked_placed p empty_layout names) code y has) op _ (ap (linked_at p empty_layout names y) instr) in
      record { behind = s.behind; opcode = s.opcode }

  pub got : (ref : Ref) → Has x.named (a_symbol ref) → ref.kind ≡ 7 → is_global_kind ref.entry.symbol.kind ≡ false → IsGot (windowed p x).bytes ref.place
  got ref has kind address =
      let h = has_pick (λ op. operand_named (res l objects o) op) ops (a_symbol ref) (subst (λ ns. Has ns (a_symbol ref)) b.picked has) in
      by_operand h.0 h.1 h.2
    where
      by_operand : (op : Operand) → Has ops op → operand_named (res l objects o) op ≡ Some (a_symbol ref) → IsGot (windowed p x).bytes ref.place
      by_operand operands.Number ho told = absurd cc
      by_operand (operands.TypeRef place index) ho told = absurd cc
      by_operand operands.TableZero ho told = absurd cc
      by_operand (operands.Symbol k place symbol addend) ho told =
          let t = ref_told place k addend (slice_get (res l objects o).symbols symbol) (slice_get (res l objects o).meanings symbol) ref
          (symbol_told (ref_to place k addend (slice_get (res l objects o).symbols symbol) (slice_get (res l objects o).meanings symbol)) ref told) in
          let own : slice_get o.symbols symbol ≡ Some ref.entry.symbol = symbol_at objects o 0 o.symbols symbol ref.entry t.0 in
          let none : is_global_symbol (slice_get o.symbols symbol) ≡ false = ap is_global_symbol own ∙ address in
          let i = immediate_of (immediates code) ops b.operands (operands.Symbol k place symbol addend) ho in
          let stands : IsOperandOf i.0 (operands.Symbol k place symbol addend) = i.2 in
          let may : may_stand 7 i.0.kind ≡ true = ap (λ n. may_stand n i.0.kind) (sym kind ∙ t.1) ∙ stands.2 in
          let c = in_code code i.0 i.1 (seven i.0.kind may) in
          let y : Placed = c.here in
          let mid : place ≡ y.mid = stands.0 ∙ c.of.place in
          let opcode : c.of.op ≡ GLOBAL_GET = read_by o ops y c.of.op c.of.index c.of.instr (reads y c.there) (operands.Symbol k place symbol addend) ho mid none in
          let before = emptied_before y c.there c.of.op c.of.index c.of.instr in
          let same : y.mid ≡ ref.place = sym mid ∙ sym t.2 in
          subst (IsGot (windowed p x).bytes) {y = ref.place} same (record { behind = before.behind; opcode = before.opcode ∙ opcode })

-- An instruction of a live part and the one that an output of a mode has in its place have one shape: of what typing sees, only what blocks, calls
-- and globals name is told by references.
use Rattle.std.proofs.Common.{◌≡◌, ℕ, List, [], ◌∷◌, map, Option, Some, None, Bool, true, false, refl, sym, ap, ◌∙◌, inl, inr}
use Rattle.std.specs.Prelude.{◌==◌, slice_get}
use Rattle.list_places.specs.Has.{Has}
use Rattle.list_places.proofs.Lists.{find_has}
use Rattle.wasm_types.specs.declared.value.ValType.TheVariants.{I32}
use Rattle.wasm_types.specs.declared.function.FuncType.{FuncType}
use Rattle.wasm_instr.specs.declared.instr.Instr.{Instr}
use Rattle.wasm_instr.specs.declared.instr.Instr.TheVariants as instrs
use Rattle.wasm_instr.specs.declared.instr.BlockKind.TheVariants as blocks
use Rattle.wasm_instr.specs.declared.body.LocalRun.{LocalRun}
use Rattle.wasm_instr.specs.declared.body.Placed.{Placed}
use Rattle.linking_section.specs.declared.symbol.SymbolKind.TheVariants.{GlobalVar}
use Rattle.body_windows.specs.declared.operand.Operand.{Operand}
use Rattle.body_windows.specs.declared.operand.Operand.TheVariants as operands
use Rattle.object_file.specs.declared.object.Object.{Object}
use Rattle.made_symbols.specs.declared.mode.Mode.{Mode}
use Rattle.name_rules.specs.Entries.{is_kind}
use Rattle.link_rules.specs.Program.{Ref, TypeWindow, Named, a_symbol, a_type}
use Rattle.link_rules.specs.Values.{Layout}
use Rattle.link_worlds.specs.Names.{number_in}
use Rattle.link_worlds.specs.Bodies.{place_of, named_at, first_place, number_or_in, constant_or_in, instr_in, placed_in}
use Rattle.link_worlds.specs.Sound.{NamesFunction, NamesType, NamesTable, NamesCell, TakesAt, Takes}
use Rattle.valid_rules.specs.declared.types.Shape.{Shape}
use Rattle.valid_rules.specs.declared.types.Shape.TheVariants.{Typed, Opens}
use Rattle.valid_bodies.specs.declared.types.Context.{Context}
use Rattle.valid_bodies.specs.Numeric.{to}
use Rattle.valid_bodies.specs.Accesses.{access}
use Rattle.valid_bodies.specs.Meanings.{typed_as, global_as, in_table, type_at}
use Rattle.valid_bodies.specs.Shapes.{opener, global, called_through, as_type, as_global, shape_as, shape}
use Rattle.valid_objects.specs.Objects.{operand_at, type_named, function_by, function_named, cell_by, cell_named, object_meaning, object_shape}
use Rattle.output_types.specs.Functions.{NamesSymbol, NamesSame}

-- What is asked of the numbers in a body's windows: what a number names in the context has the type of what the reference names in the object. The
-- cell of an address may be set in the output and not in the object, but it is only read, with opcode 0x23 (Core 5.4.4).
pub record KeepsTypes (mode : Mode) (l : Layout) (c : Context) (o : Object) (names : List Named) : Type 0 where
  pub memory : c.memory ≡ true
  pub table : slice_get c.tables 0 ≡ Some true
  pub calls : (symbol : ℕ) (ref : Ref) → Has names (a_symbol ref) → NamesSymbol o symbol ref → ref.kind ≡ 0
      → typed_as (type_at c (number_in mode l (a_symbol ref))) ≡ function_by o (slice_get o.symbols symbol)
  pub cells : (op symbol : ℕ) (ref : Ref) → Has names (a_symbol ref) → NamesSymbol o symbol ref → ref.kind ≡ 7 → (is_kind GlobalVar ref.entry ≡ false → op ≡ 0x23)
      → as_global (global op) (global_as (slice_get c.globals (number_in mode l (a_symbol ref)))) ≡ as_global (global op) (cell_by o (slice_get o.symbols symbol))
  pub tables : (ref : Ref) → Has names (a_symbol ref) → ref.kind ≡ 20 → number_in mode l (a_symbol ref) ≡ 0
  pub types : (w : TypeWindow) → Has names (a_type w) → slice_get c.types (number_in mode l (a_type w)) ≡ Some w.type

module _ (mode : Mode) (l : Layout) (c : Context) (o : Object) (ops : List Operand) (names : List Named) (t : FuncType) (locals : List LocalRun)
    (keeps : KeepsTypes mode l c o names) (same : (place : ℕ) → NamesSame o (operand_at ops place) (named_at names place)) where
  there : (place : ℕ) (n : Named) → named_at names place ≡ Some n → Has names n
  there place n h = (find_has (λ n. place_of n == place) names n h).0

  -- the type that an index of the object names, and the number in its place
  type_is : (n place : ℕ) (x : Option Operand) (y : Option Named) → named_at names place ≡ y → NamesSame o x y → NamesType y → typed_as (slice_get c.types (number_or_in mode l n y)) ≡ type_named o x
  type_is n place x None e s h = absurd h
  type_is n place x (Some (a_symbol ref)) e s h = absurd h
  type_is n place None (Some (a_type w)) e s h = absurd s
  type_is n place (Some operands.Number) (Some (a_type w)) e s h = absurd s
  type_is n place (Some operands.TableZero) (Some (a_type w)) e s h = absurd s
  type_is n place (Some (operands.Symbol kind at symbol addend)) (Some (a_type w)) e s h = absurd s
  type_is n place (Some (operands.TypeRef at index)) (Some (a_type w)) e s h = ap typed_as (keeps.types w (there place (a_type w) e) ∙ sym s)

  call_is : (f place : ℕ) (x : Option Operand) (y : Option Named) → named_at names place ≡ y → NamesSame o x y → NamesFunction y → typed_as (type_at c (number_or_in mode l f y)) ≡ function_named o x
  call_is f place x None e s h = absurd h
  call_is f place x (Some (a_type w)) e s h = absurd h
  call_is f place None (Some (a_symbol ref)) e s h = absurd s
  call_is f place (Some operands.Number) (Some (a_symbol ref)) e s h = absurd s
  call_is f place (Some operands.TableZero) (Some (a_symbol ref)) e s h = absurd s
  call_is f place (Some (operands.TypeRef at index)) (Some (a_symbol ref)) e s h = absurd s
  call_is f place (Some (operands.Symbol kind at symbol addend)) (Some (a_symbol ref)) e s h = keeps.calls symbol ref (there place (a_symbol ref) e) s h

  table_zero : (n place : ℕ) (y : Option Named) → named_at names place ≡ y → NamesTable n y → number_or_in mode l n y ≡ 0
  table_zero n place None e h = h
  table_zero n place (Some (a_symbol ref)) e h = keeps.tables ref (there place (a_symbol ref) e) h
  table_zero n place (Some (a_type w)) e h = absurd h

  through_is : (n m : ℕ) → n ≡ 0 → in_table (slice_get c.tables n) (typed_as (slice_get c.types m)) ≡ typed_as (slice_get c.types m)
  through_is n m z = ap (λ k. in_table (slice_get c.tables k) (typed_as (slice_get c.types m))) z ∙ ap (λ b. in_table b (typed_as (slice_get c.types m))) keeps.table

  cell_is : (op n place : ℕ) (x : Option Operand) (y : Option Named) → named_at names place ≡ y → NamesSame o x y → NamesCell op y
      → as_global (global op) (global_as (slice_get c.globals (number_or_in mode l n y))) ≡ as_global (global op) (cell_named o x)
  cell_is op n place x None e s h = absurd h
  cell_is op n place x (Some (a_type w)) e s h = absurd h
  cell_is op n place None (Some (a_symbol ref)) e s h = absurd s
  cell_is op n place (Some operands.Number) (Some (a_symbol ref)) e s h = absurd s
  cell_is op n place (Some operands.TableZero) (Some (a_symbol ref)) e s h = absurd s
  cell_is op n place (Some (operands.TypeRef at index)) (Some (a_symbol ref)) e s h = absurd s
  cell_is op n place (Some (operands.Symbol kind at symbol addend)) (Some (a_symbol ref)) e s h = keeps.cells op symbol ref (there place (a_symbol ref) e) s h.0 h.1

  const_is : (n : _) (y : Option Named) → shape c t locals (constant_or_in mode l (instrs.I32Const n) y) ≡ to [] (I32 ∷ [])
  const_is n None = refl
  const_is n (Some named) = refl

  -- the memory is there
  with_memory : (f : Bool → Shape) → f c.memory ≡ f true
  with_memory f = ap f keeps.memory

  shape_is : (x : Placed) (i : Instr) → TakesAt names x i → shape c t locals (instr_in mode l names x i) ≡ shape_as true t locals (object_meaning o ops x i) i
  shape_is x (instrs.Block op (blocks.Index n)) h = ap (as_type (Opens (opener op))) (type_is n x.mid (operand_at ops x.mid) (named_at names x.mid) refl (same x.mid) h)
  shape_is x (instrs.Block op blocks.Empty) h = refl
  shape_is x (instrs.Block op (blocks.Value v)) h = refl
  shape_is x (instrs.Call f) h = ap (as_type Typed) (call_is f x.mid (operand_at ops x.mid) (named_at names x.mid) refl (same x.mid) h)
  shape_is x (instrs.CallIndirect kind table) h =
      ap (as_type called_through)
      (through_is (number_or_in mode l table (named_at names x.mid)) (number_or_in mode l kind (named_at names (first_place x))) (table_zero table x.mid (named_at names x.mid) refl h.1)
      ∙ type_is kind (first_place x) (operand_at ops (first_place x)) (named_at names (first_place x)) refl (same (first_place x)) h.0)
  shape_is x (instrs.GlobalAt op g) h = cell_is op g x.mid (operand_at ops x.mid) (named_at names x.mid) refl (same x.mid) h
  shape_is x (instrs.Access op align offset) h = with_memory (λ b. access b op align)
  shape_is x (instrs.I32Const n) h = const_is n (named_at names x.mid)
  shape_is x instrs.MemorySize h = with_memory (λ b. shape_as b t locals (object_meaning o ops x instrs.MemorySize) instrs.MemorySize)
  shape_is x instrs.MemoryGrow h = with_memory (λ b. shape_as b t locals (object_meaning o ops x instrs.MemoryGrow) instrs.MemoryGrow)
  shape_is x instrs.MemoryCopy h = with_memory (λ b. shape_as b t locals (object_meaning o ops x instrs.MemoryCopy) instrs.MemoryCopy)
  shape_is x instrs.MemoryFill h = with_memory (λ b. shape_as b t locals (object_meaning o ops x instrs.MemoryFill) instrs.MemoryFill)
  shape_is x (instrs.Plain op) h = refl
  shape_is x (instrs.Branch op k) h = refl
  shape_is x (instrs.BranchTable ks k) h = refl
  shape_is x (instrs.SelectTyped ts) h = refl
  shape_is x (instrs.Local op k) h = refl
  shape_is x (instrs.I64Const n) h = refl
  shape_is x (instrs.F32Const n) h = refl
  shape_is x (instrs.F64Const n) h = refl
  shape_is x (instrs.Truncate n) h = refl

  pub shapes_are : (code : List Placed) → ((x : Placed) → Has code x → Takes names x)
      → map (λ q. shape c t locals q.instr) (map (placed_in mode l names) code) ≡ map (object_shape o ops t locals) code
  shapes_are [] f = refl
  shapes_are (x ∷ xs) f =
      ap (λ s. s ∷ map (λ q. shape c t locals q.instr) (map (placed_in mode l names) xs)) (shape_is x x.instr (f x (inl refl)))
      ∙ ap (λ ss. object_shape o ops t locals x ∷ ss) (shapes_are xs (λ y h. f y (inr h)))

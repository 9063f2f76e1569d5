-- An instruction of a live part pairs with the one that the output has.
use Rattle.std.proofs.Common.{◌≡◌, ℕ, List, [], ◌∷◌, map, Option, Some, None, Bool, true, false, refl, sym, subst, inl, inr}
use Rattle.list_places.proofs.Lists.{find_has}
use Rattle.std.specs.Prelude.{◌==◌, slice_get, if◌then◌else◌, Result, Ok, Err}
use Rattle.list_places.specs.Has.{Has}
use Rattle.wasm_types.specs.declared.function.FuncType.{FuncType}
use Rattle.wasm_grammar.specs.declared.fault.Stop.{Stop}
use Rattle.wasm_instr.specs.declared.instr.Instr.{Instr}
use Rattle.wasm_instr.specs.declared.instr.Instr.TheVariants as instrs
use Rattle.wasm_instr.specs.declared.instr.BlockKind.TheVariants as blocks
use Rattle.wasm_instr.specs.declared.body.Placed.{Placed}
use Rattle.wasm_instr.specs.declared.body.Body.{Body}
use Rattle.wasm_instr.specs.Placeless.{instrs_of}
use Rattle.made_symbols.specs.declared.mode.Mode.TheVariants.{Shared}
use Rattle.run_rules.specs.declared.op.Op.TheVariants.{Own, OpenBlock, CallTo, CallThrough, ReadCell, WriteCell, Absent}
use Rattle.run_rules.specs.Ops.{op_of, opening, calling, cell_op}
use Rattle.run_rules.specs.Modules.{coded}
use Rattle.sim_laws.specs.Pairs.{Renaming, OpPairs, Each, SourcePairs}
use Rattle.link_rules.specs.Program.{Program, Ref, TypeWindow, Named, a_symbol, a_type}
use Rattle.link_rules.specs.Keys.{ref_global}
use Rattle.link_rules.specs.Values.{Layout}
use Rattle.link_worlds.specs.Names.{number_in, callee, FunctionGets, CellGets}
use Rattle.link_worlds.specs.Bodies.{place_of, named_at, first_place, to_name, called, called_through, opened, number_or_in, constant_or_in, instr_in, placed_in, body_in}
use Rattle.link_worlds.specs.Sound.{NamesFunction, NamesType, NamesTable, NamesCell, TakesAt, Takes, Shaped}
use Rattle.shared_worlds.specs.Names.{renaming, cell_place}
use Rattle.shared_worlds.specs.Bodies.{at_cell, op_at, objects_op, objects_body}
use Rattle.shared_worlds.proofs.Gets.{RefGets}

module _ (p : Program) (l : Layout) (names : List Named) (types : List FuncType) (cell : ℕ → ℕ) (straight : (n : ℕ) → cell n ≡ n)
    (gets : (ref : Ref) → Has names (a_symbol ref) → RefGets p l ref)
    (typed : (w : TypeWindow) → Has names (a_type w) → slice_get types (number_in Shared l (a_type w)) ≡ Some w.type) where
  abbrev r : Renaming
  r = renaming p l

  there : (place : ℕ) (n : Named) → named_at names place ≡ Some n → Has names n
  there place n h = (find_has (λ n. place_of n == place) names n h).0

  block_pairs : (op n place : ℕ) (o : Option Named) → named_at names place ≡ o → NamesType o → OpPairs r (opened p l op o) (op_of types cell (instrs.Block op (blocks.Index (number_or_in Shared l n o))))
  block_pairs op n place None e h = absurd h
  block_pairs op n place (Some (a_symbol ref)) e h = absurd h
  block_pairs op n place (Some (a_type w)) e h = subst (λ t. OpPairs r (OpenBlock op w.type) (opening op t)) (sym (typed w (there place (a_type w) e))) (refl, refl)

  to_function : (o : Option ℕ) (g : ℕ) → FunctionGets r o g → OpPairs r (to_name CallTo o) (CallTo g)
  to_function None g h = absurd h
  to_function (Some f) g h = h

  call_pairs : (f place : ℕ) (o : Option Named) → named_at names place ≡ o → NamesFunction o → OpPairs r (called p l o) (op_of types cell (instrs.Call (number_or_in Shared l f o)))
  call_pairs f place None e h = absurd h
  call_pairs f place (Some (a_symbol ref)) e h = to_function (callee p ref) (number_in Shared l (a_symbol ref)) ((gets ref (there place (a_symbol ref) e)).function h)
  call_pairs f place (Some (a_type w)) e h = absurd h

  table_zero : (table place : ℕ) (o : Option Named) → named_at names place ≡ o → NamesTable table o → number_or_in Shared l table o ≡ 0
  table_zero table place None e h = h
  table_zero table place (Some (a_symbol ref)) e h = (gets ref (there place (a_symbol ref) e)).table h
  table_zero table place (Some (a_type w)) e h = absurd h

  type_pairs : (k t place : ℕ) (o : Option Named) → named_at names place ≡ o → NamesType o → t ≡ 0 → OpPairs r (called_through p l o) (op_of types cell (instrs.CallIndirect (number_or_in Shared l k o) t))
  type_pairs k t place None e h z = absurd h
  type_pairs k t place (Some (a_symbol ref)) e h z = absurd h
  type_pairs k t place (Some (a_type w)) e h z =
      subst (λ t. OpPairs r (CallThrough w.type) (op_of types cell (instrs.CallIndirect (number_in Shared l (a_type w)) t))) (sym z)
      (subst (λ o. OpPairs r (CallThrough w.type) (calling o)) (sym (typed w (there place (a_type w) e))) refl)

  pub cells_pair : (op c d : ℕ) → r.cell c ≡ Some d → OpPairs r (cell_op op c) (cell_op op d)
  cells_pair op c d h = onto (op == 0x23) (op == 0x24)
    where
      onto : (a b : Bool) → OpPairs r (if a then ReadCell c else if b then WriteCell c else Absent) (if a then ReadCell d else if b then WriteCell d else Absent)
      onto true b = h
      onto false true = h
      onto false false = tt

  pub to_cell : (op : ℕ) (o : Option ℕ) (d : ℕ) → CellGets r o d → OpPairs r (to_name (cell_op op) o) (cell_op op d)
  to_cell op None d h = absurd h
  to_cell op (Some c) d h = cells_pair op c d h

  cell_pairs : (op n place : ℕ) (o : Option Named) → named_at names place ≡ o → NamesCell op o → OpPairs r (at_cell p l op o) (op_of types cell (instrs.GlobalAt op (number_or_in Shared l n o)))
  cell_pairs op n place None e h = absurd h
  cell_pairs op n place (Some (a_symbol ref)) e h =
      subst (λ d. OpPairs r (to_name (cell_op op) (cell_place p (ref_global Shared ref))) (cell_op op d)) (sym (straight (number_in Shared l (a_symbol ref))))
      (to_cell op (cell_place p (ref_global Shared ref)) (number_in Shared l (a_symbol ref)) ((gets ref (there place (a_symbol ref) e)).cell h.0))
  cell_pairs op n place (Some (a_type w)) e h = absurd h

  own_const : (n : _) (o : Option Named) → op_of types cell (constant_or_in Shared l (instrs.I32Const n) o) ≡ Own (constant_or_in Shared l (instrs.I32Const n) o)
  own_const n None = refl
  own_const n (Some named) = refl

  op_pairs : (x : Placed) (i : Instr) → TakesAt names x i → OpPairs r (op_at p l names x i) (op_of types cell (instr_in Shared l names x i))
  op_pairs x (instrs.Block op (blocks.Index n)) h = block_pairs op n x.mid (named_at names x.mid) refl h
  op_pairs x (instrs.Block op blocks.Empty) h = (refl, refl)
  op_pairs x (instrs.Block op (blocks.Value t)) h = (refl, refl)
  op_pairs x (instrs.Call f) h = call_pairs f x.mid (named_at names x.mid) refl h
  op_pairs x (instrs.CallIndirect kind table) h =
      type_pairs kind (number_or_in Shared l table (named_at names x.mid)) (first_place x) (named_at names (first_place x)) refl h.0 (table_zero table x.mid (named_at names x.mid) refl h.1)
  op_pairs x (instrs.GlobalAt op g) h = cell_pairs op g x.mid (named_at names x.mid) refl h
  op_pairs x (instrs.Access op align offset) h = refl
  op_pairs x (instrs.I32Const n) h =
      subst (λ o. OpPairs r (Own (constant_or_in Shared l (instrs.I32Const n) (named_at names x.mid))) o) (sym (own_const n (named_at names x.mid))) refl
  op_pairs x (instrs.Plain op) h = refl
  op_pairs x (instrs.Branch op k) h = refl
  op_pairs x (instrs.BranchTable ks k) h = refl
  op_pairs x (instrs.SelectTyped ts) h = refl
  op_pairs x (instrs.Local op k) h = refl
  op_pairs x instrs.MemorySize h = refl
  op_pairs x instrs.MemoryGrow h = refl
  op_pairs x (instrs.I64Const n) h = refl
  op_pairs x (instrs.F32Const n) h = refl
  op_pairs x (instrs.F64Const n) h = refl
  op_pairs x (instrs.Truncate n) h = refl
  op_pairs x instrs.MemoryCopy h = refl
  op_pairs x instrs.MemoryFill h = refl

  code_pairs : (code : List Placed) → ((x : Placed) → Has code x → Takes names x)
      → Each (OpPairs r) (map (objects_op p l names) code) (map (op_of types cell) (instrs_of (map (placed_in Shared l names) code)))
  code_pairs [] f = tt
  code_pairs (x ∷ xs) f = (op_pairs x x.instr (f x (inl refl)), code_pairs xs (λ y h. f y (inr h)))

  -- a body that is read
  pub body_pairs : (b : Result Body Stop) → Shaped names b → SourcePairs r (objects_body p l names b) (coded (op_of types cell) (body_in Shared l names b))
  body_pairs (Ok b) f = (refl, code_pairs b.code f)
  body_pairs (Err stop) f = absurd f

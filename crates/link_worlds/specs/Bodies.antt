-- The bodies of functions: as the objects have them, with what their references mean, and as the output has them, with numbers. Both look
-- a reference up by its place, so an offset or a constant with a relocation is the same instruction on both sides. Opcodes are Core's
-- (5.4): 0x00 is `unreachable`, 0x0B `end`, 0x23 `global.get`.
use Rattle.std.specs.Prelude.{ℕ, ◌+◌, ◌==◌, Bool, List, [], ◌∷◌, ◌++◌, map, find, if◌then◌else◌, Option, Some, None, Result, Ok, Err}
use Rattle.wasm_grammar.specs.declared.fault.Stop.{Stop}
use Rattle.wasm_instr.specs.declared.instr.Instr.{Instr}
use Rattle.wasm_instr.specs.declared.instr.Instr.TheVariants as instrs
use Rattle.wasm_instr.specs.declared.instr.BlockKind.TheVariants as blocks
use Rattle.wasm_instr.specs.declared.body.Placed.{Placed}
use Rattle.wasm_instr.specs.declared.body.Body.{Body}
use Rattle.wasm_instr.specs.Bodies.{body_at}
use Rattle.linking_section.specs.declared.symbol.SymbolKind.TheVariants.{GlobalVar}
use Rattle.made_symbols.specs.declared.mode.Mode.{Mode}
use Rattle.made_symbols.specs.declared.mode.Mode.TheVariants.{Plain}
use Rattle.name_rules.specs.Entries.{is_kind}
use Rattle.reloc_apply.specs.Windows.{signed32}
use Rattle.run_rules.specs.declared.op.Op.{Op}
use Rattle.run_rules.specs.declared.op.Op.TheVariants.{Own, OpenBlock, CallTo, CallThrough, Number, Absent}
use Rattle.run_rules.specs.declared.world.Source.{Source}
use Rattle.run_rules.specs.declared.world.Source.TheVariants.{Nowhere, Host, Code}
use Rattle.run_rules.specs.Ops.{block_type, opening, cell_op}
use Rattle.link_rules.specs.Program.{Program, Part, Ref, Named, a_symbol, a_type, refs}
use Rattle.link_rules.specs.Keys.{FunctionKey, outside, linker_function, stub, own, is_function_at, function_number, ref_function, ref_global, ref_got}
use Rattle.link_rules.specs.Values.{Layout, part_bytes, got_value}
use Rattle.link_worlds.specs.Names.{callee, cell_place, number_in, number_at}

-- ---- what stands at a place of a body

abbrev pub place_of : Named → ℕ
place_of (a_symbol ref) = ref.place
place_of (a_type w) = w.place

-- The reference at a place, where there is one.
abbrev pub named_at : List Named → ℕ → Option Named
named_at names place = find (λ n. place_of n == place) names

-- The place of the first immediate. That of the last one is `mid`.
abbrev pub first_place : Placed → ℕ
first_place x = x.at + 1

abbrev pub no_body : Body
no_body = record { locals = []; code = [] }

-- an instruction that no object wrote, with no places
abbrev pub bare : Instr → Placed
bare x = record { instr = x; at = 0; mid = 0; end = 0 }

-- ---- as an output of a mode has them: each reference is a number

module _ (mode : Mode) (l : Layout) where
  -- the number in the place of an immediate, where a reference stands there
  abbrev pub number_or_in : ℕ → Option Named → ℕ
  number_or_in n None = n
  number_or_in n (Some named) = number_in mode l named

  abbrev pub constant_or_in : Instr → Option Named → Instr
  constant_or_in x None = x
  constant_or_in x (Some named) = instrs.I32Const (signed32 (number_in mode l named))

  abbrev pub instr_in : List Named → Placed → Instr → Instr
  instr_in names x (instrs.Block op (blocks.Index n)) = instrs.Block op (blocks.Index (number_or_in n (named_at names x.mid)))
  instr_in names x (instrs.Call f) = instrs.Call (number_or_in f (named_at names x.mid))
  instr_in names x (instrs.CallIndirect kind table) = instrs.CallIndirect (number_or_in kind (named_at names (first_place x))) (number_or_in table (named_at names x.mid))
  instr_in names x (instrs.GlobalAt op g) = instrs.GlobalAt op (number_or_in g (named_at names x.mid))
  instr_in names x (instrs.Access op align offset) = instrs.Access op align (number_or_in offset (named_at names x.mid))
  instr_in names x (instrs.I32Const n) = constant_or_in (instrs.I32Const n) (named_at names x.mid)
  instr_in names x i = i

  abbrev pub placed_in : List Named → Placed → Placed
  placed_in names x = record { instr = instr_in names x x.instr; at = x.at; mid = x.mid; end = x.end }

  abbrev pub body_in : List Named → Result Body Stop → Body
  body_in names (Err stop) = no_body
  body_in names (Ok b) = record { locals = b.locals; code = map (placed_in names) b.code }

  -- A part of an object.
  abbrev pub part_in : Program → Option Part → Body
  part_in p None = no_body
  part_in p (Some part) = body_in part.named (body_at (part_bytes p part))

-- ---- as the objects have them: each reference is what it means

abbrev pub to_name : (ℕ → Op) → Option ℕ → Op
to_name f None = Absent
to_name f (Some k) = f k

module _ (p : Program) (l : Layout) where
  abbrev pub called : Option Named → Op
  called None = Absent
  called (Some (a_symbol ref)) = to_name CallTo (callee p ref)
  called (Some (a_type w)) = Absent

  abbrev pub called_through : Option Named → Op
  called_through None = Absent
  called_through (Some (a_symbol ref)) = Absent
  called_through (Some (a_type w)) = CallThrough w.type

  abbrev pub opened : ℕ → Option Named → Op
  opened op None = Absent
  opened op (Some (a_symbol ref)) = Absent
  opened op (Some (a_type w)) = OpenBlock op w.type

  -- The address of a datum, or the slot of a function, can only be read.
  abbrev pub number_op : ℕ → ℕ → Op
  number_op op n = if op == 0x23 then Number n else Absent

  abbrev pub cell_by : ℕ → Ref → Bool → Op
  cell_by op ref b = if b then to_name (cell_op op) (cell_place p (ref_global Plain ref)) else number_op op (got_value Plain l (ref_got ref))

  abbrev pub at_cell : ℕ → Option Named → Op
  at_cell op None = Absent
  at_cell op (Some (a_symbol ref)) = cell_by op ref (is_kind GlobalVar ref.entry)
  at_cell op (Some (a_type w)) = Absent

  -- the number in the place of an immediate, where a reference stands there
  abbrev pub number_or : ℕ → Option Named → ℕ
  number_or n o = number_or_in Plain l n o

  abbrev pub constant_or : Instr → Option Named → Instr
  constant_or x o = constant_or_in Plain l x o

  abbrev pub op_at : List Named → Placed → Instr → Op
  op_at names x (instrs.Block op (blocks.Index n)) = opened op (named_at names x.mid)
  op_at names x (instrs.Block op kind) = opening op (block_type [] kind)
  op_at names x (instrs.Call f) = called (named_at names x.mid)
  op_at names x (instrs.CallIndirect kind table) = called_through (named_at names (first_place x))
  op_at names x (instrs.GlobalAt op g) = at_cell op (named_at names x.mid)
  op_at names x (instrs.Access op align offset) = Own (instrs.Access op align (number_or offset (named_at names x.mid)))
  op_at names x (instrs.I32Const n) = Own (constant_or (instrs.I32Const n) (named_at names x.mid))
  op_at names x i = Own i

  abbrev pub plan_op : List Named → Placed → Op
  plan_op names x = op_at names x x.instr

  abbrev pub plan_body : List Named → Result Body Stop → Source
  plan_body names (Err stop) = Nowhere
  plan_body names (Ok b) = Code b.locals (map (plan_op names) b.code)

  -- A part of an object: its bytes as a body.
  abbrev pub plan_part : Option Part → Source
  plan_part None = Nowhere
  plan_part (Some part) = plan_body part.named (body_at (part_bytes p part))

  -- The linker's function that calls the init functions.
  abbrev pub call_of : Ref → Op
  call_of ref = to_name CallTo (callee p ref)

  abbrev pub plan_calls : Option Part → Source
  plan_calls None = Nowhere
  plan_calls (Some part) = Code [] (map call_of (refs part) ++ Own (instrs.Plain 0x0B) ∷ [])

  -- A function of the program, by its key.
  abbrev pub plan_source : List Part → FunctionKey → Source
  plan_source parts (outside k) = Host k.module_name k.field
  plan_source parts (linker_function k) = plan_calls (find (is_function_at 0 k) parts)
  plan_source parts (stub name) = Code [] (Own (instrs.Plain 0x00) ∷ Own (instrs.Plain 0x0B) ∷ [])
  plan_source parts (own input index) = plan_part (find (is_function_at input index) parts)

  -- ---- as the output has them: each reference is a number

  abbrev pub linked_at : List Named → Placed → Instr → Instr
  linked_at names x i = instr_in Plain l names x i

  abbrev pub linked_placed : List Named → Placed → Placed
  linked_placed names x = placed_in Plain l names x

  abbrev pub linked_body : List Named → Result Body Stop → Body
  linked_body names r = body_in Plain l names r

  abbrev pub linked_part : Option Part → Body
  linked_part o = part_in Plain l p o

  abbrev pub unplaced : Instr → Placed
  unplaced x = bare x

  abbrev pub linked_calls : Option Part → Body
  linked_calls None = no_body
  linked_calls (Some part) = record {
    locals = [];
    code = map (λ ref. unplaced (instrs.Call (function_number l.numbers (ref_function ref)))) (refs part) ++ unplaced (instrs.Plain 0x0B) ∷ [];
  }

  -- The body of a function of the output, by its key. An import has none.
  abbrev pub linked_source : List Part → FunctionKey → Body
  linked_source parts (outside k) = no_body
  linked_source parts (linker_function k) = linked_calls (find (is_function_at 0 k) parts)
  linked_source parts (stub name) = record { locals = []; code = unplaced (instrs.Plain 0x00) ∷ unplaced (instrs.Plain 0x0B) ∷ [] }
  linked_source parts (own input index) = linked_part (find (is_function_at input index) parts)

-- The relocatable object of a program: all that is kept of its objects, with symbols for what they define and refer to.
use Rattle.std.specs.Prelude.{ℕ, ◌+◌, ◌-◌, ◌==◌, Bool, true, false, not, ◌&&◌, ◌||◌, List, [], ◌∷◌, ◌++◌, map, filter, filter_map, flat_map, find, length, take, drop, position, slice_get, slice_index_or, if◌then◌else◌, Option, Some, None, unwrap_or, option_map, option_and_then, bit_and, pos, codes}
use Rattle.std.specs.List.{list_any, list_all}
use Rattle.object_file.specs.wl_base.Choice.{first_some}
use Rattle.object_file.specs.wl_base.declared.fault.Fault.{Fault}
use Rattle.object_file.specs.wl_base.declared.fault.Fault.TheVariants.{Unresolved}
use Rattle.object_file.specs.wasm_types.declared.function.FuncType.{FuncType}
use Rattle.object_file.specs.wasm_types.declared.import.Import.{Import}
use Rattle.object_file.specs.wasm_types.declared.import.ImportKind.{ImportKind}
use Rattle.object_file.specs.wasm_types.declared.import.ImportKind.TheVariants as kinds
use Rattle.object_file.specs.wasm_types.Same.{same_type}
use Rattle.object_file.specs.wasm_module.declared.parts.Export.{Export}
use Rattle.object_file.specs.linking_section.declared.symbol.Symbol.{Symbol}
use Rattle.object_file.specs.linking_section.declared.symbol.SymbolKind.{SymbolKind}
use Rattle.object_file.specs.linking_section.declared.symbol.SymbolKind.TheVariants.{Function, Datum, GlobalVar, Section, Table}
use Rattle.object_file.specs.linking_section.declared.segment.SegmentInfo.{SegmentInfo}
use Rattle.object_file.specs.linking_section.declared.init.InitFunc.{InitFunc}
use Rattle.object_file.specs.linking_section.declared.group.Member.{Member}
use Rattle.object_file.specs.linking_section.declared.group.Group.{Group}
use Rattle.object_file.specs.linking_section.Flags.{is_weak, is_explicit, is_local_definition}
use Rattle.object_file.specs.reloc_section.declared.entry.Reloc.{Reloc}
use Rattle.object_file.specs.object_parts.declared.parts.GlobalDef.{GlobalDef}
use Rattle.object_file.specs.object_columns.declared.functions.FunctionDef.{FunctionDef}
use Rattle.object_file.specs.declared.object.Object.{Object}
use Rattle.object_file.specs.Objects.{no_info}
use Rattle.object_file.specs.Spaces.{function_imports}
use Rattle.name_rules.specs.Entries.{InputSymbol, ImportKey, SymbolType, of_function, of_global, untyped, is_kind, is_entry, is_named, name_of, named, same_entry, group_winner, is_input}
use Rattle.name_rules.specs.Meanings.{Resolved, references, least_import}
use Rattle.mark_bits.specs.declared.chunk.Chunk.{Chunk}
use Rattle.type_merge.specs.Types.{merged}
use Rattle.index_layout.specs.Numbers.{number_by}
use Rattle.reloc_apply.specs.declared.window.Form.TheVariants.{Unsigned5}
use Rattle.reloc_apply.specs.declared.window.Patch.{Patch}
use Rattle.reloc_apply.specs.Windows.{filled}
use Rattle.link_rules.specs.Program.{Program, Part, Content, function, segment, global, linker_made, Named, a_symbol, a_type, Ref, InitCall, init_calls_in, is_that, chunk_at, same_chunk}
use Rattle.link_rules.specs.Marks.{refs_of, resolved_at, all_symbols, is_object_part}
use Rattle.link_rules.specs.Keys.{content_type, function_type_of, window_types}
use Rattle.link_rules.specs.Values.{part_bytes, form_of}
use Rattle.partial_rules.specs.Relocatable.{Relocatable, SpelledGlobal, Windowed}

-- The bits of a symbol's flags but WEAK (0x01), UNDEFINED (0x10) and EXPLICIT_NAME (0x40).
abbrev pub other_flags : ℕ
other_flags = 0xAE

-- The name under which objects import their memory.
abbrev pub memory_import : Import
memory_import = record { «module» = codes "env"; field = codes "__linear_memory"; kind = kinds.Memory (record { min = 0; max = None }) }

abbrev pub is_none : {A : Type 0} → Option A → Bool
is_none None = true
is_none (Some a) = false

-- An empty window holds 0.
abbrev pub empty_window : Named → Patch
empty_window (a_symbol ref) = record { place = ref.place; form = form_of ref.kind; value = 0 }
empty_window (a_type w) = record { place = w.place; form = Unsigned5; value = 0 }

module _ (p : Program) where
  -- ---- the kept parts, by input and index

  abbrev pub kept : ℕ → List Part
  kept kind = filter (λ part. is_object_part part && (part.chunk.kind == kind)) p.parts

  abbrev pub place_of : ℕ → Chunk → ℕ
  place_of kind c = number_by same_chunk (map (λ part. part.chunk) (kept kind)) c

  -- ---- which symbols stand there

  -- The winner of a name, where an object defines it.
  abbrev pub object_winner : List ℕ → Option InputSymbol
  object_winner name = find (λ w. not (w.input == 0) && is_named name w) p.winners

  -- The least entry of a name in an object.
  abbrev pub least_in_object : List ℕ → Option InputSymbol
  least_in_object name = find (λ e. not (e.input == 0) && is_named name e) p.entries

  -- The references of a name: its entries that define nothing.
  abbrev pub name_references : List ℕ → List InputSymbol
  name_references name = references (named p.entries name)

  abbrev pub names_it : List ℕ → Ref → Bool
  names_it name ref = is_entry ref.entry && is_named name ref.entry

  -- A name is referenced where an entry of it defines nothing, or where a window of a kept part or an init entry names one.
  abbrev pub is_referenced : List ℕ → Bool
  is_referenced name = not (length (name_references name) == 0) || list_any (names_it name) (refs_of p.parts)

  -- An entry stands for its name: the winner, where an object has it, else the least entry, where the name is referenced.
  abbrev pub stands_for_name : InputSymbol → Option InputSymbol → Bool
  stands_for_name e (Some w) = same_entry e w
  stands_for_name e None = is_that e (least_in_object (name_of e)) && is_referenced (name_of e)

  abbrev pub stands : InputSymbol → Bool
  stands e = if is_entry e then stands_for_name e (object_winner (name_of e)) else e.defines && not (is_kind Section e)

  -- The symbols by input and place: kept local definitions, and one for each name.
  abbrev pub standing : List InputSymbol
  standing = filter stands (all_symbols p)

  -- A name that no object defines is open.
  abbrev pub is_open : InputSymbol → Bool
  is_open e = is_entry e && is_none (object_winner (name_of e))

  abbrev pub open_of : SymbolKind → List InputSymbol
  open_of kind = filter (λ e. is_open e && is_kind kind e) standing

  -- The number of the symbol that stands for an entry: of its name, or of itself where it is local.
  abbrev pub is_for : InputSymbol → InputSymbol → Bool
  is_for e s = if is_entry e then is_entry s && is_named (name_of e) s else same_entry e s

  abbrev pub symbol_number : InputSymbol → ℕ
  symbol_number e = unwrap_or (position (is_for e) standing) 0

  -- ---- imports: the memory, then one for each open function and global and one for all open tables, in the order of symbols

  -- The import of the least EXPLICIT_NAME reference that stands on one, else of the least reference that stands on one, else `env`
  -- and the name.
  abbrev pub open_import : InputSymbol → ImportKey
  open_import e = unwrap_or
      (first_some (least_import (filter (λ r. is_explicit r.symbol) (name_references (name_of e))) ∷ least_import (name_references (name_of e)) ∷ []))
      (record { module_name = codes "env"; field = name_of e; type = e.type })

  abbrev pub has_import : InputSymbol → SymbolKind → Bool
  has_import e Function = true
  has_import e Datum = false
  has_import e GlobalVar = true
  has_import e Section = false
  has_import e Table = is_that e (find (is_kind Table) standing)

  abbrev pub importing : List InputSymbol
  importing = filter (λ e. is_open e && has_import e e.symbol.kind) standing

  abbrev pub import_types : List FuncType
  import_types = map (λ e. function_type_of (open_import e).type) (open_of Function)

  -- ---- types, each once: those of imports, of functions, and those that windows name

  abbrev pub types : List FuncType
  types = merged (import_types ++ map (λ part. content_type part.content) (kept 0) ++ window_types (kept 0))

  abbrev pub type_number : FuncType → ℕ
  type_number t = number_by same_type types t

  abbrev pub import_kind : SymbolType → ImportKind
  import_kind (of_function t) = kinds.Function (type_number t)
  import_kind (of_global g) = kinds.GlobalVar g
  import_kind untyped = kinds.Table (record { funcref = true; limits = record { min = 0; max = None } })

  abbrev pub import_for : ImportKey → Import
  import_for k = record { «module» = k.module_name; field = k.field; kind = import_kind k.type }

  abbrev pub imports : List Import
  imports = memory_import ∷ map (λ e. import_for (open_import e)) importing

  -- ---- numbers, imports first

  abbrev pub function_number : Chunk → ℕ
  function_number c = length (open_of Function) + place_of 0 c

  abbrev pub global_number : Chunk → ℕ
  global_number c = length (open_of GlobalVar) + place_of 2 c

  -- ---- symbols

  abbrev pub bit_where : ℕ → Bool → ℕ
  bit_where bit test = if test then bit else 0

  -- An open symbol is WEAK where all references of its name are, and EXPLICIT_NAME where one is.
  abbrev pub flags_by : List InputSymbol → ℕ → ℕ
  flags_by refs flags =
      bit_and flags other_flags + 0x10
      + bit_where 0x01 (list_all (λ r. is_weak r.symbol) refs) + bit_where 0x40 (list_any (λ r. is_explicit r.symbol) refs)

  abbrev pub open_index : InputSymbol → SymbolKind → ℕ
  open_index e Function = number_by same_entry (open_of Function) e
  open_index e Datum = 0
  open_index e GlobalVar = number_by same_entry (open_of GlobalVar) e
  open_index e Section = 0
  open_index e Table = 0

  abbrev pub defined_index : InputSymbol → SymbolKind → ℕ
  defined_index e Function = function_number (chunk_at e.input 0 e.index)
  defined_index e Datum = place_of 1 (chunk_at e.input 1 e.index)
  defined_index e GlobalVar = global_number (chunk_at e.input 2 e.index)
  defined_index e Section = 0
  defined_index e Table = 0

  abbrev pub open_symbol : InputSymbol → Symbol
  open_symbol e = record {
    kind = e.symbol.kind;
    flags = flags_by (name_references (name_of e)) e.symbol.flags;
    name = Some (name_of e);
    index = open_index e e.symbol.kind;
    offset = 0;
    size = 0;
  }

  abbrev pub symbol_for : InputSymbol → Symbol
  symbol_for e = if is_open e then open_symbol e else record e.symbol { index = defined_index e e.symbol.kind }

  -- ---- functions, segments and globals

  abbrev pub named_reloc : Named → Reloc
  named_reloc (a_symbol ref) = record { kind = ref.kind; offset = ref.place; index = symbol_number ref.entry; addend = ref.addend }
  named_reloc (a_type w) = record { kind = 6; offset = w.place; index = type_number w.type; addend = pos 0 }

  abbrev pub windowed : Part → Windowed
  windowed part = record { bytes = filled (map empty_window part.named) (part_bytes p part); relocs = map named_reloc part.named }

  abbrev pub content_info : Content → SegmentInfo
  content_info (function t) = no_info
  content_info (segment info) = info
  content_info (global g) = no_info
  content_info (linker_made m) = no_info

  -- The bytes of a global's expression. Every input is a file of its own.
  abbrev pub expression_in : ℕ → GlobalDef → List ℕ
  expression_in input g = take g.span.len (drop g.span.start (slice_index_or p.files (input - 1) []))

  abbrev pub global_in : ℕ → Content → Option SpelledGlobal
  global_in input (function t) = None
  global_in input (segment info) = None
  global_in input (global g) = Some (record { kind = g.kind; value = g.value; bytes = expression_in input g })
  global_in input (linker_made m) = None

  -- The name that a function's own object exports it under.
  abbrev pub exported_name : Chunk → Option (List ℕ)
  exported_name c = option_and_then (λ (r : Resolved). option_and_then (λ (f : FunctionDef). f.export_name) (slice_get r.object.functions c.index)) (resolved_at p.resolved c.input)

  abbrev pub export_for : Part → Option Export
  export_for part = option_map (λ name. record { name = name; kind = 0; index = function_number part.chunk }) (exported_name part.chunk)

  -- ---- init functions and groups

  abbrev pub init_for : InitCall → InitFunc
  init_for c = record { priority = c.priority; symbol = symbol_number c.ref.entry }

  -- Members are data segments (0) and functions (1); those of other kinds are left out.
  abbrev pub member_for : Object → Member → Option Member
  member_for o m =
      if m.kind == 0 then Some (record { kind = 0; index = place_of 1 (chunk_at o.input 1 m.index) })
      else if m.kind == 1 then Some (record { kind = 1; index = function_number (chunk_at o.input 0 (m.index - length (function_imports o))) })
      else None

  abbrev pub group_for : Object → Group → Group
  group_for o g = record { name = g.name; members = filter_map (member_for o) g.members }

  -- A group stands where its winner is this input.
  abbrev pub groups_in : Object → List Group
  groups_in o = map (group_for o) (filter (λ g. is_input o.input (group_winner p.objects g.name)) o.groups)

  -- ---- the whole

  unfoldable pub relocatable : Relocatable
  relocatable = record {
    types = types;
    imports = imports;
    functions = map (λ part. type_number (content_type part.content)) (kept 0);
    globals = filter_map (λ part. global_in part.chunk.input part.content) (kept 2);
    exports = filter_map export_for (kept 0);
    bodies = map windowed (kept 0);
    segments = map windowed (kept 1);
    infos = map (λ part. content_info part.content) (kept 1);
    symbols = map symbol_for standing;
    inits = map init_for (flat_map init_calls_in p.resolved);
    groups = flat_map groups_in p.objects;
  }

  -- ---- what is refused: a reference to a local symbol of a part that isn't kept

  abbrev pub is_lost : InputSymbol → Bool
  is_lost e = is_local_definition e.symbol && not e.defines

  abbrev pub is_lost_there : InputSymbol → Bool
  is_lost_there e = is_lost e && list_any (λ (ref : Ref). same_entry ref.entry e) (refs_of p.parts)

  -- The least such symbol, by input and place.
  unfoldable pub open_local : Option Fault
  open_local = option_map (λ e. Unresolved (name_of e) e.input) (find is_lost_there (all_symbols p))

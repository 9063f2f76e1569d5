-- The loaded objects as parts that refer to one another.
use Rattle.std.specs.Prelude.{ℕ, ◌+◌, ◌==◌, nat_le, Bool, true, false, not, ◌&&◌, List, [], ◌∷◌, ◌++◌, map, filter, filter_map, flat_map, find, length, slice_get, if◌then◌else◌, Option, Some, None, option_map, ℤ, pos}
use Rattle.name_rules.specs.object_file.wl_base.declared.span.Span.{Span}
use Rattle.name_rules.specs.object_file.wl_base.declared.span.FileSpan.{FileSpan}
use Rattle.name_rules.specs.object_file.wasm_types.declared.function.FuncType.{FuncType}
use Rattle.name_rules.specs.object_file.wasm_types.Types.{val_byte}
use Rattle.name_rules.specs.object_file.linking_section.declared.symbol.SymbolKind.{SymbolKind}
use Rattle.name_rules.specs.object_file.linking_section.declared.symbol.SymbolKind.TheVariants.{Function, Datum, GlobalVar, Section, Table}
use Rattle.name_rules.specs.object_file.linking_section.declared.segment.SegmentInfo.{SegmentInfo}
use Rattle.name_rules.specs.object_file.linking_section.declared.init.InitFunc.{InitFunc}
use Rattle.name_rules.specs.object_file.linking_section.Flags.{is_undefined}
use Rattle.name_rules.specs.object_file.linking_section.declared.member_kinds.TheConstants as members
use Rattle.name_rules.specs.object_file.reloc_section.declared.entry.Reloc.{Reloc}
use Rattle.name_rules.specs.object_file.reloc_section.declared.kinds.TheConstants as relocs
use Rattle.name_rules.specs.object_file.body_windows.declared.operand.Operand.{Operand}
use Rattle.name_rules.specs.object_file.body_windows.declared.operand.Operand.TheVariants as operands
use Rattle.name_rules.specs.object_file.object_parts.declared.parts.GlobalDef.{GlobalDef}
use Rattle.name_rules.specs.object_file.object_columns.declared.functions.FunctionDef.{FunctionDef}
use Rattle.name_rules.specs.object_file.object_columns.declared.segments.SegmentDef.{SegmentDef}
use Rattle.name_rules.specs.object_file.declared.object.Object.{Object}
use Rattle.name_rules.specs.object_file.Spaces.{defined_type, written_type, function_imports}
use Rattle.made_symbols.specs.declared.mode.Mode.{Mode}
use Rattle.made_symbols.specs.Made.{made, MadeSymbol, call_ctors}
use Rattle.round_rules.specs.Rounds.{Candidate}
use Rattle.name_rules.specs.Entries.{InputSymbol, SymbolType, of_function, of_global, untyped, entries, is_kept, same_entry, name_of, made_entry}
use Rattle.name_rules.specs.Cases.{has_other_type}
use Rattle.name_rules.specs.Meanings.{Meaning, here, imported, null, nothing, Resolved, resolve, winner}
use Rattle.mark_bits.specs.declared.chunk.Chunk.{Chunk}
use Rattle.mark_bits.specs.declared.kinds.TheConstants as chunks
use Rattle.link_plan.specs.declared.plan.Plan.{Plan}

-- A reference: a window of a part by its place there and its relocation's type, or an init entry (FUNCTION_INDEX_LEB, a call); and the symbol that it
-- names, with its meaning.
pub record Ref : Type 0 where
  pub place : ℕ
  pub kind : ℕ
  pub addend : ℤ
  pub entry : InputSymbol
  pub meaning : Meaning

-- A window that names a type.
pub record TypeWindow : Type 0 where
  pub place : ℕ
  pub type : FuncType

-- What a window names, or what an init entry does: a symbol or a type.
pub data Named : Type 0 where
  a_symbol : Ref → Named
  a_type : TypeWindow → Named

-- What a part is.
pub data Content : Type 0 where
  function : FuncType → Content
  segment : SegmentInfo → Content
  global : GlobalDef → Content
  linker_made : MadeSymbol → Content

-- A part: a chunk of an object or of the linker, with its bytes as a span of a file (none for globals and the linker's
-- parts), and what its windows name, by rising place.
pub record Part : Type 0 where
  pub chunk : Chunk
  pub content : Content
  pub source : FileSpan
  pub named : List Named

-- What all later steps look at: the loaded objects, the entries of names, the winners of all names by input and place, what each
-- symbol means, and the kept parts in the order of the chunk table. The variants are functions that are called by another type than their
-- definition has; there are none but in a link that is like lld's.
pub record Program : Type 0 where
  pub plan : Plan
  pub files : List (List ℕ)
  pub objects : List Object
  pub entries : List InputSymbol
  pub winners : List InputSymbol
  pub resolved : List Resolved
  pub parts : List Part
  pub variants : List InputSymbol

-- ---- references

abbrev pub ref_to : ℕ → ℕ → ℤ → Option InputSymbol → Option Meaning → Option Ref
ref_to place kind addend (Some e) (Some m) = Some (record { place = place; kind = kind; addend = addend; entry = e; meaning = m })
ref_to place kind addend (Some e) None = None
ref_to place kind addend None m = None

-- A reference to a symbol of the object, by its index.
abbrev pub ref_in : Resolved → ℕ → ℕ → ℕ → ℤ → Option Ref
ref_in r place kind symbol addend = ref_to place kind addend (slice_get r.symbols symbol) (slice_get r.meanings symbol)

-- What an operand of a body names. A number names nothing, and neither does table 0, which keeps its bytes.
abbrev pub operand_named : Resolved → Operand → Option Named
operand_named r operands.Number = None
operand_named r (operands.Symbol kind place symbol addend) = option_map a_symbol (ref_in r place kind symbol addend)
operand_named r (operands.TypeRef place index) = Some (a_type (record { place = place; type = written_type r.object index }))
operand_named r operands.TableZero = None

-- What a window of a data segment names.
abbrev pub window_named : Resolved → Reloc → Option Named
window_named r w = option_map a_symbol (ref_in r w.offset w.kind w.index w.addend)

-- ---- what a part refers to

abbrev pub named_ref : Named → Option Ref
named_ref (a_symbol ref) = Some ref
named_ref (a_type w) = None

abbrev pub named_type : Named → Option FuncType
named_type (a_symbol ref) = None
named_type (a_type w) = Some w.type

-- Its references to symbols.
abbrev pub refs : Part → List Ref
refs part = filter_map named_ref part.named

-- The types that it names.
abbrev pub types_named : Part → List FuncType
types_named part = filter_map named_type part.named

-- ---- init functions (Linking.md, "Init Functions")

pub record InitCall : Type 0 where
  pub priority : ℕ
  pub ref : Ref

abbrev pub init_call : Resolved → InitFunc → Option InitCall
init_call r i = option_map (λ ref. record { priority = i.priority; ref = ref }) (ref_in r 0 relocs.FUNCTION_INDEX_LEB i.symbol (pos 0))

-- An init entry is skipped where its symbol is defined in a part that isn't kept.
abbrev pub is_skipped : InitCall → Bool
is_skipped c = not (is_undefined c.ref.entry.symbol) && not c.ref.entry.defines

abbrev pub init_calls_in : Resolved → List InitCall
init_calls_in r = filter (λ c. not (is_skipped c)) (filter_map (init_call r) r.object.inits)

abbrev pub insert_call : InitCall → List InitCall → List InitCall
insert_call c [] = c ∷ []
insert_call c (d ∷ ds) = if nat_le c.priority d.priority then c ∷ d ∷ ds else d ∷ insert_call c ds

abbrev pub by_priority : List InitCall → List InitCall
by_priority [] = []
by_priority (c ∷ cs) = insert_call c (by_priority cs)

-- What `__wasm_call_ctors` calls: the init functions of all loaded objects by rising priority; those of one priority by input, then by
-- their place in the list.
unfoldable pub init_calls : List Resolved → List Ref
init_calls resolved = map (λ c. c.ref) (by_priority (flat_map init_calls_in resolved))

-- ---- spans

abbrev pub file_span : Candidate → Span → FileSpan
file_span c s = record { file = c.file; span = record { start = c.start + s.start; len = s.len } }

abbrev pub no_source : FileSpan
no_source = record { file = 0; span = record { start = 0; len = 0 } }

abbrev pub span_in : Option Candidate → Span → FileSpan
span_in None s = no_source
span_in (Some c) s = file_span c s

-- A span of an object as a span of its file.
abbrev pub span_of : List Candidate → ℕ → Span → FileSpan
span_of all input s = span_in (find (λ c. c.input == input) all) s

-- ---- parts

-- each item with its place, from a place on
abbrev pub indexed : {A B : Type 0} → (ℕ → A → B) → ℕ → List A → List B
indexed f at [] = []
indexed f at (x ∷ xs) = f at x ∷ indexed f (at + 1) xs

abbrev pub option_onto : {A : Type 0} → Option A → List A → List A
option_onto None xs = xs
option_onto (Some x) xs = x ∷ xs

-- whether a chunk of an object is kept; members of groups name functions by their index, imports first
abbrev pub kept_in : List Object → Object → Chunk → Bool
kept_in objects o c =
    if c.kind == chunks.FUNCTION then is_kept objects o members.FUNCTION (c.index + length (function_imports o))
    else if c.kind == chunks.SEGMENT then is_kept objects o members.DATA c.index else true

module _ (all : List Candidate) (objects : List Object) (r : Resolved) where
  abbrev pub function_part : ℕ → FunctionDef → Part
  function_part index f = record {
    chunk = record { input = r.object.input; kind = chunks.FUNCTION; index = index };
    content = function (defined_type r.object f);
    source = span_of all r.object.input f.span;
    named = filter_map (operand_named r) f.operands;
  }

  abbrev pub segment_part : ℕ → SegmentDef → Part
  segment_part index g = record {
    chunk = record { input = r.object.input; kind = chunks.SEGMENT; index = index };
    content = segment g.info;
    source = span_of all r.object.input g.span;
    named = filter_map (window_named r) g.windows;
  }

  abbrev pub global_part : ℕ → GlobalDef → Part
  global_part index g = record {
    chunk = record { input = r.object.input; kind = chunks.GLOBAL; index = index };
    content = global g;
    source = no_source;
    named = [];
  }

  abbrev pub is_part_kept : Part → Bool
  is_part_kept p = kept_in objects r.object p.chunk

  -- The kept parts of an object: its functions, its segments and its globals, each by index.
  abbrev pub parts_in : List Part
  parts_in = filter is_part_kept (indexed function_part 0 r.object.functions ++ indexed segment_part 0 r.object.segments ++ indexed global_part 0 r.object.globals)

-- The kind of chunk that a linker-made symbol is. The linker's data and its table are no chunks.
abbrev pub made_kind : SymbolKind → Option ℕ
made_kind Function = Some chunks.FUNCTION
made_kind Datum = None
made_kind GlobalVar = Some chunks.GLOBAL
made_kind Section = None
made_kind Table = None

-- `__wasm_call_ctors` refers to the init functions; the linker's other chunks refer to nothing.
abbrev pub made_part : List Ref → InputSymbol → MadeSymbol → Option Part
made_part calls e m = option_map (λ kind. record {
  chunk = record { input = 0; kind = kind; index = e.place };
  content = linker_made m;
  source = no_source;
  named = if (kind == chunks.FUNCTION) && (e.place == call_ctors) then map a_symbol calls else [];
}) (made_kind m.kind)

abbrev pub made_parts_from : List Ref → ℕ → List MadeSymbol → List Part
made_parts_from calls place [] = []
made_parts_from calls place (m ∷ ms) = option_onto (made_part calls (made_entry place m) m) (made_parts_from calls (place + 1) ms)

-- The kept parts of the link: the linker's own by number, then those of each object.
unfoldable pub parts_of : Mode → List Candidate → List Object → List Resolved → List Part
parts_of mode all objects resolved =
    made_parts_from (init_calls resolved) 0 (made mode) ++ flat_map (parts_in all objects) resolved

-- ---- the program

abbrev pub is_that : InputSymbol → Option InputSymbol → Bool
is_that e None = false
is_that e (Some w) = same_entry e w

abbrev pub is_winner : List InputSymbol → InputSymbol → Bool
is_winner all e = is_that e (winner all (name_of e))

-- The winners of all names, by input and place.
unfoldable pub winners_of : List InputSymbol → List InputSymbol
winners_of all = filter (is_winner all) all

abbrev pub with_resolved : Mode → Plan → List (List ℕ) → List Candidate → List Object → List InputSymbol → List Resolved → Program
with_resolved mode plan files all objects es resolved = record {
  plan = plan;
  files = files;
  objects = objects;
  entries = es;
  winners = winners_of es;
  resolved = resolved;
  parts = parts_of mode all objects resolved;
  variants = [];
}

abbrev pub with_entries : Mode → Plan → List (List ℕ) → List Candidate → List Object → List InputSymbol → Program
with_entries mode plan files all objects es = with_resolved mode plan files all objects es (resolve mode plan.allow_undefined es objects)

-- The program of the loaded objects, with each call as the objects have it. It is built in steps, each over what the step before gave.
abbrev pub strict_program : Mode → Plan → List (List ℕ) → List Candidate → List Object → Program
strict_program mode plan files all objects = with_entries mode plan files all objects (entries mode objects)

-- ---- functions that are called by another type than their definition has, in a link that is like lld's

-- Declarations without a prototype make such calls, and lld lets them through: each is a call of a function that traps, one for each name
-- and type (`signature_mismatch:NAME` in lld). An address is that of the definition.
abbrev pub is_mismatch : List InputSymbol → InputSymbol → Meaning → Bool
is_mismatch es e (here d) = has_other_type es e
is_mismatch es e (imported k) = false
is_mismatch es e null = false
is_mismatch es e nothing = false

-- The name of the function that traps, by the types that it takes and gives. No object has such a name, since 0xFF stands in no UTF-8.
abbrev pub variant_name : FuncType → List ℕ → List ℕ
variant_name t name = 0xFF ∷ map val_byte t.params ++ 0xFF ∷ map val_byte t.results ++ 0xFF ∷ name

abbrev pub renamed : SymbolType → List ℕ → List ℕ
renamed (of_function t) name = variant_name t name
renamed (of_global g) name = name
renamed untyped name = name

-- The symbol of that name, which nothing defines.
abbrev pub variant : InputSymbol → InputSymbol
variant e = record e { symbol = record e.symbol { name = Some (renamed e.type (name_of e)) } }

abbrev pub variants_among : List InputSymbol → List InputSymbol → List Meaning → List InputSymbol
variants_among all [] ms = []
variants_among all (e ∷ es) [] = []
variants_among all (e ∷ es) (m ∷ ms) = if is_mismatch all e m then variant e ∷ variants_among all es ms else variants_among all es ms

-- The variants of all symbols, by input and place.
abbrev pub variants_of : List InputSymbol → List Resolved → List InputSymbol
variants_of all resolved = flat_map (λ r. variants_among all r.symbols r.meanings) resolved

-- A call of such a function names its variant, which is null.
abbrev pub loose_ref : List InputSymbol → Ref → Ref
loose_ref all ref =
    if (ref.kind == relocs.FUNCTION_INDEX_LEB) && is_mismatch all ref.entry ref.meaning then record ref { entry = variant ref.entry; meaning = null }
    else ref

abbrev pub loose_named : List InputSymbol → Named → Named
loose_named all (a_symbol ref) = a_symbol (loose_ref all ref)
loose_named all (a_type w) = a_type w

abbrev pub loose_part : List InputSymbol → Part → Part
loose_part all part = record part { named = map (loose_named all) part.named }

-- The flag is whether the link is like lld's.
abbrev pub loose_parts : Bool → List InputSymbol → List Part → List Part
loose_parts true all parts = map (loose_part all) parts
loose_parts false all parts = parts

abbrev pub loose_variants : Bool → List InputSymbol → List Resolved → List InputSymbol
loose_variants true all resolved = variants_of all resolved
loose_variants false all resolved = []

abbrev pub loosened : Program → Program
loosened p = record p { parts = loose_parts p.plan.loose_calls p.entries p.parts; variants = loose_variants p.plan.loose_calls p.entries p.resolved }

-- The program of the loaded objects.
unfoldable pub program_of : Mode → Plan → List (List ℕ) → List Candidate → List Object → Program
program_of mode plan files all objects = loosened (strict_program mode plan files all objects)

-- ---- chunks

abbrev pub chunk_at : ℕ → ℕ → ℕ → Chunk
chunk_at input kind index = record { input = input; kind = kind; index = index }

abbrev pub chunk_by : InputSymbol → SymbolKind → Option Chunk
chunk_by e Function = Some (chunk_at e.input chunks.FUNCTION e.index)
chunk_by e Datum = if e.input == 0 then None else Some (chunk_at e.input chunks.SEGMENT e.index)
chunk_by e GlobalVar = Some (chunk_at e.input chunks.GLOBAL e.index)
chunk_by e Section = None
chunk_by e Table = None

-- The chunk in which a symbol is defined.
abbrev pub chunk_of : InputSymbol → Option Chunk
chunk_of e = chunk_by e e.symbol.kind

-- The chunk that a meaning leads to.
abbrev pub meant_chunk : Meaning → Option Chunk
meant_chunk (here e) = chunk_of e
meant_chunk (imported k) = None
meant_chunk null = None
meant_chunk nothing = None

abbrev pub same_chunk : Chunk → Chunk → Bool
same_chunk a b = (a.input == b.input) && (a.kind == b.kind) && (a.index == b.index)

-- The numbered things of the output, each as a list of keys. A number is the place of a key.
use Rattle.std.specs.Prelude.{ℕ, ◌+◌, ◌==◌, Bool, true, false, not, ◌&&◌, ◌||◌, List, [], ◌∷◌, ◌++◌, map, filter, filter_map, flat_map, find, if◌then◌else◌, Option, Some, None, bytes_eq, codes}
use Rattle.std.specs.List.{list_any}
use Rattle.name_rules.specs.object_file.wl_base.Choice.{given, distinct, distinct_onto}
use Rattle.name_rules.specs.object_file.wasm_types.declared.function.FuncType.{FuncType}
use Rattle.name_rules.specs.object_file.wasm_types.Same.{same_type}
use Rattle.name_rules.specs.object_file.linking_section.declared.symbol.SymbolKind.TheVariants.{Function, Datum, GlobalVar}
use Rattle.name_rules.specs.object_file.linking_section.Flags.{kind_code}
use Rattle.name_rules.specs.object_file.Spaces.{no_type}
use Rattle.name_rules.specs.object_file.reloc_section.declared.kinds.TheConstants as relocs
use Rattle.made_symbols.specs.declared.mode.Mode.{Mode}
use Rattle.made_symbols.specs.declared.mode.Mode.TheVariants.{Plain, Shared}
use Rattle.name_rules.specs.Entries.{InputSymbol, ImportKey, SymbolType, of_function, of_global, untyped, is_kind, name_of, same_entry, same_import}
use Rattle.name_rules.specs.Cases.{first_entry}
use Rattle.name_rules.specs.Meanings.{Meaning, here, imported, null, nothing, cell_of}
use Rattle.name_rules.specs.Further.{is_here, made_global_import, further_imports}
use Rattle.mark_bits.specs.declared.kinds.TheConstants as chunks
use Rattle.type_merge.specs.Types.{merged}
use Rattle.index_layout.specs.Numbers.{number_by}
use Rattle.link_rules.specs.Program.{Program, Part, Content, function, segment, global, linker_made, Ref, types_named}
use Rattle.link_rules.specs.Marks.{refs_of, is_foreign, reads_cell, by_mode}

-- A function of the output: an import; one that the linker makes, by its number; the stub of a null name; or one that an object
-- defines, by its input and its place among that object's definitions.
pub data FunctionKey : Type 0 where
  outside : ImportKey → FunctionKey
  linker_function : ℕ → FunctionKey
  stub : List ℕ → FunctionKey
  own : ℕ → ℕ → FunctionKey

abbrev pub same_function : FunctionKey → FunctionKey → Bool
same_function (outside a) (outside b) = same_import a b
same_function (linker_function a) (linker_function b) = a == b
same_function (stub a) (stub b) = bytes_eq a b
same_function (own a i) (own b j) = (a == b) && (i == j)
same_function a b = false

-- What a cell of an address is made for: a definition, by its symbol; an imported function; or null, once for functions and once for
-- data.
pub data GotKey : Type 0 where
  got_entry : InputSymbol → GotKey
  got_import : ImportKey → GotKey
  got_null : ℕ → GotKey

abbrev pub same_got : GotKey → GotKey → Bool
same_got (got_entry a) (got_entry b) = same_entry a b
same_got (got_import a) (got_import b) = same_import a b
same_got (got_null a) (got_null b) = a == b
same_got a b = false

-- A global of the output: an import; one that the linker makes; one that an object defines; a cell of an address; or the address of an
-- exported datum.
pub data GlobalKey : Type 0 where
  outside_global : ImportKey → GlobalKey
  linker_global : ℕ → GlobalKey
  own_global : ℕ → ℕ → GlobalKey
  got : GotKey → GlobalKey
  exported_datum : InputSymbol → GlobalKey

abbrev pub same_global : GlobalKey → GlobalKey → Bool
same_global (outside_global a) (outside_global b) = same_import a b
same_global (linker_global a) (linker_global b) = a == b
same_global (own_global a i) (own_global b j) = (a == b) && (i == j)
same_global (got a) (got b) = same_got a b
same_global (exported_datum a) (exported_datum b) = same_entry a b
same_global a b = false

-- ---- from references to keys

abbrev pub function_of : InputSymbol → FunctionKey
function_of e = if e.input == 0 then linker_function e.place else own e.input e.index

-- The function that a name means; a null one is a stub of the name.
abbrev pub meant_function : List ℕ → Meaning → FunctionKey
meant_function name (here e) = function_of e
meant_function name (imported k) = outside k
meant_function name null = stub name
meant_function name nothing = stub name

abbrev pub ref_function : Ref → FunctionKey
ref_function ref = meant_function (name_of ref.entry) ref.meaning

-- In a shared output a linker-made global is an import.
abbrev pub linker_key : Mode → InputSymbol → GlobalKey
linker_key Plain e = linker_global e.place
linker_key Shared e = outside_global (record { module_name = codes "env"; field = name_of e; type = e.type })

abbrev pub global_of : Mode → InputSymbol → GlobalKey
global_of mode e = if e.input == 0 then linker_key mode e else own_global e.input e.index

abbrev pub got_of : ℕ → Meaning → GotKey
got_of kind (here e) = got_entry e
got_of kind (imported k) = got_import k
got_of kind null = got_null kind
got_of kind nothing = got_null kind

-- The cell of the address of a function or datum.
abbrev pub ref_got : Ref → GotKey
ref_got ref = got_of (kind_code ref.entry.symbol.kind) ref.meaning

abbrev pub meant_global : Mode → Ref → Meaning → GlobalKey
meant_global mode ref (here e) = global_of mode e
meant_global mode ref (imported k) = outside_global k
meant_global mode ref null = got (ref_got ref)
meant_global mode ref nothing = got (ref_got ref)

-- In a shared output a foreign address stands in an imported cell.
abbrev pub cell_key : Mode → Ref → GlobalKey
cell_key Plain ref = got (ref_got ref)
cell_key Shared ref = if is_foreign ref then outside_global (cell_of ref.entry) else got (ref_got ref)

-- A window of GLOBAL_INDEX_LEB names a global, or the cell of the address of a function or datum.
abbrev pub ref_global : Mode → Ref → GlobalKey
ref_global mode ref = if is_kind GlobalVar ref.entry then meant_global mode ref ref.meaning else cell_key mode ref

abbrev pub is_null : Meaning → Bool
is_null (here e) = false
is_null (imported k) = false
is_null null = true
is_null nothing = false

-- ---- imports

abbrev pub import_of : Meaning → Option ImportKey
import_of (here e) = None
import_of (imported k) = Some k
import_of null = None
import_of nothing = None

-- All imports that symbols mean, live or dead, each once, by the least entry among the names that mean it.
unfoldable pub imports_in_order : Program → List ImportKey
imports_in_order p = distinct same_import (filter_map import_of (flat_map (λ r. r.meanings) p.resolved))

-- All that may be imported, each once: what symbols mean, and behind that what a shared output may import besides.
abbrev pub all_imports : Mode → Program → List ImportKey
all_imports mode p = distinct_onto same_import (imports_in_order p) (further_imports mode p.entries p.resolved)

abbrev pub has_import : List ImportKey → ImportKey → Bool
has_import used k = list_any (same_import k) used

abbrev pub is_function_type : SymbolType → Bool
is_function_type (of_function t) = true
is_function_type (of_global g) = false
is_function_type untyped = false

abbrev pub is_global_type : SymbolType → Bool
is_global_type (of_function t) = false
is_global_type (of_global g) = true
is_global_type untyped = false

abbrev pub used_imports : List Ref → List ImportKey
used_imports refs = filter_map (λ ref. import_of ref.meaning) refs

-- In a shared output functions are imported to be called, and other imports are of globals.
abbrev pub imports_by : Mode → Ref → Bool
imports_by Plain ref = true
imports_by Shared ref = (ref.kind == relocs.FUNCTION_INDEX_LEB) || is_kind GlobalVar ref.entry

-- ---- functions

-- The imported functions to which live parts refer.
abbrev pub function_imports_of : Mode → Program → List Ref → List ImportKey
function_imports_of mode p refs = filter (λ k. is_function_type k.type && has_import (used_imports (filter (imports_by mode) refs)) k) (all_imports mode p)

-- whether a reference is a call of the null function of this name
abbrev pub calls_stub : List ℕ → Ref → Bool
calls_stub name ref = (ref.kind == relocs.FUNCTION_INDEX_LEB) && is_null ref.meaning && bytes_eq (name_of ref.entry) name

-- The symbols by which functions are called: the entries of names, and behind them the variants of functions.
abbrev pub callable : Program → List InputSymbol
callable p = p.entries ++ p.variants

-- The names of null functions that live parts call, by their least entries; those of variants are null too.
abbrev pub stub_names : Program → List Ref → List (List ℕ)
stub_names p refs = distinct bytes_eq (map name_of (filter (λ e. list_any (calls_stub (name_of e)) refs) (callable p)))

abbrev pub made_function_key : Part → Option FunctionKey
made_function_key part = given ((part.chunk.input == 0) && (part.chunk.kind == chunks.FUNCTION)) (linker_function part.chunk.index)

abbrev pub own_function_key : Part → Option FunctionKey
own_function_key part = given (not (part.chunk.input == 0) && (part.chunk.kind == chunks.FUNCTION)) (own part.chunk.input part.chunk.index)

-- The linker's functions that are live, the stubs, the live functions of objects by input and index.
abbrev pub defined_functions : Program → List Part → List FunctionKey
defined_functions p parts =
    filter_map made_function_key parts
    ++ map stub (stub_names p (refs_of parts))
    ++ filter_map own_function_key parts

-- The functions of the output, imports first.
unfoldable pub functions : Mode → Program → List Part → List FunctionKey
functions mode p parts = map outside (function_imports_of mode p (refs_of parts)) ++ defined_functions p parts

-- ---- slots

-- Null has no slot, and in a shared output only the link's own functions have one.
abbrev pub may_have_slot : Mode → Meaning → Bool
may_have_slot Plain m = not (is_null m)
may_have_slot Shared m = is_here m

-- The relocations of table indices ask for a slot, and GLOBAL_INDEX_LEB of a function for the cell that holds its slot.
abbrev pub takes_slot : Mode → Ref → Bool
takes_slot mode ref =
    may_have_slot mode ref.meaning
    && ((ref.kind == relocs.TABLE_INDEX_SLEB) || (ref.kind == relocs.TABLE_INDEX_I32) || (ref.kind == relocs.TABLE_INDEX_REL_SLEB)
    || ((ref.kind == relocs.GLOBAL_INDEX_LEB) && is_kind Function ref.entry))

abbrev pub is_taken : List FunctionKey → FunctionKey → Bool
is_taken taken f = list_any (same_function f) taken

-- The functions whose address live parts take, by rising number.
unfoldable pub slots : Mode → List Part → List FunctionKey → List FunctionKey
slots mode parts fs = filter (is_taken (map ref_function (filter (takes_slot mode) (refs_of parts)))) fs

-- ---- globals

abbrev pub used_globals : Mode → Program → List Ref → List ImportKey
used_globals mode p refs = filter (λ k. is_global_type k.type && has_import (used_imports (filter (imports_by mode) refs)) k) (all_imports mode p)

-- The cell of a foreign address that a reference uses.
abbrev pub foreign_cell : Ref → Option ImportKey
foreign_cell ref = given (not (ref.kind == relocs.FUNCTION_INDEX_LEB) && not (is_kind GlobalVar ref.entry) && is_foreign ref) (cell_of ref.entry)

abbrev pub parts_of_kind : ℕ → List Part → List Part
parts_of_kind kind parts = filter (λ part. part.chunk.kind == kind) parts

abbrev pub foreign_cells : List Part → List ImportKey
foreign_cells parts = filter_map foreign_cell (refs_of (parts_of_kind chunks.FUNCTION parts) ++ refs_of (parts_of_kind chunks.SEGMENT parts))

-- The imported globals. In a shared output: the linker's, the cells of foreign addresses over live code and then live data, others.
abbrev pub global_imports_in : Mode → Program → List Part → List ImportKey
global_imports_in Plain p parts = used_globals Plain p (refs_of parts)
global_imports_in Shared p parts = distinct same_import (filter_map made_global_import p.entries ++ foreign_cells parts ++ used_globals Shared p (refs_of parts))

abbrev pub made_global_key : Part → Option GlobalKey
made_global_key part = given ((part.chunk.input == 0) && (part.chunk.kind == chunks.GLOBAL)) (linker_global part.chunk.index)

abbrev pub own_global_key : Part → Option GlobalKey
own_global_key part = given (not (part.chunk.input == 0) && (part.chunk.kind == chunks.GLOBAL)) (own_global part.chunk.input part.chunk.index)

-- whether a reference reads a cell that the link defines; in a shared output those of foreign addresses are imported
abbrev pub needs_got : Mode → Ref → Bool
needs_got Plain ref = reads_cell ref
needs_got Shared ref = reads_cell ref && is_here ref.meaning

-- The cells of addresses, in first-seen order over live code.
abbrev pub got_entries : Mode → List Part → List GotKey
got_entries mode parts = distinct same_got (map ref_got (filter (needs_got mode) (refs_of (parts_of_kind chunks.FUNCTION parts))))

abbrev pub made_globals : Mode → List Part → List GlobalKey
made_globals Plain parts = filter_map made_global_key parts
made_globals Shared parts = []

abbrev pub datum_key : InputSymbol → Option GlobalKey
datum_key e = given (is_kind Datum e) (exported_datum e)

-- The linker's globals that are live, the live globals of objects by input and index, the cells of addresses, the exported data in the
-- order of exports.
abbrev pub defined_globals : Mode → List Part → List InputSymbol → List GlobalKey
defined_globals mode parts exports =
    made_globals mode parts
    ++ filter_map own_global_key parts
    ++ map got (got_entries mode parts)
    ++ filter_map datum_key exports

-- The globals of the output, imports first.
unfoldable pub globals : Mode → Program → List Part → List InputSymbol → List GlobalKey
globals mode p parts exports = map outside_global (global_imports_in mode p parts) ++ defined_globals mode parts exports

-- ---- types

abbrev pub function_type_of : SymbolType → FuncType
function_type_of (of_function t) = t
function_type_of (of_global g) = no_type
function_type_of untyped = no_type

abbrev pub content_type : Content → FuncType
content_type (function t) = t
content_type (segment info) = no_type
content_type (global g) = no_type
content_type (linker_made m) = no_type

abbrev pub entry_type : Option InputSymbol → SymbolType
entry_type None = untyped
entry_type (Some e) = e.type

abbrev pub part_type : Option Part → FuncType
part_type None = no_type
part_type (Some part) = content_type part.content

abbrev pub is_function_at : ℕ → ℕ → Part → Bool
is_function_at input index part = (part.chunk.kind == chunks.FUNCTION) && (part.chunk.input == input) && (part.chunk.index == index)

-- The type of a function of the output. The linker's functions are () to (), and a stub has the type of its name's least entry.
abbrev pub type_of : Program → List Part → FunctionKey → FuncType
type_of p parts (outside k) = function_type_of k.type
type_of p parts (linker_function k) = no_type
type_of p parts (stub name) = function_type_of (entry_type (first_entry (callable p) name))
type_of p parts (own input index) = part_type (find (is_function_at input index) parts)

abbrev pub window_types : List Part → List FuncType
window_types parts = flat_map types_named parts

-- The types of the output, each once: those of its functions in their order, then those that windows of live code name.
unfoldable pub types : Program → List Part → List FunctionKey → List FuncType
types p parts fs = merged (map (type_of p parts) fs ++ window_types parts)

-- ---- all numbers of the output

-- Slot 0 stays empty, but in a shared output, where slots count from the table's base.
pub record Numbers : Type 0 where
  pub functions : List FunctionKey
  pub slots : List FunctionKey
  pub first_slot : ℕ
  pub globals : List GlobalKey
  pub types : List FuncType

abbrev pub numbers_with : Mode → Program → List Part → List InputSymbol → List FunctionKey → Numbers
numbers_with mode p parts exports fs = record {
  functions = fs;
  slots = slots mode parts fs;
  first_slot = by_mode mode 1 0;
  globals = globals mode p parts exports;
  types = types p parts fs;
}

abbrev pub numbers : Mode → Program → List Part → List InputSymbol → Numbers
numbers mode p parts exports = numbers_with mode p parts exports (functions mode p parts)

abbrev pub function_number : Numbers → FunctionKey → ℕ
function_number n f = number_by same_function n.functions f

abbrev pub global_number : Numbers → GlobalKey → ℕ
global_number n g = number_by same_global n.globals g

abbrev pub slot_of : Numbers → FunctionKey → ℕ
slot_of n f = n.first_slot + number_by same_function n.slots f

abbrev pub type_place : Numbers → FuncType → ℕ
type_place n t = number_by same_type n.types t

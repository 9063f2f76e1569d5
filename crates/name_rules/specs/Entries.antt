-- Symbols with all that the rules look at, groups, and the entries of names (Linking.md, "Symbol Table" and "COMDAT").
use Rattle.std.specs.Prelude.{ℕ, ◌+◌, ◌==◌, Bool, true, false, not, ◌&&◌, List, [], ◌∷◌, ◌++◌, filter, find, flat_map, if◌then◌else◌, Option, Some, None, unwrap_or, option_map, is_some, bytes_eq, slice_get, slice_index_or}
use Rattle.std.specs.List.{list_any}
use Rattle.object_file.specs.wasm_types.declared.function.FuncType.{FuncType}
use Rattle.object_file.specs.wasm_types.declared.table.GlobalType.{GlobalType}
use Rattle.object_file.specs.wasm_types.declared.value.ValType.TheVariants.{I32}
use Rattle.object_file.specs.wasm_types.declared.import.Import.{Import}
use Rattle.object_file.specs.wasm_types.Same.{same_type, same_global_type}
use Rattle.object_file.specs.linking_section.declared.symbol.Symbol.{Symbol}
use Rattle.object_file.specs.linking_section.declared.symbol.SymbolKind.{SymbolKind}
use Rattle.object_file.specs.linking_section.declared.symbol.SymbolKind.TheVariants.{Function, Datum, GlobalVar, Section, Table}
use Rattle.object_file.specs.linking_section.declared.group.Group.{Group}
use Rattle.object_file.specs.linking_section.declared.member_kinds.TheConstants as members
use Rattle.object_file.specs.linking_section.Flags.{kind_code, is_weak, is_undefined, is_local_definition}
use Rattle.object_file.specs.declared.object.Object.{Object}
use Rattle.object_file.specs.Spaces.{no_type, function_types, global_types, function_imports, global_imports, table_imports, function_place, global_place}
use Rattle.made_symbols.specs.declared.mode.Mode.{Mode}
use Rattle.made_symbols.specs.Made.{MadeSymbol, made}

-- The type of a symbol: functions and globals have one.
pub data SymbolType : Type 0 where
  of_function : FuncType → SymbolType
  of_global : GlobalType → SymbolType
  untyped : SymbolType

-- What an import of the output is made for: a module, a field and a type. Imports that agree in all three are one.
pub record ImportKey : Type 0 where
  pub module_name : List ℕ
  pub field : List ℕ
  pub type : SymbolType

-- A symbol of an input, by its place in the symbol table, with its type and, where it stands on an import, that import. It defines
-- its name where it is a definition in a kept part. Its class is 0 strong, 1 weak or 2 linker-made datum. The index is of
-- a defined function or global its place among those that the object defines, of a datum its segment, of a linker-made symbol its
-- number.
pub record InputSymbol : Type 0 where
  pub input : ℕ
  pub place : ℕ
  pub symbol : Symbol
  pub type : SymbolType
  pub import : Option ImportKey
  pub defines : Bool
  pub class : ℕ
  pub index : ℕ

abbrev pub is_kind : SymbolKind → InputSymbol → Bool
is_kind kind e = kind_code e.symbol.kind == kind_code kind

-- ---- groups

abbrev pub has_group : List ℕ → Object → Bool
has_group name o = list_any (λ g. bytes_eq g.name name) o.groups

-- The winner of a group: the least loaded input that has a group of this name.
abbrev pub group_winner : List Object → List ℕ → Option ℕ
group_winner objects name = option_map (λ o. o.input) (find (has_group name) objects)

abbrev pub is_input : ℕ → Option ℕ → Bool
is_input input None = false
is_input input (Some other) = input == other

-- whether a part, a data segment or a function by its index, is a member of the group
abbrev pub has_member : ℕ → ℕ → Group → Bool
has_member kind index g = list_any (λ m. (m.kind == kind) && (m.index == index)) g.members

-- A part is kept unless it is a member of a group that another input wins.
abbrev pub is_kept : List Object → Object → ℕ → ℕ → Bool
is_kept objects o kind index = not (list_any (λ g. has_member kind index g && not (is_input o.input (group_winner objects g.name))) o.groups)

-- whether the part in which a symbol is defined is kept; only functions and data segments are dropped with groups
abbrev pub in_kept_part : List Object → Object → Symbol → SymbolKind → Bool
in_kept_part objects o s Function = is_kept objects o members.FUNCTION s.index
in_kept_part objects o s Datum = is_kept objects o members.DATA s.index
in_kept_part objects o s GlobalVar = true
in_kept_part objects o s Section = true
in_kept_part objects o s Table = true

-- ---- symbols

abbrev pub type_in : Object → Symbol → SymbolKind → SymbolType
type_in o s Function = of_function (slice_index_or (function_types o) s.index no_type)
type_in o s Datum = untyped
type_in o s GlobalVar = of_global (slice_index_or (global_types o) s.index (record { kind = I32; var = false }))
type_in o s Section = untyped
type_in o s Table = untyped

-- The import that a symbol stands on: an undefined function, global or table names one by its index, a datum never does.
abbrev pub import_in : Object → Symbol → SymbolKind → Option Import
import_in o s Function = slice_get (function_imports o) s.index
import_in o s Datum = None
import_in o s GlobalVar = slice_get (global_imports o) s.index
import_in o s Section = None
import_in o s Table = slice_get (table_imports o) s.index

-- which of the definitions of its kind the symbol names
abbrev pub index_in : Object → Symbol → SymbolKind → ℕ
index_in o s Function = function_place o s.index
index_in o s Datum = s.index
index_in o s GlobalVar = global_place o s.index
index_in o s Section = s.index
index_in o s Table = s.index

abbrev pub key_of : SymbolType → Import → ImportKey
key_of type i = record { module_name = i.«module»; field = i.field; type = type }

-- A symbol of an object. One that is defined in a part that isn't kept defines nothing: it is read as a reference of the same kind,
-- type and flags, which stands on no import.
abbrev pub entry_in : List Object → Object → ℕ → Symbol → InputSymbol
entry_in objects o place s = record {
  input = o.input;
  place = place;
  symbol = s;
  type = type_in o s s.kind;
  import = option_map (key_of (type_in o s s.kind)) (import_in o s s.kind);
  defines = not (is_undefined s) && in_kept_part objects o s s.kind;
  class = if is_weak s then 1 else 0;
  index = index_in o s s.kind;
}

abbrev pub entries_from : List Object → Object → ℕ → List Symbol → List InputSymbol
entries_from objects o place [] = []
entries_from objects o place (s ∷ ss) = entry_in objects o place s ∷ entries_from objects o (place + 1) ss

-- The symbols of an object, by place.
abbrev pub symbols_of : List Object → Object → List InputSymbol
symbols_of objects o = entries_from objects o 0 o.symbols

-- ---- the linker's own symbols

abbrev pub made_type : MadeSymbol → SymbolKind → SymbolType
made_type m Function = of_function no_type
made_type m Datum = untyped
made_type m GlobalVar = of_global (record { kind = I32; var = m.changes })
made_type m Section = untyped
made_type m Table = untyped

-- A linker-made symbol is HIDDEN (0x04) and defined; its index is its number.
abbrev pub made_entry : ℕ → MadeSymbol → InputSymbol
made_entry place m = record {
  input = 0;
  place = place;
  symbol = record { kind = m.kind; flags = 0x04; name = Some m.name; index = 0; offset = 0; size = 0 };
  type = made_type m m.kind;
  import = None;
  defines = true;
  class = m.class;
  index = place;
}

abbrev pub made_from : ℕ → List MadeSymbol → List InputSymbol
made_from place [] = []
made_from place (m ∷ ms) = made_entry place m ∷ made_from (place + 1) ms

-- ---- entries

-- A symbol is an entry of its name unless it is a local definition. A symbol of a section has no name.
abbrev pub is_entry : InputSymbol → Bool
is_entry e = is_some e.symbol.name && not (is_local_definition e.symbol)

-- The entries of all names, by input and then by place: the linker's own, and the symbols of the loaded objects.
unfoldable pub entries : Mode → List Object → List InputSymbol
entries mode objects = made_from 0 (made mode) ++ filter is_entry (flat_map (symbols_of objects) objects)

abbrev pub name_of : InputSymbol → List ℕ
name_of e = unwrap_or e.symbol.name []

abbrev pub is_named : List ℕ → InputSymbol → Bool
is_named name e = bytes_eq (name_of e) name

-- The entries of a name.
abbrev pub named : List InputSymbol → List ℕ → List InputSymbol
named all name = filter (is_named name) all

-- ---- equality

abbrev pub same_entry : InputSymbol → InputSymbol → Bool
same_entry a b = (a.input == b.input) && (a.place == b.place)

abbrev pub same_symbol_type : SymbolType → SymbolType → Bool
same_symbol_type (of_function a) (of_function b) = same_type a b
same_symbol_type (of_global a) (of_global b) = same_global_type a b
same_symbol_type untyped untyped = true
same_symbol_type a b = false

abbrev pub same_import : ImportKey → ImportKey → Bool
same_import a b = bytes_eq a.module_name b.module_name && bytes_eq a.field b.field && same_symbol_type a.type b.type

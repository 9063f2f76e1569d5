-- What is looked up of the symbols of all objects: a row each.
use Rattle.std.specs.Prelude.{◌≡◌, ℕ, ◌==◌, not, ◌&&◌, List, [], length, slice_get, slice_index_or, Option, Some, None, is_some}
use Rattle.name_rules.specs.object_file.wasm_types.declared.table.GlobalType.{GlobalType}
use Rattle.name_rules.specs.object_file.linking_section.declared.symbol.Symbol.{Symbol}
use Rattle.name_rules.specs.object_file.linking_section.declared.symbol.SymbolKind.{SymbolKind}
use Rattle.name_rules.specs.object_file.linking_section.declared.symbol.SymbolKind.TheVariants.{Function, Datum, GlobalVar, Section, Table}
use Rattle.name_rules.specs.object_file.linking_section.Flags.{is_undefined}
use Rattle.name_rules.specs.object_file.declared.object.Object.{Object}
use Rattle.name_rules.specs.object_file.Spaces.{written_type}
use Rattle.link_names.specs.Numbered.{number_seen}
use Rattle.name_rules.specs.Entries.{SymbolType, of_function, of_global, untyped, in_kept_part, type_in, import_in, index_in}
use Rattle.name_entries.specs.declared.symbol_rows.EntryRow.{EntryRow}

-- The type of a symbol of this kind: of a function that at an index of its object's types, of a global this one.
abbrev pub type_told : Object → ℕ → GlobalType → SymbolKind → SymbolType
type_told o index global Function = of_function (written_type o index)
type_told o index global Datum = untyped
type_told o index global GlobalVar = of_global global
type_told o index global Section = untyped
type_told o index global Table = untyped

-- At this place stands the import that a symbol stands on. 2^32 - 1 is the place of none.
pub record IsImportAt (o : Object) (s : Symbol) (at : ℕ) : Type 0 where
  pub found : slice_get o.imports at ≡ import_in o s s.kind
  pub stands : not (at == 4294967295) ≡ is_some (import_in o s s.kind)

-- A row tells what a symbol is, of which this is the number of its name.
pub record Tells (objects : List Object) (o : Object) (name : Option ℕ) (s : Symbol) (r : EntryRow) : Type 0 where
  pub input : r.input ≡ o.input
  pub number : number_seen r.number ≡ name
  pub kind : r.kind ≡ s.kind
  pub flags : r.flags ≡ s.flags
  pub offset : r.offset ≡ s.offset
  pub index : r.index ≡ index_in o s s.kind
  pub type : type_told o r.type_index r.global s.kind ≡ type_in o s s.kind
  pub import : IsImportAt o s r.import
  pub defines : r.defines ≡ (not (is_undefined s) && in_kept_part objects o s s.kind)

-- One for each symbol of an object, by place.
pub record AreRowsOf (objects : List Object) (o : Object) (names : List (Option ℕ)) (rows : List EntryRow) : Type 0 where
  pub count : length rows ≡ length o.symbols
  pub each : (k : ℕ) (s : Symbol) (r : EntryRow) → slice_get o.symbols k ≡ Some s → slice_get rows k ≡ Some r
      → Tells objects o (slice_index_or names k None) s r

-- Those of each object, by place.
pub record AreRows (objects : List Object) (names : List (List (Option ℕ))) (rows : List (List EntryRow)) : Type 0 where
  pub count : length rows ≡ length objects
  pub each : (i : ℕ) (o : Object) (rs : List EntryRow) → slice_get objects i ≡ Some o → slice_get rows i ≡ Some rs
      → AreRowsOf objects o (slice_index_or names i []) rs

-- A row tells of the symbol at a place of an object, by the object's place.
pub record TellsAt (objects : List Object) (names : List (List (Option ℕ))) (i k : ℕ) (r : EntryRow) : Type 0 where
  pub from : Object
  pub symbol : Symbol
  pub there : slice_get objects i ≡ Some from
  pub here : slice_get from.symbols k ≡ Some symbol
  pub tells : Tells objects from (slice_index_or (slice_index_or names i []) k None) symbol r

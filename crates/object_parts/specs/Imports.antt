-- The imports of an object (Core 5.5.5, Linking.md): at most one memory, and at most one table,
-- which is the table of functions of funcref.
use Rattle.std.specs.Prelude.{◌≡◌, ℕ, ◌==◌, ◌&&◌, Bool, true, false, not, IsTrue, List, codes, if◌then◌else◌, Result, Ok, Err}
use Rattle.std.specs.Str.{bytes_eq}
use Rattle.wasm_instr.specs.wl_base.declared.item.Item.TheVariants as items
use Rattle.wasm_instr.specs.wasm_grammar.declared.fault.Stop.{Stop}
use Rattle.wasm_instr.specs.wasm_grammar.declared.fault.Stop.TheVariants.{Foreign}
use Rattle.wasm_instr.specs.wasm_grammar.Reading.{Read, ◌>>=◌, byte_at, name_at}
use Rattle.wasm_instr.specs.wasm_types.Types.{SpellsImport, table_type_at, import_kind_at}
use Rattle.wasm_instr.specs.wasm_types.declared.import.Import.{Import}
use Rattle.wasm_instr.specs.wasm_types.declared.import.ImportKind.{ImportKind}
use Rattle.wasm_instr.specs.wasm_types.declared.import.ImportKind.TheVariants as kinds
use Rattle.object_parts.specs.declared.imports.Seen.{Seen}
use Rattle.object_parts.specs.Turns.{Spelling}

-- Whether an import has the names of the table of functions (Linking.md, "Table").
abbrev pub names_table : List ℕ → List ℕ → Bool
names_table from field = bytes_eq from (codes "env") && bytes_eq field (codes "__indirect_function_table")

-- What an import may be, where others came before.
abbrev pub IsTaken : Seen → List ℕ → List ℕ → ImportKind → Type 0
IsTaken seen from field (kinds.Function index) = Unit {0}
IsTaken seen from field (kinds.Table t) = IsTrue (names_table from field && not seen.table) × (t.funcref ≡ true)
IsTaken seen from field (kinds.Memory limits) = seen.memory ≡ false
IsTaken seen from field (kinds.GlobalVar t) = Unit {0}

abbrev pub SpellsObjectImport : Spelling Seen Import
SpellsObjectImport seen end i text rest = SpellsImport i text × IsTaken seen i.«module» i.field i.kind

-- What was imported, with one import more.
abbrev pub seen_kind : Seen → ImportKind → Seen
seen_kind seen (kinds.Function index) = seen
seen_kind seen (kinds.Table t) = record { table = true; memory = seen.memory }
seen_kind seen (kinds.Memory limits) = record { table = seen.table; memory = true }
seen_kind seen (kinds.GlobalVar t) = seen

abbrev pub seen_import : Seen → Import → Seen
seen_import seen i = seen_kind seen i.kind

abbrev pub none_seen : Seen
none_seen = record { table = false; memory = false }

-- A table of funcref, behind the byte 01. One of externref (6F) is foreign.
unfoldable pub funcref_table_at : Read ImportKind
funcref_table_at end bytes = do
  byte ← byte_at end bytes
  t ← (if byte.0 == 0x6f then Err (Foreign items.OtherTable) else table_type_at end bytes)
  Ok (kinds.Table t.0, t.1)

-- A table, where the names are those of the table of functions and no other came before. Else it is
-- foreign, whatever follows.
abbrev pub table_import_at : Bool → Read ImportKind
table_import_at taken end rest = if taken then funcref_table_at end rest else Err (Foreign items.OtherTable)

-- What an import is, by its first byte. A second memory is foreign, whatever follows.
abbrev pub taken_kind : Seen → Bool → ℕ → ℕ → List ℕ → List ℕ → Result (ImportKind × List ℕ) Stop
taken_kind seen named tag end bytes rest =
    if tag == 1 then table_import_at (named && not seen.table) end rest
    else (if (tag == 2) && seen.memory then Err (Foreign items.MoreMemories)
    else import_kind_at end bytes)

unfoldable pub object_import_at : Seen → Read Import
object_import_at seen end bytes = do
  from ← name_at end bytes
  field ← name_at end from.1
  tag ← byte_at end field.1
  kind ← taken_kind seen (names_table from.0 field.0) tag.0 end field.1 tag.1
  Ok (record { «module» = from.0; field = field.0; kind = kind.0 }, kind.1)

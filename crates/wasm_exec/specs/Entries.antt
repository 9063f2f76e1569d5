-- An imported table with as many entries as a script says, all null.
use Rattle.std.specs.Prelude.{ℕ, map, Option, Some, None}
use Rattle.wasm_types.specs.declared.import.Import.{Import}
use Rattle.wasm_types.specs.declared.import.ImportKind.{ImportKind}
use Rattle.wasm_types.specs.declared.import.ImportKind.TheVariants as kinds
use Rattle.wasm_module.specs.declared.structure.Module.{Module}

-- what is imported, with so many entries where it is a table
abbrev pub long_kind : ℕ → ImportKind → ImportKind
long_kind entries (kinds.Table t) = kinds.Table (record t { limits = record t.limits { min = entries } })
long_kind entries (kinds.Function n) = kinds.Function n
long_kind entries (kinds.Memory l) = kinds.Memory l
long_kind entries (kinds.GlobalVar g) = kinds.GlobalVar g

abbrev pub long_import : ℕ → Import → Import
long_import entries x = record x { kind = long_kind entries x.kind }

-- The module, each of whose imported tables has this number of entries in place of the least that it states; itself, where none is said.
abbrev pub with_entries : Option ℕ → Module → Module
with_entries None m = m
with_entries (Some entries) m = record m { imports = map (long_import entries) m.imports }

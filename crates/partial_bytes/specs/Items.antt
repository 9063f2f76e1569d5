-- The small records as bytes, by the object that they stand for.
use Rattle.std.specs.Prelude.{ℕ, List}
use Rattle.partial_rules.specs.Relocatable.{spelled_global, segment_info, symbol, group}
use Rattle.partial_bytes.specs.declared.tree.GlobalRow.{GlobalRow}
use Rattle.partial_bytes.specs.declared.tree.InfoRow.{InfoRow}
use Rattle.partial_bytes.specs.declared.tree.SymbolRow.{SymbolRow}
use Rattle.partial_bytes.specs.declared.tree.GroupRow.{GroupRow}
use Rattle.partial_bytes.specs.Told.{global_told, info_told, symbol_told, group_told}

abbrev pub global_row : GlobalRow → List ℕ
global_row g = spelled_global (global_told g)

abbrev pub info_row : InfoRow → List ℕ
info_row i = segment_info (info_told i)

abbrev pub symbol_row : SymbolRow → List ℕ
symbol_row s = symbol (symbol_told s)

abbrev pub group_row : GroupRow → List ℕ
group_row g = group (group_told g)

-- No small record is spelled by no byte.
use Rattle.std.proofs.Common.{◌<◌, ◌++◌, ℕ, List, length, arith, length-append}
use Rattle.image_emit.specs.Bytes.{sized}
use Rattle.leb_codec.specs.Shortest.{u32}
use Rattle.image_emit.specs.Some.{u32_some}
use Rattle.linking_section.specs.declared.init.InitFunc.{InitFunc}
use Rattle.linking_section.specs.declared.group.Member.{Member}
use Rattle.partial_rules.specs.Relocatable.{init, member}
use Rattle.partial_bytes.specs.declared.tree.GlobalRow.{GlobalRow}
use Rattle.partial_bytes.specs.declared.tree.InfoRow.{InfoRow}
use Rattle.partial_bytes.specs.declared.tree.SymbolRow.{SymbolRow}
use Rattle.partial_bytes.specs.declared.tree.GroupRow.{GroupRow}
use Rattle.partial_bytes.specs.Items.{global_row, info_row, symbol_row, group_row}

pub global_some : (g : GlobalRow) → 0 < length (global_row g)
global_some g = omega arith

pub symbol_some : (s : SymbolRow) → 0 < length (symbol_row s)
symbol_some s = omega arith

pub member_some : (m : Member) → 0 < length (member m)
member_some m = omega arith

pub init_some : (i : InitFunc) → 0 < length (init i)
init_some i = omega (arith, length-append (u32 i.priority) (u32 i.symbol), u32_some i.priority)

sized_some : (bytes more rest : List ℕ) → 0 < length (sized bytes ++ more ++ rest)
sized_some bytes more rest = omega (arith, length-append (sized bytes ++ more) rest, length-append (sized bytes) more, length-append (u32 (length bytes)) bytes, u32_some (length bytes))

pub info_some : (i : InfoRow) → 0 < length (info_row i)
info_some i = sized_some i.name.now (u32 i.align) (u32 i.flags)

pub group_some : (g : GroupRow) → 0 < length (group_row g)
group_some g = sized_some g.name.now (u32 0) _

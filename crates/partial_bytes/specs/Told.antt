-- The object that plain data stand for.
use Rattle.std.specs.Prelude.{◌≡◌, ℕ, List, map, length, option_map, All}
use Rattle.reloc_section.specs.declared.entry.Reloc.{Reloc}
use Rattle.linking_section.specs.declared.symbol.Symbol.{Symbol}
use Rattle.linking_section.specs.declared.segment.SegmentInfo.{SegmentInfo}
use Rattle.linking_section.specs.declared.group.Group.{Group}
use Rattle.reloc_apply.specs.declared.window.Patch.{Patch}
use Rattle.reloc_apply.specs.Windows.{filled}
use Rattle.reloc_apply.specs.Apart.{LiesIn}
use Rattle.link_rules.specs.Program.{Program, Part as ProgramPart}
use Rattle.link_rules.specs.Values.{form_of, part_bytes}
use Rattle.partial_rules.specs.Relocatable.{Relocatable, SpelledGlobal, Windowed}
use Rattle.partial_rules.specs.Partial.{empty_window, windowed, named_reloc}
use Rattle.partial_bytes.specs.declared.tree.Part.{Part}
use Rattle.partial_bytes.specs.declared.tree.GlobalRow.{GlobalRow}
use Rattle.partial_bytes.specs.declared.tree.InfoRow.{InfoRow}
use Rattle.partial_bytes.specs.declared.tree.SymbolRow.{SymbolRow}
use Rattle.partial_bytes.specs.declared.tree.GroupRow.{GroupRow}
use Rattle.partial_bytes.specs.declared.tree.Tree.{Tree}
use Rattle.partial_bytes.specs.Relocs.{relocs_of}

-- The window of a relocation, empty: it holds 0 in the form that follows from the relocation's type.
abbrev pub empty_of : Reloc → Patch
empty_of x = record { place = x.offset; form = form_of x.kind; value = 0 }

-- Bytes with empty windows.
abbrev pub emptied : List Reloc → List ℕ → List ℕ
emptied relocs bytes = filled (map empty_of relocs) bytes

abbrev pub part_with : List Reloc → List ℕ → Windowed
part_with relocs bytes = record { bytes = emptied relocs bytes; relocs = relocs }

abbrev pub part_told : Part → Windowed
part_told p = part_with (relocs_of p) p.bytes.now

abbrev pub global_told : GlobalRow → SpelledGlobal
global_told g = record { kind = g.kind; value = g.value; bytes = g.bytes.now }

abbrev pub info_told : InfoRow → SegmentInfo
info_told i = record { name = i.name.now; align = i.align; flags = i.flags }

abbrev pub symbol_told : SymbolRow → Symbol
symbol_told s = record { kind = s.kind; flags = s.flags; name = option_map (λ name. name.now) s.name; index = s.index; offset = s.offset; size = s.size }

abbrev pub group_told : GroupRow → Group
group_told g = record { name = g.name.now; members = g.members.now }

abbrev pub tree_told : Tree → Relocatable
tree_told t = record {
  types = t.types.now;
  imports = t.imports.now;
  functions = t.functions.now;
  globals = map global_told t.globals.now;
  exports = t.exports.now;
  bodies = map part_told t.bodies.now;
  segments = map part_told t.segments.now;
  infos = map info_told t.infos.now;
  symbols = map symbol_told t.symbols.now;
  inits = t.inits.now;
  groups = map group_told t.groups.now;
}

-- The window of each relocation lies in the part.
abbrev pub PartFits : Part → Type 0
PartFits p = All (LiesIn (length p.bytes.now)) (map empty_of (relocs_of p))

-- The windows of all parts do.
pub record TreeFits (t : Tree) : Type 0 where
  pub bodies : All PartFits t.bodies.now
  pub segments : All PartFits t.segments.now

-- ---- the parts of a program

-- The rows of parts: their relocations are those that the definition makes of what the parts name, and their bytes are the parts'.
pub record AreRows (p : Program) (parts : List ProgramPart) (rows : List Part) : Type 0 where
  pub relocs : map (λ row. (relocs_of row)) rows ≡ map (λ part. map (named_reloc p) part.named) parts
  pub bytes : map (λ row. row.bytes.now) rows ≡ map (part_bytes p) parts

-- They stand for the parts with empty windows.
abbrev pub RowsAreWindowed : Type 0
RowsAreWindowed = (p : Program) (parts : List ProgramPart) (rows : List Part) → AreRows p parts rows → map part_told rows ≡ map (windowed p) parts

-- Where the windows of the parts lie in them, those of the rows do.
abbrev pub WindowsLie : Program → ProgramPart → Type 0
WindowsLie p part = All (LiesIn (length (part_bytes p part))) (map empty_window part.named)

abbrev pub RowsFit : Type 0
RowsFit = (p : Program) (parts : List ProgramPart) (rows : List Part) → AreRows p parts rows → All (WindowsLie p) parts → All PartFits rows

-- When what references are looked up in is that of a layout.
use Rattle.std.specs.Prelude.{◌≡◌, map}
use Rattle.link_program.specs.link_rules.Values as values
use Rattle.link_image.specs.link_layout.declared.values.Layout.{Layout}
use Rattle.sym_parts.specs.declared.sought.Sought.{Sought}
use Rattle.sym_parts.specs.Keys.{functions_of, cells_of}
use Rattle.sym_functions.specs.Bases.{base_seen}

pub record IsSoughtOf (l : values.Layout) (d : Layout) (k : Sought) : Type 0 where
  pub tables : k.tables.now ≡ d.program.tables.now
  pub bases : k.bases.now ≡ map (base_seen l d.numbering.now) d.program.tables.now.symbols
  pub functions : k.functions.now ≡ functions_of d.program.resolution.now.imports d.program.tables.now
  pub cells : k.cells.now ≡ cells_of d.program.resolution.now.imports d.program.tables.now

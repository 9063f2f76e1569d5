-- What the rows of the tree tell.
use Rattle.std.specs.Prelude.{◌≡◌, List, map, All}
use Rattle.partial_items.specs.link_program.link_rules.Program.{Program}
use Rattle.partial_items.specs.partial_rules.Partial as partial
use Rattle.partial_items.specs.partial_rules.Partial.{relocatable}
use Rattle.partial_items.specs.partial_bytes.Told.{part_told, global_told, info_told, symbol_told, group_told, PartFits}
use Rattle.relink_out.specs.declared.rows.PartRows.{PartRows}
use Rattle.relink_out.specs.declared.rows.NameRows.{NameRows}

-- The kept globals, bodies and data segments, each of which fits into 32 bits.
pub record ArePartRows (p : Program) (x : PartRows) : Type 0 where
  pub globals : map global_told x.globals ≡ (relocatable p).globals
  pub bodies : map part_told x.bodies ≡ map (partial.windowed p) (partial.kept p 0)
  pub segments : map part_told x.segments ≡ map (partial.windowed p) (partial.kept p 1)
  pub bodies_fit : All PartFits x.bodies
  pub segments_fit : All PartFits x.segments

-- What data segments are named, the symbols and the groups.
pub record AreNameRows (p : Program) (x : NameRows) : Type 0 where
  pub infos : map info_told x.infos ≡ (relocatable p).infos
  pub symbols : map symbol_told x.symbols ≡ map (partial.symbol_for p) (partial.standing p)
  pub groups : map group_told x.groups ≡ (relocatable p).groups

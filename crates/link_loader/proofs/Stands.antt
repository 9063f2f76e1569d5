-- What is known of a layout, in an output of a mode.
use Rattle.std.proofs.Common.{◌≡◌, ℕ, List, map, filter, slice_get, Some}
use Rattle.link_program.specs.made_symbols.declared.mode.Mode.{Mode}
use Rattle.link_program.specs.name_rules.Entries.{InputSymbol}
use Rattle.link_program.specs.link_rules.Program as rules
use Rattle.link_program.specs.link_rules.Keys.{numbers}
use Rattle.link_program.specs.link_rules.Values.{solid_segments}
use Rattle.link_program.specs.Program.{IsProgramOf}
use Rattle.link_program.specs.Stand.{PartsStand}
use Rattle.link_program.specs.Live.{AreLive, AllMeant}
use Rattle.link_layout.specs.link_numbers.Numbered.{IsNumbering}
use Rattle.link_layout.specs.link_numbers.Laws.{AreImported}
use Rattle.link_layout.specs.declared.values.Layout.{Layout}
use Rattle.link_layout.specs.Placed.{IsPlacedIn}
use Rattle.link_layout.specs.Seen.{is_solid_at}
use Rattle.link_layout.specs.Layout.{looked}

pub record Stands (m : Mode) (p : rules.Program) (parts : List rules.Part) (es : List InputSymbol) (d : Layout) : Type 0 where
  pub program : IsProgramOf m d.program p
  pub stand : PartsStand p
  pub live : (live : List ℕ) × AreLive p live parts
  pub meant : AllMeant parts
  pub numbering : IsNumbering d.program.names.now.names d.program.resolution.now.imports d.program.tables.now.types p parts d.numbering.now (numbers m p parts es)
  pub placed : IsPlacedIn m p parts d.placed.now
  -- the imported globals of a shared output are among the imports
  pub imported : AreImported m d.program.resolution.now.imports p parts
  -- the numbers of the live segments that aren't zero
  pub solid : (live : List ℕ) → AreLive p live parts → map (slice_get p.parts) (filter (is_solid_at (looked d)) live) ≡ map Some (solid_segments p parts)

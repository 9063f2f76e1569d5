-- A layout with what the laws of numbers say of it.
use Rattle.std.proofs.Common.{◌≡◌, ◌∙◌, ℕ, List, ap}
use Rattle.std.specs.List.{All}
use Rattle.link_program.specs.made_symbols.declared.mode.Mode.{Mode}
use Rattle.link_program.specs.name_rules.Entries.{InputSymbol}
use Rattle.link_program.specs.link_rules.Program as rules
use Rattle.link_program.specs.link_rules.Marks.{refs_of}
use Rattle.link_program.specs.link_rules.ModeOf.{mode_of}
use Rattle.link_program.specs.link_rules.Keys.{numbers}
use Rattle.link_program.specs.declared.program.Program.{Program as Data}
use Rattle.link_program.specs.Program.{IsProgramOf}
use Rattle.link_program.specs.Stand.{PartsStand}
use Rattle.link_program.specs.Live.{AreLive, AllMeant}
use Rattle.link_numbers.specs.Numbered.{IsNumbering}
use Rattle.link_numbers.specs.Laws.{TellsNumbers, KnowsRefOf, AreImported}
use Rattle.link_layout.specs.declared.values.Layout.{Layout}
use Rattle.link_layout.specs.Placed.{IsPlacedIn}
use Rattle.link_layout.specs.Layout.{looked, IsLayoutIn}
use Rattle.link_layout.proofs.Linkers.{MeansLinkers, linkers_meant}

pub record IsTold (mode : Mode) (p : rules.Program) (parts : List rules.Part) (es : List InputSymbol) (d : Layout) : Type 0 where
  pub asked : (looked d).mode ≡ mode
  pub program : IsProgramOf mode d.program p
  pub stand : PartsStand p
  pub live : (live : List ℕ) × AreLive p live parts
  pub meant : AllMeant parts
  pub numbering : IsNumbering d.program.names.now.names d.program.resolution.now.imports d.program.tables.now.types p parts d.numbering.now (numbers mode p parts es)
  pub placed : IsPlacedIn mode p parts d.placed.now
  pub tells : TellsNumbers d.program.names.now.names d.program.resolution.now.imports (numbers mode p parts es)
  pub knows : All (KnowsRefOf mode d.program.names.now.names d.program.resolution.now.imports) (refs_of parts)
  pub linkers : All (λ ref. MeansLinkers mode ref.meaning) (refs_of parts)

abbrev pub NumbersTold : Type 0
NumbersTold = (mode : Mode) (d : Data) (p : rules.Program) (live : List ℕ) (parts : List rules.Part) (es : List InputSymbol) → IsProgramOf mode d p → PartsStand p → AreLive p live parts → AllMeant parts
    → AreImported mode d.resolution.now.imports p parts → TellsNumbers d.names.now.names d.resolution.now.imports (numbers mode p parts es)

abbrev pub RefsKnown : Type 0
RefsKnown = (mode : Mode) (d : Data) (p : rules.Program) (live : List ℕ) (parts : List rules.Part) → IsProgramOf mode d p → PartsStand p → AreLive p live parts → AllMeant parts
    → All (KnowsRefOf mode d.names.now.names d.resolution.now.imports) (refs_of parts)

module _ (mode : Mode) (numbers : NumbersTold) (refs : RefsKnown) (p : rules.Program) (parts : List rules.Part) (es : List InputSymbol) (d : Layout) (is : IsLayoutIn mode p parts es d) where
  -- with the live parts by these numbers
  abbrev pub told_with : (live : List ℕ) → AreLive p live parts → IsTold mode p parts es d
  told_with live lives = record {
    asked = ap mode_of is.program.plan ∙ is.asked;
    program = is.program;
    stand = is.stand;
    live = (live, lives);
    meant = is.meant;
    numbering = is.numbering;
    placed = is.placed;
    tells = numbers mode d.program p live parts es is.program is.stand lives is.meant is.imported;
    knows = refs mode d.program p live parts is.program is.stand lives is.meant;
    linkers = linkers_meant mode d.program p is.program is.stand live parts lives;
  }

  pub told_by : IsTold mode p parts es d
  told_by = told_with is.live.0 is.live.1

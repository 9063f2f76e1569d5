-- When the data are the layout of a program.
use Rattle.std.specs.Prelude.{◌≡◌, ℕ, List, length, All}
use Rattle.link_program.specs.name_rules.Entries.{InputSymbol}
use Rattle.link_program.specs.made_symbols.declared.mode.Mode.{Mode}
use Rattle.link_program.specs.link_rules.Program.{Program, Part}
use Rattle.link_program.specs.link_rules.ModeOf.{mode_of}
use Rattle.link_program.specs.link_rules.Keys.{numbers}
use Rattle.link_program.specs.Program.{IsProgramOf}
use Rattle.link_program.specs.Seen.{NamesOne}
use Rattle.link_program.specs.Stand.{PartsStand}
use Rattle.link_program.specs.Live.{AreLive, AllMeant}
use Rattle.link_numbers.specs.Numbered.{IsNumbering}
use Rattle.link_numbers.specs.Laws.{AreImported}
use Rattle.link_layout.specs.declared.values.Layout.{Layout}
use Rattle.link_layout.specs.Placed.{IsPlacedIn}
use Rattle.link_layout.specs.Seen.{Looked}

-- What a layout looks up.
abbrev pub looked : Layout → Looked
looked d = record {
  mode = mode_of d.program.plan.now;
  numbers = d.numbering.now;
  tables = d.program.tables.now;
  placed = d.placed.now;
  names = d.program.names.now.names;
  answers = d.program.resolution.now;
}

-- What parts name is there, and each type has a number.
pub record AreThere (d : Layout) : Type 0 where
  pub rows : All (λ row. All (NamesOne d.program.tables.now.symbols d.program.tables.now.types) row) d.program.tables.now.named
  pub types : length d.numbering.now.type_numbers ≡ length d.program.tables.now.types

-- The data are those of the program, its live parts and its exports, in an output of a mode.
pub record IsLayoutIn (mode : Mode) (p : Program) (parts : List Part) (es : List InputSymbol) (d : Layout) : Type 0 where
  pub asked : mode_of p.plan ≡ mode
  pub program : IsProgramOf mode d.program p
  pub stand : PartsStand p
  pub live : (live : List ℕ) × AreLive p live parts
  pub meant : AllMeant parts
  pub numbering : IsNumbering d.program.names.now.names d.program.resolution.now.imports d.program.tables.now.types p parts d.numbering.now (numbers mode p parts es)
  pub imported : AreImported mode d.program.resolution.now.imports p parts
  pub placed : IsPlacedIn mode p parts d.placed.now

-- The same of the mode that the program's plan asks for.
abbrev pub IsLayout : Program → List Part → List InputSymbol → Layout → Type 0
IsLayout p parts es d = IsLayoutIn (mode_of p.plan) p parts es d

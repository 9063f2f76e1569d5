-- What it means for runs that no fault of a link applies: the numbers in windows and cells fit, and the memory holds all segments.
use Rattle.std.specs.Prelude.{◌≡◌, ◌⊎◌, ℕ, ◌≤◌, true, List, Option, Some, None}
use Rattle.list_places.specs.Has.{Has}
use Rattle.linking_section.specs.declared.symbol.SymbolKind.TheVariants.{Datum}
use Rattle.made_symbols.specs.declared.mode.Mode.TheVariants.{Plain}
use Rattle.name_rules.specs.Entries.{InputSymbol, is_kind}
use Rattle.run_rules.specs.declared.session.Session.{Session}
use Rattle.output_module.specs.link_rules.Program.{Program, Part, chunk_at}
use Rattle.output_module.specs.link_rules.Marks.{live, unresolved}
use Rattle.output_module.specs.link_rules.Values.{Layout}
use Rattle.output_module.specs.link_rules.Keys.{GlobalKey}
use Rattle.output_module.specs.link_rules.Output.{source_windows}
use Rattle.output_module.specs.link_rules.LinkOf.{memory_fault, table_fault, reference_fault}
use Rattle.program_build.specs.link_program.Stand.{PartsStand}
use Rattle.output_module.specs.link_worlds.Worlds.{layout_of}
use Rattle.output_module.specs.link_worlds.Sound.{Sound, SoundExports, InRange, IsSmall, meant_entries}
use Rattle.output_module.specs.link_worlds.Statements.{Holds}

-- No fault of the link applies.
pub record NoFault (p : Program) (exports : List InputSymbol) (l : Layout) : Type 0 where
  pub resolved : unresolved p (live p exports) ≡ None
  pub memory : memory_fault Plain p (live p exports) ≡ None
  pub table : table_fault l ≡ None
  pub references : reference_fault (source_windows Plain p (live p exports) exports l) ≡ None

-- The parts stand in their files, and the data that references and exports mean in their segments.
pub record Measured (p : Program) (exports : List InputSymbol) : Type 0 where
  pub stand : PartsStand p
  pub inside : (e : InputSymbol) → Has (meant_entries p) e ⊎ Has exports e → is_kind Datum e ≡ true → (e.input ≡ 0 → ⊥)
      → (part : Part) → Has p.parts part → part.chunk ≡ chunk_at e.input 1 e.index → e.symbol.offset ≤ part.source.span.len

-- The session gives an imported memory at least the pages that the output states.
abbrev pub AtLeast : Option ℕ → ℕ → Type 0
AtLeast None n = Unit {0}
AtLeast (Some m) n = n ≤ m

abbrev pub Enough : Session → Layout → Type 0
Enough s l = AtLeast s.pages l.places.pages

abbrev pub ValuesFit : Type 0
ValuesFit = (p : Program) (exports : List InputSymbol) → Sound p → SoundExports p exports → Measured p exports → NoFault p exports (layout_of p exports)
    → InRange (layout_of p exports) (live p exports) × ((k : GlobalKey) → Has (layout_of p exports).numbers.globals k → IsSmall (layout_of p exports) k)

abbrev pub MemoryHolds : Type 0
MemoryHolds = (s : Session) (p : Program) (exports : List InputSymbol) → Sound p → Measured p exports → NoFault p exports (layout_of p exports) → Enough s (layout_of p exports)
    → Holds s p exports (layout_of p exports)

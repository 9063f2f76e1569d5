-- What is answered of a shared output, by its layout.
use Rattle.std.proofs.Common.{◌≡◌, ℕ, true, List, length, Some, sym, ap, subst, ◌∙◌}
use Rattle.std.specs.List.{list_all}
use Rattle.std.proofs.lemmas.List.{length-map}
use Rattle.link_program.specs.made_symbols.declared.mode.Mode.{Mode}
use Rattle.link_program.specs.made_symbols.declared.mode.Mode.TheVariants.{Shared}
use Rattle.link_program.specs.made_symbols.Made.{made}
use Rattle.link_program.specs.wl_base.Names.{number_of}
use Rattle.link_program.specs.link_rules.ModeOf.{mode_of}
use Rattle.link_program.specs.link_rules.Output.{layout}
use Rattle.link_program.specs.link_rules.Loader as loader
use Rattle.link_program.specs.Live.{AreLive, Stage}
use Rattle.link_program.specs.Program.{IsProgramOf}
use Rattle.link_layout.specs.declared.values.Layout.{Layout}
use Rattle.link_layout.specs.Layout.{looked, IsLayout}
use Rattle.link_loader.specs.Cells.{all_tell}
use Rattle.link_loader.specs.Words.{Loading, told_part, words_seen}
use Rattle.link_loader.specs.Bound.{bound_part}
use Rattle.link_loader.specs.Section.{dylink_seen}
use Rattle.link_loader.specs.Layout.{loading}
use Rattle.link_loader.proofs.Stands.{Stands}
use Rattle.link_loader.proofs.Standing.{stands}
use Rattle.link_loader.proofs.WordsTold.{words_told}
use Rattle.link_loader.proofs.SectionTold.{section_told}

-- the mode of a layout is what its data ask for
pub is_shared : (s : Stage) (d : Layout) → IsLayout s.program s.parts s.exports d → mode_of d.program.plan.now ≡ Shared → mode_of s.program.plan ≡ Shared
is_shared s d is shared = sym (ap mode_of is.program.plan) ∙ shared

module _ (s : Stage) (d : Layout) (is : IsLayout s.program s.parts s.exports d) (live : List ℕ) (lives : AreLive s.program live s.parts) (shared : mode_of s.program.plan ≡ Shared)
    (cells : all_tell d.program.names.now.names d.program.resolution.now.imports d.program.resolution.now.cells 0 d.program.tables.now.symbols ≡ true) where
  in_shared : Stands Shared s.program s.parts s.exports d
  in_shared = subst (λ m. Stands m s.program s.parts s.exports d) shared (stands s.program s.parts s.exports d is)

  -- what is looked up, in a mode
  abbrev by : Mode → Loading
  by m = record { mode = m; layout = layout m s.program s.parts s.exports; at = looked d; cells = d.program.resolution.now.cells }

  pub words_are : list_all (told_part (looked d)) live ≡ true
      → words_seen (loading s d) live ≡ loader.words (mode_of s.program.plan) s.program s.parts (layout (mode_of s.program.plan) s.program s.parts s.exports)
  words_are told =
      subst (λ m. words_seen (by m) live ≡ loader.words m s.program s.parts (layout m s.program s.parts s.exports)) (sym shared)
      (words_told s.program s.parts s.exports d in_shared live lives cells told)

  pub dylink_is : list_all (bound_part d.program.tables.now) live ≡ true
      → dylink_seen d live ≡ loader.dylink (mode_of s.program.plan) s.program s.parts (layout (mode_of s.program.plan) s.program s.parts s.exports)
  dylink_is bound =
      subst (λ m. dylink_seen d live ≡ loader.dylink m s.program s.parts (layout m s.program s.parts s.exports)) (sym shared)
      (section_told s.program s.parts s.exports d in_shared live lives cells bound)

-- the linker's names of a shared output are as many as its symbols
pub made_count : (s : Stage) (d : Layout) → IsLayout s.program s.parts s.exports d → mode_of s.program.plan ≡ Shared → length d.program.names.now.made ≡ length (made Shared)
made_count s d is shared =
    let program : IsProgramOf Shared d.program s.program = subst (λ m. IsProgramOf m d.program s.program) shared is.program in
    sym (length-map d.program.names.now.made Some) ∙ ap length program.numbers.made ∙ length-map (made Shared) (λ m. number_of d.program.names.now.names m.name)

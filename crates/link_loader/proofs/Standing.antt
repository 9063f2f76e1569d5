-- What is known of a layout by its contract.
use Rattle.std.proofs.Common.{List}
use Rattle.link_program.specs.name_rules.Entries.{InputSymbol}
use Rattle.link_program.specs.link_rules.Program as rules
use Rattle.link_program.specs.link_rules.ModeOf.{mode_of}
use Rattle.link_layout.specs.declared.values.Layout.{Layout}
use Rattle.link_layout.specs.Layout.{IsLayout}
use Rattle.link_loader.proofs.Stands.{Stands}
use Rattle.link_loader.proofs.SolidTold.{solid_told}

module _ (p : rules.Program) (parts : List rules.Part) (es : List InputSymbol) (d : Layout) (is : IsLayout p parts es d) where
  pub stands : Stands (mode_of p.plan) p parts es d
  stands = record {
    program = is.program;
    stand = is.stand;
    live = is.live;
    meant = is.meant;
    numbering = is.numbering;
    placed = is.placed;
    imported = is.imported;
    solid = λ live lives. solid_told (mode_of p.plan) p parts d is.program is.placed live lives;
  }

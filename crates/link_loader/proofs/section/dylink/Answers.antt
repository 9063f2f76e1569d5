use Rattle.std.proofs.Common.{rules, ◌≡◌}
use Rattle.link_program.specs.made_symbols.declared.mode.Mode.TheVariants.{Shared}
use Rattle.link_program.specs.link_rules.ModeOf.{mode_of}
use Rattle.link_loader.proofs.Whole.{is_shared}
use Rattle.link_loader.proofs.section.dylink.Goals as goal

pub shared_dylink-requires : goal.shared_dylink-requires
shared_dylink-requires g c =
    let asked : mode_of c.args.layout.program.plan.now ≡ Shared = search rules in
    (c.requires.0, (c.requires.1, is_shared g.s c.args.layout c.requires.0 asked))

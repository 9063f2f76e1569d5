use Rattle.std.proofs.Common.{◌∙◌, ◌++◌, ap, map, drop, ◌+◌}
use Rattle.link_program.specs.made_symbols.declared.mode.Mode.TheVariants.{Plain}
use Rattle.link_program.specs.link_rules.Output.{layout}
use Rattle.sym_functions.proofs.link_image_lemmas.Winners.{winner_got, winner_kept}
use Rattle.sym_world.specs.Exports.{export_seen}
use Rattle.sym_world.proofs.exports.add_winners.Goals as goal

pub export-requires : goal.export-requires
export-requires g c =
    (c.requires.0, winner_got c.args.layout.program.names.now.names g.s.program.winners g.s.exports c.args.winners.now c.loop-winner.winner-index _ c.requires.1.0 c.requires.1.1 c.loop-winner-test.true)

pub loop-winner-preserved : goal.loop-winner-preserved
loop-winner-preserved g c =
    let f = export_seen g.s.program (layout Plain g.s.program g.s.parts g.s.exports) c.args.functions.now c.args.cells.now in
    ap (λ s. s ++ map f (drop (c.loop-winner.winner-index + 1) g.s.exports)) c.in_ok-push.ensures.ok
    ∙ winner_kept f c.args.layout.program.names.now.names g.s.program.winners g.s.exports c.args.winners.now c.loop-winner.winner-index _ c.in_ok-export.export c.loop-winner.exports _
    c.requires.1.0 c.requires.1.1 c.loop-winner-test.true c.in_ok-export.ensures c.loop-winner.invariant

use Rattle.std.proofs.Common.{◌∙◌, ◌++◌, ap, map, drop, ◌+◌}
use Rattle.link_program.specs.link_rules.Marks as marks
use Rattle.link_program.specs.Told.{told_definition}
use Rattle.link_image.specs.Sections.{export_seen}
use Rattle.link_image.proofs.Winners.{winner_got, winner_kept}
use Rattle.link_image.proofs.exported.add_winners.Goals as goal

pub export-requires : goal.export-requires
export-requires g c =
    (c.requires.0, winner_got c.args.program.names.now.names g.w.program.winners g.w.exports c.args.winners.now c.loop-winner.winner-index _ c.requires.1.0 c.requires.1.1 c.loop-winner-test.true)

pub loop-winner-preserved : goal.loop-winner-preserved
loop-winner-preserved g c =
    ap (λ s. s ++ map (λ e. export_seen c.args.mode c.args.numbering.now (marks.export_name g.w.program e) (told_definition e)) (drop (c.loop-winner.winner-index + 1) g.w.exports)) c.in_ok-push.ensures.ok
    ∙ winner_kept (λ e. export_seen c.args.mode c.args.numbering.now (marks.export_name g.w.program e) (told_definition e)) c.args.program.names.now.names g.w.program.winners g.w.exports c.args.winners.now c.loop-winner.winner-index _ c.in_ok-export.export c.loop-winner.exports _
    c.requires.1.0 c.requires.1.1 c.loop-winner-test.true c.in_ok-export.ensures c.loop-winner.invariant

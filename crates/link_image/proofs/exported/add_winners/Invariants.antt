use Rattle.std.proofs.Common.{◌≡◌, ◌++◌, map, drop}
use Rattle.link_program.specs.link_rules.Marks as marks
use Rattle.link_program.specs.Told.{told_definition}
use Rattle.link_image.specs.Sections.{export_seen}
use Rattle.link_image.proofs.exported.add_winners.Given as goal

abbrev pub ghost-export : goal.ghost-export
ghost-export g a = g.w.program

abbrev pub invariant-loop-winner : goal.invariant-loop-winner
invariant-loop-winner g l =
    l.exports ++ map (λ e. export_seen l.mode l.numbering (marks.export_name g.w.program e) (told_definition e)) (drop l.winner-index g.w.exports)
    ≡ l.initial.exports ++ map (λ e. export_seen l.mode l.numbering (marks.export_name g.w.program e) (told_definition e)) g.w.exports

use Rattle.std.proofs.Common.{◌≡◌, map, drop}
use Rattle.std.specs.Prelude.{max}
use Rattle.link_program.specs.link_rules.Loader.{greatest}
use Rattle.link_loader.specs.Section.{align_at}
use Rattle.link_loader.proofs.section.greatest_align.Given as goal

abbrev pub invariant-loop-number : goal.invariant-loop-number
invariant-loop-number l = max l.greatest (greatest (map (align_at l.tables) (drop l.number-index l.live))) ≡ greatest (map (align_at l.tables) l.live)

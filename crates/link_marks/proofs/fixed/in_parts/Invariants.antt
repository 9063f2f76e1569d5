use Rattle.std.proofs.Common.{◌≡◌, drop}
use Rattle.link_marks.specs.Fixed.{first_fixed}
use Rattle.link_marks.proofs.fixed.in_parts.Given as goal

abbrev pub invariant-loop-number : goal.invariant-loop-number
invariant-loop-number l = first_fixed l.objects l.resolution.rows l.tables (drop l.number-index l.numbers) ≡ first_fixed l.objects l.resolution.rows l.tables l.numbers

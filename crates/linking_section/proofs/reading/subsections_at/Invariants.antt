use Rattle.std.proofs.Common.{◌≡◌, length}
use Rattle.linking_section.specs.Reading.{none_found, subsections_at}
use Rattle.linking_section.proofs.reading.subsections_at.Given as goal

abbrev pub invariant-loop-rest : goal.invariant-loop-rest
invariant-loop-rest l = subsections_at (length l.rest) l.found l.end l.rest ≡ subsections_at (length l.bytes) none_found l.end l.bytes

abbrev pub decreases-loop-rest : goal.decreases-loop-rest
decreases-loop-rest l = length l.rest

use Rattle.std.proofs.Common.{◌≡◌, ◌+◌, List, drop}
use Rattle.debug_rules.specs.Faults.{Debug}
use Rattle.debug_out.specs.Grouped.{HasLengths, sections_len}
use Rattle.debug_out.proofs.measure.sections_len.Given as goal

abbrev pub invariant-loop-n : goal.invariant-loop-n
invariant-loop-n l = (ds : List Debug) → HasLengths l.names.names l.lengths ds → l.total + sections_len ds (drop l.n l.names.names) ≡ sections_len ds l.names.names

use Rattle.std.proofs.Common.{◌≤◌, length, drop, map}
use Rattle.run_rules.specs.Control.{mark}
use Rattle.run_model.proofs.ends.ends_of.Given as goal
use Rattle.run_model.proofs.Table.{GoneOver}

abbrev pub invariant-loop-at : goal.invariant-loop-at
invariant-loop-at l = record {
  gone : GoneOver l.at (drop l.at (map mark l.code)) l.table l.blocks.ends l.blocks.others;
  within : l.at ≤ length l.code;
}

abbrev pub decreases-loop-at : goal.decreases-loop-at
decreases-loop-at l = l.at

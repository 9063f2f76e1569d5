use Rattle.object_file.proofs.Exported.{Last}
use Rattle.object_file.proofs.exports.last_exports.Given as goal

abbrev pub invariant-loop-at : goal.invariant-loop-at
invariant-loop-at l = Last l.exports l.functions l.at l.places.items

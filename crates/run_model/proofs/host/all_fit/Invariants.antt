use Rattle.std.proofs.Common.{◌≡◌, drop}
use Rattle.run_model.specs.Writes.{all_fit}
use Rattle.run_model.proofs.host.all_fit.Given as goal

abbrev pub invariant-loop-write : goal.invariant-loop-write
invariant-loop-write l = all_fit l.room (drop l.write-index l.writes) ≡ all_fit l.room l.writes

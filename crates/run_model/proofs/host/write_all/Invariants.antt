use Rattle.std.proofs.Common.{◌≡◌, true, length, drop}
use Rattle.run_rules.specs.Steps.{all_written}
use Rattle.run_model.specs.Writes.{all_fit}
use Rattle.run_model.proofs.host.write_all.Given as goal

-- what is left, over what is there, gives what the whole gives
abbrev pub invariant-loop-write : goal.invariant-loop-write
invariant-loop-write l = record {
  written : all_written (drop l.write-index l.writes) l.memory ≡ all_written l.writes l.fn.memory;
  fits : all_fit (length l.memory) (drop l.write-index l.writes) ≡ true;
}

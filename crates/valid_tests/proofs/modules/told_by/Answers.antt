use Rattle.valid_tests.proofs.Few.{few}
use Rattle.valid_tests.proofs.modules.told_by.Goals as goal

pub validate_by-requires-clause-few : goal.validate_by-requires-clause-few
validate_by-requires-clause-few g c κs within = let s = c.is_small.ensures c.if-is_small.true in few c.args.m.now s.1 s.2

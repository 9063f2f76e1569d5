use Rattle.std.proofs.lemmas.Nat.{or_lt}
use Rattle.run_rules.specs.Numbers.{bits}
use Rattle.run_numbers.proofs.bits.either_bits.Goals as goal

pub returns-clause-fits : goal.returns-clause-fits
returns-clause-fits c = or_lt (bits c.args.t) c.args.a c.args.b c.requires.a_in c.requires.b_in

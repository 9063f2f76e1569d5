use Rattle.std.proofs.lemmas.Nat.{xor_lt}
use Rattle.run_rules.specs.Numbers.{bits}
use Rattle.run_numbers.proofs.bits.unlike_bits.Goals as goal

pub returns-clause-fits : goal.returns-clause-fits
returns-clause-fits c = xor_lt (bits c.args.t) c.args.a c.args.b c.requires.a_in c.requires.b_in

use Rattle.std.specs.Prelude.{IsTrue}
use Rattle.partial_rules.proofs.AlikeWhole.{exporting_alike}
use Rattle.partial_rules.proofs.laws.alike_programs_give_the_same_output.Goals as goal

pub returns : goal.returns
returns c = λ m chunks definitions p q bytes is same meant linked.
    exporting_alike m (λ x. IsTrue (chunks x)) (λ e. IsTrue (definitions e)) is p q c.reached_exactly.ensures same meant bytes linked

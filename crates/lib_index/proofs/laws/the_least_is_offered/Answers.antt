use Rattle.lib_index.proofs.LeastLaws.{least_is_offered, least_is_given, given_at_most}
use Rattle.lib_index.proofs.laws.the_least_is_offered.Goals as goal

pub returns-clause-value : goal.returns-clause-value
returns-clause-value c = λ members entries name. least_is_offered entries name

pub returns-clause-given : goal.returns-clause-given
returns-clause-given c = least_is_given

pub returns-clause-least : goal.returns-clause-least
returns-clause-least c = given_at_most

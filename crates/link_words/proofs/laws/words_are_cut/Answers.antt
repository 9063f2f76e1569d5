use Rattle.link_words.proofs.CutLaw.{cut_is, cut_once, stop_is, plan_is, refusal_is}
use Rattle.link_words.proofs.laws.words_are_cut.Goals as goal

pub returns-clause-found : goal.returns-clause-found
returns-clause-found _ = cut_is

pub returns-clause-one : goal.returns-clause-one
returns-clause-one _ = cut_once

pub returns-clause-faults : goal.returns-clause-faults
returns-clause-faults _ = stop_is

pub returns-clause-plans : goal.returns-clause-plans
returns-clause-plans _ = plan_is

pub returns-clause-refusals : goal.returns-clause-refusals
returns-clause-refusals _ = refusal_is

use Rattle.driver_laws.proofs.own_words_have_plans.Goals as goal
use Rattle.driver_laws.proofs.Plans.{have_plans, name_files, keep_debug, are_partial, are_shared}

pub returns-clause-plans : goal.returns-clause-plans
returns-clause-plans c = have_plans c.words_are_cut.ensures.plans

pub returns-clause-files : goal.returns-clause-files
returns-clause-files c = name_files c.words_are_cut.ensures.plans

pub returns-clause-debug : goal.returns-clause-debug
returns-clause-debug c = keep_debug c.words_are_cut.ensures.plans

pub returns-clause-partial : goal.returns-clause-partial
returns-clause-partial c = are_partial c.words_are_cut.ensures.plans

pub returns-clause-shared : goal.returns-clause-shared
returns-clause-shared c = are_shared c.words_are_cut.ensures.plans

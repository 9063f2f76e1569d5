use Rattle.link_core.proofs.Checking.{keeps_valid}
use Rattle.link_core.proofs.Running.{runs_of, places_of}
use Rattle.link_core.proofs.driver.module_telling.Goals as goal

pub returns-clause-runs : goal.returns-clause-runs
returns-clause-runs g c = λ plain.
    runs_of c.args.plan.now c.args.files.now c.link_checked-answer.result c.links_run.ensures c.runs_stay.ensures c.requires.plan c.requires.files plain c.link_checked-answer.ensures.exact

pub returns-clause-valid : goal.returns-clause-valid
returns-clause-valid g c = λ all.
    keeps_valid c.args.plan.now c.args.files.now c.all_links_are_valid.ensures c.links_dont_judge.ensures c.valid_stays.ensures c.requires.plan c.requires.files all c.link_checked-answer.result
    c.link_checked-answer.ensures.exact

pub returns-clause-places : goal.returns-clause-places
returns-clause-places g c = λ plain kept.
    places_of c.args.plan.now c.args.files.now c.link_checked-answer.result c.offsets_stay.ensures c.requires.files plain c.link_checked-answer.ensures.exact kept

use Rattle.std.proofs.Common.{◌<◌, List, [], length, get_or, sym, ap, ◌∙◌, arith, Some}
use Rattle.std.proofs.lemmas.List.{get_or-map, length-map}
use Rattle.least_race.specs.Jobs.{Job, all_some}
use Rattle.least_race.proofs.list_jobs.ListJobsJobs.items.Goals as goal

pub returns : goal.returns
returns c =
    let r = c.index-as_slice-job.result in
    let now = ap (λ (js : List Job). length js) c.self.view_is in let same = length-map c.self.inside.jobs all_some in let asked = c.requires in let inside : c.args.job < length c.self.inside.jobs = omega arith in
    let read = c.index-as_slice-job.is ∙ ap (λ l. get_or l c.args.job r) c.as_slice.ensures in
    let row = ap (λ (js : List Job). get_or js c.args.job []) (sym c.self.view_is) ∙ (get_or-map all_some c.self.inside.jobs c.args.job r [] inside ∙ ap all_some (sym read)) in
    c.len.ensures ∙ (sym (length-map r Some) ∙ ap (λ (j : Job). length j) (sym row))

use Rattle.std.proofs.Common.{◌<◌, List, [], length, get_or, sym, ap, ◌∙◌, arith, Some, None}
use Rattle.std.proofs.lemmas.List.{get_or-map, length-map}
use Rattle.least_race.specs.Race.{offer}
use Rattle.least_race.specs.Jobs.{Job, all_some}
use Rattle.least_race.proofs.list_jobs.ListJobsJobs.offer.Goals as goal

pub bounds-as_slice-item : goal.bounds-as_slice-item
bounds-as_slice-item c =
    let r = c.index-as_slice-job.result in
    let now = ap (λ (js : List Job). length js) c.self.view_is in let same = length-map c.self.inside.jobs all_some in let asked = c.requires.0 in let inside : c.args.job < length c.self.inside.jobs = omega arith in
    let read = c.index-as_slice-job.is ∙ ap (λ l. get_or l c.args.job r) c.as_slice.ensures in
    let row = ap (λ (js : List Job). get_or js c.args.job []) (sym c.self.view_is) ∙ (get_or-map all_some c.self.inside.jobs c.args.job r [] inside ∙ ap all_some (sym read)) in
    let l = ap (λ (j : Job). length j) row ∙ length-map r Some in
    let h = c.requires.1 in
    let e = ap length c.as_slice-2.ensures in
    omega arith

pub returns : goal.returns
returns c =
    let r = c.index-as_slice-job.result in
    let now = ap (λ (js : List Job). length js) c.self.view_is in let same = length-map c.self.inside.jobs all_some in let asked = c.requires.0 in let inside : c.args.job < length c.self.inside.jobs = omega arith in
    let read = c.index-as_slice-job.is ∙ ap (λ l. get_or l c.args.job r) c.as_slice.ensures in
    let row = ap (λ (js : List Job). get_or js c.args.job []) (sym c.self.view_is) ∙ (get_or-map all_some c.self.inside.jobs c.args.job r [] inside ∙ ap all_some (sym read)) in
    let l = ap (λ (j : Job). length j) row ∙ length-map r Some in
    let h = c.requires.1 in
    let within : c.args.item < length r = omega arith in
    let o = offer 0 0 in
    let read' = ap (λ l. get_or l c.args.item o) c.as_slice-2.ensures in
    ap Some read' ∙ (sym (get_or-map Some r c.args.item o None within) ∙ ap (λ (j : Job). get_or j c.args.item None) (sym row))

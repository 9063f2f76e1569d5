use Rattle.std.proofs.Common.{◌<◌, List, length, map, Some, None, sym, ap, ◌∙◌, arith}
use Rattle.std.proofs.lemmas.List.{length-map}
use Rattle.name_entries.specs.object_file.declared.object.Object.{Object}
use Rattle.least_race.specs.Jobs.{Job}
use Rattle.name_jobs.specs.Offers.{group_offer}
use Rattle.name_jobs.proofs.Asked.{group_answer}
use Rattle.name_jobs.proofs.by_group.GroupJobsJobs.offer.Goals as goal

pub returns-in_err-word : goal.returns-in_err-word
returns-in_err-word c =
    let n = c.self.inside.names.now in let os = c.self.inside.objects.now in let r = c.index-self-job.result in
    let now = ap (λ (js : List Job). length js) c.self.view_is in let same = length-map os (λ (o : Object). map (group_offer n.names o) o.groups) in
    let asked = c.requires.0 in
    let below : c.args.job < length os = omega arith in
    c.from_residual.ensures
    ∙ group_answer n.names os n.groups c.self.invariant.1 c.args.job c.args.item r below None (sym c.group.ensures ∙ c.in_err-word.was)
    c.from-rank.result c.from-rank.ensures c.args.self.now c.self.view_is

pub returns : goal.returns
returns c =
    let n = c.self.inside.names.now in let os = c.self.inside.objects.now in let r = c.index-self-job.result in
    let now = ap (λ (js : List Job). length js) c.self.view_is in let same = length-map os (λ (o : Object). map (group_offer n.names o) o.groups) in
    let asked = c.requires.0 in
    let below : c.args.job < length os = omega arith in
    group_answer n.names os n.groups c.self.invariant.1 c.args.job c.args.item r below (Some c.in_ok-word.word) (sym c.group.ensures
    ∙ c.in_ok-word.was)
    c.from-rank.result c.from-rank.ensures c.args.self.now c.self.view_is

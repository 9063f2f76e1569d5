use Rattle.std.proofs.Common.{List, [], length, slice_index_or, ap, ◌∙◌}
use Rattle.least_race.specs.Jobs.{Job}
use Rattle.name_jobs.proofs.Asked.{groups_counted}
use Rattle.name_jobs.proofs.by_group.GroupJobsJobs.items.Goals as goal

pub returns : goal.returns
returns c = let n = c.self.inside.names.now in
    c.groups.ensures ∙ groups_counted n.names c.self.inside.objects.now n.groups c.self.invariant.1 c.args.job
    ∙ ap (λ (js : List Job). length (slice_index_or js c.args.job [])) c.self.view_is

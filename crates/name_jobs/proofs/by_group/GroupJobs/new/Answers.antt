use Rattle.name_jobs.proofs.Made.{jobs_few}
use Rattle.name_jobs.proofs.by_group.GroupJobs.new.Goals as goal

pub invariant_of-result : goal.invariant_of-result
invariant_of-result c = (jobs_few c.args.objects.now c.requires.inputs, c.requires.numbers)

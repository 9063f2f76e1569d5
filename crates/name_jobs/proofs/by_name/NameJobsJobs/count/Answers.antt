use Rattle.std.proofs.Common.{lit<, arith}
use Rattle.name_jobs.proofs.Made.{few_objects}
use Rattle.name_jobs.proofs.by_name.NameJobsJobs.count.Goals as goal

pub overflow_add-result : goal.overflow_add-result
overflow_add-result c = let few = few_objects 0 c.self.inside.entries.objects.now c.self.invariant.objects.inputs (lit< tt) in
    let same = c.count.ensures in omega arith

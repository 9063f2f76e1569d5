use Rattle.std.proofs.Common.{arith}
use Rattle.name_entries.proofs.Few.{few}
use Rattle.name_entries.proofs.lookups.Entries.count.Goals as goal

pub overflow_cast-result : goal.overflow_cast-result
overflow_cast-result c = let h = few 0 c.args.self.now.objects.now (omega arith) c.requires.inputs in omega arith

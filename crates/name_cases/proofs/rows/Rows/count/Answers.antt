use Rattle.std.proofs.Common.{arith}
use Rattle.name_cases.proofs.Made.{few}
use Rattle.name_cases.proofs.rows.Rows.count.Goals as goal

pub overflow_add-result : goal.overflow_add-result
overflow_add-result c = omega (arith, few 0 c.args.self.now.view.objects.now (omega arith) c.requires.objects.inputs)

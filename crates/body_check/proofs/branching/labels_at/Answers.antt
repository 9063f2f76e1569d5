use Rattle.std.proofs.Common.{arith}
use Rattle.body_check.proofs.Labels.{labelled}
use Rattle.body_check.proofs.branching.labels_at.Goals as goal

pub returns-in-Ok-u32_at-2 : goal.returns-in-Ok-u32_at-2
returns-in-Ok-u32_at-2 c =
    labelled c.args.end c.args.bytes.now c.in-Ok.opcode c.in-Ok.behind.now c.in-Ok-u32_at.count c.in-Ok-u32_at.labels.now c.in-Ok-skim_at.field-0-0 c.in-Ok-skim_at.mid.now c.in-Ok-skim_at.rest.now c.in-Ok-u32_at-2.last c.in-Ok-u32_at-2.field-0-1.now
    c.in-Ok.ensures (omega (arith, c.if-opcode-ne14.false)) c.in-Ok-u32_at.ensures c.in-Ok-skim_at.ensures c.in-Ok-u32_at-2.ensures

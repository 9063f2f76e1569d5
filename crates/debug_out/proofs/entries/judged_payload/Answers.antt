use Rattle.std.proofs.Common.{rules, slice_get}
use Rattle.debug_rules.specs.Faults.{entry_stands}
use Rattle.debug_out.proofs.Judged.{payload_by}
use Rattle.debug_out.proofs.entries.judged_payload.Goals as goal

pub returns : goal.returns
returns c = λ places has.
    payload_by (λ r. entry_stands places r (slice_get c.args.symbols.now r.index)) c.args.len c.args.payload.now c.in-Ok.rest.now c.in-Ok-u32_at.entries.now c.in-Ok.field-0-0 c.in-Ok-u32_at.count _
    (search rules) (search rules) (c.all_stand.ensures places has)

use Rattle.debug_out.proofs.Judged.{payload_judged}
use Rattle.debug_out.proofs.entries.payload_stands.Goals as goal

pub returns : goal.returns
returns c = λ places has.
    payload_judged places c.args.symbols.now c.args.len c.args.payload.now c.judged_payload.result (c.judged_payload.ensures places has)

use Rattle.wasm_instr.specs.BlockLaws.{index_broken}
use Rattle.wasm_instr.proofs.immediates.index_kind_at.Goals as goal

pub returns-in-Err : goal.returns-in-Err
returns-in-Err c = rw c.place.ensures (index_broken c.args.end c.args.bytes.now c.in_ok-n.n c.in_ok-n.rest.now c.in_ok-n.ensures c.in-Err.ensures)

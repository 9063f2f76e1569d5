use Rattle.wasm_instr.proofs.writing.put_block_kind.Goals as goal

pub returns-in-Index-clause-ok : goal.returns-in-Index-clause-ok
returns-in-Index-clause-ok c = rw c.in-Index.is c.put_index.ensures.ok

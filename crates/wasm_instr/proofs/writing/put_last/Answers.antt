use Rattle.std.proofs.Common.{sym}
use Rattle.wasm_grammar.specs.Grammar.{SpellsVector}
use Rattle.wasm_grammar.specs.Writers.{Writes}
use Rattle.wasm_grammar.specs.WriterLaws.{on-ok}
use Rattle.wasm_types.specs.Types.{SpellsValType}
use Rattle.wasm_instr.proofs.writing.put_last.Goals as goal

pub returns-in-Block-clause-ok : goal.returns-in-Block-clause-ok
returns-in-Block-clause-ok c = rw c.in-Block.is c.put_block_kind.ensures.ok

pub returns-in-SelectTyped-clause-ok : goal.returns-in-SelectTyped-clause-ok
returns-in-SelectTyped-clause-ok c =
    rw c.in-SelectTyped.is (on-ok c.put_vector.result (λ last.
    let kinds : Writes (SpellsVector SpellsValType c.in-SelectTyped.kinds) c.args.to.now c.put_vector.new.to = rw (sym c.as_slice.ensures) last in
    kinds) c.put_vector.ensures.ok)

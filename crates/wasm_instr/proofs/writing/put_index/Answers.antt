use Rattle.std.proofs.Common.{◌≡◌, pos, sym, arith, to_z, of_z, w64}
use Rattle.std.proofs.lemmas.Int.{ints}
use Rattle.wasm_grammar.specs.Grammar.{SpellsS64}
use Rattle.wasm_grammar.specs.Writers.{Appends}
use Rattle.wasm_grammar.specs.WriterLaws.{on-ok}
use Rattle.wasm_instr.proofs.Written.{s33_written}
use Rattle.wasm_instr.proofs.writing.put_index.Goals as goal

pub returns-clause-ok : goal.returns-clause-ok
returns-clause-ok c =
    on-ok c.put_s64.result (λ a.
    let same : to_z w64 (of_z w64 c.from.result) ≡ pos c.args.n = omega (arith, ints, c.from.ensures, c.ranges.n.fits) in
    let wide : Appends (SpellsS64 (pos c.args.n)) c.args.to.now c.put_s64.new.to = rw (sym same) a in
    s33_written c.args.n c.args.to.now c.put_s64.new.to (omega (arith, c.ranges.n.fits)) wide) c.put_s64.ensures.ok

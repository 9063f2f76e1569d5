use Rattle.std.proofs.Common.{sym}
use Rattle.wasm_grammar.specs.Grammar.{SpellsBytes}
use Rattle.wasm_grammar.specs.Writers.{Appends}
use Rattle.wasm_grammar.specs.WriterLaws.{Writes-from, Writes-then, name_written, on-ok}
use Rattle.wasm_types.proofs.import.ImportSpell.put.Goals as goal

pub returns-clause-ok : goal.returns-clause-ok
returns-clause-ok c =
    let from : Appends (SpellsBytes c.args.self.now.«module») c.args.to.now c.put_bytes.new.to = rw (sym c.as_slice.ensures) c.in_ok-put_bytes.ensures.ok in
    let field : Appends (SpellsBytes c.args.self.now.field) c.put_bytes.new.to c.put_bytes-2.new.to = rw (sym c.as_slice-2.ensures) c.in_ok-put_bytes-2.ensures.ok in
    on-ok c.put_import_kind.result (λ last. Writes-then (name_written from) (Writes-then (name_written field) (Writes-from last))) c.put_import_kind.ensures.ok

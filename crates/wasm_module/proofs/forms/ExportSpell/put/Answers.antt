use Rattle.std.proofs.Common.{ℕ, List, sym}
use Rattle.wasm_instr.specs.wasm_grammar.Grammar.{SpellsByte, SpellsBytes}
use Rattle.wasm_instr.specs.wasm_grammar.Writers.{Appends, Writes}
use Rattle.wasm_instr.specs.wasm_grammar.WriterLaws.{Writes-from, Writes-then, name_written, on-ok}
use Rattle.wasm_module.specs.Parts.{SpellsExportKind}
use Rattle.wasm_module.proofs.forms.ExportSpell.put.Goals as goal

-- a byte that was written is what is exported, where it is one of the four
kind_written : (kind : ℕ) (old new : List ℕ) → Appends (SpellsByte kind) old new → Writes (SpellsExportKind kind) old new
kind_written kind old new a = λ some s. record { text = a.text; spells = (s.0, a.spells); parts = a.parts; least = λ other o. a.least other o.1 }

pub returns-clause-ok : goal.returns-clause-ok
returns-clause-ok c =
    let name : Appends (SpellsBytes c.args.self.now.name) c.args.to.now c.put_bytes.new.to = rw (sym c.as_slice.ensures) c.in_ok-put_bytes.ensures.ok in
    let kind = kind_written c.args.self.now.kind c.put_bytes.new.to c.put_byte.new.to c.in_ok-put_byte.ensures.ok in
    on-ok c.put_u32.result (λ last. Writes-then (name_written name) (Writes-then kind (Writes-from last))) c.put_u32.ensures.ok

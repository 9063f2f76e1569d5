use Rattle.std.proofs.Common.{arith, length-drop, length-take}
use Rattle.wasm_grammar.specs.ReaderLaws.{u32_reader, taken_length}
use Rattle.wasm_sections.proofs.reading.section_at.Goals as goal

pub returns-clause-shorter : goal.returns-clause-shorter
returns-clause-shorter c =
    let taken = simp (length-take, length-drop) at (taken_length (u32_reader.found c.args.end _ c.in-Ok.size c.in-Ok.body.now c.in-Ok.ensures)) in
    simp (length-take, length-drop) (omega (arith, taken))

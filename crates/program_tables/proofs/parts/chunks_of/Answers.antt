use Rattle.std.proofs.Common.{arith, ap, ◌∙◌}
use Rattle.std.specs.Prelude.{map}
use Rattle.std.proofs.lemmas.List.{take_all}
use Rattle.link_program.specs.declared.part.Part.{Part}
use Rattle.program_tables.proofs.Differing.{lacks_part, chunk_more}
use Rattle.program_tables.proofs.parts.chunks_of.Goals as goal

pub add-requires-clause-new : goal.add-requires-clause-new
add-requires-clause-new c = lacks_part c.args.parts.now c.loop-part.chunks c.loop-part.part-index _ c.requires c.loop-part-test.true c.loop-part.invariant

pub loop-part-preserved : goal.loop-part-preserved
loop-part-preserved c = chunk_more c.args.parts.now c.loop-part.chunks c.add.new.self c.loop-part.part-index _ c.loop-part-test.true c.loop-part.invariant c.in_ok-add.ensures.ok.1

pub returns-clause-chunks : goal.returns-clause-chunks
returns-clause-chunks c = c.loop-part.invariant ∙ ap (map (λ (part : Part). part.chunk)) (take_all c.loop-part.part-index c.args.parts.now c.loop-part-test.false)

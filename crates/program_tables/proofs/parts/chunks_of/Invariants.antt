use Rattle.std.proofs.Common.{◌≡◌, take, map}
use Rattle.link_program.specs.declared.part.Part.{Part}
use Rattle.program_tables.proofs.parts.chunks_of.Given as goal

abbrev pub invariant-loop-part : goal.invariant-loop-part
invariant-loop-part l = l.chunks ≡ map (λ (part : Part). part.chunk) (take l.part-index l.parts)

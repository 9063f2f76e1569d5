use Rattle.std.proofs.Common.{◌≡◌, map, take, fold}
use Rattle.link_program.specs.declared.part.Part.{Part}
use Rattle.partial_parts.specs.Kept.{none_kept, kept_chunk}
use Rattle.partial_parts.proofs.kept.kept_in.Given as goal

abbrev pub invariant-loop-part : goal.invariant-loop-part
invariant-loop-part l = l.kept ≡ fold kept_chunk none_kept (map (λ (part : Part). part.chunk) (take l.part-index l.parts))

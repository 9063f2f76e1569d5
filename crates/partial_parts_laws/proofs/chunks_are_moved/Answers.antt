use Rattle.partial_parts_laws.proofs.Chunks.{chunks_are_moved}
use Rattle.partial_parts_laws.proofs.chunks_are_moved.Goals as goal

pub returns : goal.returns
returns c = chunks_are_moved

-- A number whose chunk is this one is the number of the chunk.
use Rattle.std.proofs.Common.{◌≡◌, ℕ, List, slice_get, Some, sym, subst}
use Rattle.link_program.specs.mark_bits.declared.chunk.Chunk.{Chunk}
use Rattle.link_program.specs.name_rules.Entries.{InputSymbol}
use Rattle.link_program.specs.link_rules.Program.{Program, Part}
use Rattle.link_program.specs.Look.{chunk_number}
use Rattle.link_program.specs.Program.{ChunksDiffer}
use Rattle.link_layout.specs.declared.values.Layout.{Layout}
use Rattle.link_layout.specs.Layout.{IsLayout}
use Rattle.link_program.proofs.Chunks.{stands_at}

pub has_it : (chunks : List Chunk) (chunk : Chunk) (n : ℕ) → ChunksDiffer chunks → slice_get chunks n ≡ Some chunk → Some n ≡ chunk_number chunks chunk
has_it chunks chunk n differ at = sym (stands_at chunks chunk n at (λ k there. differ k n chunk there at))

-- no chunk of a program that is laid out stands twice
pub chunks_differ : (p : Program) (parts : List Part) (es : List InputSymbol) (d : Layout) → IsLayout p parts es d → ChunksDiffer d.program.tables.now.chunks
chunks_differ p parts es d is = subst ChunksDiffer (sym is.program.tables.chunks) is.program.tables.differ

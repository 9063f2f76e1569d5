-- What stands in the tables at a number.
use Rattle.std.specs.Prelude.{ℕ, List, [], position, slice_index_or, Option}
use Rattle.mark_bits.specs.declared.chunk.Chunk.{Chunk}
use Rattle.link_rules.specs.Program.{same_chunk}
use Rattle.link_program.specs.declared.named.Named.{Named}
use Rattle.link_program.specs.declared.part.Content.TheVariants as contents
use Rattle.link_program.specs.declared.part.Part.{Part}
use Rattle.link_program.specs.declared.program.Tables.{Tables}

-- where no part is
abbrev pub no_part : Part
no_part = record {
  chunk = record { input = 0; kind = 0; index = 0 };
  content = contents.Made;
  source = record { file = 0; span = record { start = 0; len = 0 } };
}

abbrev pub part_at : Tables → ℕ → Part
part_at t n = slice_index_or t.parts n no_part

abbrev pub row_at : Tables → ℕ → List Named
row_at t n = slice_index_or t.named n []

-- The number of a chunk: its place among the chunks.
abbrev pub chunk_number : List Chunk → Chunk → Option ℕ
chunk_number chunks c = position (same_chunk c) chunks

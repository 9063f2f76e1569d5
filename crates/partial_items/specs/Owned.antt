-- The part of a chunk, as its object has it.
use Rattle.std.specs.Prelude.{ℕ, ◌==◌, List, find, slice_get, if◌then◌else◌, Option, None, option_map, option_and_then}
use Rattle.partial_tree.specs.link_program.linking_section.declared.segment.SegmentInfo.{SegmentInfo}
use Rattle.partial_tree.specs.link_program.object_columns.declared.functions.FunctionDef.{FunctionDef}
use Rattle.partial_tree.specs.link_program.object_columns.declared.segments.SegmentDef.{SegmentDef}
use Rattle.partial_tree.specs.link_program.object_parts.declared.parts.GlobalDef.{GlobalDef}
use Rattle.partial_tree.specs.link_program.object_file.declared.object.Object.{Object}
use Rattle.partial_tree.specs.link_program.object_file.Spaces.{defined_type}
use Rattle.partial_tree.specs.link_program.mark_bits.declared.chunk.Chunk.{Chunk}
use Rattle.partial_tree.specs.link_program.mark_bits.declared.kinds.TheConstants as chunks
use Rattle.partial_tree.specs.link_program.link_rules.Program.{Content, function, segment, global}

-- The object of an input.
abbrev pub object_at : List Object → ℕ → Option Object
object_at objects input = find (λ o. o.input == input) objects

-- The function, the segment and the global of a chunk.
abbrev pub function_at : List Object → Chunk → Option FunctionDef
function_at objects c = option_and_then (λ o. slice_get o.functions c.index) (object_at objects c.input)

abbrev pub segment_at : List Object → Chunk → Option SegmentDef
segment_at objects c = option_and_then (λ o. slice_get o.segments c.index) (object_at objects c.input)

abbrev pub global_at : List Object → Chunk → Option GlobalDef
global_at objects c = option_and_then (λ o. slice_get o.globals c.index) (object_at objects c.input)

-- What the part of a kind and an index is.
abbrev pub content_in : Object → ℕ → ℕ → Option Content
content_in o kind index =
    if kind == chunks.FUNCTION then option_map (λ f. function (defined_type o f)) (slice_get o.functions index)
    else if kind == chunks.SEGMENT then option_map (λ g. segment g.info) (slice_get o.segments index)
    else if kind == chunks.GLOBAL then option_map global (slice_get o.globals index) else None

abbrev pub content_of : List Object → Chunk → Option Content
content_of objects c = option_and_then (λ o. content_in o c.kind c.index) (object_at objects c.input)

-- What of the object stands in rows, each made of what is kept under a number of a part.
use Rattle.std.specs.Prelude.{ℕ, ◌+◌, ◌-◌, List, slice_index_or, Option, None, option_map, option_and_then, unwrap_or}
use Rattle.partial_tree.specs.link_program.wl_base.declared.span.FileSpan.{FileSpan}
use Rattle.partial_tree.specs.link_program.wasm_module.declared.parts.Export.{Export}
use Rattle.partial_tree.specs.link_program.linking_section.declared.segment.SegmentInfo.{SegmentInfo}
use Rattle.partial_tree.specs.link_program.reloc_section.declared.entry.Reloc.{Reloc}
use Rattle.partial_tree.specs.link_program.object_parts.declared.parts.GlobalDef.{GlobalDef}
use Rattle.partial_tree.specs.link_program.object_file.declared.object.Object.{Object}
use Rattle.partial_tree.specs.link_program.object_file.Objects.{no_info}
use Rattle.partial_tree.specs.link_program.mark_bits.declared.chunk.Chunk.{Chunk}
use Rattle.partial_tree.specs.link_program.image_emit.Bytes.{file_part}
use Rattle.partial_tree.specs.link_program.declared.program.Tables.{Tables}
use Rattle.partial_tree.specs.link_program.Look.{part_at, row_at}
use Rattle.partial_tree.specs.partial_rules.Relocatable.{SpelledGlobal}
use Rattle.partial_tree.specs.partial_parts.Kept.{Kept}
use Rattle.partial_bytes.specs.declared.tree.Numbers.{Numbers}
use Rattle.partial_bytes.specs.declared.tree.Part.{Part}
use Rattle.partial_bytes.specs.Relocs.{relocs_of, relocs_by}
use Rattle.partial_items.specs.Owned.{function_at, segment_at, global_at}

abbrev pub chunk_of : Tables → ℕ → Chunk
chunk_of t n = (part_at t n).chunk

-- ---- globals: every input is a file of its own

abbrev pub global_source : ℕ → GlobalDef → FileSpan
global_source input g = record { file = input - 1; span = g.span }

abbrev pub spelled : List (List ℕ) → ℕ → GlobalDef → SpelledGlobal
spelled files input g = record { kind = g.kind; value = g.value; bytes = file_part files (global_source input g) }

abbrev pub global_for : List (List ℕ) → List Object → Tables → ℕ → Option SpelledGlobal
global_for files objects t n = option_map (spelled files (chunk_of t n).input) (global_at objects (chunk_of t n))

-- ---- exports

abbrev pub export_name : List Object → Chunk → Option (List ℕ)
export_name objects c = option_and_then (λ f. f.export_name) (function_at objects c)

abbrev pub export_with : ℕ → List ℕ → Export
export_with index name = record { name = name; kind = 0; index = index }

-- The functions that are imported come first.
abbrev pub export_for : List Object → Tables → Kept → ℕ → ℕ → Option Export
export_for objects t k imported n = option_map (export_with (imported + slice_index_or k.places n 0)) (export_name objects (chunk_of t n))

-- ---- segments

abbrev pub info_for : List Object → Tables → ℕ → SegmentInfo
info_for objects t n = unwrap_or (option_map (λ g. g.info) (segment_at objects (chunk_of t n))) no_info

-- ---- bodies and segments

-- Its bytes as they stand in a file, and its relocations.
pub record Given : Type 0 where
  pub bytes : List ℕ
  pub relocs : List Reloc

abbrev pub given : Part → Given
given p = record { bytes = p.bytes.now; relocs = relocs_of p }

-- The part of a number, by the numbers of symbols and types.
abbrev pub part_given : List (List ℕ) → Tables → Numbers → ℕ → Given
part_given files t numbers n = record { bytes = file_part files (part_at t n).source; relocs = relocs_by numbers (row_at t n) }

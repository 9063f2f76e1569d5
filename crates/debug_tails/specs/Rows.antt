-- A worked link that keeps its debug sections.
use Rattle.std.specs.Prelude.{◌≡◌, ℕ, true, List, [], ◌∷◌, ◌++◌, Result, Ok, codes, refl}
use Rattle.leb_codec.specs.Shortest.{u32, u32_padded, s32, s32_padded}
use Rattle.leb_codec.specs.Reading.{number_at, end_of, end_within}
use Rattle.wasm_grammar.specs.Reading.{u32_at, s32_at, bytes_at, front_at, vector_at, many_at, whole}
use Rattle.wl_base.specs.declared.fault.Fault.{Fault}
use Rattle.object_file.specs.declared.object.Object.{Object}
use Rattle.wasm_sections.specs.Reading.{frame_at, sections_at, section_at}
use Rattle.reloc_section.specs.Relocs.{reloc_section_at, reloc_at}
use Rattle.made_symbols.specs.declared.mode.Mode.TheVariants.{Plain}
use Rattle.round_rules.specs.Rounds.{load}
use Rattle.name_rules.specs.Entries.{entries}
use Rattle.name_rules.specs.Meanings.{resolve}
use Rattle.live_mark.specs.Live.{reached}
use Rattle.memory_layout.specs.Memory.{places}
use Rattle.image_emit.specs.Pieces.{code_place}
use Rattle.link_rules.specs.Candidates.{candidates_of}
use Rattle.link_rules.specs.Program.{init_calls, parts_of, winners_of, program_of}
use Rattle.link_rules.specs.Marks.{exported, live}
use Rattle.link_rules.specs.Keys.{imports_in_order, functions, slots, globals, types}
use Rattle.link_rules.specs.Values.{shapes, windows}
use Rattle.link_rules.specs.Output.{layout, image, source_windows}
use Rattle.link_rules.specs.LinkOf.{asked_names}
use Rattle.link_rules.specs.Examples.{exporting, body_at, span, names, hex, read_as}
use Rattle.link_rules.specs.NameRows.{calling}
use Rattle.debug_rules.specs.Sections.{customs}
use Rattle.debug_rules.specs.Faults.{debugs_of}
use Rattle.debug_rules.specs.Joined.{joined, tail_of}
use Rattle.link_debug.specs.Places.{link_places, link_inputs}
use Rattle.debug_tails.specs.Tails.{laid_tail, program_tail, debug_tail_by}

-- The code of f and g, `.debug_x` with eight bytes, which is section 1, and two entries for it: the place of f and 1, and that of g.
abbrev file : List ℕ
file =
    hex (codes "00 61 73 6D 01 00 00 00 0A 0F 02 08 00 10 81 80 80 80 00 0B 04 00 41 07 0B")
    ++ hex (codes "00 11 08 2E 64 65 62 75 67 5F 78 00 00 00 00 00 00 00 00")
    ++ hex (codes "00 11 06 72 65 6C 6F 63 2E 01 02 08 00 00 01 08 04 01 00")

-- f calls g, or calls nothing
abbrev called : Object
called = record calling { functions = body_at 0 (span 12 8) (names 0 2 1 ∷ []) ∷ body_at 0 (span 21 4) [] ∷ [] }

abbrev alone : Object
alone = record calling { functions = body_at 0 (span 12 8) [] ∷ body_at 0 (span 21 4) [] ∷ [] }

-- behind the 65 bytes of its output
abbrev kept : Object → Result (List ℕ) Fault
kept o = debug_tail_by Plain (read_as (o ∷ [])) (record (exporting 1 (codes "f" ∷ [])) { keep_debug = true }) (file ∷ []) 65

both_live : kept called ≡ Ok (hex (codes "00 11 08 2E 64 65 62 75 67 5F 78 03 00 00 00 0B 00 00 00"))
unfolding debug_tail_by program_tail laid_tail joined debugs_of customs tail_of link_places link_inputs candidates_of load asked_names program_of entries resolve winners_of parts_of init_calls exported live reached layout places shapes functions slots globals types imports_in_order image source_windows windows code_place u32 u32_padded s32 s32_padded frame_at sections_at section_at u32_at s32_at bytes_at front_at vector_at many_at whole reloc_section_at reloc_at number_at end_of end_within
both_live = refl

-- g is dead.
one_live : kept alone ≡ Ok (hex (codes "00 11 08 2E 64 65 62 75 67 5F 78 03 00 00 00 FF FF FF FF"))
unfolding debug_tail_by program_tail laid_tail joined debugs_of customs tail_of link_places link_inputs candidates_of load asked_names program_of entries resolve winners_of parts_of init_calls exported live reached layout places shapes functions slots globals types imports_in_order image source_windows windows code_place u32 u32_padded s32 s32_padded frame_at sections_at section_at u32_at s32_at bytes_at front_at vector_at many_at whole reloc_section_at reloc_at number_at end_of end_within
one_live = refl

-- Without the word nothing stands there.
not_kept : debug_tail_by Plain (read_as (called ∷ [])) (exporting 1 (codes "f" ∷ [])) (file ∷ []) 65 ≡ Ok []
unfolding debug_tail_by program_tail laid_tail candidates_of load asked_names program_of
not_kept = refl

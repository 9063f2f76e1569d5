-- A worked link with what may stand behind it.
use Rattle.std.specs.Prelude.{◌≡◌, ℕ, true, List, [], ◌∷◌, ◌++◌, ◌-◌, ◌^◌, None, Ok, Err, codes, refl}
use Rattle.object_file.specs.leb_codec.Shortest.{u32, u32_padded, s32, s32_padded}
use Rattle.object_file.specs.leb_codec.Reading.{number_at, end_of, end_within}
use Rattle.object_file.specs.object_parts.wasm_grammar.Reading.{u32_at, s32_at, bytes_at, front_at, vector_at, many_at, whole}
use Rattle.object_file.specs.wl_base.declared.fault.Fault.TheVariants.{DebugTooLong}
use Rattle.object_file.specs.declared.object.Object.{Object}
use Rattle.object_file.specs.object_parts.wasm_sections.Reading.{frame_at, sections_at, section_at}
use Rattle.object_file.specs.reloc_section.Relocs.{reloc_section_at, reloc_at}
use Rattle.made_symbols.specs.declared.mode.Mode.TheVariants.{Plain}
use Rattle.round_rules.specs.Rounds.{load}
use Rattle.name_rules.specs.Entries.{entries}
use Rattle.name_rules.specs.Meanings.{resolve}
use Rattle.link_plan.specs.declared.plan.Plan.{Plan}
use Rattle.live_mark.specs.Live.{reached}
use Rattle.debug_links.specs.valid_links.link_runs.link_program.memory_layout.Memory.{places}
use Rattle.link_rules.specs.image_emit.Pieces.{code_place}
use Rattle.link_rules.specs.Candidates.{candidates_of}
use Rattle.link_rules.specs.Program.{init_calls, parts_of, winners_of, program_of}
use Rattle.link_rules.specs.Marks.{exported, live}
use Rattle.link_rules.specs.Keys.{imports_in_order, functions, slots, globals, types}
use Rattle.link_rules.specs.Values.{shapes, windows}
use Rattle.link_rules.specs.Output.{layout, image, source_windows}
use Rattle.link_rules.specs.LinkOf.{asked_names}
use Rattle.link_rules.specs.Examples.{exporting, body_at, span, names, hex, read_as}
use Rattle.link_rules.specs.NameRows.{calling}
use Rattle.debug_rules.specs.Sections.{customs}
use Rattle.debug_rules.specs.Faults.{debugs_of}
use Rattle.debug_rules.specs.Joined.{joined, tail_of}
use Rattle.debug_tails.specs.link_debug.Places.{link_places, link_inputs}
use Rattle.debug_tails.specs.Tails.{laid_tail}
use Rattle.name_section.specs.Names.{name_section}
use Rattle.function_names.specs.Names.{function_names}
use Rattle.object_features.specs.Tail.{feature_tail}
use Rattle.link_tails.specs.Tails.{laid_names, laid_features, further, laid_whole, program_whole, whole_tail_by}

-- The code of f and g, `.debug_x` with eight bytes, which is section 1, and two entries for it: the place of f and 1, and that of g; and that the
-- feature `abc` is used, of which nothing is asked.
abbrev file : List ℕ
file =
    hex (codes "00 61 73 6D 01 00 00 00 0A 0F 02 08 00 10 81 80 80 80 00 0B 04 00 41 07 0B")
    ++ hex (codes "00 11 08 2E 64 65 62 75 67 5F 78 00 00 00 00 00 00 00 00")
    ++ hex (codes "00 11 06 72 65 6C 6F 63 2E 01 02 08 00 00 01 08 04 01 00")
    ++ (hex (codes "00 16 0F") ++ codes "target_features" ++ hex (codes "01 2B 03") ++ codes "abc")

-- f calls g
abbrev called : Object
called = record calling { functions = body_at 0 (span 12 8) (names 0 2 1 ∷ []) ∷ body_at 0 (span 21 4) [] ∷ [] }

abbrev asking : Plan
asking = record (exporting 1 (codes "f" ∷ [])) { keep_debug = true; names = true; features = None }

-- behind the 65 bytes of its output
both : whole_tail_by Plain (read_as (called ∷ [])) asking (file ∷ []) 65
    ≡ Ok (hex (codes "00 11 08 2E 64 65 62 75 67 5F 78 03 00 00 00 0B 00 00 00")
    ++ hex (codes "00 0E 04 6E 61 6D 65 01 07 02 00 01 66 01 01 67"))
unfolding whole_tail_by program_whole laid_whole laid_names laid_features laid_tail feature_tail function_names name_section joined debugs_of customs tail_of link_places link_inputs candidates_of load asked_names program_of entries resolve winners_of parts_of init_calls exported live reached layout places shapes functions slots globals types imports_in_order image source_windows windows code_place u32 u32_padded s32 s32_padded frame_at sections_at section_at u32_at s32_at bytes_at front_at vector_at many_at whole reloc_section_at reloc_at number_at end_of end_within
both = refl

-- What stands behind the debug sections counts too, and only where it has bytes.
no_room : further (2 ^ 31 - 3) (7 ∷ []) (8 ∷ 9 ∷ []) ≡ Err (DebugTooLong (2 ^ 31))
no_room = refl

room : further (2 ^ 31 - 4) (7 ∷ []) (8 ∷ 9 ∷ []) ≡ Ok (7 ∷ 8 ∷ 9 ∷ [])
room = refl

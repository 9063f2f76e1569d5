-- Links from bytes to bytes: of an object, and of a library whose member is read from its place there.
use Rattle.std.specs.Prelude.{◌≡◌, [], ◌∷◌, Ok, codes}
use Rattle.std.proofs.Common.{ap, ◌∙◌}
use Rattle.object_file.specs.leb_codec.Shortest.{u32, u32_padded, s32, s32_padded, s64}
use Rattle.made_symbols.specs.declared.mode.Mode.TheVariants.{Plain}
use Rattle.round_rules.specs.Rounds.{load}
use Rattle.name_rules.specs.Entries.{entries}
use Rattle.name_rules.specs.Meanings.{resolve}
use Rattle.name_rules.specs.Cases.{clash, duplicate}
use Rattle.live_mark.specs.Live.{reached}
use Rattle.memory_layout.specs.Memory.{places, memory_overflow}
use Rattle.ctor_call.specs.Body.{ctor_body}
use Rattle.reloc_apply.specs.Windows.{value_overflow}
use Rattle.image_emit.specs.Bytes.{bytes_of}
use Rattle.link_rules.specs.ModeOf.{mode_of}
use Rattle.link_rules.specs.Candidates.{candidates_of}
use Rattle.link_rules.specs.Program.{init_calls, parts_of, winners_of, program_of}
use Rattle.link_rules.specs.Marks.{exported, repeated_export, live, pic_fault, unresolved, uncalled}
use Rattle.link_rules.specs.Keys.{imports_in_order, functions, slots, globals, types}
use Rattle.link_rules.specs.Values.{shapes, windows}
use Rattle.link_rules.specs.Output.{layout, image, source_windows}
use Rattle.link_rules.specs.LinkOf.{asked_names, too_many_names, memory_fault, table_fault, output_fault, reference_fault, output_bytes, written, laid_out, marked, link_program, link_by, link_of}
use Rattle.link_rules.specs.Examples.{exporting}
use Rattle.object_file.specs.ObjectOf.{object_of}
use Rattle.lib_index.specs.Reading.{library_of}
use Rattle.link_rules.specs.Examples.{span}
use Rattle.link_rows.specs.Bytes.{an_object, library_bytes, output_of, object_is, member_is}
use Rattle.link_rows.specs.Libraries.{library_is}

pub of_an_object : link_of (exporting 1 (codes "f" ∷ [])) (an_object ∷ []) ≡ Ok (output_of (0x00 ∷ 0x0B ∷ []))
unfolding mode_of link_of link_by candidates_of load entries resolve program_of winners_of parts_of init_calls asked_names too_many_names clash duplicate exported repeated_export link_program marked live reached pic_fault unresolved uncalled memory_fault memory_overflow shapes laid_out layout places functions slots globals types imports_in_order table_fault written image source_windows windows output_fault reference_fault value_overflow output_bytes bytes_of u32 u32_padded s32 s32_padded s64 ctor_body
of_an_object = ap (λ read. link_by Plain (record { object = λ input bytes. read; library = library_of }) (exporting 1 (codes "f" ∷ [])) (an_object ∷ [])) object_is

pub of_a_library : link_of (exporting 1 (codes "f" ∷ [])) (library_bytes ∷ []) ≡ Ok (output_of (0x00 ∷ 0x01 ∷ 0x0B ∷ []))
unfolding mode_of link_of link_by candidates_of load entries resolve program_of winners_of parts_of init_calls asked_names too_many_names clash duplicate exported repeated_export link_program marked live reached pic_fault unresolved uncalled memory_fault memory_overflow shapes laid_out layout places functions slots globals types imports_in_order table_fault written image source_windows windows output_fault reference_fault value_overflow output_bytes bytes_of u32 u32_padded s32 s32_padded s64 ctor_body
of_a_library =
    ap (λ read. link_by Plain (record { object = object_of; library = λ bytes. read }) (exporting 1 (codes "f" ∷ [])) (library_bytes ∷ [])) library_is
    ∙ ap (λ read. link_by Plain (record { object = λ input bytes. read; library = λ bytes. Ok (record { members = span 138 44 ∷ []; offered = (codes "f", 0) ∷ [] }) })
    (exporting 1 (codes "f" ∷ [])) (library_bytes ∷ [])) member_is

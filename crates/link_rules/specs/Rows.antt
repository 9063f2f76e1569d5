-- The worked links give what they have to.
use Rattle.std.specs.Prelude.{◌≡◌, List, ◌++◌, refl}
use Rattle.name_rules.specs.object_file.leb_codec.Shortest.{u32, u32_padded, s32, s32_padded, s64}
use Rattle.round_rules.specs.Rounds.{load}
use Rattle.name_rules.specs.Entries.{entries}
use Rattle.name_rules.specs.Meanings.{resolve}
use Rattle.name_rules.specs.Cases.{clash, loose_clash, duplicate}
use Rattle.live_mark.specs.Live.{reached}
use Rattle.memory_layout.specs.Memory.{places, memory_overflow}
use Rattle.ctor_call.specs.Body.{ctor_body}
use Rattle.reloc_apply.specs.Windows.{value_overflow}
use Rattle.dylink_out.specs.image_emit.Bytes.{bytes_of}
use Rattle.link_rules.specs.ModeOf.{mode_of}
use Rattle.link_rules.specs.Candidates.{candidates_of}
use Rattle.link_rules.specs.Program.{init_calls, parts_of, winners_of, program_of}
use Rattle.link_rules.specs.Marks.{exported, repeated_export, live, pic_fault, unresolved, uncalled}
use Rattle.link_rules.specs.Keys.{imports_in_order, functions, slots, globals, types}
use Rattle.link_rules.specs.Values.{shapes, windows}
use Rattle.link_rules.specs.Output.{layout, image, source_windows}
use Rattle.link_rules.specs.LinkOf.{asked_names, too_many_names, memory_fault, table_fault, output_fault, reference_fault, output_bytes, written, laid_out, marked, link_program, link_by}
use Rattle.dylink_out.specs.Shared.{apply_body, dylink_payload}
use Rattle.link_rules.specs.Examples.{Row, links, answers}
use Rattle.link_rules.specs.NameRows as names_of
use Rattle.link_rules.specs.DataRows as data_of
use Rattle.link_rules.specs.LoadingRows as loading_of
use Rattle.link_rules.specs.MoreRows as more_of
use Rattle.link_rules.specs.FurtherRows as further_of
use Rattle.link_rules.specs.SharedRows as shared_of

abbrev pub all_rows : List Row
all_rows = names_of.rows ++ data_of.rows ++ loading_of.rows ++ more_of.rows ++ further_of.rows ++ shared_of.rows

pub all_worked : links all_rows ≡ answers all_rows
unfolding mode_of link_by candidates_of load entries resolve program_of winners_of parts_of init_calls asked_names too_many_names clash loose_clash duplicate exported repeated_export link_program marked live reached pic_fault unresolved uncalled memory_fault memory_overflow shapes laid_out layout places functions slots globals types imports_in_order table_fault written image source_windows windows output_fault reference_fault value_overflow output_bytes bytes_of u32 u32_padded s32 s32_padded s64 ctor_body apply_body dylink_payload
all_worked = refl

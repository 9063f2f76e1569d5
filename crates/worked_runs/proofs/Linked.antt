-- The link of clang's object, computed.
use Rattle.std.specs.Prelude.{◌≡◌, [], ◌∷◌, Ok, refl}
use Rattle.std.proofs.Common.{ap, arith}
use Rattle.object_file.specs.leb_codec.Shortest.{u32, u32_padded, s32, s32_padded, s64}
use Rattle.made_symbols.specs.declared.mode.Mode.TheVariants.{Plain}
use Rattle.round_rules.specs.Rounds.{load}
use Rattle.name_rules.specs.Entries.{entries}
use Rattle.name_rules.specs.Meanings.{resolve}
use Rattle.name_rules.specs.Cases.{clash, duplicate}
use Rattle.live_mark.specs.Live.{reached}
use Rattle.memory_layout.specs.Memory.{places, memory_overflow}
use Rattle.ctor_call.specs.Body.{ctor_body}
use Rattle.reloc_apply.specs.Windows.{value_overflow}
use Rattle.image_emit.specs.Bytes.{bytes_of}
use Rattle.link_rules.specs.ModeOf.{mode_of}
use Rattle.link_rules.specs.Candidates.{candidates_of}
use Rattle.link_rules.specs.Program.{init_calls, parts_of, winners_of, program_of}
use Rattle.link_rules.specs.Marks.{exported, repeated_export, live, pic_fault, unresolved, uncalled}
use Rattle.link_rules.specs.Keys.{imports_in_order, functions, slots, globals, types}
use Rattle.link_rules.specs.Values.{shapes, windows}
use Rattle.link_rules.specs.Output.{layout, image, source_windows}
use Rattle.link_rules.specs.LinkOf.{asked_names, too_many_names, memory_fault, table_fault, output_fault, reference_fault, output_bytes, written, laid_out, marked, link_program, link_by, link_of}
use Rattle.lib_index.specs.Reading.{library_of}
use Rattle.link_plan.specs.Plan.{IsPlan}
use Rattle.worked_runs.specs.Clang.{clang_object, exporting_f, linked}
use Rattle.worked_runs.proofs.Read.{object_is}

pub link_is : link_of exporting_f (clang_object ∷ []) ≡ Ok linked
unfolding mode_of link_of link_by candidates_of load entries resolve program_of winners_of parts_of init_calls asked_names too_many_names clash duplicate exported repeated_export link_program marked live reached pic_fault unresolved uncalled memory_fault memory_overflow shapes laid_out layout places functions slots globals types imports_in_order table_fault written image source_windows windows output_fault reference_fault value_overflow output_bytes bytes_of u32 u32_padded s32 s32_padded s64 ctor_body
link_is = ap (λ read. link_by Plain (record { object = λ input bytes. read; library = library_of }) exporting_f (clang_object ∷ [])) object_is

pub is_plan : IsPlan exporting_f
is_plan = record {
  stack = refl;
  stack_small = omega arith;
  initial = (refl, omega arith);
  max = tt;
  base = tt;
  some_thread = omega arith;
  few_threads = omega arith;
  cases = tt;
  inputs = omega arith;
}

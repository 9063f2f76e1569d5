-- Worked partial links: what an object is made of, and how a link is refused. A link of what is made gives what a link of its parts gives.
use Rattle.std.specs.Prelude.{◌≡◌, ℕ, true, false, List, [], ◌∷◌, ◌++◌, Ok, Err, codes, refl}
use Rattle.object_file.specs.leb_codec.Shortest.{u32, u32_padded, s32, s32_padded, s64}
use Rattle.object_file.specs.wl_base.declared.fault.Fault.TheVariants.{Duplicate, Unresolved, NotPartial}
use Rattle.object_file.specs.declared.object.Object.{Object}
use Rattle.made_symbols.specs.declared.mode.Mode.TheVariants.{Plain}
use Rattle.round_rules.specs.Rounds.{load}
use Rattle.name_rules.specs.Entries.{entries}
use Rattle.name_rules.specs.Meanings.{resolve}
use Rattle.name_rules.specs.Cases.{clash, duplicate}
use Rattle.live_mark.specs.Live.{reached}
use Rattle.memory_layout.specs.Memory.{places, memory_overflow}
use Rattle.ctor_call.specs.Body.{ctor_body}
use Rattle.reloc_apply.specs.Windows.{value_overflow}
use Rattle.image_emit.specs.Bytes.{bytes_of}
use Rattle.link_plan.specs.declared.plan.Plan.{Plan}
use Rattle.link_rules.specs.Candidates.{candidates_of}
use Rattle.link_rules.specs.Program.{init_calls, parts_of, winners_of, program_of}
use Rattle.link_rules.specs.Marks.{exported, repeated_export, live, pic_fault, unresolved, uncalled}
use Rattle.link_rules.specs.Keys.{imports_in_order, functions, slots, globals, types}
use Rattle.link_rules.specs.Values.{shapes, windows}
use Rattle.link_rules.specs.Output.{layout, image, source_windows}
use Rattle.link_rules.specs.LinkOf.{asked_names, too_many_names, memory_fault, table_fault, output_fault, reference_fault, output_bytes, written, laid_out, marked, link_program, link_by}
use Rattle.link_rules.specs.Examples.{plan_of, read_as, exporting, function_symbol, datum_symbol, empty_object}
use Rattle.link_rules.specs.LoadingRows.{grouping, grouping_file}
use Rattle.link_rules.specs.NameRows.{defining, giving_1, giving_2}
use Rattle.partial_rules.specs.Relocatable.{relocatable_bytes}
use Rattle.partial_rules.specs.Partial.{relocatable, open_local}
use Rattle.partial_rules.specs.PartialLink.{partial_program, partial_by}
use Rattle.partial_rules.specs.CallCase.{call_objects, call_files, call_made, call_read, call_output}
use Rattle.partial_rules.specs.GroupedCase.{grouped_objects, grouped_files, grouped_made, grouped_read, grouped_output}
use Rattle.partial_rules.specs.MixedCase.{mixed_objects, mixed_files, mixed_made, mixed_read, mixed_output}
use Rattle.partial_rules.specs.OrderedCase.{ordered_objects, ordered_files, ordered_made}
use Rattle.partial_rules.specs.UnusedCase.{unused_objects, unused_files, unused_made}

-- ---- what is made

-- The symbols keep their numbers, the memory is imported, and the call stands on an empty window.
call_worked : partial_by (read_as call_objects) (plan_of 1) call_files ≡ Ok call_made
unfolding partial_by partial_program candidates_of load entries resolve program_of winners_of parts_of init_calls asked_names too_many_names clash duplicate relocatable open_local relocatable_bytes u32 u32_padded s32 s32_padded s64
call_worked = refl

-- The first copy of the group stands, once.
grouped_worked : partial_by (read_as grouped_objects) (plan_of 2) grouped_files ≡ Ok grouped_made
unfolding partial_by partial_program candidates_of load entries resolve program_of winners_of parts_of init_calls asked_names too_many_names clash duplicate relocatable open_local relocatable_bytes u32 u32_padded s32 s32_padded s64
grouped_worked = refl

mixed_worked : partial_by (read_as mixed_objects) (plan_of 2) mixed_files ≡ Ok mixed_made
unfolding partial_by partial_program candidates_of load entries resolve program_of winners_of parts_of init_calls asked_names too_many_names clash duplicate relocatable open_local relocatable_bytes u32 u32_padded s32 s32_padded s64
mixed_worked = refl

ordered_worked : partial_by (read_as ordered_objects) (plan_of 4) ordered_files ≡ Ok ordered_made
unfolding partial_by partial_program candidates_of load entries resolve program_of winners_of parts_of init_calls asked_names too_many_names clash duplicate relocatable open_local relocatable_bytes u32 u32_padded s32 s32_padded s64
ordered_worked = refl

unused_worked : partial_by (read_as unused_objects) (plan_of 1) unused_files ≡ Ok unused_made
unfolding partial_by partial_program candidates_of load entries resolve program_of winners_of parts_of init_calls asked_names too_many_names clash duplicate relocatable open_local relocatable_bytes u32 u32_padded s32 s32_padded s64
unused_worked = refl

-- ---- what is refused

-- A strong f stands in the second and the fifth of five objects.
abbrev pub five : List Object
five = empty_object 1 ∷ defining 2 0 ∷ empty_object 3 ∷ empty_object 4 ∷ defining 5 0 ∷ []

duplicate_worked : partial_by (read_as five) (plan_of 5) ([] ∷ giving_1 ∷ [] ∷ [] ∷ giving_2 ∷ []) ≡ Err (Duplicate (codes "f") 2 5)
unfolding partial_by partial_program candidates_of load entries resolve program_of winners_of parts_of init_calls asked_names too_many_names clash duplicate relocatable open_local relocatable_bytes u32 u32_padded s32 s32_padded s64
duplicate_worked = refl

abbrev pub library_file : List ℕ
library_file = codes "!<arch>" ++ 10 ∷ []

library_worked : partial_by (read_as (empty_object 1 ∷ [])) (plan_of 2) ([] ∷ library_file ∷ []) ≡ Err (NotPartial 1)
unfolding partial_by partial_program candidates_of load entries resolve program_of winners_of parts_of init_calls asked_names too_many_names clash duplicate relocatable open_local relocatable_bytes u32 u32_padded s32 s32_padded s64
library_worked = refl

-- Input 3 calls a LOCAL function of a group that input 2 wins.
abbrev pub lost_call : List Object
lost_call = empty_object 1 ∷ grouping 2 (codes "y") ∷ record (grouping 3 (codes "z")) { symbols = function_symbol 0x20 (codes "z") 1 ∷ function_symbol 2 (codes "w") 0 ∷ datum_symbol 1 (codes "d") 0 0 4 ∷ [] } ∷ []

lost_call_worked : partial_by (read_as lost_call) (plan_of 3) ([] ∷ grouping_file 2 ∷ grouping_file 3 ∷ []) ≡ Err (Unresolved (codes "w") 3)
unfolding partial_by partial_program candidates_of load entries resolve program_of winners_of parts_of init_calls asked_names too_many_names clash duplicate relocatable open_local relocatable_bytes u32 u32_padded s32 s32_padded s64
lost_call_worked = refl

-- ---- a link of the parts, and of what is made of them

-- All that is kept is live, and names may be left open.
abbrev pub whole_plan : ℕ → Plan
whole_plan inputs = record (plan_of inputs) { gc = false; allow_undefined = true }

call_linked : link_by Plain (read_as call_objects) (exporting 1 (codes "f" ∷ [])) call_files ≡ Ok call_output
unfolding link_by candidates_of load entries resolve program_of winners_of parts_of init_calls asked_names too_many_names clash duplicate exported repeated_export link_program marked live reached pic_fault unresolved uncalled memory_fault memory_overflow shapes laid_out layout places functions slots globals types imports_in_order table_fault written image source_windows windows output_fault reference_fault value_overflow output_bytes bytes_of u32 u32_padded s32 s32_padded s64 ctor_body
call_linked = refl

call_linked_again : link_by Plain (read_as (call_read ∷ [])) (exporting 1 (codes "f" ∷ [])) (call_made ∷ []) ≡ Ok call_output
unfolding link_by candidates_of load entries resolve program_of winners_of parts_of init_calls asked_names too_many_names clash duplicate exported repeated_export link_program marked live reached pic_fault unresolved uncalled memory_fault memory_overflow shapes laid_out layout places functions slots globals types imports_in_order table_fault written image source_windows windows output_fault reference_fault value_overflow output_bytes bytes_of u32 u32_padded s32 s32_padded s64 ctor_body
call_linked_again = refl

grouped_linked : link_by Plain (read_as grouped_objects) (exporting 2 (codes "f0" ∷ [])) grouped_files ≡ Ok grouped_output
unfolding link_by candidates_of load entries resolve program_of winners_of parts_of init_calls asked_names too_many_names clash duplicate exported repeated_export link_program marked live reached pic_fault unresolved uncalled memory_fault memory_overflow shapes laid_out layout places functions slots globals types imports_in_order table_fault written image source_windows windows output_fault reference_fault value_overflow output_bytes bytes_of u32 u32_padded s32 s32_padded s64 ctor_body
grouped_linked = refl

grouped_linked_again : link_by Plain (read_as (grouped_read ∷ [])) (exporting 1 (codes "f0" ∷ [])) (grouped_made ∷ []) ≡ Ok grouped_output
unfolding link_by candidates_of load entries resolve program_of winners_of parts_of init_calls asked_names too_many_names clash duplicate exported repeated_export link_program marked live reached pic_fault unresolved uncalled memory_fault memory_overflow shapes laid_out layout places functions slots globals types imports_in_order table_fault written image source_windows windows output_fault reference_fault value_overflow output_bytes bytes_of u32 u32_padded s32 s32_padded s64 ctor_body
grouped_linked_again = refl

mixed_linked : link_by Plain (read_as mixed_objects) (whole_plan 2) mixed_files ≡ Ok mixed_output
unfolding link_by candidates_of load entries resolve program_of winners_of parts_of init_calls asked_names too_many_names clash duplicate exported repeated_export link_program marked live reached pic_fault unresolved uncalled memory_fault memory_overflow shapes laid_out layout places functions slots globals types imports_in_order table_fault written image source_windows windows output_fault reference_fault value_overflow output_bytes bytes_of u32 u32_padded s32 s32_padded s64 ctor_body
mixed_linked = refl

mixed_linked_again : link_by Plain (read_as (mixed_read ∷ [])) (whole_plan 1) (mixed_made ∷ []) ≡ Ok mixed_output
unfolding link_by candidates_of load entries resolve program_of winners_of parts_of init_calls asked_names too_many_names clash duplicate exported repeated_export link_program marked live reached pic_fault unresolved uncalled memory_fault memory_overflow shapes laid_out layout places functions slots globals types imports_in_order table_fault written image source_windows windows output_fault reference_fault value_overflow output_bytes bytes_of u32 u32_padded s32 s32_padded s64 ctor_body
mixed_linked_again = refl

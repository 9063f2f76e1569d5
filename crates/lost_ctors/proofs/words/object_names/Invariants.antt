use Rattle.std.proofs.Common.{◌≡◌, drop, []}
use Rattle.std.specs.Prelude.{slice_index_or}
use Rattle.std.specs.List.{list_any}
use Rattle.link_marks.specs.link_program.name_entries.View.{is_number}
use Rattle.lost_ctors.proofs.words.object_names.Given as goal

abbrev pub invariant-loop-place : goal.invariant-loop-place
invariant-loop-place l =
    list_any (is_number l.number) (drop l.place (slice_index_or l.names.symbols l.object [])) ≡ list_any (is_number l.number) (slice_index_or l.names.symbols l.object [])

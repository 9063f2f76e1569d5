use Rattle.std.proofs.Common.{take, get_or, []}
use Rattle.program_tables.specs.link_program.name_entries.View.{rows_of}
use Rattle.program_tables.specs.Loose.{loosens}
use Rattle.std.proofs.Common.{true}
use Rattle.loose_calls.specs.Found.{Grows}
use Rattle.loose_calls.proofs.finding.Calls.add_object.Given as goal

abbrev pub ghost-is_loose : goal.ghost-is_loose
ghost-is_loose g a = g.allow

abbrev pub invariant-loop-place : goal.invariant-loop-place
invariant-loop-place g l =
    Grows (loosens l.asking.mode true g.allow l.asking.entries.objects.now) l.asking.count (take l.place (get_or (rows_of l.asking.entries.objects.now) l.object [])) l.initial.self l.self

use Rattle.std.proofs.Common.{◌≡◌, take, get_or, []}
use Rattle.program_tables.specs.link_program.wl_base.Choice.{distinct_onto}
use Rattle.program_tables.specs.link_program.name_entries.View.{rows_of}
use Rattle.mismatch_rules.specs.Mismatches.{same_call}
use Rattle.loose_calls.specs.Told.{told_of}
use Rattle.loose_calls.proofs.telling.tell_object.Given as goal

abbrev pub ghost-tell_symbol : goal.ghost-tell_symbol
ghost-tell_symbol g a = g.allow

abbrev pub invariant-loop-place : goal.invariant-loop-place
invariant-loop-place g l =
    let objects = l.asking.entries.objects.now in
    l.told ≡ distinct_onto same_call l.initial.told (told_of l.asking.mode g.allow objects (take l.place (get_or (rows_of objects) l.object [])))

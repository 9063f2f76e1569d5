use Rattle.std.proofs.Common.{◌≡◌, take}
use Rattle.std.specs.Prelude.{flat_map}
use Rattle.program_tables.specs.link_program.wl_base.Choice.{distinct}
use Rattle.program_tables.specs.link_program.name_rules.Entries.{symbols_of}
use Rattle.mismatch_rules.specs.Mismatches.{same_call}
use Rattle.loose_calls.specs.Told.{told_of}
use Rattle.loose_calls.proofs.telling.tell_all.Given as goal

abbrev pub ghost-tell_object : goal.ghost-tell_object
ghost-tell_object g a = g.allow

abbrev pub invariant-loop-object : goal.invariant-loop-object
invariant-loop-object g l =
    let objects = l.asking.entries.objects.now in
    l.told ≡ distinct same_call (told_of l.asking.mode g.allow objects (flat_map (symbols_of objects) (take l.object objects)))

use Rattle.std.proofs.Common.{take, [], true}
use Rattle.std.specs.Prelude.{flat_map}
use Rattle.program_tables.specs.link_program.name_rules.Entries.{symbols_of}
use Rattle.program_tables.specs.Loose.{loosens}
use Rattle.loose_calls.specs.Found.{Grows}
use Rattle.loose_calls.proofs.finding.all_calls.Given as goal

abbrev pub ghost-add_object : goal.ghost-add_object
ghost-add_object g a = g.allow

abbrev pub invariant-loop-object : goal.invariant-loop-object
invariant-loop-object g l =
    let objects = l.asking.entries.objects.now in
    Grows (loosens l.asking.mode true g.allow objects) l.asking.count (flat_map (symbols_of objects) (take l.object objects)) (record { called = []; variants = [] }) l.calls

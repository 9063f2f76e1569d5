use Rattle.std.proofs.Common.{◌≡◌, take, length}
use Rattle.std.specs.Prelude.{flat_map}
use Rattle.program_tables.specs.link_program.name_rules.Entries.{symbols_of}
use Rattle.loose_calls.proofs.finding.count_symbols.Given as goal

abbrev pub invariant-loop-object : goal.invariant-loop-object
invariant-loop-object l = l.count ≡ length (flat_map (symbols_of l.entries.objects.now) (take l.object l.entries.objects.now))

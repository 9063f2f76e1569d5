use Rattle.std.proofs.Common.{◌≡◌, ◌++◌, take}
use Rattle.std.specs.Prelude.{filter_map}
use Rattle.program_tables.specs.Views.{view_seen}
use Rattle.program_tables.specs.Inits.{call_of}
use Rattle.program_tables.proofs.inits.add_calls.Given as goal

abbrev pub invariant-loop-init : goal.invariant-loop-init
invariant-loop-init l =
    l.calls ≡ l.fn.calls ++ filter_map (call_of l.lookups.entries.objects.now (view_seen l.view)) (take l.init-index l.view.from.now.inits)

use Rattle.std.proofs.Common.{List, drop}
use Rattle.std.specs.Prelude.{filter, flat_map}
use Rattle.lib_index.specs.Table.{shown}
use Rattle.round_rules.specs.Rounds.{Candidate}
use Rattle.round_rules.specs.Inputs.{members_of}
use Rattle.lib_rounds.proofs.Whole.{Loading}
use Rattle.lib_rounds.proofs.begin.load_whole.Given as goal

abbrev pub ghost-load_library : goal.ghost-load_library
ghost-load_library g a = g.w

abbrev pub invariant-loop-at : goal.invariant-loop-at
invariant-loop-at g l = (done : List Candidate)
    × Loading g.w l.fn.slots.items l.slots.items (shown l.definers) done (flat_map (members_of l.inputs.files.now) (filter (λ l. l.whole)
    (drop l.at l.inputs.libraries.now)))
    (flat_map (members_of l.inputs.files.now) (filter (λ l. l.whole) l.inputs.libraries.now))

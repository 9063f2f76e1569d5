use Rattle.std.proofs.Common.{◌≡◌, List, Some, drop}
use Rattle.std.specs.Prelude.{slice_get}
use Rattle.lib_index.specs.Table.{shown}
use Rattle.round_rules.specs.declared.given.LibraryFile.{LibraryFile}
use Rattle.round_rules.specs.Rounds.{Candidate}
use Rattle.round_rules.specs.Inputs.{members_of}
use Rattle.lib_rounds.specs.State.{candidate_at}
use Rattle.lib_rounds.proofs.Whole.{Loading}
use Rattle.lib_rounds.proofs.begin.load_library.Given as goal

abbrev pub ghost-load : goal.ghost-load
ghost-load g a = candidate_at g.w.all a.offer.input

abbrev pub invariant-loop-member : goal.invariant-loop-member
invariant-loop-member g l = (x : LibraryFile) → slice_get l.inputs.libraries.now l.at ≡ Some x
    → (done : List Candidate) × Loading g.w l.fn.slots.items l.slots.items (shown l.definers) done (drop l.member
    (members_of l.inputs.files.now x)) (members_of l.inputs.files.now x)

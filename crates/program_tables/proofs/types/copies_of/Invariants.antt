use Rattle.std.proofs.Common.{◌≡◌, take}
use Rattle.program_tables.proofs.types.copies_of.Given as goal

abbrev pub invariant-loop-kind : goal.invariant-loop-kind
invariant-loop-kind l = l.copies ≡ take l.kind-index l.types

use Rattle.std.proofs.Common.{◌≡◌, take, fold}
use Rattle.partial_open.specs.Steps.{by_reference}
use Rattle.partial_open.proofs.flags.mark_references.Given as goal

abbrev pub invariant-loop-reference : goal.invariant-loop-reference
invariant-loop-reference l = l.flags ≡ fold by_reference l.fn.flags (take l.reference-index l.references)

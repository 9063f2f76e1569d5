use Rattle.std.proofs.Common.{◌≡◌, drop}
use Rattle.partial_open.specs.Lost.{first_fault}
use Rattle.partial_open.proofs.lost.first_fault.Given as goal

abbrev pub invariant-loop-object : goal.invariant-loop-object
invariant-loop-object l = first_fault l.entries.objects.now (drop l.object l.entries.objects.now) (drop l.object l.entries.parts.now) ≡ first_fault l.entries.objects.now l.entries.objects.now l.entries.parts.now

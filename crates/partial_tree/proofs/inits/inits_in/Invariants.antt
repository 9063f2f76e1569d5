use Rattle.std.proofs.Common.{◌≡◌, ◌++◌, drop}
use Rattle.partial_tree.specs.Inits.{inits_from}
use Rattle.partial_tree.proofs.inits.inits_in.Given as goal

abbrev pub invariant-loop-object : goal.invariant-loop-object
invariant-loop-object l = l.inits ++ inits_from l.standing l.entries.names.now.names l.entries.objects.now l.object l.start (drop l.object l.entries.objects.now)
    ≡ inits_from l.standing l.entries.names.now.names l.entries.objects.now 0 0 l.entries.objects.now

use Rattle.std.proofs.Common.{◌≡◌, drop}
use Rattle.lost_ctors.specs.Inits.{inits_lost}
use Rattle.lost_ctors.proofs.inits.are_lost.Given as goal

abbrev pub invariant-loop-init : goal.invariant-loop-init
invariant-loop-init l =
    inits_lost l.tables l.entries.objects.now l.alive l.object l.first (drop l.init-index l.inits) ≡ inits_lost l.tables l.entries.objects.now l.alive l.object l.first l.inits

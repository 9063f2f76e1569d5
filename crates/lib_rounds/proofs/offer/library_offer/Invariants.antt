use Rattle.std.proofs.Common.{◌≡◌, drop}
use Rattle.lib_rounds.specs.Offers.{library_offer}
use Rattle.lib_rounds.proofs.offer.library_offer.Given as goal

abbrev pub invariant-loop-at : goal.invariant-loop-at
invariant-loop-at l = library_offer (drop l.at l.libraries) l.name ≡ library_offer l.fn.libraries l.fn.name

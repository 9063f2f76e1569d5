use Rattle.std.proofs.Common.{◌≡◌, drop}
use Rattle.driver_words.specs.Translated.{asked}
use Rattle.driver_words.proofs.translation.asked.Given as goal

abbrev pub invariant-loop-item : goal.invariant-loop-item
invariant-loop-item l = asked (drop l.item-index l.items) ≡ asked l.items

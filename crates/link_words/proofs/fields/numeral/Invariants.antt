use Rattle.std.proofs.Common.{◌≡◌, take, IfSome}
use Rattle.link_words.specs.Numbers.{IsIn}
use Rattle.link_words.specs.Fields.{numeral}
use Rattle.link_words.proofs.fields.numeral.Given as goal

abbrev pub invariant-loop-item : goal.invariant-loop-item
invariant-loop-item l = (l.last ≡ numeral l.kind l.range (take l.item-index l.items)) × IfSome l.last (IsIn l.range)

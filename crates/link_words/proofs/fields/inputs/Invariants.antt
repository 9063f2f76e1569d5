use Rattle.std.proofs.Common.{◌≡◌, ◌++◌, drop}
use Rattle.link_words.specs.Fields.{inputs, inputs_from}
use Rattle.link_words.proofs.fields.inputs.Given as goal

abbrev pub invariant-loop-item : goal.invariant-loop-item
invariant-loop-item l = l.inputs ++ inputs_from l.lazy l.whole (drop l.item-index l.items) ≡ inputs l.items

use Rattle.std.proofs.Common.{◌∙◌}
use Rattle.partial_items.proofs.Contents.{functions_are}
use Rattle.partial_items.proofs.functions.functions_of.Goals as goal

pub returns : goal.returns
returns c = λ p is strict numbered same. c.in_ok-list.ensures ∙ functions_are c.args.program p is strict c.args.numbers.now c.args.functions.now numbered same

use Rattle.std.proofs.Common.{◌∙◌}
use Rattle.partial_imports.proofs.Opened.{count_is}
use Rattle.partial_imports.proofs.opens.count_of.Goals as goal

pub returns : goal.returns
returns c = λ p same. c.in_ok-count.ensures ∙ count_is p c.args.kind c.args.opens.now same

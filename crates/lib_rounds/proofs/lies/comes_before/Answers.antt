use Rattle.std.proofs.Common.{◌∙◌, ap}
use Rattle.std.specs.Ordering.{is_lt}
use Rattle.lib_rounds.proofs.Names.{comes_is}
use Rattle.lib_rounds.proofs.lies.comes_before.Goals as goal

pub returns : goal.returns
returns c = c.is_lt.ensures ∙ ap is_lt c.cmp.ensures ∙ comes_is c.args.a.now c.args.b.now

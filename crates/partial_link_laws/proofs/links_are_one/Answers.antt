use Rattle.std.proofs.Common.{sym, ◌∙◌}
use Rattle.partial_link_laws.proofs.links_are_one.Goals as goal

pub returns : goal.returns
returns c = λ plan files cut r bytes part linked premises. c.partial_then_link.ensures plan files cut r bytes part linked premises ∙ sym linked

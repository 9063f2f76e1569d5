use Rattle.std.proofs.Common.{sym, ◌∙◌}
use Rattle.partial_tree.specs.Inits.{inits_from}
use Rattle.partial_tree.proofs.Initial.{inits_are}
use Rattle.partial_tree.proofs.inits.inits_of.Goals as goal

pub returns : goal.returns
returns c = λ d p is strict objects names standing.
    c.in_ok-inits.ensures
    ∙ ((λ i. inits_from c.args.standing.now (sym names i).names (sym objects i) 0 0 (sym objects i))
    ∙ inits_are d p is strict c.args.standing.now standing)

use Rattle.std.proofs.Common.{sym, subst, ◌∙◌}
use Rattle.partial_symbols.specs.Sights.{sight_of}
use Rattle.partial_symbols.specs.Known.{IsSight}
use Rattle.partial_symbols.proofs.Whole.{sight_is}
use Rattle.partial_symbols.proofs.standing.sight_of.Goals as goal

pub returns : goal.returns
returns c = λ p is.
    subst (λ v. IsSight p c.args.program.names.now.names v)
    (sym (c.in_ok-sight.ensures ∙ (λ i. sight_of c.args.program.tables.now (c.requires.names i).names (c.requires.objects i))))
    (sight_is c.args.program p is)

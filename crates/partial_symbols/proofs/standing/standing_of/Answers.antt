use Rattle.std.proofs.Common.{sym, subst, ◌∙◌, length}
use Rattle.partial_symbols.specs.Facts.{facts_of}
use Rattle.partial_symbols.specs.Standing.{all_stood}
use Rattle.partial_symbols.specs.Known.{AreStanding}
use Rattle.partial_symbols.proofs.Whole.{standing_is}
use Rattle.partial_symbols.proofs.standing.standing_of.Goals as goal

pub returns : goal.returns
returns c = λ p is seen.
    subst (λ s. AreStanding p c.args.program.names.now.names s)
    (sym (c.in_ok-standing.ensures ∙ (λ i. all_stood c.args.sight.now (length (c.requires.names i).names) (facts_of (c.requires.names i).names (c.requires.objects i)))))
    (standing_is c.args.program p is c.args.sight.now seen)

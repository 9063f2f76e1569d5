use Rattle.std.proofs.Common.{sym, ap, subst, ◌∙◌}
use Rattle.partial_parts.specs.Kept.{kept_parts, AreKept}
use Rattle.partial_parts.proofs.Parts.{kept_are}
use Rattle.partial_parts.proofs.kept.kept_of.Goals as goal

pub returns : goal.returns
returns c = λ p is. subst (λ k. AreKept p k) (sym (c.in_ok-kept.ensures ∙ ap kept_parts c.as_slice.ensures)) (kept_are c.args.program p is)

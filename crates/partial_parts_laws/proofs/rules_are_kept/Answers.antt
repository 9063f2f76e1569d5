use Rattle.partial_parts_laws.proofs.NoneBroken.{rules_are_kept}
use Rattle.partial_parts_laws.proofs.rules_are_kept.Goals as goal

pub returns : goal.returns
returns c = rules_are_kept

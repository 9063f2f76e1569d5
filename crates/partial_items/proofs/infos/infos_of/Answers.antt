use Rattle.std.proofs.Common.{◌∙◌}
use Rattle.partial_items.proofs.Contents.{infos_are}
use Rattle.partial_items.proofs.infos.infos_of.Goals as goal

pub returns : goal.returns
returns c = λ p is strict same. c.in_ok-rows.ensures ∙ infos_are c.args.program p is strict c.args.segments.now same

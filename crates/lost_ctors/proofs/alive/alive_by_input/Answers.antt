use Rattle.std.proofs.Common.{List, sym, subst}
use Rattle.lost_ctors.specs.declared.alive.Alive.{Alive}
use Rattle.lost_ctors.specs.Alive.{AreAlive}
use Rattle.lost_ctors.proofs.Summed.{all_counted}
use Rattle.lost_ctors.proofs.alive.alive_by_input.Goals as goal

pub returns : goal.returns
returns c =
    subst (λ (cells : List Alive). AreAlive c.args.tables.now c.args.live.now cells) (sym c.in_ok-alive.ensures)
    (all_counted c.args.tables.now c.inputs_of-inputs.result c.args.live.now c.inputs_of-inputs.ensures)

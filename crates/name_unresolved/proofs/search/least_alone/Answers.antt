use Rattle.std.proofs.Common.{◌∙◌, ap, arith}
use Rattle.name_unresolved.specs.Least.{lesser}
use Rattle.name_unresolved.proofs.Live.{numbers_go_on, numbers_end}
use Rattle.name_unresolved.proofs.search.least_alone.Goals as goal

pub loop-number-preserved : goal.loop-number-preserved
loop-number-preserved c =
    numbers_go_on c.args.search.now c.loop-number.number c.loop-number.least c.lesser-least.result _ (omega arith) (c.lesser-least.ensures ∙ ap (lesser c.loop-number.least) c.in_live.ensures)
    c.loop-number.invariant

pub returns : goal.returns
returns c = numbers_end c.args.search.now c.loop-number.number c.loop-number.least (omega arith) c.loop-number.invariant

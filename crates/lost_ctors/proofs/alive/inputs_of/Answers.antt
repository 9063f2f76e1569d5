use Rattle.std.proofs.Common.{◌<◌, arith, take, All, subst}
use Rattle.std.proofs.lemmas.List.{take_all}
use Rattle.std.proofs.lemmas.List.Elements.{All-more}
use Rattle.lost_ctors.specs.Alive.{input_of}
use Rattle.lost_ctors.proofs.Summed.{all_higher}
use Rattle.lost_ctors.proofs.alive.inputs_of.Goals as goal

pub loop-number-preserved : goal.loop-number-preserved
loop-number-preserved c =
    let t = c.args.tables.now in
    let i = c.loop-number.number-index in
    let before = all_higher t c.loop-number.inputs c.past-inputs.result (take i c.args.live.now) c.past-inputs.ensures.low c.loop-number.invariant in
    All-more (λ n. input_of t n < c.past-inputs.result) c.args.live.now i 0 (omega arith) before (subst (λ k. k < c.past-inputs.result) c.input_of.ensures c.past-inputs.ensures.past)

pub returns : goal.returns
returns c = subst (All (λ n. input_of c.args.tables.now n < c.loop-number.inputs)) (take_all c.loop-number.number-index c.args.live.now (omega arith)) c.loop-number.invariant

use Rattle.std.proofs.Common.{◌∙◌, ap, sym, arith, take, ◌+◌, ◌++◌, ◌∷◌, [], ℕ, List}
use Rattle.lib_rounds.proofs.Names.{index_is}
use Rattle.lib_rounds.proofs.Gathering.{looks_more, looks_same, take_next, taken}
use Rattle.lib_rounds.proofs.gather.look_asked.Goals as goal

pub loop-at-preserved : goal.loop-at-preserved
loop-at-preserved g c =
    let names = c.args.wanted.now in
    looks_same g.w c.args.sight.inputs.libraries.now c.args.sight.inputs.files.now c.args.sight.slots.now
    (take c.loop-at.at names ++ c.as_slice.result.now ∷ []) (take (c.loop-at.at + 1) names) c.args.adds.now c.look.new.adds
    (ap (λ (n : List ℕ). take c.loop-at.at c.args.wanted.now ++ n ∷ []) c.as_slice.ensures
    ∙ sym (take_next names c.loop-at.at c.index-wanted-at.result (index_is names c.loop-at.at c.index-wanted-at.result (omega
    (arith, c.loop-at-test.true)) c.index-wanted-at.is)))
    (looks_more g.w c.args.sight.inputs.libraries.now c.args.sight.inputs.files.now c.args.sight.slots.now (take c.loop-at.at names)
    (c.as_slice.result.now ∷ []) c.args.adds.now c.loop-at.adds c.look.new.adds c.loop-at.invariant c.in_ok-look.ensures)

pub returns : goal.returns
returns g c = looks_same g.w c.args.sight.inputs.libraries.now c.args.sight.inputs.files.now c.args.sight.slots.now
    (take c.loop-at.at c.args.wanted.now) c.args.wanted.now c.args.adds.now c.loop-at.adds (taken c.args.wanted.now c.loop-at.at (omega
    (arith, c.loop-at-test.false))) c.loop-at.invariant

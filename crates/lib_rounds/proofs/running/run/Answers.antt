use Rattle.std.proofs.Common.{◌∙◌, ◌+◌, ◌-◌, ap, sym, arith, ℕ, List, length}
use Rattle.std.proofs.lemmas.Result.{err_from_is_err_and}
use Rattle.lib_index.specs.Table.{shown}
use Rattle.lib_rounds.specs.Held.{Held}
use Rattle.lib_rounds.proofs.Round.{running_first, running_on, fails_running, ends_empty, ends_over, hold_length}
use Rattle.lib_rounds.proofs.running.run.Goals as goal

pub loop-init : goal.loop-init
loop-init g c = running_first g.w c.args.inputs.libraries.now c.args.inputs.files.now c.args.slots.now.items c.args.adds
    (length c.as_slice.result.now + 1) (length c.as_slice.result.now + 1 - 0) (shown c.args.definers.now)
    (omega arith) c.requires.1.0 c.requires.1.1.0 c.requires.1.1.1.0 c.requires.1.1.1.1

pub returns-then-len-eq0 : goal.returns-then-len-eq0
returns-then-len-eq0 g c = ends_empty g.w c.args.inputs.libraries.now c.args.inputs.files.now c.args.slots.now.items c.args.adds
    (length c.as_slice.result.now + 1) (length c.as_slice.result.now + 1 - c.loop.counter) c.loop.slots.items
    (shown c.loop.definers) c.loop.adds c.loop.invariant (ap (λ (n : ℕ). n + 1) (ap (λ (hs : List Held). length hs) c.as_slice.ensures.value
    ∙ hold_length g.w.all c.args.slots.now.items c.requires.1.0)) (sym c.len.ensures.len ∙ c.if-len-eq0.true)

pub returns-in_err-adds : goal.returns-in_err-adds
returns-in_err-adds g c =
    let p = err_from_is_err_and c.from_residual.result c.from_residual.ensures.1 in
    let f = fails_running g.w c.args.inputs.libraries.now c.args.inputs.files.now c.args.slots.now.items c.args.adds
    (length c.as_slice.result.now + 1) (length c.as_slice.result.now + 1 - c.loop.counter) c.loop.slots.items
    (shown c.loop.definers) c.loop.adds c.loop.invariant (omega (arith, c.loop-test.true)) (omega
    (arith, c.len.ensures.len, c.if-len-eq0.false)) (ap (λ (n : ℕ). n + 1) (ap (λ (hs : List Held). length hs) c.as_slice.ensures.value
    ∙ hold_length g.w.all c.args.slots.now.items c.requires.1.0)) c.in_err-adds.field-0.0 c.in_err-adds.ensures in
    rw (p.1, p.2) f

pub loop-preserved : goal.loop-preserved
loop-preserved g c =
    running_on g.w c.args.inputs.libraries.now c.args.inputs.files.now c.args.slots.now.items c.args.adds (length c.as_slice.result.now + 1)
    (length c.as_slice.result.now + 1 - c.loop.counter) c.loop.slots.items (shown c.loop.definers) c.loop.adds c.loop.invariant (omega
    (arith, c.loop-test.true)) (omega (arith, c.len.ensures.len, c.if-len-eq0.false)) c.round.new.slots.items
    (shown c.round.new.definers) c.in_ok-adds.adds (length c.as_slice.result.now + 1 - (c.loop.counter + 1)) (omega arith) c.in_ok-adds.ensures

pub returns : goal.returns
returns g c = ends_over g.w c.args.inputs.libraries.now c.args.inputs.files.now c.args.slots.now.items c.args.adds
    (length c.as_slice.result.now + 1) (length c.as_slice.result.now + 1 - c.loop.counter) c.loop.slots.items
    (shown c.loop.definers) c.loop.adds c.loop.invariant (ap (λ (n : ℕ). n + 1) (ap (λ (hs : List Held). length hs) c.as_slice.ensures.value
    ∙ hold_length g.w.all c.args.slots.now.items c.requires.1.0)) (omega (arith, c.loop-test.false))

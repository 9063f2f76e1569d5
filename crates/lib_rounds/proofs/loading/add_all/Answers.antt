use Rattle.std.proofs.Common.{refl}
use Rattle.std.proofs.lemmas.Result.{err_from_is_err_and}
use Rattle.lib_index.specs.Table.{shown}
use Rattle.lib_rounds.proofs.Adding.{ready, fails_first, goes_on}
use Rattle.lib_rounds.proofs.loading.add_all.Goals as goal

pub add-requires : goal.add-requires
add-requires g c =
    let r = ready g.w c.requires.0 c.args.inputs.libraries.now c.args.inputs.files.now c.args.slots.now.items c.requires.1.0 c.args.adds.now
    c.loop-input.slots.items (shown c.loop-input.definers) c.loop-input.adds c.loop-input.new c.loop-input.invariant
    c.in-Some.input c.in-Some.wanted c.pop_first.new.self.entries c.in-Some.ensures.removal in
    (r.0, (r.1, (r.2, r.3)))

pub returns-in_err-add : goal.returns-in_err-add
returns-in_err-add g c =
    let p = err_from_is_err_and c.from_residual.result c.from_residual.ensures.1 in
    let f = fails_first g.w c.requires.0 c.args.inputs.libraries.now c.args.inputs.files.now c.args.slots.now.items c.requires.1.0 c.args.adds.now
    c.loop-input.slots.items (shown c.loop-input.definers) c.loop-input.adds c.loop-input.new c.loop-input.invariant
    c.in-Some.input c.in-Some.wanted c.pop_first.new.self.entries c.in-Some.ensures.removal c.in_err-add.field-0.0 c.in_err-add.ensures in
    rw (p.1, p.2) f

pub loop-input-preserved-in_ok-push : goal.loop-input-preserved-in_ok-push
loop-input-preserved-in_ok-push g c =
    let a = c.in_ok-add.ensures in
    rw c.in_ok-push.ensures.ok
    (goes_on g.w c.requires.0 c.args.inputs.libraries.now c.args.inputs.files.now c.args.slots.now.items c.requires.1.0 c.args.adds.now
    c.loop-input.slots.items (shown c.loop-input.definers) c.loop-input.adds c.loop-input.new c.loop-input.invariant
    c.in-Some.input c.in-Some.wanted c.pop_first.new.self.entries c.in-Some.ensures.removal
    c.add.new.slots.items (shown c.add.new.definers) a.1.0 c.pop_first.new.self refl c.in-Some.ensures.ordered c.in-Some.ensures.all_above a.0
    a.1.1 a.1.2 a.1.3)

pub loop-input-preserved : goal.loop-input-preserved
loop-input-preserved g c =
    let a = c.in_ok-add.ensures in
    rw c.in_ok-push.ensures.ok
    (goes_on g.w c.requires.0 c.args.inputs.libraries.now c.args.inputs.files.now c.args.slots.now.items c.requires.1.0 c.args.adds.now
    c.loop-input.slots.items (shown c.loop-input.definers) c.loop-input.adds c.loop-input.new c.loop-input.invariant
    c.in-Some.input c.in-Some.wanted c.pop_first.new.self.entries c.in-Some.ensures.removal
    c.add.new.slots.items (shown c.add.new.definers) a.1.0 c.pop_first.new.self refl c.in-Some.ensures.ordered c.in-Some.ensures.all_above a.0
    a.1.1 a.1.2 a.1.3)

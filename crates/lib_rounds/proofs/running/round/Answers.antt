use Rattle.std.proofs.Common.{sym, subst, ℕ, List}
use Rattle.std.proofs.lemmas.Result.{err_from_is_err_and}
use Rattle.lib_index.specs.Table.{shown}
use Rattle.lib_rounds.specs.Held.{Held}
use Rattle.lib_rounds.specs.State.{Shows, Looked, names_at, Hold, Defines}
use Rattle.lib_rounds.proofs.Round.{fails_round, round_done, hold_after}
use Rattle.lib_rounds.proofs.running.round.Goals as goal

pub returns-in_err-new : goal.returns-in_err-new
returns-in_err-new g c =
    let p = err_from_is_err_and c.from_residual.result c.from_residual.ensures.1 in
    let f = fails_round g.w c.requires.0.numbered c.args.slots.now.items c.args.adds.now c.in_err-new.field-0.0 c.in_err-new.ensures in
    rw (p.1, p.2) f

pub next_adds-requires : goal.next_adds-requires
next_adds-requires g c =
    let done = c.in_ok-new.ensures in (
      c.requires.0,
      (
        subst (λ (hs : List Held). Defines g.w.mode hs (shown c.add_all.new.definers)) (sym c.as_slice.ensures.value) done.defines,
        subst (λ (hs : List Held). Hold g.w.all hs) (sym c.as_slice.ensures.value)
            (hold_after g.w c.requires.0.numbered c.args.inputs.libraries.now c.args.inputs.files.now c.args.slots.now.items c.requires.1.0
            c.args.adds.now c.add_all.new.slots.items (shown c.add_all.new.definers) c.in_ok-new.new done),
      ),
    )

pub returns : goal.returns
returns g c =
    round_done g.w c.requires.0.numbered c.args.inputs.libraries.now c.args.inputs.files.now c.args.slots.now.items c.requires.1.0 c.args.adds.now
    c.add_all.new.slots.items (shown c.add_all.new.definers) c.in_ok-new.new c.in_ok-new.ensures c.in_ok-next.next
    (subst (λ (hs : List Held). (inputs : List ℕ) → Shows g.w.all hs inputs → Looked g.w c.args.inputs.libraries.now c.args.inputs.files.now hs
    inputs (names_at hs c.in_ok-new.new) c.in_ok-next.next) c.as_slice.ensures.value
    (subst (λ (new : List ℕ). (inputs : List ℕ) → Shows g.w.all c.as_slice.result.now inputs
    → Looked g.w c.args.inputs.libraries.now c.args.inputs.files.now c.as_slice.result.now inputs
    (names_at c.as_slice.result.now new) c.in_ok-next.next) c.as_slice-2.ensures c.in_ok-next.ensures))

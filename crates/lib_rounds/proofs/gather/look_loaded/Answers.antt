use Rattle.std.proofs.Common.{◌∙◌, ap, sym, subst, arith, take, ◌+◌, ◌++◌, ℕ}
use Rattle.std.specs.Prelude.{option_copied}
use Rattle.std.specs.BTreeMap.{BTreeMap}
use Rattle.lib_rounds.specs.declared.adds.Wanted.{Wanted}
use Rattle.round_rules.specs.Rounds.{strong_names}
use Rattle.lib_rounds.specs.Held.{loaded_in}
use Rattle.lib_rounds.specs.State.{Looks}
use Rattle.lib_rounds.proofs.Names.{index_is}
use Rattle.lib_rounds.proofs.Gathering.{looks_more, looks_same, take_next, taken, got, got_more, got_none}
use Rattle.lib_rounds.proofs.gather.look_loaded.Goals.{in-Some+in_ok-look_object, in_default}
use Rattle.lib_rounds.proofs.gather.look_loaded.Goals as goal

pub loop-at-preserved : goal.loop-at-preserved
loop-at-preserved g c =
    let xs = c.args.sight.slots.now in
    let next = take_next xs c.loop-at.at c.index-sight-at.result (index_is xs c.loop-at.at c.index-sight-at.result (omega
    (arith, c.loop-at-test.true)) c.index-sight-at.is) in
    elim c.match-loaded.branch [
      | in-Some+in_ok-look_object w ↦
          subst (λ (adds : BTreeMap ℕ Wanted). Looks g.w c.args.sight.inputs.libraries.now c.args.sight.inputs.files.now c.args.sight.slots.now
          (got loaded_in strong_names (take (c.loop-at.at + 1) (c.args.sight.slots.now))) c.args.adds.now adds) (sym w.adds-is)
          (looks_same g.w c.args.sight.inputs.libraries.now c.args.sight.inputs.files.now c.args.sight.slots.now (got loaded_in strong_names
          (take c.loop-at.at xs) ++ strong_names w.in-Some.object.now) (got loaded_in strong_names (take
          (c.loop-at.at + 1) xs)) c.args.adds.now w.look_object.new.adds
          (sym (ap (got loaded_in strong_names) next ∙ got_more loaded_in strong_names (take c.loop-at.at xs) c.index-sight-at.result
          w.in-Some.object.now (ap loaded_in c.index-sight-at.is ∙ sym w.in-Some.ensures)))
          (looks_more g.w c.args.sight.inputs.libraries.now c.args.sight.inputs.files.now c.args.sight.slots.now (got loaded_in strong_names
          (take c.loop-at.at xs)) (strong_names w.in-Some.object.now) c.args.adds.now c.loop-at.adds w.look_object.new.adds c.loop-at.invariant
          w.in_ok-look_object.ensures))
      | in_default w ↦
          subst (λ (adds : BTreeMap ℕ Wanted). Looks g.w c.args.sight.inputs.libraries.now c.args.sight.inputs.files.now c.args.sight.slots.now
          (got loaded_in strong_names (take (c.loop-at.at + 1) (c.args.sight.slots.now))) c.args.adds.now adds) (sym w.adds-is)
          (looks_same g.w c.args.sight.inputs.libraries.now c.args.sight.inputs.files.now c.args.sight.slots.now (got loaded_in strong_names
          (take c.loop-at.at xs)) (got loaded_in strong_names (take (c.loop-at.at + 1) xs)) c.args.adds.now c.loop-at.adds
          (sym (ap (got loaded_in strong_names) next ∙ got_none loaded_in strong_names (take c.loop-at.at xs) c.index-sight-at.result
          (ap loaded_in c.index-sight-at.is ∙ sym c.loaded.ensures ∙ ap option_copied w.in_default.is)))
          c.loop-at.invariant)
    ]

pub returns : goal.returns
returns g c = looks_same g.w c.args.sight.inputs.libraries.now c.args.sight.inputs.files.now c.args.sight.slots.now (got loaded_in strong_names
    (take c.loop-at.at (c.args.sight.slots.now))) (got loaded_in strong_names (c.args.sight.slots.now)) c.args.adds.now c.loop-at.adds (ap
    (got loaded_in strong_names) (taken (c.args.sight.slots.now) c.loop-at.at (omega (arith, c.loop-at-test.false)))) c.loop-at.invariant

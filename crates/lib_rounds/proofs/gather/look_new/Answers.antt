use Rattle.std.proofs.Common.{◌∙◌, ap, sym, subst, arith, take, ◌+◌, ◌++◌, ℕ, get_or}
use Rattle.std.specs.Prelude.{option_copied}
use Rattle.std.specs.BTreeMap.{BTreeMap}
use Rattle.std.proofs.lemmas.Option.{slice_get-get_or}
use Rattle.lib_rounds.specs.declared.adds.Wanted.{Wanted}
use Rattle.round_rules.specs.Rounds.{strong_names}
use Rattle.lib_rounds.specs.Held.{object_held}
use Rattle.lib_rounds.specs.State.{Looks, slot_at}
use Rattle.lib_rounds.proofs.Gathering.{looks_more, looks_same, take_next, taken, got, got_more, got_none}
use Rattle.lib_rounds.proofs.gather.look_new.Goals.{in-Some+in_ok-look_object, in_default}
use Rattle.lib_rounds.proofs.gather.look_new.Goals as goal

pub loop-input-preserved : goal.loop-input-preserved
loop-input-preserved g c =
    let xs = c.args.new.now in
    let next = take_next xs c.loop-input.input-index (get_or xs c.loop-input.input-index 0) (slice_get-get_or xs c.loop-input.input-index 0 (omega
    (arith, c.loop-input-test.true))) in
    elim c.match-object_at.branch [
      | in-Some+in_ok-look_object w ↦
          subst (λ (adds : BTreeMap ℕ Wanted). Looks g.w c.args.sight.inputs.libraries.now c.args.sight.inputs.files.now c.args.sight.slots.now
          (got (λ (i : ℕ). object_held (slot_at c.args.sight.slots.now i)) strong_names (take (c.loop-input.input-index + 1)
          (c.args.new.now))) c.args.adds.now adds) (sym w.adds-is)
          (looks_same g.w c.args.sight.inputs.libraries.now c.args.sight.inputs.files.now c.args.sight.slots.now (got (λ (i : ℕ). object_held
          (slot_at c.args.sight.slots.now i)) strong_names (take c.loop-input.input-index xs) ++ strong_names w.in-Some.object.now) (got (λ
          (i : ℕ). object_held (slot_at c.args.sight.slots.now i)) strong_names (take (c.loop-input.input-index + 1) xs)) c.args.adds.now
          w.look_object.new.adds
          (sym (ap (got (λ (i : ℕ). object_held (slot_at c.args.sight.slots.now i)) strong_names) next ∙ got_more (λ (i : ℕ). object_held
          (slot_at c.args.sight.slots.now i)) strong_names (take c.loop-input.input-index xs)
          (get_or xs c.loop-input.input-index 0) w.in-Some.object.now (sym w.in-Some.ensures)))
          (looks_more g.w c.args.sight.inputs.libraries.now c.args.sight.inputs.files.now c.args.sight.slots.now (got (λ (i : ℕ). object_held
          (slot_at c.args.sight.slots.now i)) strong_names (take c.loop-input.input-index xs))
          (strong_names w.in-Some.object.now) c.args.adds.now c.loop-input.adds w.look_object.new.adds c.loop-input.invariant
          w.in_ok-look_object.ensures))
      | in_default w ↦
          subst (λ (adds : BTreeMap ℕ Wanted). Looks g.w c.args.sight.inputs.libraries.now c.args.sight.inputs.files.now c.args.sight.slots.now
          (got (λ (i : ℕ). object_held (slot_at c.args.sight.slots.now i)) strong_names (take (c.loop-input.input-index + 1)
          (c.args.new.now))) c.args.adds.now adds) (sym w.adds-is)
          (looks_same g.w c.args.sight.inputs.libraries.now c.args.sight.inputs.files.now c.args.sight.slots.now (got (λ (i : ℕ). object_held
          (slot_at c.args.sight.slots.now i)) strong_names (take c.loop-input.input-index xs)) (got (λ (i : ℕ). object_held
          (slot_at c.args.sight.slots.now i)) strong_names (take (c.loop-input.input-index + 1) xs)) c.args.adds.now c.loop-input.adds
          (sym (ap (got (λ (i : ℕ). object_held (slot_at c.args.sight.slots.now i)) strong_names) next ∙ got_none (λ (i : ℕ). object_held
          (slot_at c.args.sight.slots.now i)) strong_names (take c.loop-input.input-index xs) (get_or xs c.loop-input.input-index 0)
          (sym c.object_at.ensures ∙ ap option_copied w.in_default.is)))
          c.loop-input.invariant)
    ]

pub returns : goal.returns
returns g c = looks_same g.w c.args.sight.inputs.libraries.now c.args.sight.inputs.files.now c.args.sight.slots.now (got (λ (i : ℕ). object_held
    (slot_at c.args.sight.slots.now i)) strong_names (take c.loop-input.input-index (c.args.new.now))) (got (λ (i : ℕ). object_held
    (slot_at c.args.sight.slots.now i)) strong_names (c.args.new.now)) c.args.adds.now c.loop-input.adds (ap (got (λ (i : ℕ). object_held
    (slot_at c.args.sight.slots.now i)) strong_names) (taken (c.args.new.now) c.loop-input.input-index (omega
    (arith, c.loop-input-test.false)))) c.loop-input.invariant

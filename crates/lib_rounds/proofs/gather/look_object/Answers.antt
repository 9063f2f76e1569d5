use Rattle.std.proofs.Common.{◌∙◌, ap, sym, subst, arith, take, ◌+◌, ◌++◌, ◌∷◌, []}
use Rattle.std.specs.Prelude.{option_copied}
use Rattle.std.specs.BTreeMap.{BTreeMap}
use Rattle.std.proofs.Common.{ℕ, List}
use Rattle.object_file.specs.linking_section.declared.symbol.Symbol.{Symbol}
use Rattle.object_file.specs.linking_section.Flags.{is_strong_reference}
use Rattle.lib_rounds.specs.declared.adds.Wanted.{Wanted}
use Rattle.lib_rounds.specs.State.{Looks}
use Rattle.lib_rounds.proofs.Gathering.{looks_more, looks_same, names_taken, names_untaken, strong_part, taken}
use Rattle.lib_rounds.proofs.gather.look_object.Goals.{in-Some+in_ok-look, in_default}
use Rattle.lib_rounds.proofs.gather.look_object.Goals as goal

pub loop-at-preserved : goal.loop-at-preserved
loop-at-preserved g c =
    let ss = c.args.object.now.symbols in
    elim c.match-wanted_at.branch [
      | in-Some+in_ok-look w ↦
          subst (λ (adds : BTreeMap ℕ Wanted). Looks g.w c.args.sight.inputs.libraries.now c.args.sight.inputs.files.now c.args.sight.slots.now
          (strong_part (take (c.loop-at.at + 1) c.args.object.now.symbols)) c.args.adds.now adds) (sym w.adds-is)
          (looks_same g.w c.args.sight.inputs.libraries.now c.args.sight.inputs.files.now c.args.sight.slots.now (strong_part
          (take c.loop-at.at ss) ++ w.in-Some.name.now ∷ []) (strong_part (take (c.loop-at.at + 1) ss)) c.args.adds.now w.look.new.adds
          (sym (names_taken is_strong_reference ss c.loop-at.at w.in-Some.name.now (sym w.in-Some.ensures)))
          (looks_more g.w c.args.sight.inputs.libraries.now c.args.sight.inputs.files.now c.args.sight.slots.now (strong_part
          (take c.loop-at.at ss)) (w.in-Some.name.now ∷ []) c.args.adds.now c.loop-at.adds w.look.new.adds c.loop-at.invariant
          w.in_ok-look.ensures))
      | in_default w ↦
          subst (λ (adds : BTreeMap ℕ Wanted). Looks g.w c.args.sight.inputs.libraries.now c.args.sight.inputs.files.now c.args.sight.slots.now
          (strong_part (take (c.loop-at.at + 1) c.args.object.now.symbols)) c.args.adds.now adds) (sym w.adds-is)
          (looks_same g.w c.args.sight.inputs.libraries.now c.args.sight.inputs.files.now c.args.sight.slots.now (strong_part
          (take c.loop-at.at ss)) (strong_part (take (c.loop-at.at + 1) ss)) c.args.adds.now c.loop-at.adds
          (sym (names_untaken is_strong_reference ss c.loop-at.at (sym c.wanted_at.ensures ∙ ap option_copied w.in_default.is) (omega
          (arith, c.loop-at-test.true, c.len-at-end.ensures))))
          c.loop-at.invariant)
    ]

pub returns : goal.returns
returns g c =
    looks_same g.w c.args.sight.inputs.libraries.now c.args.sight.inputs.files.now c.args.sight.slots.now (strong_part
    (take c.loop-at.at c.args.object.now.symbols)) (strong_part c.args.object.now.symbols) c.args.adds.now c.loop-at.adds
    (ap (λ (ss : List Symbol). strong_part ss) (taken c.args.object.now.symbols c.loop-at.at (omega
    (arith, c.loop-at-test.false, c.len-at-end.ensures)))) c.loop-at.invariant

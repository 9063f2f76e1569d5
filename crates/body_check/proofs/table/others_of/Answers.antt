use Rattle.std.proofs.Common.{◌≡◌, ◌+◌, get_or, sym, subst, rules}
use Rattle.std.proofs.lemmas.List.{drop_more}
use Rattle.wasm_types.specs.declared.value.ValType.TheVariants.{I32}
use Rattle.wasm_instr.specs.declared.body.LocalRun.{LocalRun}
use Rattle.body_check.specs.declared.table.Stretch.{Stretch}
use Rattle.body_check.specs.Table.{Tells}
use Rattle.body_check.proofs.Stretches.{tells_more, told_here, left_on}
use Rattle.body_check.proofs.table.others_of.Goals as goal

pub loop-at-preserved : goal.loop-at-preserved
loop-at-preserved c =
    let params = c.args.params.now in
    let runs = c.args.runs.now in
    let l = c.loop-at in
    let to = c.in-Some.to in
    let none : LocalRun = record { count = 0; kind = I32 } in
    let run = get_or runs l.at none in
    let is : to ≡ l.from + run.count = search rules in
    let more = drop_more runs l.at none c.loop-at-test.true in
    let s : Stretch = record { from = l.from; to = to; kind = run.kind } in
    let tells = tells_more params runs l.others s l.invariant.0 (told_here params runs run l.from l.at to is more l.invariant.1) in
    (subst (Tells params runs) (sym c.in_ok-push.ensures.ok) tells, left_on params runs run l.from l.at to is more l.invariant.1)

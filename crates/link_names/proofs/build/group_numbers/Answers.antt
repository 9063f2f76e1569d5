use Rattle.std.proofs.Common.{sym, subst, ◌+◌, take, arith, Some}
use Rattle.link_names.specs.Numbered.{Short}
use Rattle.link_names.specs.Interning.{Takes, IsNumber, TellsAll, one, group_name, group_number}
use Rattle.link_names.proofs.Steps.{gains_more, tells_more, IsAt, tells_all, gains_all, short_numbers, taken, refused}
use Rattle.link_names.proofs.build.group_numbers.Goals as goal

pub returns-in_err-number : goal.returns-in_err-number
returns-in_err-number c =
    let told = subst (λ n. Takes (IsNumber n) c.number.result c.loop-group.table c.number.new.table (one n)) c.as_slice.ensures c.number.ensures in
    refused (IsNumber c.group-item.result.name) (λ names numbers. TellsAll group_number (λ n. Some n) c.args.groups.now names numbers.items × Short numbers.items) group_name c.args.groups.now c.loop-group.group-index c.group-item.result c.args.table.now c.loop-group.table c.number.new.table c.number.new.table
    c.number.result c.from_residual.result c.in_err-number.field-0.0 (c.loop-group-test.true, sym c.group-item.is) c.loop-group.invariant.0 c.in_err-number.was c.from_residual.ensures told

pub loop-group-preserved : goal.loop-group-preserved
loop-group-preserved c =
    let told = subst (λ n. Takes (IsNumber n) c.number.result c.loop-group.table c.number.new.table (one n)) c.as_slice.ensures c.number.ensures in
    let step = taken (IsNumber c.group-item.result.name) c.number.result c.loop-group.table c.number.new.table (one c.group-item.result.name) c.in_ok-number.field-0 c.in_ok-number.was told in
    let at : IsAt c.args.groups.now c.loop-group.group-index c.group-item.result = (c.loop-group-test.true, sym c.group-item.is) in (
      gains_more group_name c.args.groups.now c.loop-group.group-index c.group-item.result c.args.table.now c.loop-group.table c.number.new.table at c.loop-group.invariant.0 step.0,
      subst (TellsAll group_number (λ n. Some n) (take (c.loop-group.group-index + 1) c.args.groups.now) c.number.new.table.names) (sym c.in_ok-push.ensures.items)
          (tells_more group_number (λ n. Some n) c.args.groups.now group_name c.loop-group.group-index c.group-item.result c.in_ok-number.field-0 c.loop-group.table c.number.new.table c.loop-group.numbers.items at c.loop-group.invariant.1 step.0 step.1.1),
    )

pub returns : goal.returns
returns c =
    let told = tells_all group_number (λ n. Some n) c.args.groups.now c.loop-group.group-index c.loop-group.table.names c.loop-group.numbers.items (omega (arith, c.loop-group-test.false)) c.loop-group.invariant.1 in (
      gains_all group_name c.args.groups.now c.loop-group.group-index c.args.table.now c.loop-group.table (omega (arith, c.loop-group-test.false)) c.loop-group.invariant.0,
      (told, short_numbers group_number (λ n. Some n) c.args.groups.now c.loop-group.table.names c.loop-group.numbers.items told (omega (arith, c.if-groups.false))),
    )

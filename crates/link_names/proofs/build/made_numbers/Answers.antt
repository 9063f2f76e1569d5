use Rattle.std.proofs.Common.{[], sym, subst, ◌+◌, take, Some, arith}
use Rattle.made_symbols.specs.declared.roles.Role.TheVariants.{CallCtors}
use Rattle.made_symbols.specs.Made.{made, made_at, made_function}
use Rattle.link_names.specs.Interning.{Takes, IsNumber, TellsAll, one, made_name, made_number}
use Rattle.link_names.proofs.Steps.{gains_more, tells_more, at_default, taken, refused}
use Rattle.link_names.proofs.build.made_numbers.Goals as goal

pub returns-in_err-number : goal.returns-in_err-number
returns-in_err-number c =
    let told = subst (λ n. Takes (IsNumber n) c.number.result c.loop-k.table c.number.new.table (one n)) c.name.ensures c.number.ensures in
    let at = at_default (made c.args.mode) c.loop-k.k (made_function CallCtors []) (omega (arith, c.loop-k-test.true, c.count-k-end.ensures)) in
    refused (IsNumber (made_at c.args.mode c.loop-k.k).name) (λ names numbers. TellsAll made_number (λ n. Some n) (made c.args.mode) names numbers.items) made_name (made c.args.mode) c.loop-k.k (made_at c.args.mode c.loop-k.k) c.args.table.now c.loop-k.table c.number.new.table c.number.new.table
    c.number.result c.from_residual.result c.in_err-number.field-0.0 at c.loop-k.invariant.0 c.in_err-number.was c.from_residual.ensures told

pub loop-k-preserved : goal.loop-k-preserved
loop-k-preserved c =
    let told = subst (λ n. Takes (IsNumber n) c.number.result c.loop-k.table c.number.new.table (one n)) c.name.ensures c.number.ensures in
    let step = taken (IsNumber (made_at c.args.mode c.loop-k.k).name) c.number.result c.loop-k.table c.number.new.table (one (made_at c.args.mode c.loop-k.k).name) c.in_ok-number.field-0 c.in_ok-number.was told in
    let at = at_default (made c.args.mode) c.loop-k.k (made_function CallCtors []) (omega (arith, c.loop-k-test.true, c.count-k-end.ensures)) in (
      gains_more made_name (made c.args.mode) c.loop-k.k (made_at c.args.mode c.loop-k.k) c.args.table.now c.loop-k.table c.number.new.table at c.loop-k.invariant.0 step.0,
      subst (TellsAll made_number (λ n. Some n) (take (c.loop-k.k + 1) (made c.args.mode)) c.number.new.table.names) (sym c.in_ok-push.ensures.items)
          (tells_more made_number (λ n. Some n) (made c.args.mode) made_name c.loop-k.k (made_at c.args.mode c.loop-k.k) c.in_ok-number.field-0 c.loop-k.table c.number.new.table c.loop-k.numbers.items at c.loop-k.invariant.1 step.0 step.1.1),
    )

use Rattle.std.proofs.Common.{ℕ, List, take, subst}
use Rattle.wl_outside.specs.Sink.{Rose, Added}
use Rattle.driver_lines.specs.Lines.{warning_line}
use Rattle.driver_command.proofs.Sayings.{stopped}
use Rattle.driver_command.proofs.saying.say_warnings.Goals as goal

pub returns-in_err-say_warning : goal.returns-in_err-say_warning
returns-in_err-say_warning g c =
    let mid = g.E.Sink.told c.loop-warning.say in
    let new = g.E.Sink.told c.say_warning.new.say in
    let torn = subst (λ (w : List ℕ). Rose mid.faults new.faults × ((n : ℕ) × Added (take n (warning_line c.args.program.now w)) mid new))
    c.as_str.ensures c.in_err-say_warning.ensures in
    stopped (warning_line c.args.program.now) c.args.warnings.now c.loop-warning.warning-index c.warning-item.result _ _ _ c.from_residual.result
    c.from_residual.ensures.0 c.loop-warning-test.true c.warning-item.is c.loop-warning.invariant torn

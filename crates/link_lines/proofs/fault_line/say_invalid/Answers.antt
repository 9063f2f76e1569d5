use Rattle.std.proofs.Common.{subst, sym}
use Rattle.wl_base.specs.declared.fault.InvalidAt.{InvalidAt}
use Rattle.wl_outside.specs.Sink.{Wrote}
use Rattle.link_lines.specs.Faults.{invalid_line}
use Rattle.link_lines.proofs.fault_line.say_invalid.Goals as goal

pub returns-in-Body : goal.returns-in-Body
returns-in-Body g c =
    subst (λ (at : InvalidAt). Wrote c.say_number.result (invalid_line at) (g.E.Sink.told c.args.say.now) (g.E.Sink.told c.say_number.new.say))
    (sym c.in-Body.is) c.say_number.ensures

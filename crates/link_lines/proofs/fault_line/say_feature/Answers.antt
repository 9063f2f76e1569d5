use Rattle.std.proofs.Common.{subst, sym}
use Rattle.wl_base.specs.declared.fault.FeatureRule.{FeatureRule}
use Rattle.wl_outside.specs.Sink.{Wrote}
use Rattle.link_lines.specs.Faults.{feature_line}
use Rattle.link_lines.proofs.fault_line.say_feature.Goals as goal

pub returns-in-Disallowed : goal.returns-in-Disallowed
returns-in-Disallowed g c =
    subst (λ (rule : FeatureRule). Wrote c.say_against.result (feature_line c.args.input c.args.name.now c.args.by rule) (g.E.Sink.told c.args.say.now) (g.E.Sink.told c.say_against.new.say))
    (sym c.in-Disallowed.is) c.say_against.ensures

pub returns-in-Required : goal.returns-in-Required
returns-in-Required g c =
    subst (λ (rule : FeatureRule). Wrote c.say_against-in-Required.result (feature_line c.args.input c.args.name.now c.args.by rule) (g.E.Sink.told c.args.say.now) (g.E.Sink.told c.say_against-in-Required.new.say))
    (sym c.in-Required.is) c.say_against-in-Required.ensures

pub returns-in-NotAllowed : goal.returns-in-NotAllowed
returns-in-NotAllowed g c =
    subst (λ (rule : FeatureRule). Wrote c.say_input.result (feature_line c.args.input c.args.name.now c.args.by rule) (g.E.Sink.told c.args.say.now) (g.E.Sink.told c.say_input.new.say))
    (sym c.in-NotAllowed.is) c.say_input.ensures

use Rattle.std.proofs.Common.{sym, ◌∙◌}
use Rattle.debug_out.specs.Inputs.{inputs_of}
use Rattle.object_features.proofs.Steps.{all_plain}
use Rattle.object_features.proofs.check.fault_of.Goals as goal

pub returns-then-not-only : goal.returns-then-not-only
returns-then-not-only c =
    all_plain c.args.words.now (inputs_of c.args.files.now c.args.objects.now c.args.spans.now) c.args.names.now c.args.plain c.requires (sym c.is_told-only.ensures ∙ c.if-not-only.true) c.if-plain.true

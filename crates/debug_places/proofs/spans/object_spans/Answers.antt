use Rattle.std.proofs.Common.{ap, ◌∙◌}
use Rattle.debug_out.specs.Inputs.{inputs_of}
use Rattle.debug_places.proofs.Homes.{inputs_told}
use Rattle.debug_places.proofs.spans.object_spans.Goals as goal

pub returns : goal.returns
returns g c =
    ap (inputs_of g.origin.files c.args.objects.now) c.in_ok-spans.ensures
    ∙ inputs_told g.origin.files g.origin.all c.args.objects.now c.args.homes.now c.requires

use Rattle.std.proofs.Common.{sym, subst, ◌∙◌}
use Rattle.std.specs.List.Sorted.{IsStrictlyIncreasing}
use Rattle.name_unresolved.proofs.Live.{inputs_increase}
use Rattle.name_unresolved.proofs.search.first_unresolved.Goals as goal

pub least_live-requires-after_bounds : goal.least_live-requires-after_bounds
least_live-requires-after_bounds g c κs within =
    let same = c.as_slice.ensures ∙ c.in_ok-inputs.ensures in
    record {
      inputs = same;
      rise = subst IsStrictlyIncreasing (sym same) (inputs_increase c.args.objects.now c.requires.inputs);
      meant = c.requires.meant;
      live = c.requires.live;
    }

use Rattle.std.proofs.Common.{◌∙◌, ap, sym}
use Rattle.std.specs.Prelude.{option_copied}
use Rattle.link_marks.proofs.Fixing.{found_meant}
use Rattle.link_marks.proofs.fixed.in_object.Goals as goal

pub in_function-requires : goal.in_function-requires
in_function-requires c =
    found_meant c.args.resolution.now.rows c.args.objects.now c.args.input c.in-Some.object.now c.requires.meant (sym c.object_of.ensures ∙ ap option_copied c.in-Some.is)

use Rattle.std.proofs.Common.{length, ◌∙◌, ap, sym}
use Rattle.wl_lists.proofs.Cut.{cut_length}
use Rattle.wl_lists.proofs.lists.Lists.len.Goals as goal

pub returns : goal.returns
returns g c = c.len.ensures ∙ sym (cut_length 0 c.self.inside.ends c.self.inside.items) ∙ ap length c.self.view_is

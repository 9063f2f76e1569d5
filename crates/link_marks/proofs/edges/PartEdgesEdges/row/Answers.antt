use Rattle.std.proofs.Common.{[], filter_map, refl, sym, ap, ◌∙◌}
use Rattle.link_marks.specs.Seen.{named_number}
use Rattle.link_marks.proofs.Mapped.{map_at}
use Rattle.link_marks.proofs.edges.PartEdgesEdges.row.Goals as goal

pub returns : goal.returns
returns c =
    let lead = named_number c.args.self.now.led.now in
    ap (filter_map lead) c.row.ensures ∙ sym (map_at (filter_map lead) c.args.self.now.rows.now c.args.chunk [] [] refl)

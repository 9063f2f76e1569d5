use Rattle.std.proofs.Common.{filter_map, sym, ◌∙◌}
use Rattle.link_marks.specs.Seen.{named_number}
use Rattle.link_marks.proofs.Mapped.{map_count}
use Rattle.link_marks.proofs.edges.PartEdgesEdges.count.Goals as goal

pub returns : goal.returns
returns c = c.len.ensures ∙ sym (map_count (filter_map (named_number c.args.self.now.led.now)) c.args.self.now.rows.now)

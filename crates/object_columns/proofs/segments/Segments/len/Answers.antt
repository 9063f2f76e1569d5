use Rattle.std.proofs.Common.{length, ◌∙◌, sym, ap}
use Rattle.object_columns.specs.Columns.{segment_of}
use Rattle.object_columns.proofs.Joined.{three_length}
use Rattle.object_columns.proofs.segments.Segments.len.Goals as goal

pub returns : goal.returns
returns c =
    let o = c.self.inside in
    c.len.ensures ∙ sym (three_length segment_of o.rows o.names o.windows c.self.invariant.0 c.self.invariant.1) ∙ ap length c.self.view_is

use Rattle.std.proofs.Common.{ap, sym, subst, ◌∙◌}
use Rattle.std.specs.Option.{option_map}
use Rattle.link_program.specs.object_columns.Seen.{segment_seen}
use Rattle.program_tables.specs.Views.{view_seen}
use Rattle.program_tables.specs.Rows.{segment_row, keeps_row}
use Rattle.program_tables.specs.Gains.{Gains}
use Rattle.program_tables.proofs.Growing.{gains_more, rows_more}
use Rattle.program_tables.proofs.pieces.Piece.add_segments.Goals as goal

pub loop-index-preserved : goal.loop-index-preserved
loop-index-preserved c =
    let v = view_seen c.args.view in
    let at = sym c.get.ensures ∙ ap (option_map segment_seen) c.in-Some.is in
    subst (λ rows. Gains rows c.args.self.now c.add_segment.new.self) (sym (rows_more (keeps_row v) (segment_row v) c.args.view.from.now.segments c.loop-index.index (segment_seen c.in-Some.segment) at))
    (gains_more _ _ c.args.self.now c.loop-index.self c.add_segment.new.self c.loop-index.invariant c.in_ok-add_segment.ensures)

use Rattle.std.proofs.Common.{ap, sym, subst, ◌∙◌}
use Rattle.std.specs.Option.{option_copied}
use Rattle.program_tables.specs.Views.{view_seen}
use Rattle.program_tables.specs.Rows.{global_row, keeps_row}
use Rattle.program_tables.specs.Gains.{Gains}
use Rattle.program_tables.proofs.Growing.{gains_more, rows_more}
use Rattle.program_tables.proofs.pieces.Piece.add_globals.Goals as goal

pub loop-index-preserved : goal.loop-index-preserved
loop-index-preserved c =
    let v = view_seen c.args.view in
    let at = sym c.get.ensures ∙ ap (option_copied) c.in-Some.is in
    subst (λ rows. Gains rows c.args.self.now c.add_global.new.self) (sym (rows_more (keeps_row v) (global_row v) c.args.view.from.now.globals c.loop-index.index c.in-Some.global.now at))
    (gains_more _ _ c.args.self.now c.loop-index.self c.add_global.new.self c.loop-index.invariant c.in_ok-add_global.ensures)

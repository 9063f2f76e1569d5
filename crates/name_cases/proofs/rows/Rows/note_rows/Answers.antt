use Rattle.std.proofs.Common.{arith}
use Rattle.name_cases.specs.Rows.{names_shown, rows_shown}
use Rattle.name_cases.proofs.Column.{adds_rows_more, adds_rows_all}
use Rattle.name_cases.proofs.rows.Rows.note_rows.Goals as goal

pub loop-row-preserved : goal.loop-row-preserved
loop-row-preserved c =
    let so_far = c.loop-row.invariant in (
      omega arith,
      adds_rows_more c.args.question (names_shown c.args.self.now) (rows_shown c.args.self.now) c.args.firsts.now c.loop-row.firsts c.note_row.new.firsts c.loop-row.row (omega arith) so_far.1 c.note_row.ensures,
    )

pub returns : goal.returns
returns c = adds_rows_all c.args.question (names_shown c.args.self.now) (rows_shown c.args.self.now) c.args.firsts.now c.loop-row.firsts c.loop-row.row (omega arith) c.loop-row.invariant.1

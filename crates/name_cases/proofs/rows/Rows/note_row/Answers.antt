use Rattle.std.proofs.Common.{◌∙◌, ap, length, arith}
use Rattle.name_cases.specs.Beside.{number_at}
use Rattle.name_cases.specs.Rows.{names_shown, rows_shown}
use Rattle.name_cases.proofs.Column.{adds_row_more, adds_row_all, length-noted}
use Rattle.name_cases.proofs.rows.Rows.note_row.Goals as goal

pub loop-place-preserved : goal.loop-place-preserved
loop-place-preserved c =
    let names = names_shown c.args.self.now in
    let rows = rows_shown c.args.self.now in
    let q = c.args.question in
    let so_far = c.loop-place.invariant in (
      ap length c.note.ensures ∙ length-noted q names rows c.loop-place.firsts (record { row = c.args.row; place = c.loop-place.place }) (number_at q names rows (record { row = c.args.row; place = c.loop-place.place })) ∙ so_far.0,
      adds_row_more q names rows c.requires.fits.numbers.differ c.args.firsts.now c.loop-place.firsts c.note.new.firsts c.args.row c.loop-place.place (omega arith) so_far.1 c.note.ensures,
    )

pub returns : goal.returns
returns c =
    adds_row_all c.args.question (names_shown c.args.self.now) (rows_shown c.args.self.now) c.args.firsts.now c.loop-place.firsts _ c.loop-place.place (omega arith) c.loop-place.invariant.1

use Rattle.std.proofs.lemmas.Result.{err_from_is_err_and}
use Rattle.link_numbers.specs.Numbered.{Numbered}
use Rattle.link_numbers.proofs.SharedComposed.{marked, marked_tell}
use Rattle.link_numbers.proofs.shared.shared_numbers.Goals as goal

pub returns-in_err-marks-clause-table : goal.returns-in_err-marks-clause-table
returns-in_err-marks-clause-table g c =
    let p = err_from_is_err_and c.from_residual.result c.from_residual.ensures.1 in
    rw (p.1, p.2) tt

pub returns-clause-numbers : goal.returns-clause-numbers
returns-clause-numbers g c =
    marked c.args.program c.args.entries.objects.now c.args.exports.now c.args.live.now c.in_ok-marks.marks c.in_ok-marks.ensures c.numbers_marked.result c.numbers_marked.ensures.numbers

pub returns-clause-table : goal.returns-clause-table
returns-clause-table g c =
    marked_tell c.args.program c.args.entries.objects.now c.args.exports.now c.args.live.now c.in_ok-marks.marks c.in_ok-marks.ensures {A = Numbered} c.numbers_marked.result c.numbers_marked.ensures.table

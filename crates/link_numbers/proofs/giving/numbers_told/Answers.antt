use Rattle.std.proofs.Common.{length}
use Rattle.std.proofs.lemmas.Result.{err_from_is_err_and}
use Rattle.link_numbers.specs.Numbered.{Numbered}
use Rattle.link_numbers.proofs.Composed.{marked, marked_tell}
use Rattle.link_numbers.proofs.giving.numbers_told.Goals as goal

pub returns-in_err-marks-clause-table : goal.returns-in_err-marks-clause-table
returns-in_err-marks-clause-table g c =
    let p = err_from_is_err_and c.from_residual.result c.from_residual.ensures.1 in
    rw (p.1, p.2) tt

pub returns-clause-numbers : goal.returns-clause-numbers
returns-clause-numbers g c =
    let noted = rw (c.imports-imports.ensures, c.count-names.ensures) at c.in_ok-marks.ensures in
    marked c.args.program.resolution.now.imports (length c.args.program.names.now.names) c.args.program.tables.now c.args.entries.objects.now c.args.program.names.now.symbols
    c.args.exports.now c.args.live.now c.in_ok-marks.marks noted
    c.numbers_marked.result c.numbers_marked.ensures.numbers

pub returns-clause-table : goal.returns-clause-table
returns-clause-table g c =
    let noted = rw (c.imports-imports.ensures, c.count-names.ensures) at c.in_ok-marks.ensures in
    marked_tell c.args.program.resolution.now.imports (length c.args.program.names.now.names) c.args.program.tables.now c.args.entries.objects.now c.args.program.names.now.symbols
    c.args.exports.now c.args.live.now c.in_ok-marks.marks noted
    {A = Numbered} c.numbers_marked.result c.numbers_marked.ensures.table

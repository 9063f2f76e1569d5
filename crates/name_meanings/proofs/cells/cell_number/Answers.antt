use Rattle.std.proofs.Common.{sym, ap, ◌∙◌, get_or, None}
use Rattle.name_meanings.specs.Kept.{import_of}
use Rattle.name_meanings.proofs.cells.cell_number.Goals as goal
use Rattle.name_meanings.proofs.Finding.{cell_held, cell_added}

pub returns-in-Some : goal.returns-in-Some
returns-in-Some c =
    cell_held c.args.function c.args.names.now.names c.args.imports.now c.args.numbers.now.items c.args.name c.in-Some.number c.requires.cells
    (sym (c.in-Some.ensures ∙ ap (λ xs. get_or xs c.args.name None) c.as_slice.ensures.value))

pub returns : goal.returns
returns c =
    cell_added c.args.function c.args.names.now.names c.args.imports.now c.add.new.self c.args.numbers.now.items c.put.new.numbers.items c.args.name c.in_ok-number.number
    c.name.result.now (import_of c.in_ok-cell.cell) c.requires.cells c.name.ensures c.in_ok-cell.ensures c.in_ok-number.ensures.imports c.in_ok-number.ensures.number c.put.ensures

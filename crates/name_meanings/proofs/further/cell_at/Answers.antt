use Rattle.std.proofs.Common.{sym, subst, ◌<◌}
use Rattle.name_entries.specs.View.{entry_at}
use Rattle.name_meanings.proofs.further.cell_at.Goals as goal
use Rattle.name_meanings.proofs.Noted.{shown_below}
use Rattle.name_meanings.proofs.Besides.{finds_unnamed, finds_other, finds_defined, finds_foreign}

pub returns-in_default-number-clause-cell : goal.returns-in_default-number-clause-cell
returns-in_default-number-clause-cell c =
    finds_unnamed c.args.known c.args.found.now c.args.object c.args.place c.in-Some.entry c.requires.known c.in-Some.ensures c.in_default-number.is

pub returns-in-Some-of-clause-cell : goal.returns-in-Some-of-clause-cell
returns-in-Some-of-clause-cell c =
    finds_defined c.args.known c.args.found.now c.args.object c.args.place c.in-Some-number.name c.in-Some-of.field-0 c.in-Some.entry c.requires.known c.in-Some.ensures c.in-Some-number.is (sym c.in-Some-of.ensures)

pub cell-requires-clause-name : goal.cell-requires-clause-name
cell-requires-clause-name c =
    shown_below c.args.known.entries.names.now.names c.in-Some.entry (entry_at c.args.known.entries.objects.now c.args.object c.args.place) c.in-Some-number.name c.in-Some.ensures c.in-Some-number.is

pub returns-then-is_function-clause-cell : goal.returns-then-is_function-clause-cell
returns-then-is_function-clause-cell c =
    finds_foreign c.args.known c.args.found.now c.cell.new.self c.args.object c.args.place c.in-Some-number.name c.in_ok-number.number c.in-Some.entry c.is_function.result c.requires.known
    c.in-Some.ensures c.in-Some-number.is (sym c.in_default-of.ensures) c.is_function.ensures c.if-is_function.true c.in_ok-number.ensures

pub returns-then-is_function-clause-found : goal.returns-then-is_function-clause-found
returns-then-is_function-clause-found c = c.in_ok-number.ensures.found

pub returns-clause-cell : goal.returns-clause-cell
returns-clause-cell c =
    finds_other c.args.known c.args.found.now c.args.object c.args.place c.in-Some.entry c.is_function.result c.in-Some.ensures c.is_function.ensures c.if-is_function.false

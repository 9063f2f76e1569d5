use Rattle.std.proofs.Common.{refl, sym, subst, get_or, []}
use Rattle.name_meanings.specs.Kept.{cell_key}
use Rattle.name_meanings.specs.Known.{IsNumbered}
use Rattle.name_meanings.specs.declared.naming.Found.{Found}
use Rattle.name_meanings.proofs.naming.Found.cell.Goals as goal
use Rattle.name_meanings.proofs.Finding.{function_numbered, datum_numbered}

pub returns-then-function : goal.returns-then-function
returns-then-function c =
    let f = c.args.self.now in
    let new : Found = record { imports = c.cell_number.new.imports; numbers = f.numbers; function_cells = c.cell_number.new.numbers; data_cells = f.data_cells } in
    subst (λ b. IsNumbered c.args.known c.in_ok-number.number (cell_key b (get_or c.args.known.entries.names.now.names c.args.name [])) f new) (sym c.if-function.true)
    (function_numbered c.args.known f new c.args.name c.in_ok-number.number c.requires.found c.in_ok-number.ensures refl refl)

pub returns : goal.returns
returns c =
    let f = c.args.self.now in
    let new : Found = record { imports = c.cell_number-2.new.imports; numbers = f.numbers; function_cells = f.function_cells; data_cells = c.cell_number-2.new.numbers } in
    subst (λ b. IsNumbered c.args.known c.in_ok-number-2.number (cell_key b (get_or c.args.known.entries.names.now.names c.args.name [])) f new) (sym c.if-function.false)
    (datum_numbered c.args.known f new c.args.name c.in_ok-number-2.number c.requires.found c.in_ok-number-2.ensures refl refl)

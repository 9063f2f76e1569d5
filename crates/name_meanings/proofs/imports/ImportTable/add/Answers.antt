use Rattle.std.proofs.Common.{ap, ◌∙◌}
use Rattle.name_meanings.specs.Kept.{import_of, with_import}
use Rattle.name_meanings.proofs.imports.ImportTable.add.Goals as goal
use Rattle.name_meanings.proofs.SameImport.{inserted, stored}

pub returns-clause-imports : goal.returns-clause-imports
returns-clause-imports c =
    inserted c.self.inside.keys.keys c.insert_full.new.self.keys c.args.import c.in_ok-number.ensures.keys
    ∙ ap (λ l. with_import l (import_of c.args.import)) c.self.view_is

pub returns-clause-number : goal.returns-clause-number
returns-clause-number c =
    let (x, at, same) = c.in_ok-number.ensures.stored in
    stored c.insert_full.new.self.keys c.in_ok-number.number c.args.import x at same

use Rattle.std.proofs.Common.{rules}
use Rattle.link_names.proofs.More.{gains_one}
use Rattle.link_names.proofs.names.Names.add.Goals as goal

pub returns-clause-names : goal.returns-clause-names
returns-clause-names c =
    let e = (gains_one c.self.inside.table c.intern.new.self c.args.name.now c.in_ok-number.number c.in_ok-number.ensures).0 in
    search (rules, e)

pub returns-clause-number : goal.returns-clause-number
returns-clause-number c = (gains_one c.self.inside.table c.intern.new.self c.args.name.now c.in_ok-number.number c.in_ok-number.ensures).1

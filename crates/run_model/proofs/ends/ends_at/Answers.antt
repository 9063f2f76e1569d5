use Rattle.std.proofs.Common.{map, sym}
use Rattle.run_rules.specs.Control.{mark}
use Rattle.run_model.proofs.ends.ends_at.Goals as goal
use Rattle.run_model.proofs.Table.{found_is, never_past, within_is}

pub returns-in-Some-at-clause-found : goal.returns-in-Some-at-clause-found
returns-in-Some-at-clause-found c =
    found_is c.args.tables.now (map mark c.args.code.now) c.args.function c.args.place c.in-Some.table.now c.in-Some-at.ends c.requires.table c.requires.opens (sym c.in-Some.ensures) (sym c.in-Some-at.ensures.value)

pub returns-in-Some-at-clause-within : goal.returns-in-Some-at-clause-within
returns-in-Some-at-clause-within c =
    within_is c.args.code.now c.args.place c.in-Some-at.ends c.requires.opens
    (found_is c.args.tables.now (map mark c.args.code.now) c.args.function c.args.place c.in-Some.table.now c.in-Some-at.ends c.requires.table c.requires.opens (sym c.in-Some.ensures) (sym c.in-Some-at.ensures.value))

pub returns-in-None-at-clause-found : goal.returns-in-None-at-clause-found
returns-in-None-at-clause-found c =
    absurd (never_past c.args.tables.now (map mark c.args.code.now) c.args.function c.args.place c.in-Some.table.now c.requires.table c.requires.opens (sym c.in-Some.ensures) (sym c.in-None-at.ensures.value))

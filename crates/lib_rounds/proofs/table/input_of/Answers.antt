use Rattle.lib_rounds.proofs.Names.{none_in}
use Rattle.lib_rounds.proofs.table.input_of.Goals as goal

pub returns-then-is_empty : goal.returns-then-is_empty
returns-then-is_empty c = none_in c.args.name.now c.args.table.now.entries (c.is_empty.ensures.0 c.if-is_empty.true)

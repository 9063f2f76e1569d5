use Rattle.std.proofs.Common.{◌≡◌, drop, []}
use Rattle.lib_index.specs.Reading.{entries_at}
use Rattle.lib_index.specs.Table.{shown}
use Rattle.lib_index.proofs.NameSteps.{onto}
use Rattle.lib_index.proofs.table.table_of.Given as goal

abbrev pub invariant-loop-number : goal.invariant-loop-number
invariant-loop-number l = onto (shown l.table) (entries_at (drop l.number-index l.numbers) l.rest) ≡ onto [] (entries_at l.numbers l.names)

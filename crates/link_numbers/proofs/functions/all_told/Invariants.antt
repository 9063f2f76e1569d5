use Rattle.std.proofs.Common.{◌≡◌, drop}
use Rattle.link_numbers.specs.Rows.{number_told, all_told}
use Rattle.link_numbers.proofs.functions.all_told.Given as goal

abbrev pub invariant-loop-at : goal.invariant-loop-at
invariant-loop-at l = all_told (number_told l.begins l.numbers) l.at (drop l.at l.keys) ≡ all_told (number_told l.begins l.numbers) 0 l.keys

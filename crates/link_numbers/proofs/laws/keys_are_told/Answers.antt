use Rattle.link_numbers.proofs.Begun.{numbers_told, refs_known}
use Rattle.link_numbers.proofs.laws.keys_are_told.Goals as goal

pub returns-clause-numbers : goal.returns-clause-numbers
returns-clause-numbers c = numbers_told

pub returns-clause-refs : goal.returns-clause-refs
returns-clause-refs c = refs_known

use Rattle.std.proofs.Common.{◌≡◌, map, take}
use Rattle.partial_items.specs.Types.{number_in}
use Rattle.partial_items.proofs.functions.type_numbers.Given as goal

abbrev pub invariant-loop-t : goal.invariant-loop-t
invariant-loop-t l = (l.numbers ≡ l.initial.numbers) × (l.list ≡ map (number_in l.initial.numbers) (take l.t-index l.types))

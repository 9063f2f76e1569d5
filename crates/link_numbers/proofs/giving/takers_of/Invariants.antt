use Rattle.std.proofs.Common.{◌≡◌, map, take}
use Rattle.link_keys.specs.link_program.index_layout.Numbers.{number_by}
use Rattle.link_keys.specs.link_program.Keys.{same_function_key}
use Rattle.link_numbers.proofs.giving.takers_of.Given as goal

abbrev pub invariant-loop-key : goal.invariant-loop-key
invariant-loop-key l = l.takers.items ≡ map (number_by same_function_key l.functions) (take l.key-index l.slots)

use Rattle.std.proofs.Common.{◌≡◌, map, take}
use Rattle.partial_items.specs.Types.{function_type_number}
use Rattle.partial_items.proofs.functions.functions_in.Given as goal

abbrev pub invariant-loop-part : goal.invariant-loop-part
invariant-loop-part l = l.list ≡ map (function_type_number l.tables l.numbers) (take l.part-index l.functions)

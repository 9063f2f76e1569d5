use Rattle.std.proofs.Common.{◌≡◌, ◌++◌, ◌&&◌, map, filter, filter_map, take, slice_get}
use Rattle.link_keys.specs.Codes.{function_code}
use Rattle.link_keys.proofs.lists.function_codes.Given as goal

abbrev pub invariant-loop-key : goal.invariant-loop-key
invariant-loop-key l = l.codes.items ≡ map function_code (take l.key-index l.keys)

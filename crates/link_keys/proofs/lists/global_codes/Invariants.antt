use Rattle.std.proofs.Common.{◌≡◌, ◌++◌, ◌&&◌, map, filter, filter_map, take, slice_get}
use Rattle.link_keys.specs.Codes.{global_code}
use Rattle.link_keys.proofs.lists.global_codes.Given as goal

abbrev pub invariant-loop-key : goal.invariant-loop-key
invariant-loop-key l = l.codes.items ≡ map global_code (take l.key-index l.keys)

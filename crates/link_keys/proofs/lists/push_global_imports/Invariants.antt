use Rattle.std.proofs.Common.{◌≡◌, ◌++◌, ◌&&◌, map, filter, filter_map, take, slice_get}
use Rattle.link_program.specs.declared.keys.GlobalKey.TheVariants as globals
use Rattle.link_keys.specs.Lists.{numbers_below, flag_at, is_global_import}
use Rattle.link_keys.proofs.lists.push_global_imports.Given as goal

abbrev pub invariant-loop-number : goal.invariant-loop-number
invariant-loop-number l = l.keys.items ≡ l.fn.keys.items ++ map globals.Import (numbers_below (λ i. flag_at l.flags i && is_global_import (slice_get l.resolution.imports i)) l.number)

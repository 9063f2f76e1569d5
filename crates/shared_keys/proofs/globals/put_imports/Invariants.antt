use Rattle.std.proofs.Common.{◌≡◌, nat_eq, ◌&&◌, slice_get}
use Rattle.indexmap.specs.IndexSet.{insert_all}
use Rattle.link_keys.specs.Lists.{numbers_below, flag_at, is_global_import}
use Rattle.shared_keys.proofs.globals.put_imports.Given as goal

abbrev pub invariant-loop-number : goal.invariant-loop-number
invariant-loop-number l = l.numbers.keys ≡ insert_all nat_eq l.fn.numbers.keys (numbers_below (λ i. flag_at l.flags i && is_global_import (slice_get l.resolution.imports i)) l.number)

use Rattle.std.proofs.Common.{◌≡◌, ◌++◌, map, slice_get}
use Rattle.link_program.specs.declared.keys.GlobalKey.TheVariants as globals
use Rattle.link_keys.specs.Lists.{numbers_below, is_global_import}
use Rattle.sym_parts.proofs.listing.push_global_imports.Given as goal

abbrev pub invariant-loop-number : goal.invariant-loop-number
invariant-loop-number l = l.keys.items ≡ l.fn.keys.items ++ map globals.Import (numbers_below (λ i. is_global_import (slice_get l.resolution.imports i)) l.number)

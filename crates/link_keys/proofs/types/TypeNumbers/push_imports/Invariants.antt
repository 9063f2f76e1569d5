use Rattle.std.proofs.Common.{◌≡◌, ◌&&◌, map, fold, take, drop, length, slice_get, slice_index_or, None}
use Rattle.link_keys.specs.Types.{with_numbered, kept_type, own_types, first_type, window_type, with_windows, type_number_in}
use Rattle.link_keys.specs.Lists.{numbers_below, flag_at, is_function_import}
use Rattle.link_keys.proofs.types.TypeNumbers.push_imports.Given as goal

abbrev pub invariant-loop-number : goal.invariant-loop-number
invariant-loop-number l = l.self ≡ fold with_numbered l.fn.self (map (λ i. kept_type (slice_get l.resolution.imports i)) (numbers_below (λ i. flag_at l.flags i && is_function_import (slice_get l.resolution.imports i)) l.number))

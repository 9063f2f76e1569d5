use Rattle.std.proofs.Common.{◌≡◌, ◌&&◌, map, fold, take, drop, length, slice_get, slice_index_or, None}
use Rattle.link_keys.specs.Types.{with_numbered, kept_type, own_types, first_type, window_type, with_windows, type_number_in}
use Rattle.link_keys.proofs.types.TypeNumbers.push_windows.Given as goal

abbrev pub invariant-loop-number : goal.invariant-loop-number
invariant-loop-number l = l.self ≡ with_windows l.types l.fn.self (take l.number-index l.windows)

use Rattle.std.proofs.Common.{◌≡◌, ◌&&◌, map, fold, take, drop, length, slice_get, slice_index_or, None}
use Rattle.link_keys.specs.Types.{with_numbered, kept_type, own_types, first_type, window_type, with_windows, type_number_in}
use Rattle.link_keys.proofs.types.TypeNumbers.push_own.Given as goal

abbrev pub invariant-loop-number : goal.invariant-loop-number
invariant-loop-number l = l.self ≡ fold with_numbered l.fn.self (own_types l.linkers l.tables (take l.number-index l.live))

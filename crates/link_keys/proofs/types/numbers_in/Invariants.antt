use Rattle.std.proofs.Common.{◌≡◌, ◌&&◌, map, fold, take, drop, length, slice_get, slice_index_or, None}
use Rattle.link_keys.specs.Types.{with_numbered, kept_type, own_types, first_type, window_type, with_windows, type_number_in}
use Rattle.link_program.specs.type_merge.Types.{with_type}
use Rattle.link_keys.proofs.types.numbers_in.Given as goal

abbrev pub invariant-loop-t : goal.invariant-loop-t
invariant-loop-t l = (l.table ≡ fold with_type l.fn.table (take l.t-index l.types)) × (l.numbers.items ≡ map (type_number_in l.fn.table) (take l.t-index l.types))

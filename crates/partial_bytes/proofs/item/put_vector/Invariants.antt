use Rattle.std.proofs.Common.{◌++◌, take, length}
use Rattle.std.specs.List.{flat_map}
use Rattle.leb_codec.specs.Shortest.{u32}
use Rattle.image_emit.specs.Put.{IsPut}
use Rattle.partial_bytes.proofs.item.put_vector.Given as goal

abbrev pub invariant-loop-item : goal.invariant-loop-item
invariant-loop-item g l = IsPut l.fn.out l.fn.at (u32 (length l.items) ++ flat_map g.T.Item.spelled (take l.item-index l.items)) l.at l.out

use Rattle.std.proofs.Common.{◌≡◌, ◌+◌, take, length}
use Rattle.std.specs.List.{flat_map}
use Rattle.leb_codec.specs.Shortest.{u32}
use Rattle.image_emit.specs.Put.{capped}
use Rattle.partial_bytes.proofs.item.vector_size.Given as goal

abbrev pub invariant-loop-item : goal.invariant-loop-item
invariant-loop-item g l = l.size ≡ capped (length (u32 (length l.items)) + length (flat_map g.T.Item.spelled (take l.item-index l.items)))

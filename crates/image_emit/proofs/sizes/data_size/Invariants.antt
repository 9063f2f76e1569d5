use Rattle.std.proofs.Common.{◌≡◌, ◌+◌, drop}
use Rattle.image_emit.specs.Put.{capped}
use Rattle.image_emit.specs.Sizes.{blocks_len, data_len}
use Rattle.image_emit.proofs.sizes.data_size.Given as goal

abbrev pub invariant-loop-block : goal.invariant-loop-block
invariant-loop-block l = (capped l.size ≡ l.size) × (capped (l.size + blocks_len l.at (drop l.block-index l.blocks)) ≡ capped (data_len l.blocks))

use Rattle.std.proofs.Common.{◌≡◌, ◌+◌, ◌++◌, drop}
use Rattle.image_emit.specs.Sizes.{blocks_len, data_len, block_places, data_places}
use Rattle.image_emit.proofs.measuring.add_data.Given as goal

abbrev pub invariant-loop-block : goal.invariant-loop-block
invariant-loop-block l = (l.at + blocks_len l.address (drop l.block-index l.blocks) ≡ l.initial.at + data_len l.blocks)
    × (l.places ++ block_places l.at l.address (drop l.block-index l.blocks) ≡ l.initial.places ++ data_places l.initial.at l.blocks)

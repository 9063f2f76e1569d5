use Rattle.std.proofs.Common.{◌≡◌, ◌+◌, take, length}
use Rattle.std.specs.List.{flat_map}
use Rattle.image_emit.specs.Put.{capped}
use Rattle.wasm_module.specs.wasm_instr.leb_codec.Shortest.{u32}
use Rattle.image_emit.proofs.put.vector_size.Given as goal

abbrev pub invariant-loop-item : goal.invariant-loop-item
invariant-loop-item g l = l.size ≡ capped (length (u32 (length l.items)) + length (flat_map g.T.Put.spelled (take l.item-index l.items)))

use Rattle.std.proofs.Common.{◌++◌, take, length}
use Rattle.std.specs.List.{flat_map}
use Rattle.wasm_module.specs.wasm_instr.leb_codec.Shortest.{u32}
use Rattle.image_emit.specs.Put.{IsPut}
use Rattle.image_emit.proofs.put.put_vector.Given as goal

abbrev pub invariant-loop-item : goal.invariant-loop-item
invariant-loop-item g l = IsPut l.fn.out l.fn.at (u32 (length l.items) ++ flat_map g.T.Put.spelled (take l.item-index l.items)) l.at l.out

use Rattle.std.proofs.Common.{◌≡◌, ◌++◌, drop, map}
use Rattle.link_keys.specs.link_program.wasm_types.Types.{val_byte}
use Rattle.called_variants.proofs.naming.add_bytes.Given as goal

abbrev pub invariant-loop-t : goal.invariant-loop-t
invariant-loop-t l = l.bytes ++ map val_byte (drop l.t-index l.types) ≡ l.initial.bytes ++ map val_byte l.types

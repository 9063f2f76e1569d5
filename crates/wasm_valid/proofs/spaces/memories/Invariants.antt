use Rattle.std.proofs.Common.{◌≡◌, ◌++◌}
use Rattle.std.specs.Prelude.{take}
use Rattle.wasm_valid.specs.Spaces.{a_memory, imported}
use Rattle.wasm_valid.proofs.spaces.memories.Given as goal

abbrev pub invariant-loop-limits : goal.invariant-loop-limits
invariant-loop-limits l = l.found ≡ imported a_memory l.m.imports ++ take l.limits-index l.m.memories

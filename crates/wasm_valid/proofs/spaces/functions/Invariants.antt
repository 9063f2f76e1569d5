use Rattle.std.proofs.Common.{◌≡◌, ◌++◌}
use Rattle.std.specs.Prelude.{take}
use Rattle.wasm_valid.specs.Spaces.{a_function, imported}
use Rattle.wasm_valid.proofs.spaces.functions.Given as goal

abbrev pub invariant-loop-index : goal.invariant-loop-index
invariant-loop-index l = l.found ≡ imported a_function l.m.imports ++ take l.index-index l.m.functions

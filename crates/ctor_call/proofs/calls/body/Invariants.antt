use Rattle.std.proofs.Common.{◌≡◌, ◌∷◌, take}
use Rattle.std.specs.List.{flat_map}
use Rattle.ctor_call.specs.Body.{call}
use Rattle.ctor_call.proofs.calls.body.Given as goal

abbrev pub invariant-loop-function : goal.invariant-loop-function
invariant-loop-function l = l.bytes.items ≡ 0 ∷ flat_map call (take l.function-index l.functions)

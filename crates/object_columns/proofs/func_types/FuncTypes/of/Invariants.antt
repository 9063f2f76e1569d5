use Rattle.std.proofs.Common.{◌≡◌, take}
use Rattle.object_columns.proofs.func_types.FuncTypes.of.Given as goal

abbrev pub invariant-loop-kind : goal.invariant-loop-kind
invariant-loop-kind l = l.list ≡ take l.kind-index l.types

use Rattle.std.proofs.Common.{◌≡◌, ◌++◌, filter_map, drop}
use Rattle.sym_parts.specs.Sought.{known}
use Rattle.sym_parts.specs.Code.{call_named}
use Rattle.sym_parts.proofs.bodies.calls_of.Given as goal

abbrev pub invariant-loop-named : goal.invariant-loop-named
invariant-loop-named l = l.ops ++ filter_map (call_named (known l.k)) (drop l.named-index l.row) ≡ filter_map (call_named (known l.k)) l.row

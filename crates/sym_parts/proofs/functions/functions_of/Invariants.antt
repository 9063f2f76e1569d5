use Rattle.std.proofs.Common.{◌≡◌, map, take, Some}
use Rattle.sym_parts.specs.Sought.{known}
use Rattle.sym_parts.specs.Code.{function_seen}
use Rattle.sym_parts.proofs.functions.functions_of.Given as goal

abbrev pub invariant-loop-key : goal.invariant-loop-key
invariant-loop-key l = map (function_seen (known l.k) l.files l.resolution.imports l.entries.objects.now l.firsts) (take l.key-index l.keys) ≡ map Some l.functions

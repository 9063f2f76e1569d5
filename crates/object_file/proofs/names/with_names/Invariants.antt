use Rattle.std.proofs.Common.{◌≡◌, map, take}
use Rattle.object_file.specs.Objects.{with_name}
use Rattle.object_file.proofs.names.with_names.Given as goal

abbrev pub invariant-loop-symbol : goal.invariant-loop-symbol
invariant-loop-symbol l = l.named ≡ map (with_name l.imports) (take l.symbol-index l.symbols)

use Rattle.std.proofs.Common.{◌≡◌, drop, filter_map}
use Rattle.std.specs.Str.{bytes_eq}
use Rattle.object_rules.specs.Symbols.{seen_name, names_differ}
use Rattle.object_rules.proofs.Seen.{differ_behind}
use Rattle.object_rules.proofs.names.names_differ.Given as goal

abbrev pub invariant-loop-symbol : goal.invariant-loop-symbol
invariant-loop-symbol l = differ_behind bytes_eq (λ key. key.now) l.seen.keys (filter_map (seen_name l.imports) (drop l.symbol-index l.symbols)) ≡ names_differ l.imports l.symbols

use Rattle.std.proofs.Common.{◌≡◌, drop, filter_map}
use Rattle.std.specs.List.{list_any}
use Rattle.std.specs.Str.{bytes_eq}
use Rattle.object_rules.specs.Symbols.{seen_name}
use Rattle.object_rules.proofs.names.is_seen_among.Given as goal

abbrev pub invariant-loop-symbol : goal.invariant-loop-symbol
invariant-loop-symbol l = list_any (bytes_eq l.name) (filter_map (seen_name l.imports) (drop l.symbol-index l.symbols)) ≡ list_any (bytes_eq l.name) (filter_map (seen_name l.imports) l.symbols)

use Rattle.std.proofs.Common.{◌≡◌, drop, length, None}
use Rattle.link_keys.specs.Firsts.{firsts_rows}
use Rattle.std.proofs.Common.{replicate}
use Rattle.sym_parts.proofs.least.least_entries.Given as goal

abbrev pub invariant-loop-object : goal.invariant-loop-object
invariant-loop-object l = firsts_rows l.object l.firsts.items (drop l.object l.names.symbols) ≡ firsts_rows 0 (replicate (length l.names.names) None) l.names.symbols

use Rattle.std.proofs.Common.{◌≡◌}
use Rattle.partial_tree.specs.partial_symbols.Referring.{number_for}
use Rattle.partial_items.specs.Numbered.{values_from}
use Rattle.partial_items.proofs.parts.symbol_numbers.Given as goal

abbrev pub invariant-loop-symbol : goal.invariant-loop-symbol
invariant-loop-symbol l = l.numbers ≡ values_from (number_for l.standing l.tables.symbols) 0 l.symbol

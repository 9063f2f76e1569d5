-- What a row of the code's tables shows.
use Rattle.made_symbols.specs.declared.table.Row.{Row}
use Rattle.made_symbols.specs.Made.{MadeSymbol}

abbrev pub shown : Row → MadeSymbol
shown row = record { name = row.name.now; role = row.role; kind = row.kind; class = row.class; changes = row.changes }

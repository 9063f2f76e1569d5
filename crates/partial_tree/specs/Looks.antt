-- What a look shows.
use Rattle.partial_tree.specs.declared.symbols.Look.{Look as Lent}
use Rattle.partial_tree.specs.Rows.{Look}

abbrev pub look_seen : Lent → Look
look_seen l = record { sight = l.sight.now; kept = l.kept.now; chunks = l.chunks.now; functions = l.functions; globals = l.globals }

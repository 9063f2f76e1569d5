use Rattle.std.proofs.Common.{◌≡◌, take, map}
use Rattle.std.specs.Prelude.{flat_map}
use Rattle.link_program.specs.name_entries.View.{rows_of}
use Rattle.program_tables.specs.Symbols.{symbol_of, starts}
use Rattle.program_tables.proofs.symbols.all_symbols.Given as goal

abbrev pub invariant-loop-object : goal.invariant-loop-object
invariant-loop-object l = record {
  symbols : l.symbols ≡ flat_map (λ row. map (symbol_of l.sources) row) (take l.object (rows_of l.sources.entries.objects.now));
  firsts : l.firsts ≡ starts 0 (take l.object (rows_of l.sources.entries.objects.now));
}

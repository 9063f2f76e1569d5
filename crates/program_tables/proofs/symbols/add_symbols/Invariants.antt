use Rattle.std.proofs.Common.{◌≡◌, [], ◌++◌, take, map, get_or}
use Rattle.link_program.specs.name_entries.View.{rows_of}
use Rattle.program_tables.specs.Symbols.{symbol_of}
use Rattle.program_tables.proofs.symbols.add_symbols.Given as goal

abbrev pub invariant-loop-place : goal.invariant-loop-place
invariant-loop-place l = l.symbols ≡ l.initial.symbols ++ map (symbol_of l.sources) (take l.place (get_or (rows_of l.sources.entries.objects.now) l.object []))

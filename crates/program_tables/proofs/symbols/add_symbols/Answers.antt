use Rattle.std.proofs.Common.{arith, get_or, []}
use Rattle.link_program.specs.name_entries.View.{rows_of}
use Rattle.program_tables.specs.Symbols.{symbol_of}
use Rattle.program_tables.proofs.Steps.{some_at, mapped_more}
use Rattle.program_tables.proofs.symbols.add_symbols.Goals as goal

pub symbol_at-requires-clause-there : goal.symbol_at-requires-clause-there
symbol_at-requires-clause-there c = some_at (get_or (rows_of c.args.sources.entries.objects.now) c.args.object []) c.loop-place.place (omega arith)

pub loop-place-preserved : goal.loop-place-preserved
loop-place-preserved c =
    mapped_more (symbol_of c.args.sources) (get_or (rows_of c.args.sources.entries.objects.now) c.args.object []) c.loop-place.place c.args.symbols.now c.loop-place.symbols _
    c.symbol_at.result (omega arith) c.loop-place.invariant c.symbol_at.ensures c.in_ok-push.ensures.ok

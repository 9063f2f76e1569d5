use Rattle.std.proofs.Common.{arith, get_or, []}
use Rattle.name_entries.specs.View.{rows_of}
use Rattle.name_meanings.proofs.columns.note_object.Goals as goal
use Rattle.name_meanings.proofs.Flattened.{symbol_more, row_whole}

pub loop-place-preserved : goal.loop-place-preserved
loop-place-preserved c = λ seen before.
    symbol_more c.args.entries.names.now.names c.args.entries.objects.now (get_or (rows_of c.args.entries.objects.now) c.args.object []) c.loop-place.place
    c.loop-place.columns c.note_symbol.new.columns seen (omega arith) c.note_symbol.ensures (c.loop-place.invariant seen before)

pub returns : goal.returns
returns c = λ seen before.
    row_whole c.args.entries.names.now.names c.args.entries.objects.now (get_or (rows_of c.args.entries.objects.now) c.args.object []) c.loop-place.place seen
    c.loop-place.columns (omega arith) (c.loop-place.invariant seen before)

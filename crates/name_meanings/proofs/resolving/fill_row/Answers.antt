use Rattle.std.proofs.Common.{arith, get_or, [], take, map, sym, subst, ◌+◌}
use Rattle.name_entries.specs.View.{rows_of}
use Rattle.name_meanings.specs.Known.{IsRow, meant}
use Rattle.name_meanings.proofs.resolving.fill_row.Goals as goal
use Rattle.name_meanings.proofs.Rows.{row_symbol}

pub loop-place-preserved : goal.loop-place-preserved
loop-place-preserved c =
    let row = get_or (rows_of c.args.known.entries.objects.now) c.args.object [] in
    subst (λ r. IsRow c.args.known r (map (meant c.args.known) (take (c.loop-place.place + 1) row)) c.args.found.now.imports c.meaning_of.new.found) (sym c.in_ok-push.ensures.ok)
    (row_symbol c.args.known c.loop-place.row row c.loop-place.place c.args.found.now.imports c.loop-place.found c.meaning_of.new.found c.in_ok-meaning_of.field-0 (omega arith)
    c.loop-place.invariant c.in_ok-meaning_of.ensures)

use Rattle.std.proofs.Common.{arith, length, ap, ◌∙◌, ◌<◌, ◌≡◌, ◌≤◌, ◌++◌}
use Rattle.std.specs.Prelude.{flat_map, filter_map}
use Rattle.std.proofs.lemmas.List.{length-map, take_all}
use Rattle.link_program.specs.made_symbols.Made.{made}
use Rattle.link_program.specs.name_rules.Entries.{made_from, symbols_of}
use Rattle.link_program.specs.name_entries.View.{rows_of}
use Rattle.program_tables.specs.Winners.{winner_of}
use Rattle.program_tables.proofs.Steps.{item_at, flat_more, row_of}
use Rattle.program_tables.proofs.winners.all_winners.Goals as goal

pub loop-object-preserved : goal.loop-object-preserved
loop-object-preserved c =
    let objects = c.args.entries.objects.now in
    let g = winner_of c.args.entries.names.now.names c.args.ranks.now in
    let rows = rows_of objects in
    let counted : length rows ≡ length objects = length-map objects (symbols_of objects) in
    let within : c.loop-object.object < length rows = omega (arith, counted, c.count-object-end.ensures, c.loop-object-test.true) in
    let (row, at) = item_at rows c.loop-object.object within in
    flat_more (filter_map g) rows c.loop-object.object row (filter_map g (made_from 0 (made c.args.mode))) c.loop-object.winners _ at c.loop-object.invariant
    (row_of (filter_map g) rows c.loop-object.object row _ _ at c.in_ok-add_winners.ensures)

pub returns : goal.returns
returns c =
    let objects = c.args.entries.objects.now in
    let g = winner_of c.args.entries.names.now.names c.args.ranks.now in
    let rows = rows_of objects in
    let counted : length rows ≡ length objects = length-map objects (symbols_of objects) in
    let past : length rows ≤ c.loop-object.object = omega (arith, counted, c.count-object-end.ensures, c.loop-object-test.false) in
    c.loop-object.invariant ∙ ap (λ l. filter_map g (made_from 0 (made c.args.mode)) ++ flat_map (filter_map g) l) (take_all c.loop-object.object rows past)

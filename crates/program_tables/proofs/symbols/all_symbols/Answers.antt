use Rattle.std.proofs.Common.{arith, take, [], length, ap, ◌∙◌, ◌<◌, ◌≡◌, ◌≤◌, ◌++◌}
use Rattle.std.specs.Prelude.{flat_map, map}
use Rattle.std.proofs.lemmas.List.{length-map, take_all}
use Rattle.link_program.specs.name_rules.Entries.{symbols_of}
use Rattle.link_program.specs.name_entries.View.{rows_of}
use Rattle.program_tables.specs.Symbols.{symbol_of, starts}
use Rattle.program_tables.proofs.Steps.{item_at, flat_more, starts_step, flat_length, row_of}
use Rattle.program_tables.proofs.symbols.all_symbols.Goals as goal

pub loop-object-preserved : goal.loop-object-preserved
loop-object-preserved c =
    let objects = c.args.sources.entries.objects.now in
    let rows = rows_of objects in
    let counted : length rows ≡ length objects = length-map objects (symbols_of objects) in
    let within : c.loop-object.object < length rows = omega (arith, counted, c.count-object-end.ensures, c.loop-object-test.true) in
    let (row, at) = item_at rows c.loop-object.object within in
    record {
      symbols = flat_more (λ row. map (symbol_of c.args.sources) row) rows c.loop-object.object row [] c.loop-object.symbols _ at c.loop-object.invariant.symbols (row_of (λ row. map (symbol_of c.args.sources) row) rows c.loop-object.object row _ _ at c.in_ok-add_symbols.ensures);
      firsts = starts_step rows c.loop-object.object _ row c.loop-object.firsts _ at c.loop-object.invariant.firsts
          (c.in_ok-next_number.ensures ∙ ap length c.loop-object.invariant.symbols ∙ flat_length (symbol_of c.args.sources) (take c.loop-object.object rows)) c.in_ok-push.ensures.ok;
    }

pub returns-clause-symbols : goal.returns-clause-symbols
returns-clause-symbols c =
    let objects = c.args.sources.entries.objects.now in
    let rows = rows_of objects in
    let counted : length rows ≡ length objects = length-map objects (symbols_of objects) in
    let past : length rows ≤ c.loop-object.object = omega (arith, counted, c.count-object-end.ensures, c.loop-object-test.false) in
    c.in_ok-extend_from_slice.ensures.ok ∙ ap (λ l. l ++ c.args.variants.now) (c.loop-object.invariant.symbols ∙ ap (flat_map (λ row. map (symbol_of c.args.sources) row)) (take_all c.loop-object.object rows past))

pub returns-clause-firsts : goal.returns-clause-firsts
returns-clause-firsts c =
    let objects = c.args.sources.entries.objects.now in
    let rows = rows_of objects in
    let counted : length rows ≡ length objects = length-map objects (symbols_of objects) in
    let past : length rows ≤ c.loop-object.object = omega (arith, counted, c.count-object-end.ensures, c.loop-object-test.false) in
    c.loop-object.invariant.firsts ∙ ap (starts 0) (take_all c.loop-object.object rows past)

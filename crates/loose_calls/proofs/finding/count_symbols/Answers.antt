use Rattle.std.proofs.Common.{◌≤◌, arith, ap, ◌∙◌, length, length-append, take}
use Rattle.std.specs.Prelude.{flat_map}
use Rattle.std.proofs.lemmas.List.{take_all}
use Rattle.program_tables.specs.link_program.name_rules.Entries.{symbols_of}
use Rattle.program_tables.proofs.Steps.{item_at}
use Rattle.loose_calls.proofs.Growing.{flat_one, row_at_place}
use Rattle.loose_calls.proofs.finding.count_symbols.Goals as goal

pub loop-object-preserved : goal.loop-object-preserved
loop-object-preserved c =
    let objects = c.args.entries.objects.now in
    let i = c.loop-object.object in
    let (o, at) = item_at objects i (omega (arith, c.count-object-end.ensures, c.loop-object-test.true)) in
    let more = ap (λ l. length l) (flat_one (symbols_of objects) objects i o at) ∙ length-append (flat_map (symbols_of objects) (take i objects)) (symbols_of objects o) in
    let row = ap (λ l. length l) (row_at_place objects i o at) in
    omega (arith, more, row, c.loop-object.invariant, c.symbols.ensures, c.in-Some.ensures)

pub returns : goal.returns
returns c =
    let objects = c.args.entries.objects.now in
    let past : length objects ≤ c.loop-object.object = omega (arith, c.count-object-end.ensures, c.loop-object-test.false) in
    c.loop-object.invariant ∙ ap (λ os. length (flat_map (symbols_of objects) os)) (take_all c.loop-object.object objects past)

use Rattle.std.proofs.Common.{◌<◌, ◌≤◌, ◌+◌, ◌||◌, arith, [], drop, length, get_or, sym, ap, ◌∙◌}
use Rattle.std.proofs.lemmas.List.{length-map, drop_all}
use Rattle.link_marks.specs.link_program.name_rules.Entries.{symbols_of}
use Rattle.link_marks.specs.link_program.name_entries.View.{rows_of}
use Rattle.lost_ctors.specs.Inits.{lost_from}
use Rattle.lost_ctors.proofs.LostInits.{one_more, rows_step, rows_within}
use Rattle.lost_ctors.proofs.inits.some_are_lost.Goals as goal

pub object_is_lost-requires-clause-few : goal.object_is_lost-requires-clause-few
object_is_lost-requires-clause-few c =
    let rows = rows_of c.args.entries.objects.now in
    let counted = length-map c.args.entries.objects.now (symbols_of c.args.entries.objects.now) in
    let within = rows_within rows c.loop-object.object (omega (arith, counted, c.count-object-end.ensures, c.loop-object-test.true)) in
    omega (arith, within, c.loop-object.invariant.first, c.requires.few)

pub overflow_add-first : goal.overflow_add-first
overflow_add-first c =
    let rows = rows_of c.args.entries.objects.now in
    let counted = length-map c.args.entries.objects.now (symbols_of c.args.entries.objects.now) in
    let within = rows_within rows c.loop-object.object (omega (arith, counted, c.count-object-end.ensures, c.loop-object-test.true)) in
    omega (arith, within, c.symbols-first.ensures, c.loop-object.invariant.first, c.requires.few)

pub returns-then-object_is_lost : goal.returns-then-object_is_lost
returns-then-object_is_lost c =
    let t = c.args.tables.now in
    let objects = c.args.entries.objects.now in
    let alive = c.args.alive.now in
    let i = c.loop-object.object in
    let first = c.loop-object.first in
    let later = lost_from t objects alive (i + 1) (first + length (get_or (rows_of objects) i [])) (drop (i + 1) objects) in
    let within : i < length objects = omega (arith, c.count-object-end.ensures, c.loop-object-test.true) in
    sym (ap (λ b. b || later) (sym c.object_is_lost.ensures ∙ c.if-object_is_lost.true)) ∙ sym (one_more t objects alive i first within) ∙ c.loop-object.invariant.rest

pub loop-object-preserved : goal.loop-object-preserved
loop-object-preserved c =
    let t = c.args.tables.now in
    let objects = c.args.entries.objects.now in
    let alive = c.args.alive.now in
    let i = c.loop-object.object in
    let first = c.loop-object.first in
    let rows = rows_of objects in
    let later = lost_from t objects alive (i + 1) (first + length (get_or rows i [])) (drop (i + 1) objects) in
    let within : i < length objects = omega (arith, c.count-object-end.ensures, c.loop-object-test.true) in
    let counted = length-map objects (symbols_of objects) in
    let row_within : i < length rows = omega (arith, within, counted) in
    record {
      rest = ap (λ n. lost_from t objects alive (i + 1) (first + n) (drop (i + 1) objects)) c.symbols-first.ensures
          ∙ sym (ap (λ b. b || later) (sym c.object_is_lost.ensures ∙ c.if-object_is_lost.false)) ∙ sym (one_more t objects alive i first within) ∙ c.loop-object.invariant.rest;
      first = ap (λ n. first + n) c.symbols-first.ensures ∙ ap (λ n. n + length (get_or rows i [])) c.loop-object.invariant.first ∙ sym (rows_step rows i row_within);
    }

pub returns : goal.returns
returns c =
    let t = c.args.tables.now in
    let objects = c.args.entries.objects.now in
    let past : length objects ≤ c.loop-object.object = omega (arith, c.count-object-end.ensures, c.loop-object-test.false) in
    ap (lost_from t objects c.args.alive.now c.loop-object.object c.loop-object.first) (sym (drop_all c.loop-object.object objects past)) ∙ c.loop-object.invariant.rest

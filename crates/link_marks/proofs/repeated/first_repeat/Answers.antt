use Rattle.std.proofs.Common.{◌≡◌, ◌++◌, ◌∙◌, refl, sym, ap, Some, None, map, take}
use Rattle.link_marks.specs.Names.{given_seen, memory_given}
use Rattle.link_marks.proofs.Steps.{repeated_at, not_repeated_at, given_more}
use Rattle.link_marks.proofs.repeated.first_repeat.Goals as goal

pub returns-in-Some : goal.returns-in-Some
returns-in-Some c =
    let see = given_seen c.args.objects.now c.args.names.now.names in
    let first = memory_given c.args.imports_memory in
    let earlier = first ++ map see (take c.loop-winner.winner-index c.args.exports.now) in
    let found = c.in_ok-first.ensures.found earlier c.loop-winner.invariant.given in
    ap Some c.in_ok-fault.ensures
    ∙ repeated_at see first c.args.exports.now c.loop-winner.winner-index _ c.loop-winner-test.true _ c.name_seen-name.result.now c.in-Some.first c.loop-winner.invariant.rest c.name_seen-name.ensures (sym c.in-Some.is ∙ found)

pub loop-winner-preserved : goal.loop-winner-preserved
loop-winner-preserved c =
    let see = given_seen c.args.objects.now c.args.names.now.names in
    let first = memory_given c.args.imports_memory in
    let earlier = first ++ map see (take c.loop-winner.winner-index c.args.exports.now) in
    let found = c.in_ok-first.ensures.found earlier c.loop-winner.invariant.given in
    let none : c.in_ok-first.field-0 ≡ None = c.in_default.is in
    record {
      given = given_more see first c.args.exports.now c.loop-winner.winner-index _ c.loop-winner-test.true _ _ c.name_seen-name.result.now _ c.name_seen-name.ensures refl (c.in_ok-first.ensures.given earlier c.loop-winner.invariant.given none);
      rest = not_repeated_at see first c.args.exports.now c.loop-winner.winner-index _ c.loop-winner-test.true _ c.name_seen-name.result.now c.loop-winner.invariant.rest c.name_seen-name.ensures (sym none ∙ found);
    }

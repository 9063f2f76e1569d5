use Rattle.std.proofs.Common.{IsTrue, IsFalse, rules}
use Rattle.wl_outside.specs.Held.{NamesDiffer}
use Rattle.wl_outside.proofs.Names.{differ_more, same_name}
use Rattle.wl_outside.proofs.held.names_differ.Goals as goal

pub returns-then-has_name : goal.returns-then-has_name
returns-then-has_name c =
    let yes : IsTrue c.has_name.result = search rules in
    let twice : NamesDiffer c.args.files.now → ⊥ =
    same_name c.args.files.now c.loop-place.place c.index-files-place.result c.as_str.result.now c.loop-place-test.true c.index-files-place.is c.as_str.ensures (c.has_name.ensures.yes yes) in
    search rules

pub loop-place-preserved : goal.loop-place-preserved
loop-place-preserved c =
    let no : IsFalse c.has_name.result = search rules in
    differ_more c.args.files.now c.loop-place.place c.index-files-place.result c.as_str.result.now c.loop-place-test.true c.index-files-place.is c.as_str.ensures (c.has_name.ensures.no no) c.loop-place.invariant

use Rattle.std.proofs.Common.{◌∙◌, ap, sym}
use Rattle.object_parts.specs.wasm_types.declared.import.Import.{Import}
use Rattle.object_rules.specs.Spaces.{is_of}
use Rattle.object_rules.proofs.Found.{one_more, none_more}
use Rattle.object_rules.proofs.spaces.places_of.Goals as goal
use Rattle.object_rules.proofs.spaces.places_of.Goals.{then-is_of+in_ok-push, else-is_of}

pub loop-at-preserved : goal.loop-at-preserved
loop-at-preserved c =
    let test = λ (i : Import). is_of c.args.kind i.kind in
    let all = c.args.imports.now in
    let at = c.loop-at.at in
    let item = c.index-imports-at.result in
    let tested = ap test (sym c.index-imports-at.is) ∙ sym c.is_of.ensures in
    elim c.if-is_of.branch [
      | then-is_of+in_ok-push w ↦
          rw w.places-is (one_more test all c.loop-at.places w.push.new.self at item c.loop-at-test.true (tested ∙ w.if-is_of.true) w.in_ok-push.ensures.ok c.loop-at.invariant)
      | else-is_of w ↦
          rw w.places-is (none_more test all c.loop-at.places at item c.loop-at-test.true (tested ∙ w.if-is_of.false) c.loop-at.invariant)
    ]

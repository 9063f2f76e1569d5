use Rattle.std.proofs.Common.{◌≡◌, Some, None, arith, rules}
use Rattle.wasm_instr.specs.Skimming.{outline_step}
use Rattle.body_check.proofs.Going.{skims_on, skims_not, turns_not, skims_shorter, all_closed, more_behind}
use Rattle.body_check.proofs.skimming.is_code.Goals as goal

pub returns-in_default : goal.returns-in_default
returns-in_default c = skims_not c.args.end c.loop-rest.opens c.loop-rest.rest.now c.in_default.field-0 _ (omega (arith, c.loop-rest-test.true, c.len.ensures)) c.in_default.ensures c.loop-rest.invariant

pub returns-then-not-branch : goal.returns-then-not-branch
returns-then-not-branch c =
    let no : outline_step c.loop-rest.opens c.in-Ok.outline ≡ None = search rules in
    turns_not c.args.end c.loop-rest.opens c.loop-rest.rest.now c.in-Ok.outline c.in-Ok.field-0-1.now c.in-Ok.after.now _ (omega (arith, c.loop-rest-test.true, c.len.ensures)) c.in-Ok.ensures no c.loop-rest.invariant

pub loop-rest-smaller : goal.loop-rest-smaller
loop-rest-smaller c = skims_shorter c.args.end c.loop-rest.rest.now c.in-Ok.outline c.in-Ok.field-0-1.now c.in-Ok.after.now c.in-Ok.ensures

pub loop-rest-preserved : goal.loop-rest-preserved
loop-rest-preserved c =
    let went : outline_step c.loop-rest.opens c.in-Ok.outline ≡ Some c.turns.new.opens = search rules in
    skims_on c.args.end c.loop-rest.opens c.loop-rest.rest.now c.in-Ok.outline c.in-Ok.field-0-1.now c.in-Ok.after.now c.turns.new.opens _ (omega (arith, c.loop-rest-test.true, c.len.ensures)) c.in-Ok.ensures went c.loop-rest.invariant

pub returns-in-empty : goal.returns-in-empty
returns-in-empty c = all_closed c.args.end c.loop-rest.opens c.loop-rest.rest.now _ (omega (arith, c.loop-rest-test.false, c.len.ensures)) c.in-empty.len_below c.loop-rest.invariant

pub returns : goal.returns
returns c = more_behind c.args.end c.loop-rest.opens c.loop-rest.rest.now _ (omega (arith, c.loop-rest-test.false, c.len.ensures)) c.in_default-rest.len_at_least c.loop-rest.invariant

use Rattle.std.proofs.Common.{sym, arith}
use Rattle.lib_index.proofs.MemberSteps.{goes_on, ends, is_done, member_shorter}
use Rattle.lib_index.proofs.members.members_at.Goals as goal

pub returns-in_default : goal.returns-in_default
returns-in_default c = ends c.loop-rest.members c.args.end c.loop-rest.rest.now _ (omega arith) (sym c.in_default.ensures) c.loop-rest.invariant.so_far

pub loop-rest-preserved : goal.loop-rest-preserved
loop-rest-preserved c =
    let shorter = member_shorter c.args.end c.loop-rest.rest.now c.in-Some.member c.in-Some.after.now (sym c.in-Some.ensures) in
    record {
      so_far = rw c.in_ok-push.ensures.ok (goes_on c.loop-rest.members c.args.end c.loop-rest.rest.now c.in-Some.member c.in-Some.after.now _ (omega arith) (sym c.in-Some.ensures) c.loop-rest.invariant.so_far);
      within = omega (arith, shorter);
    }

pub returns : goal.returns
returns c = is_done c.loop-rest.members c.args.end c.loop-rest.rest.now _ (omega arith) c.loop-rest.invariant.so_far

pub loop-rest-smaller : goal.loop-rest-smaller
loop-rest-smaller c = member_shorter c.args.end c.loop-rest.rest.now c.in-Some.member c.in-Some.after.now (sym c.in-Some.ensures)

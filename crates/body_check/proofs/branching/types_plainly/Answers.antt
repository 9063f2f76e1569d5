use Rattle.std.proofs.Common.{◌≡◌, Some, None, arith, rules}
use Rattle.valid_rules.specs.declared.types.Shape.TheVariants.{BranchesBy}
use Rattle.valid_bodies.specs.Steps.{step_on}
use Rattle.body_check.specs.Labels.{Labelled}
use Rattle.body_check.specs.Passing.{Passes}
use Rattle.body_check.proofs.Doing.{does_table, does_shorter, passes_then, passes_on, unfit_here}
use Rattle.body_check.proofs.branching.types_plainly.Goals as goal

pub returns-then-not-branch : goal.returns-then-not-branch
returns-then-not-branch c =
    let fs = c.types_quickly.new.blocks in
    let there = c.in-Some.there.now in
    let x = c.in-Some-labels_at in
    let after : Passes c.args.context.now c.args.kind.now c.args.locals.now c.args.end c.loop-there.blocks c.loop-there.rest.now fs there = search rules in
    let l : Labelled c.args.end there x.count x.labels.now x.last x.after.now = search rules in
    let went : step_on fs (BranchesBy l.targets x.last) ≡ None = search (rules, c.in_ok-branches_at.ensures l.targets l.mid l.many) in
    unfit_here c.args.context.now c.args.kind.now c.args.locals.now c.args.end c.args.blocks.now c.args.bytes.now fs there (BranchesBy l.targets x.last) x.after.now
    (passes_then c.args.context.now c.args.kind.now c.args.locals.now c.args.end c.args.blocks.now c.args.bytes.now c.loop-there.blocks c.loop-there.rest.now c.loop-there.invariant fs there after)
    (does_table c.args.context.now c.args.kind.now c.args.locals.now c.args.end there x.count x.labels.now x.last x.after.now l) went

pub loop-there-smaller : goal.loop-there-smaller
loop-there-smaller c =
    let fs = c.types_quickly.new.blocks in
    let there = c.in-Some.there.now in
    let x = c.in-Some-labels_at in
    let after : Passes c.args.context.now c.args.kind.now c.args.locals.now c.args.end c.loop-there.blocks c.loop-there.rest.now fs there = search rules in
    let l : Labelled c.args.end there x.count x.labels.now x.last x.after.now = search rules in
    let less = does_shorter c.args.context.now c.args.kind.now c.args.locals.now c.args.end there (BranchesBy l.targets x.last) x.after.now (does_table c.args.context.now c.args.kind.now c.args.locals.now c.args.end there x.count x.labels.now x.last x.after.now l) in
    omega (arith, less, after.less)

pub loop-there-preserved : goal.loop-there-preserved
loop-there-preserved c =
    let fs = c.types_quickly.new.blocks in
    let there = c.in-Some.there.now in
    let x = c.in-Some-labels_at in
    let after : Passes c.args.context.now c.args.kind.now c.args.locals.now c.args.end c.loop-there.blocks c.loop-there.rest.now fs there = search rules in
    let l : Labelled c.args.end there x.count x.labels.now x.last x.after.now = search rules in
    let went : step_on fs (BranchesBy l.targets x.last) ≡ Some c.branches_at.new.blocks = search (rules, c.in_ok-branches_at.ensures l.targets l.mid l.many) in
    passes_on c.args.context.now c.args.kind.now c.args.locals.now c.args.end c.args.blocks.now c.args.bytes.now fs there (BranchesBy l.targets x.last) x.after.now
    (passes_then c.args.context.now c.args.kind.now c.args.locals.now c.args.end c.args.blocks.now c.args.bytes.now c.loop-there.blocks c.loop-there.rest.now c.loop-there.invariant fs there after)
    (does_table c.args.context.now c.args.kind.now c.args.locals.now c.args.end there x.count x.labels.now x.last x.after.now l) c.branches_at.new.blocks went

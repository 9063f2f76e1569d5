use Rattle.std.proofs.Common.{◌≡◌, ◌+◌, arith, refl, sym}
use Rattle.wasm_instr.specs.declared.outline.Outline.TheVariants as outlines
use Rattle.body_windows.specs.declared.immediate.ImmediateKind.TheVariants as kinds
use Rattle.body_windows.proofs.Passing.{passes, passes_number}
use Rattle.body_windows.proofs.Skims.{plain_free, local_free, branch_free, constant_ends, access_ends}
use Rattle.body_windows.proofs.quick.pass_short.Goals as goal

pub returns-then-is_short-clause-goes : goal.returns-then-is_short-clause-goes
returns-then-is_short-clause-goes c = λ from s nest stands some.
    let at = c.args.course.at in
    rw c.moved.ensures (passes from c.args.bytes.now s nest nest c.args.course outlines.Other (at + 2) stands some some (local_free c.args.bytes.now at _ 2 (omega arith) refl (c.is_local.ensures c.if-is_local.true) (c.is_short.ensures c.if-is_short.true)) refl)

pub returns-then-is_numeric-clause-goes : goal.returns-then-is_numeric-clause-goes
returns-then-is_numeric-clause-goes c = λ from s nest stands some.
    let at = c.args.course.at in
    let numeric = c.is_numeric.ensures in
    rw c.moved-then-is_numeric.ensures (passes from c.args.bytes.now s nest nest c.args.course outlines.Other (at + 1) stands some some
    (plain_free c.args.bytes.now at _ outlines.Other (omega (arith, c.requires.whole)) refl (numeric.class c.if-is_numeric.true) (numeric.outline c.if-is_numeric.true) (λ at mid end. refl)) refl)

pub returns-then-is_short-2-clause-goes : goal.returns-then-is_short-2-clause-goes
returns-then-is_short-2-clause-goes c = λ from s nest stands some.
    let at = c.args.course.at in
    let to : (at + 1) + 1 ≡ at + 2 = omega arith in
    rw (c.counted.ensures, sym to) (passes_number from c.args.bytes.now s nest c.args.course (at + 1) 1 kinds.Constant stands some (omega arith) c.if-at-course.true tt
    (c.is_short-then-at-course.ensures c.if-is_short-2.true) (constant_ends c.args.bytes.now at _ (omega (arith, c.requires.whole)) refl (c.is_constant.ensures c.if-is_constant.true)))

pub returns-then-is_short-4-clause-goes : goal.returns-then-is_short-4-clause-goes
returns-then-is_short-4-clause-goes c = λ from s nest stands some.
    let at = c.args.course.at in
    let to : (at + 2) + 1 ≡ at + 3 = omega arith in
    rw (c.counted-then-is_short-4.ensures, sym to) (passes_number from c.args.bytes.now s nest c.args.course (at + 2) 1 kinds.MemoryOffset stands some (omega arith) c.if-at-course-2.true tt
    (c.is_short-then-is_short-3.ensures c.if-is_short-4.true) (access_ends c.args.bytes.now at _ (omega (arith, c.requires.whole)) refl (c.is_access.ensures c.if-is_access.true) (c.is_short-then-at-course-2.ensures c.if-is_short-3.true)))

pub returns-then-is_short-5-clause-goes : goal.returns-then-is_short-5-clause-goes
returns-then-is_short-5-clause-goes c = λ from s nest stands some.
    let at = c.args.course.at in
    rw c.moved-then-is_short-5.ensures (passes from c.args.bytes.now s nest nest c.args.course outlines.Other (at + 2) stands some some
    (branch_free c.args.bytes.now at _ 2 (omega arith) refl (c.is_branch.ensures c.if-is_branch.true) (c.is_short-then-is_branch.ensures c.if-is_short-5.true)) refl)

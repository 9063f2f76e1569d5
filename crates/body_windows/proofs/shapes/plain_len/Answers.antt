use Rattle.std.proofs.Common.{refl, arith}
use Rattle.wasm_instr.specs.declared.outline.Outline.TheVariants as outlines
use Rattle.body_windows.proofs.Skims.{plain_free, local_free, branch_free, long_free, float_free, long_float_free}
use Rattle.body_windows.proofs.shapes.plain_len.Goals as goal
use Rattle.body_windows.proofs.shapes.plain_len.Goals.{then-is_numeric-via-then-is_numeric, then-is_numeric-via-else-is_numeric+then-is_bare, then-is_local-via-then-is_local, then-is_local-via-else-is_local+then-is_branch}

pub returns-then-is_numeric-clause-free : goal.returns-then-is_numeric-clause-free
returns-then-is_numeric-clause-free c =
    elim c.then-is_numeric.branch [
      | then-is_numeric-via-then-is_numeric w ↦ λ _. plain_free c.args.bytes.now c.args.at _ outlines.Other (omega (arith, c.requires)) refl (c.is_numeric.ensures.class w.if-is_numeric.true) (c.is_numeric.ensures.outline w.if-is_numeric.true) (λ at mid end. refl)
      | then-is_numeric-via-else-is_numeric+then-is_bare w ↦ λ _. plain_free c.args.bytes.now c.args.at _ outlines.Other (omega (arith, c.requires)) refl (w.is_bare.ensures.class w.if-is_bare.true) (w.is_bare.ensures.outline w.if-is_bare.true) (λ at mid end. refl)
    ]

pub returns-then-is_local-clause-free : goal.returns-then-is_local-clause-free
returns-then-is_local-clause-free c = λ some.
    let number = c.len_with_number.ensures.number some in
    elim c.then-is_local.branch [
      | then-is_local-via-then-is_local w ↦ local_free c.args.bytes.now c.args.at _ c.len_with_number.result some refl (c.is_local.ensures w.if-is_local.true) number
      | then-is_local-via-else-is_local+then-is_branch w ↦ branch_free c.args.bytes.now c.args.at _ c.len_with_number.result some refl (w.is_branch.ensures w.if-is_branch.true) number
    ]

pub returns-then-is_long_constant-clause-free : goal.returns-then-is_long_constant-clause-free
returns-then-is_long_constant-clause-free c = λ some. long_free c.args.bytes.now c.args.at _ c.len_with_number-then-is_long_constant.result some refl (c.is_long_constant.ensures c.if-is_long_constant.true) (c.len_with_number-then-is_long_constant.ensures.number some)

pub returns-then-bytes-at-ge5-clause-free : goal.returns-then-bytes-at-ge5-clause-free
returns-then-bytes-at-ge5-clause-free c = λ _. float_free c.args.bytes.now c.args.at _ (omega (arith, c.requires)) refl (c.is_float.ensures c.if-is_float.true)

pub returns-then-bytes-at-ge9-clause-free : goal.returns-then-bytes-at-ge9-clause-free
returns-then-bytes-at-ge9-clause-free c = λ _. long_float_free c.args.bytes.now c.args.at _ (omega (arith, c.requires)) refl (c.is_long_float.ensures c.if-is_long_float.true)

use Rattle.std.proofs.Common.{rules, arith, refl}
use Rattle.wasm_instr.specs.declared.outline.Outline.TheVariants as outlines
use Rattle.body_windows.proofs.Passing.{passes_plain}
use Rattle.body_windows.proofs.Skims.{plain_free, block_free}
use Rattle.body_windows.proofs.free.pass_free.Goals as goal

pub returns-then-is_end : goal.returns-then-is_end
returns-then-is_end c = λ from s stands some.
    c.pass_block.ensures from c.args.bytes.now s stands some
    (plain_free c.args.bytes.now c.args.course.at _ outlines.End (omega (arith, c.requires)) refl (c.is_end.ensures.class c.if-is_end.true) (c.is_end.ensures.outline c.if-is_end.true) (λ at mid end. refl))

pub returns-then-is_block : goal.returns-then-is_block
returns-then-is_block c = λ from s stands some.
    c.pass_block-then-is_block.ensures from c.args.bytes.now s stands some
    (block_free c.args.bytes.now c.args.course.at _ (omega (arith, c.requires)) refl (c.is_block.ensures c.if-is_block.true) (c.is_short_kind.ensures (search rules)))

pub returns-then-is_else : goal.returns-then-is_else
returns-then-is_else c = λ from s stands some.
    c.pass_block-then-is_else.ensures from c.args.bytes.now s stands some
    (plain_free c.args.bytes.now c.args.course.at _ outlines.Else (omega (arith, c.requires)) refl (c.is_else.ensures.class c.if-is_else.true) (c.is_else.ensures.outline c.if-is_else.true) (λ at mid end. refl))

pub returns : goal.returns
returns c = λ from s stands some.
    rw c.moved.ensures (passes_plain from c.args.bytes.now s c.args.opens.now c.args.course c.plain_len.result stands some c.plain_len.ensures.free)

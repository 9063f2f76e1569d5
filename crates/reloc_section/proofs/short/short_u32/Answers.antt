use Rattle.std.proofs.Common.{arith}
use Rattle.reloc_section.proofs.ShortNumbers.{in_four}
use Rattle.reloc_section.proofs.short.short_u32.Goals as goal

pub returns-then-bytes-lt128-clause-value : goal.returns-then-bytes-lt128-clause-value
returns-then-bytes-lt128-clause-value c = λ end.
    (in_four end c.args.bytes.now c.requires).one c.seven-one.result c.if-bytes-lt128.true (omega (arith, c.seven-one.ensures))

pub returns-then-bytes-lt128-2-clause-value : goal.returns-then-bytes-lt128-2-clause-value
returns-then-bytes-lt128-2-clause-value c = λ end.
    (in_four end c.args.bytes.now c.requires).two _ c.if-bytes-lt128.false c.if-bytes-lt128-2.true (omega (arith, c.seven-one.ensures, c.seven.ensures))

pub returns-then-bytes-lt128-3-clause-value : goal.returns-then-bytes-lt128-3-clause-value
returns-then-bytes-lt128-3-clause-value c = λ end.
    (in_four end c.args.bytes.now c.requires).three _ c.if-bytes-lt128.false c.if-bytes-lt128-2.false c.if-bytes-lt128-3.true (omega (arith, c.seven-one.ensures, c.seven.ensures, c.seven-2.ensures))

pub returns-then-bytes-lt128-4-clause-value : goal.returns-then-bytes-lt128-4-clause-value
returns-then-bytes-lt128-4-clause-value c = λ end.
    (in_four end c.args.bytes.now c.requires).four _ c.if-bytes-lt128.false c.if-bytes-lt128-2.false c.if-bytes-lt128-3.false c.if-bytes-lt128-4.true
    (omega (arith, c.seven-one.ensures, c.seven.ensures, c.seven-2.ensures, c.seven-3.ensures))

use Rattle.std.proofs.Common.{◌≡◌, ltb, true, false, length, arith}
use Rattle.std.proofs.lemmas.Bool.{lt-ltb, le-ltb}
use Rattle.std.proofs.lemmas.Int.{ints}
use Rattle.leb_codec.specs.Spelling.{last_byte, magnitude}
use Rattle.leb_codec.proofs.Values.{weights, shifted, all_bits}
use Rattle.leb_codec.proofs.reading.with_sign.Goals as goal

pub overflow_cast-result : goal.overflow_cast-result
overflow_cast-result c =
    let w = weights c.args.front.now c.requires.ends c.requires.few in
    let bits : c.args.bits ≡ magnitude c.args.front.now = all_bits _ _ c.requires.few c.requires.is in
    omega (arith, ints)

pub overflow_sub-result : goal.overflow_sub-result
overflow_sub-result c =
    let w = weights c.args.front.now c.requires.ends c.requires.few in
    let bits : c.args.bits ≡ magnitude c.args.front.now = all_bits _ _ c.requires.few c.requires.is in
    omega (arith, shifted (length c.args.front.now) c.requires.few)

pub overflow_cast-result-else-front-lt64 : goal.overflow_cast-result-else-front-lt64
overflow_cast-result-else-front-lt64 c =
    let w = weights c.args.front.now c.requires.ends c.requires.few in
    let bits : c.args.bits ≡ magnitude c.args.front.now = all_bits _ _ c.requires.few c.requires.is in
    omega (arith, ints, shifted (length c.args.front.now) c.requires.few)

pub overflow_sub-result-else-front-lt64 : goal.overflow_sub-result-else-front-lt64
overflow_sub-result-else-front-lt64 c =
    let w = weights c.args.front.now c.requires.ends c.requires.few in
    let bits : c.args.bits ≡ magnitude c.args.front.now = all_bits _ _ c.requires.few c.requires.is in
    omega (arith, ints, shifted (length c.args.front.now) c.requires.few)

pub returns-then-front-lt64 : goal.returns-then-front-lt64
returns-then-front-lt64 c =
    let w = weights c.args.front.now c.requires.ends c.requires.few in
    let bits : c.args.bits ≡ magnitude c.args.front.now = all_bits _ _ c.requires.few c.requires.is in
    let test : ltb (last_byte c.args.front.now) 64 ≡ true = lt-ltb _ _ c.if-front-lt64.true in
    rw test (omega (arith, ints))

pub returns-else-front-lt64 : goal.returns-else-front-lt64
returns-else-front-lt64 c =
    let w = weights c.args.front.now c.requires.ends c.requires.few in
    let bits : c.args.bits ≡ magnitude c.args.front.now = all_bits _ _ c.requires.few c.requires.is in
    let test : ltb (last_byte c.args.front.now) 64 ≡ false = le-ltb _ _ c.if-front-lt64.false in
    rw test (omega (arith, ints, shifted (length c.args.front.now) c.requires.few))

use Rattle.std.proofs.Common.{◌≡◌, ℕ, sym, ◌∙◌, refl, arith, get_or, Ok, Result}
use Rattle.std.proofs.lemmas.Bool.{ltb-true}
use Rattle.leb_codec.specs.declared.form.Form.TheVariants.{U32}
use Rattle.leb_codec.specs.declared.fault.LebFault.{LebFault}
use Rattle.leb_codec.specs.Spelling.{magnitude}
use Rattle.leb_codec.proofs.FiveBytes.{in_five}
use Rattle.leb_codec.proofs.five.u32_in_five.Goals as goal

counted : (n m used : ℕ) (said : Result (ℕ × ℕ) LebFault) → said ≡ Ok (m, used) → n ≡ m → (let r : Result (ℕ × ℕ) LebFault = Ok (n, used) in r ≡ said)
counted n m used said is same = rw (is, same) refl

pub returns-then-bytes-lt128 : goal.returns-then-bytes-lt128
returns-then-bytes-lt128 c =
    let f = in_five magnitude U32 c.args.bytes.now refl c.requires in
    counted _ _ _ _ (f.one c.if-bytes-lt128.true) (omega (arith, c.seven-one.ensures))

pub returns-then-bytes-lt128-2 : goal.returns-then-bytes-lt128-2
returns-then-bytes-lt128-2 c =
    let f = in_five magnitude U32 c.args.bytes.now refl c.requires in
    counted _ _ _ _ (f.two c.if-bytes-lt128.false c.if-bytes-lt128-2.true) (omega (arith, c.seven-one.ensures, c.seven.ensures))

pub returns-then-bytes-lt128-3 : goal.returns-then-bytes-lt128-3
returns-then-bytes-lt128-3 c =
    let f = in_five magnitude U32 c.args.bytes.now refl c.requires in
    counted _ _ _ _ (f.three c.if-bytes-lt128.false c.if-bytes-lt128-2.false c.if-bytes-lt128-3.true) (omega (arith, c.seven-one.ensures, c.seven.ensures, c.seven-2.ensures))

pub returns-then-bytes-lt128-4 : goal.returns-then-bytes-lt128-4
returns-then-bytes-lt128-4 c =
    let f = in_five magnitude U32 c.args.bytes.now refl c.requires in
    counted _ _ _ _ (f.four c.if-bytes-lt128.false c.if-bytes-lt128-2.false c.if-bytes-lt128-3.false c.if-bytes-lt128-4.true) (omega (arith, c.seven-one.ensures, c.seven.ensures, c.seven-2.ensures, c.seven-3.ensures))

pub returns-then-bytes-ge128 : goal.returns-then-bytes-ge128
returns-then-bytes-ge128 c =
    let f = in_five magnitude U32 c.args.bytes.now refl c.requires in
    sym (f.long c.if-bytes-lt128.false c.if-bytes-lt128-2.false c.if-bytes-lt128-3.false c.if-bytes-lt128-4.false c.if-bytes-ge128.true)

pub returns-then-not-allows : goal.returns-then-not-allows
returns-then-not-allows c =
    let f = in_five magnitude U32 c.args.bytes.now refl c.requires in
    sym (f.tail c.if-bytes-lt128.false c.if-bytes-lt128-2.false c.if-bytes-lt128-3.false c.if-bytes-lt128-4.false (omega arith) (sym c.allows.ensures ∙ c.if-not-allows.true))

pub returns : goal.returns
returns c =
    let f = in_five magnitude U32 c.args.bytes.now refl c.requires in
    let may = sym c.allows.ensures ∙ c.if-not-allows.false in
    counted _ _ _ _ (f.five c.if-bytes-lt128.false c.if-bytes-lt128-2.false c.if-bytes-lt128-3.false c.if-bytes-lt128-4.false (omega arith) may)
    (omega (arith, c.seven-one.ensures, c.seven.ensures, c.seven-2.ensures, c.seven-3.ensures, c.from.ensures, ltb-true (get_or c.args.bytes.now 4 0) 16 may))

-- Parts rise.
use Rattle.std.proofs.Common.{◌≡◌, ℕ, ◌*◌, ◌<◌, ◌≤◌, Bool, true, false, cond, refl, ap, arith}
use Rattle.std.specs.Prelude.{nat_lt}
use Rattle.std.proofs.lemmas.Bool.{lt-ltb, le-ltb, ltb-true, ltb-false}
use Rattle.std.proofs.Math.Nat.{mul-le-mul_right}
use Rattle.wl_each.specs.Items.{begin_at}

pub begins_early : (share parts count part : ℕ) → part < parts → begin_at share parts count part ≡ part * share
begins_early share parts count part low = ap (λ (b : Bool). cond b (part * share) count) (lt-ltb part parts low)

pub begins_late : (share parts count part : ℕ) → parts ≤ part → begin_at share parts count part ≡ count
begins_late share parts count part high = ap (λ (b : Bool). cond b (part * share) count) (le-ltb part parts high)

begins_by : (share parts count p q : ℕ) (b c : Bool) → nat_lt p parts ≡ b → nat_lt q parts ≡ c → parts * share ≤ count → p ≤ q → begin_at share parts count p ≤ begin_at share parts count q
begins_by share parts count p q true true e f fits le =
    omega (arith, begins_early share parts count p (ltb-true p parts e), begins_early share parts count q (ltb-true q parts f), mul-le-mul_right {m = p} {n = q} share le)
begins_by share parts count p q true false e f fits le =
    let low = ltb-true p parts e in
    omega (arith, begins_early share parts count p low, begins_late share parts count q (ltb-false q parts f), mul-le-mul_right {m = p} {n = parts} share (omega (arith, low)), fits)
begins_by share parts count p q false true e f fits le =
    let high = ltb-false p parts e in
    let low = ltb-true q parts f in
    absurd (omega (arith, high, low, le))
begins_by share parts count p q false false e f fits le =
    omega (arith, begins_late share parts count p (ltb-false p parts e), begins_late share parts count q (ltb-false q parts f))

pub begins_rise : (share parts count p q : ℕ) → parts * share ≤ count → p ≤ q → begin_at share parts count p ≤ begin_at share parts count q
begins_rise share parts count p q fits le = begins_by share parts count p q (nat_lt p parts) (nat_lt q parts) refl refl fits le

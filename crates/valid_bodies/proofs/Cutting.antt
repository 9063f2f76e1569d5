-- A stack that is cut at a height, and its newest item.
use Rattle.std.proofs.Common.{◌≡◌, ℕ, suc, ◌-◌, ◌<◌, ◌≤◌, List, ◌∷◌, length, take, drop, sym, ap, ◌∙◌, arith}
use Rattle.std.proofs.lemmas.List.{length-take-le}
use Rattle.valid_rules.specs.declared.types.Operand.{Operand}
use Rattle.valid_bodies.specs.Layer.{Layer, above, under, layer}

suc_minus : (n h : ℕ) → h ≤ n → suc n - h ≡ suc (n - h)
suc_minus n h le = omega arith

pub one_more : (h : ℕ) (v : Operand) (vs : List Operand) → h ≤ length vs → layer h (v ∷ vs) ≡ record { own = v ∷ above h vs; below = under h vs }
one_more h v vs le = ap (λ k. record { own = take k (v ∷ vs); below = drop k (v ∷ vs) }) (suc_minus (length vs) h le)

-- Where there are some above the height, one less is no lower than it.
pub less : (h : ℕ) (v : Operand) (vs rest : List Operand) → vs ≡ v ∷ rest → h ≤ length vs → 0 < length (above h vs) → h ≤ length rest
less h v vs rest is le some =
    let n = length-take-le (length vs - h) vs (omega arith) in
    let l = ap (λ (l : List Operand). length l) is in
    omega (arith, n, l, some)

pub popped : (h : ℕ) (v : Operand) (vs rest : List Operand) (shown : Layer) → layer h vs ≡ shown → vs ≡ v ∷ rest → h ≤ length vs → 0 < length shown.own → shown ≡ record { own = v ∷ above h rest; below = under h rest }
popped h v vs rest shown is e le some =
    let n = ap (λ (l : Layer). length l.own) is in
    sym is ∙ ap (layer h) e ∙ one_more h v rest (less h v vs rest e le (omega (arith, n, some)))

-- Jobs that are divided among workers.
use Rattle.std.proofs.Common.{◌≡◌, ℕ, zero, suc, ◌+◌, ◌-◌, ◌<◌, ◌≤◌, List, [], ◌∷◌, ◌++◌, length, get_or, refl, sym, ap, subst, ◌∙◌, arith, length-append, Option}
use Rattle.std.proofs.Math.ListN.{get_or-eq_default}
use Rattle.std.specs.Prelude.{slice_get, unwrap_or}
use Rattle.std.proofs.lemmas.Option.{unwrap_or-slice_get}
use Rattle.wl_rows.specs.Ranges.{first_at, Rising, AreRanges}

-- what is found at a place, or a default
pub read : (xs : List ℕ) (i d : ℕ) (o : Option ℕ) → o ≡ slice_get xs i → get_or xs i d ≡ unwrap_or o d
read xs i d o is = sym (unwrap_or-slice_get xs i d) ∙ ap (λ (o : Option ℕ). unwrap_or o d) (sym is)

-- the first worker, and those behind it
pub first_none : (cuts : List ℕ) (count worker : ℕ) → worker ≡ 0 → 0 ≡ first_at cuts count worker
first_none cuts count worker is = sym (ap (first_at cuts count) is)

pub first_behind : (cuts : List ℕ) (count worker : ℕ) → 0 < worker → get_or cuts (worker - 1) count ≡ first_at cuts count worker
first_behind cuts count zero some = absurd (omega (arith, some))
first_behind cuts count (suc n) some = let e : suc n - 1 ≡ n = omega arith in ap (λ (k : ℕ). get_or cuts k count) e

-- an end that isn't earlier
read_later : (cs : List ℕ) (a b : ℕ) → a ≤ b → (p : ℕ) → get_or cs p a ≤ get_or cs p b
read_later [] a b low p = low
read_later (c ∷ cs) a b low zero = omega arith
read_later (c ∷ cs) a b low (suc p) = read_later cs a b low p

rises_later : (cs : List ℕ) (a b : ℕ) → a ≤ b → ((p q : ℕ) → p ≤ q → get_or cs p a ≤ get_or cs q a) → (p q : ℕ) → p ≤ q → get_or cs p b ≤ get_or cs q b
rises_later [] a b low rising p q le = omega arith
rises_later (c ∷ cs) a b low rising zero zero le = omega arith
rises_later (c ∷ cs) a b low rising zero (suc q) le =
    let up : c ≤ get_or cs q a = rising zero (suc q) le in
    let more = read_later cs a b low q in
    omega (arith, up, more)
rises_later (c ∷ cs) a b low rising (suc p) zero le = absurd (omega (arith, le))
rises_later (c ∷ cs) a b low rising (suc p) (suc q) le = rises_later cs a b low (λ p q le. rising (suc p) (suc q) (omega (arith, le))) p q (omega (arith, le))

pub ends_later : (most : ℕ) (cuts : List ℕ) (a b : ℕ) → a ≤ b → AreRanges most cuts a → AreRanges most cuts b
ends_later most cuts a b low are = record { rising = rises_later (0 ∷ cuts) a b low are.rising; few = are.few }

-- a cut where the end was
read_same : (cs : List ℕ) (a : ℕ) (p : ℕ) → get_or (cs ++ a ∷ []) p a ≡ get_or cs p a
read_same [] a zero = refl
read_same [] a (suc p) = refl
read_same (c ∷ cs) a zero = refl
read_same (c ∷ cs) a (suc p) = read_same cs a p

pub cut_more : (most : ℕ) (cuts new : List ℕ) (at : ℕ) → new ≡ cuts ++ at ∷ [] → length cuts < most → AreRanges most cuts at → AreRanges most new at
cut_more most cuts new at is low are = subst (λ cs. AreRanges most cs at) (sym is) (record {
  rising = λ p q le.
      subst (λ (c : ℕ). c ≤ get_or (0 ∷ (cuts ++ at ∷ [])) q at) (sym (read_same (0 ∷ cuts) at p))
      (subst (λ (c : ℕ). get_or (0 ∷ cuts) p at ≤ c) (sym (read_same (0 ∷ cuts) at q)) (are.rising p q le));
  few = omega (arith, length-append cuts (at ∷ []), low);
})

-- no cut, and no job
read_start : (p : ℕ) → ◌≡◌ {A = ℕ} (get_or (0 ∷ []) p 0) 0
read_start zero = refl
read_start (suc p) = refl

pub none_cut : (most : ℕ) → AreRanges most [] 0
none_cut most = record { rising = λ p q le. omega (arith, read_start p, read_start q); few = omega arith }

pub few_more : (most more : ℕ) (cuts : List ℕ) (count : ℕ) → most ≤ more → AreRanges most cuts count → AreRanges more cuts count
few_more most more cuts count le are = record { rising = are.rising; few = omega (arith, le, are.few) }

-- no worker begins behind the end, which is where the worker behind the last one would begin
pub first_past : (cuts : List ℕ) (count : ℕ) → first_at cuts count (length cuts + 1) ≡ count
first_past cuts count = get_or-eq_default (0 ∷ cuts) count {n = length cuts + 1} (omega arith)

pub first_low : (cuts : List ℕ) (count : ℕ) → Rising cuts count → (p : ℕ) → first_at cuts count p ≤ count
first_low cuts count rising p =
    let q : ℕ = p + length cuts + 1 in
    let past : get_or (0 ∷ cuts) q count ≡ count = get_or-eq_default (0 ∷ cuts) count {n = q} (omega arith) in
    subst (λ (c : ℕ). first_at cuts count p ≤ c) past (rising p q (omega arith))

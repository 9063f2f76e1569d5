-- Lists without repeats, side by side: keys of different sorts are never the same.
use Rattle.std.proofs.Common.{◌≡◌, ℕ, ◌+◌, ◌<◌, ◌≤◌, List, ◌++◌, Some, Bool, true, sym, ap, ◌∙◌, ⊎_elim, arith}
use Rattle.std.specs.Prelude.{◌==◌, ◌&&◌, not}
use Rattle.std.proofs.lemmas.Bool.{and_parts, and_from, eqb-true, eq-eqb}
use Rattle.list_places.specs.Has.{Has, Apart, Same}
use Rattle.list_places.proofs.Lists.{has_either, turned, apart_append, apart_place, given_some}
use Rattle.wl_base.specs.Choice.{given}
use Rattle.link_rules.specs.Program.{Part}
use Rattle.link_worlds.specs.Sound.{same_part}
use Rattle.key_laws.specs.Differ.{Differ}

pub differ : {X : Type 0} (same : X → X → Bool) → Same same → (keys : List X) → Apart same keys → Differ same keys
differ same s keys a i j x y h k e = apart_place same (turned same s) keys a i j x y h k e

module _ {X : Type 0} (same : X → X → Bool) (sort : X → ℕ) (one : (x y : X) → same x y ≡ true → sort x ≡ sort y) where
  -- No two are the same, and all sorts lie between these.
  pub record Stretch (low high : ℕ) (xs : List X) : Type 0 where
    pub apart : Apart same xs
    pub between : (x : X) → Has xs x → (low ≤ sort x) × (sort x < high)

  pub one_sort : (n : ℕ) (xs : List X) → Apart same xs → ((x : X) → Has xs x → sort x ≡ n) → Stretch n (n + 1) xs
  one_sort n xs a f = record { apart = a; between = λ x h. let e = f x h in (omega (arith, e), omega (arith, e)) }

  pub beside : (low mid high : ℕ) (xs ys : List X) → low ≤ mid → mid ≤ high → Stretch low mid xs → Stretch mid high ys → Stretch low high (xs ++ ys)
  beside low mid high xs ys l m s t = record {
    apart = apart_append same xs ys s.apart t.apart (λ x y h k e. let z = one x y e in let a = (s.between x h).1 in let b = (t.between y k).0 in omega (arith, z, a, b));
    between = λ x h.
        ⊎_elim (λ k. let a = s.between x k in (a.0, omega (arith, a.1, m))) (λ k. let b = t.between x k in (omega (arith, l, b.0), b.1)) (has_either xs ys x h);
  }

-- ---- the keys of parts

module _ {K : Type 0} (same : K → K → Bool) (kind : ℕ) where
  -- of the linker's parts
  pub made_pick : (f : ℕ → K) → ((i j : ℕ) → same (f i) (f j) ≡ true → (i == j) ≡ true) → (a b : Part) (u v : K)
      → given ((a.chunk.input == 0) && (a.chunk.kind == kind)) (f a.chunk.index) ≡ Some u → given ((b.chunk.input == 0) && (b.chunk.kind == kind)) (f b.chunk.index) ≡ Some v
      → same u v ≡ true → same_part a b ≡ true
  made_pick f t a b u v h k e =
      let r = given_some ((a.chunk.input == 0) && (a.chunk.kind == kind)) (f a.chunk.index) u h in
      let s = given_some ((b.chunk.input == 0) && (b.chunk.kind == kind)) (f b.chunk.index) v k in
      let ra = and_parts (a.chunk.input == 0) (a.chunk.kind == kind) r.0 in
      let sb = and_parts (b.chunk.input == 0) (b.chunk.kind == kind) s.0 in
      let i : a.chunk.input ≡ b.chunk.input = eqb-true a.chunk.input 0 ra.0 ∙ sym (eqb-true b.chunk.input 0 sb.0) in
      let j : a.chunk.kind ≡ b.chunk.kind = eqb-true a.chunk.kind kind ra.1 ∙ sym (eqb-true b.chunk.kind kind sb.1) in
      let q = t a.chunk.index b.chunk.index (ap (λ x. same x (f b.chunk.index)) r.1 ∙ ap (same u) s.1 ∙ e) in
      and_from ((a.chunk.input == b.chunk.input) && (a.chunk.kind == b.chunk.kind)) (a.chunk.index == b.chunk.index)
      (and_from (a.chunk.input == b.chunk.input) (a.chunk.kind == b.chunk.kind) (eq-eqb a.chunk.input b.chunk.input i) (eq-eqb a.chunk.kind b.chunk.kind j)) q

  -- of objects' parts
  pub own_pick : (f : ℕ → ℕ → K) → ((i x j y : ℕ) → same (f i x) (f j y) ≡ true → ((i == j) && (x == y)) ≡ true) → (a b : Part) (u v : K)
      → given (not (a.chunk.input == 0) && (a.chunk.kind == kind)) (f a.chunk.input a.chunk.index) ≡ Some u → given (not (b.chunk.input == 0) && (b.chunk.kind == kind)) (f b.chunk.input b.chunk.index) ≡ Some v
      → same u v ≡ true → same_part a b ≡ true
  own_pick f t a b u v h k e =
      let r = given_some (not (a.chunk.input == 0) && (a.chunk.kind == kind)) (f a.chunk.input a.chunk.index) u h in
      let s = given_some (not (b.chunk.input == 0) && (b.chunk.kind == kind)) (f b.chunk.input b.chunk.index) v k in
      let ra = and_parts (not (a.chunk.input == 0)) (a.chunk.kind == kind) r.0 in
      let sb = and_parts (not (b.chunk.input == 0)) (b.chunk.kind == kind) s.0 in
      let j : a.chunk.kind ≡ b.chunk.kind = eqb-true a.chunk.kind kind ra.1 ∙ sym (eqb-true b.chunk.kind kind sb.1) in
      let m = t a.chunk.input a.chunk.index b.chunk.input b.chunk.index (ap (λ x. same x (f b.chunk.input b.chunk.index)) r.1 ∙ ap (same u) s.1 ∙ e) in
      let q = and_parts (a.chunk.input == b.chunk.input) (a.chunk.index == b.chunk.index) m in
      and_from ((a.chunk.input == b.chunk.input) && (a.chunk.kind == b.chunk.kind)) (a.chunk.index == b.chunk.index)
      (and_from (a.chunk.input == b.chunk.input) (a.chunk.kind == b.chunk.kind) q.0 (eq-eqb a.chunk.kind b.chunk.kind j)) q.1

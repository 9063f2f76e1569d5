-- The search finds exactly what walks from the roots reach.
use Rattle.std.proofs.Common.{◌≡◌, ℕ, zero, suc, ◌+◌, ◌<◌, ◌≤◌, Bool, true, false, cond, List, [], ◌∷◌, ◌++◌, length, refl, ap, sym, subst, arith, ◌⊎◌, inl, inr, slice_index_or}
use Rattle.std.proofs.Common.{◌∙◌, length-append}
use Rattle.std.proofs.lemmas.Bool.{cases_lt, cases_eq, eq-eqb, ne_eqb, lt-ltb, ltb-true}
use Rattle.std.proofs.Math.Dec.{ltb}
use Rattle.mark_bits.specs.Words.{times, Among}
use Rattle.mark_bits.specs.Reach.{IsWalk, Reached}
use Rattle.live_mark.specs.Live.{is_among, targets_of, looked, search_for, unseen_from, reached, ReachedLaw}

-- Members

times_append : (x : ℕ) (xs ys : List ℕ) → times x (xs ++ ys) ≡ times x xs + times x ys
times_append x [] ys = omega arith
times_append x (a ∷ xs) ys = let e : times x (xs ++ ys) ≡ times x xs + times x ys = times_append x xs ys in omega (arith, e)

among_left : (x : ℕ) (xs ys : List ℕ) → Among x xs → Among x (xs ++ ys)
among_left x xs ys h = let e : times x (xs ++ ys) ≡ times x xs + times x ys = times_append x xs ys in omega (arith, e, h)

among_right : (x : ℕ) (xs ys : List ℕ) → Among x ys → Among x (xs ++ ys)
among_right x xs ys h = let e : times x (xs ++ ys) ≡ times x xs + times x ys = times_append x xs ys in omega (arith, e, h)

among_head : (x : ℕ) (xs : List ℕ) → Among x (x ∷ xs)
among_head x xs = subst (λ b. 0 < cond b 1 0 + times x xs) (sym (eq-eqb x x refl)) (omega arith)

among_tail : (x a : ℕ) (xs : List ℕ) → Among x xs → Among x (a ∷ xs)
among_tail x a xs h = omega (arith, h)

not_head : (x a : ℕ) (xs : List ℕ) → (a ≡ x → ⊥) → times x (a ∷ xs) ≡ times x xs
not_head x a xs ne = subst (λ b. cond b 1 0 + times x xs ≡ times x xs) (sym (ne_eqb a x ne)) (omega arith)

among_cons : (x a : ℕ) (xs : List ℕ) → Among x (a ∷ xs) → (a ≡ x) ⊎ Among x xs
among_cons x a xs h = elim (cases_eq a x) as (λ _. (a ≡ x) ⊎ Among x xs) [ inl e ↦ inl e | inr ne ↦ inr (subst (λ n. 0 < n) (not_head x a xs ne) h) ]

among_append : (x : ℕ) (xs ys : List ℕ) → Among x (xs ++ ys) → Among x xs ⊎ Among x ys
among_append x xs ys h =
    let e : times x (xs ++ ys) ≡ times x xs + times x ys = times_append x xs ys in
    elim (cases_lt 0 (times x xs)) as (λ _. Among x xs ⊎ Among x ys) [ inl k ↦ inl k | inr k ↦ inr (omega (arith, e, h, k)) ]

-- What is found is reached

module _ (targets : List (List ℕ)) (P : ℕ → Type 0) (closed : (c d : ℕ) → P c → Among d (targets_of targets c) → P d) where
  Holds : List ℕ → Type 0
  Holds xs = (c : ℕ) → Among c xs → P c

  sound_looked : (again : List ℕ → List ℕ → List ℕ) → ((s w : List ℕ) → Holds s → Holds w → Holds (again s w)) →
      (seen : List ℕ) (a : ℕ) (work : List ℕ) (b : Bool) → Holds seen → Holds (a ∷ work) → Holds (looked again targets seen a work b)
  unfolding Holds
  sound_looked again ih seen a work true s w = ih seen work s (λ c h. w c (among_tail c a work h))
  sound_looked again ih seen a work false s w = ih (a ∷ seen) (targets_of targets a ++ work)
      (λ c h. elim (among_cons c a seen h) as (λ _. P c) [ inl e ↦ subst P e (w a (among_head a work)) | inr k ↦ s c k ])
      (λ c h. elim (among_append c (targets_of targets a) work h) as (λ _. P c) [ inl k ↦ closed a c (w a (among_head a work)) k | inr k ↦ w c (among_tail c a work k) ])

  sound : (n : ℕ) (seen work : List ℕ) → Holds seen → Holds work → Holds (search_for targets n seen work)
  unfolding Holds
  sound zero seen work s w = s
  sound (suc n) seen [] s w = s
  sound (suc n) seen (a ∷ work) s w = sound_looked (search_for targets n) (sound n) seen a work (is_among seen a) s w

walk_more : (targets : List (List ℕ)) (a : ℕ) (walk : List ℕ) (c d : ℕ) → IsWalk targets a walk c → Among d (targets_of targets c) → IsWalk targets a (walk ++ d ∷ []) d
walk_more targets a [] c d e h = (subst (λ x. Among d (targets_of targets x)) (sym e) h, refl)
walk_more targets a (b ∷ bs) c d w h = (w.0, walk_more targets b bs c d w.1 h)

reached_more : (targets : List (List ℕ)) (roots : List ℕ) (c d : ℕ) → Reached targets roots c → Among d (targets_of targets c) → Reached targets roots d
reached_more targets roots c d r h = (r.0, r.1, r.2 ++ d ∷ [], walk_more targets r.0 r.2 c d r.3 h)

-- What is reached is found

pub record Whole (targets : List (List ℕ)) (s w r : List ℕ) : Type 0 where
  pub of_seen : (c : ℕ) → Among c s → Among c r
  pub of_work : (c : ℕ) → Among c w → Among c r
  pub is_closed : (c d : ℕ) → Among c r → Among d (targets_of targets c) → Among d r

first_dropped : (b c : Bool) (n x y : ℕ) → b ≡ false → c ≡ true → x ≡ y → cond b 0 n + y ≡ n + (cond c 0 n + x)
first_dropped b c n x y p q e = rw (p, q, e) (omega arith)

later_dropped : (u v x n y : ℕ) → v ≡ u → x ≡ n + y → u + x ≡ n + (v + y)
later_dropped u v x n y e f = omega (arith, e, f)

module _ (targets : List (List ℕ)) where
  Closed : List ℕ → List ℕ → Type 0
  Closed seen work = (c d : ℕ) → Among c seen → Among d (targets_of targets c) → Among d seen ⊎ Among d work

  same_from : (seen : List ℕ) (a at : ℕ) (tss : List (List ℕ)) → a < at → unseen_from at (a ∷ seen) tss ≡ unseen_from at seen tss
  same_from seen a at [] h = refl
  same_from seen a at (ts ∷ tss) h =
      let e : times at (a ∷ seen) ≡ times at seen = not_head at a seen (λ p. omega (arith, h, p)) in
      let f : unseen_from (at + 1) (a ∷ seen) tss ≡ unseen_from (at + 1) seen tss = same_from seen a (at + 1) tss (omega (arith, h)) in
      ap (λ n. cond (ltb 0 n) 0 (length ts) + unseen_from (at + 1) (a ∷ seen) tss) e ∙ ap (λ n. cond (ltb 0 (times at seen)) 0 (length ts) + n) f

  dropped : (seen : List ℕ) (k at a : ℕ) (tss : List (List ℕ)) → a ≡ at + k → is_among seen a ≡ false →
      unseen_from at seen tss ≡ length (slice_index_or tss k []) + unseen_from at (a ∷ seen) tss
  dropped seen k at a [] p h = refl
  dropped seen zero at a (ts ∷ tss) p h =
      let q : a ≡ at = omega (arith, p) in
      let g : is_among seen at ≡ false = subst (λ n. is_among seen n ≡ false) q h in
      let f : unseen_from (at + 1) (a ∷ seen) tss ≡ unseen_from (at + 1) seen tss = same_from seen a (at + 1) tss (omega (arith, q)) in
      let i : is_among (a ∷ seen) at ≡ true = lt-ltb 0 (times at (a ∷ seen)) (subst (λ n. Among at (n ∷ seen)) (sym q) (among_head at seen)) in
      first_dropped (is_among seen at) (is_among (a ∷ seen) at) (length ts) _ _ g i f
  dropped seen (suc k) at a (ts ∷ tss) p h =
      let e : times at (a ∷ seen) ≡ times at seen = not_head at a seen (λ q. omega (arith, p, q)) in
      let f : unseen_from (at + 1) seen tss ≡ length (slice_index_or tss k []) + unseen_from (at + 1) (a ∷ seen) tss = dropped seen k (at + 1) a tss (omega (arith, p)) h in
      later_dropped (cond (is_among seen at) 0 (length ts)) (cond (is_among (a ∷ seen) at) 0 (length ts)) _ _ _ (ap (λ n. cond (ltb 0 n) 0 (length ts)) e) f

  whole_looked : (again : List ℕ → List ℕ → List ℕ) (n : ℕ) →
      ((s w : List ℕ) → length w + unseen_from 0 s targets ≤ n → Closed s w → Whole targets s w (again s w)) →
      (seen : List ℕ) (a : ℕ) (work : List ℕ) (b : Bool) → is_among seen a ≡ b → length (a ∷ work) + unseen_from 0 seen targets ≤ suc n →
      Closed seen (a ∷ work) → Whole targets seen (a ∷ work) (looked again targets seen a work b)
  unfolding Closed
  whole_looked again n ih seen a work true e m cl =
      let here : Among a seen = ltb-true 0 (times a seen) e in
      let w : Whole targets seen work (again seen work) = ih seen work (omega (arith, m)) (λ c d h t.
      elim (cl c d h t) as (λ _. Among d seen ⊎ Among d work) [
        | inl k ↦ inl k
        | inr k ↦ elim (among_cons d a work k) as (λ _. Among d seen ⊎ Among d work) [ inl p ↦ inl (subst (λ x. Among x seen) p here) | inr j ↦ inr j ]
      ]) in
      record {
        of_seen = w.of_seen;
        of_work = λ c h. elim (among_cons c a work h) as (λ _. Among c (again seen work)) [ inl p ↦ w.of_seen c (subst (λ x. Among x seen) p here) | inr k ↦ w.of_work c k ];
        is_closed = w.is_closed;
      }
  whole_looked again n ih seen a work false e m cl =
      let d : unseen_from 0 seen targets ≡ length (targets_of targets a) + unseen_from 0 (a ∷ seen) targets = dropped seen a 0 a targets (omega arith) e in
      let l : length (targets_of targets a ++ work) ≡ length (targets_of targets a) + length work = length-append (targets_of targets a) work in
      let w : Whole targets (a ∷ seen) (targets_of targets a ++ work) (again (a ∷ seen) (targets_of targets a ++ work)) =
      ih (a ∷ seen) (targets_of targets a ++ work) (omega (arith, m, d, l)) (λ c x h t.
      elim (among_cons c a seen h) as (λ _. Among x (a ∷ seen) ⊎ Among x (targets_of targets a ++ work)) [
        | inl p ↦ inr (among_left x (targets_of targets a) work (subst (λ y. Among x (targets_of targets y)) (sym p) t))
        | inr k ↦ elim (cl c x k t) as (λ _. Among x (a ∷ seen) ⊎ Among x (targets_of targets a ++ work)) [
          | inl j ↦ inl (among_tail x a seen j)
          | inr j ↦ elim (among_cons x a work j) as (λ _. Among x (a ∷ seen) ⊎ Among x (targets_of targets a ++ work)) [
            | inl p ↦ inl (subst (λ y. Among y (a ∷ seen)) p (among_head a seen))
            | inr i ↦ inr (among_right x (targets_of targets a) work i)
          ]
        ]
      ]) in
      record {
        of_seen = λ c h. w.of_seen c (among_tail c a seen h);
        of_work = λ c h. elim (among_cons c a work h) as (λ _. Among c (again (a ∷ seen) (targets_of targets a ++ work))) [
          | inl p ↦ w.of_seen c (subst (λ y. Among y (a ∷ seen)) p (among_head a seen))
          | inr k ↦ w.of_work c (among_right c (targets_of targets a) work k)
        ];
        is_closed = w.is_closed;
      }

  finished : (seen : List ℕ) → Closed seen [] → Whole targets seen [] seen
  unfolding Closed
  finished seen cl = record {
    of_seen = λ c h. h;
    of_work = λ c h. absurd (omega (arith, h));
    is_closed = λ c d h t. elim (cl c d h t) as (λ _. Among d seen) [ inl k ↦ k | inr k ↦ absurd (omega (arith, k)) ];
  }

  whole : (n : ℕ) (seen work : List ℕ) → length work + unseen_from 0 seen targets ≤ n → Closed seen work → Whole targets seen work (search_for targets n seen work)
  whole zero seen [] m cl = finished seen cl
  whole zero seen (a ∷ work) m cl = absurd (omega (arith, m))
  whole (suc n) seen [] m cl = finished seen cl
  whole (suc n) seen (a ∷ work) m cl = whole_looked (search_for targets n) n (whole n) seen a work (is_among seen a) refl m cl

walk_found : (targets : List (List ℕ)) (r : List ℕ) → ((c d : ℕ) → Among c r → Among d (targets_of targets c) → Among d r) → (a : ℕ) (walk : List ℕ) (c : ℕ) → Among a r → IsWalk targets a walk c → Among c r
walk_found targets r cl a [] c h e = subst (λ x. Among x r) e h
walk_found targets r cl a (b ∷ bs) c h w = walk_found targets r cl b bs c (cl a b h w.0) w.1

none_among : (c : ℕ) → Among c [] → ⊥
none_among c h = omega (arith, h)

root_reached : (targets : List (List ℕ)) (roots : List ℕ) (c : ℕ) → Among c roots → Reached targets roots c
root_reached targets roots c h = (c, h, [], refl)

found_all : (targets : List (List ℕ)) (roots : List ℕ) → Whole targets [] roots (reached targets roots)
unfolding reached Closed
found_all targets roots = whole targets (length roots + unseen_from 0 [] targets) [] roots (omega arith) (λ c d h t. absurd (none_among c h))

found_sound : (targets : List (List ℕ)) (roots : List ℕ) (c : ℕ) → Among c (reached targets roots) → Reached targets roots c
unfolding reached Holds
found_sound targets roots = sound targets (Reached targets roots) (reached_more targets roots) (length roots + unseen_from 0 [] targets) [] roots (λ c h. absurd (none_among c h)) (root_reached targets roots)

pub reached_law : ReachedLaw
reached_law targets roots chunk = (found_sound targets roots chunk, λ r. let w : Whole targets [] roots (reached targets roots) = found_all targets roots in walk_found targets (reached targets roots) w.is_closed r.0 r.2 chunk (w.of_work r.0 r.1) r.3)

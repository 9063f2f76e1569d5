-- Rounds of marks against walks.
use Rattle.std.proofs.Common.{◌≡◌, ◌≢◌, ◌⊎◌, inl, inr, ⊎_elim, ℕ, zero, suc, ◌+◌, ◌-◌, ◌/◌, ◌%◌, ◌^◌, ◌<◌, ◌≤◌, min, max, Bool, cond, eqb, List, [], ◌∷◌, ◌++◌, length, get_or, refl, sym, ap, ◌∙◌, subst, arith, eq-eqb, ne_eqb, length-append, length-set}
use Rattle.std.proofs.lemmas.List.{length-replicate}
use Rattle.std.specs.Int.Bits.{bit_or}
use mathlib.Core.Logic.{dite}
use native.Mathlib.Decide.{dec_lt, ℕ_discrete}
use Rattle.mark_bits.specs.Words.{times, Among, word_count, bit_of, set_bit}
use Rattle.mark_bits.specs.Marks.{Marks, Event, mark, split, join, after, end, opening_marks, AllFit}
use Rattle.mark_bits.specs.Reach.{IsWalk, Reached}
use Rattle.mark_bits.specs.Rounds.{marked_of, firsts_of, targets_of, run_end, run_firsts, IsRound, IsRunFrom, IsRun, Outcome}
use Rattle.mark_bits.proofs.Lists.{times_append, one_here, none_here, bit_low, bit_step}
use Rattle.mark_bits.proofs.Keeps.{clear_bit, word_inside}

-- how often x stands among the chunks that one mark of c first marked, which found b
answer : (b x c : ℕ) → b ≤ 1 → (x ≡ c → times x (cond (eqb b 0) (c ∷ []) []) ≡ 1 - b) × (x ≢ c → times x (cond (eqb b 0) (c ∷ []) []) ≡ 0) × (length (cond (eqb b 0) (c ∷ []) []) ≡ 1 - b)
answer b x c l = let R : List ℕ → Type 0 = λ f. (x ≡ c → times x f ≡ 1 - b) × (x ≢ c → times x f ≡ 0) × (length f ≡ 1 - b) in dite (ℕ_discrete b 0)
    (λ z. subst R (sym (ap (λ (t : Bool). cond t (c ∷ []) []) (eq-eqb b 0 z))) (
      (λ e. let one : times x (c ∷ []) ≡ 1 = subst (λ (y : ℕ). times y (c ∷ []) ≡ 1) (sym e) (one_here c) in omega arith),
      (λ ne. none_here x c (λ q. ne (sym q))),
      omega arith,
    ))
    (λ n. subst R (sym (ap (λ (t : Bool). cond t (c ∷ []) []) (ne_eqb b 0 n))) ((λ e. omega arith), (λ ne. refl), omega arith))

module _ (chunks : ℕ) where
  abbrev pub Long : Marks → Type 0
  Long r = length r.words ≡ word_count chunks

  long_mark : (r : Marks) (p c : ℕ) → Long r → Long (after r (mark p c))
  long_mark r p c l = length-set r.words (c / 64) (bit_or (get_or r.words (c / 64) 0) (2 ^ (c % 64))) ∙ l

  pub long_end : (r : Marks) (es : List Event) → Long r → Long (end r es)
  long_end r [] l = l
  long_end r (mark p c ∷ es) l = long_end (after r (mark p c)) es (long_mark r p c l)
  long_end r (split p w ∷ es) l = long_end (after r (split p w)) es l
  long_end r (join p q ∷ es) l = long_end (after r (join p q)) es l

  -- a bit is set at the end where it was or where its chunk was marked
  pub bits_marked : (r : Marks) (es : List Event) (x : ℕ) → Long r → AllFit chunks r es → bit_of (end r es).words x ≡ max (bit_of r.words x) (min 1 (times x (marked_of es)))
  bits_marked r [] x l f = let low = bit_low r.words x in omega arith
  bits_marked r (mark p c ∷ es) x l f =
      let w = word_inside chunks c f.0.1 in let h = bits_marked (after r (mark p c)) es x (long_mark r p c l) f.1 in let s = bit_step r.words c (let e : length r.words ≡ word_count chunks = l in omega arith) x in
      let low = bit_low r.words x in dite (ℕ_discrete x c)
      (λ e. let one : times x (c ∷ []) ≡ 1 = subst (λ (y : ℕ). times y (c ∷ []) ≡ 1) (sym e) (one_here c) in omega arith)
      (λ ne. let none = none_here x c (λ q. ne (sym q)) in omega arith)
  bits_marked r (split p w ∷ es) x l f = bits_marked (after r (split p w)) es x l f.1
  bits_marked r (join p q ∷ es) x l f = bits_marked (after r (join p q)) es x l f.1

  -- a bit says whether it was set before, and how often its chunk's mark answered true since
  pub bits_first : (r : Marks) (es : List Event) (x : ℕ) → Long r → AllFit chunks r es → bit_of (end r es).words x ≡ bit_of r.words x + times x (firsts_of r es)
  bits_first r [] x l f = omega arith
  bits_first r (mark p c ∷ es) x l f =
      let w = word_inside chunks c f.0.1 in let h = bits_first (after r (mark p c)) es x (long_mark r p c l) f.1 in let s = bit_step r.words c (let e : length r.words ≡ word_count chunks = l in omega arith) x in
      let b : ℕ = bit_of r.words c in let front : List ℕ = cond (eqb b 0) (c ∷ []) [] in let back : List ℕ = firsts_of (after r (mark p c)) es in
      let low = bit_low r.words x in let a = answer b x c (bit_low r.words c) in let t = times_append x front back in dite (ℕ_discrete x c)
      (λ e. let one : times x (c ∷ []) ≡ 1 = subst (λ (y : ℕ). times y (c ∷ []) ≡ 1) (sym e) (one_here c) in let same : bit_of r.words x ≡ b = ap (bit_of r.words) e in let u = a.0 e in omega arith)
      (λ ne. let none = none_here x c (λ q. ne (sym q)) in let u = a.1 ne in omega arith)
  bits_first r (split p w ∷ es) x l f = bits_first (after r (split p w)) es x l f.1
  bits_first r (join p q ∷ es) x l f = bits_first (after r (join p q)) es x l f.1

  -- how many of the first n bits are clear
  abbrev pub clear : ℕ → List ℕ → ℕ
  clear zero words = 0
  clear (suc n) words = clear n words + (1 - bit_of words n)

  clear_most : (n : ℕ) (words : List ℕ) → clear n words ≤ n
  clear_most zero words = omega arith
  clear_most (suc n) words = let h = clear_most n words in omega arith

  clear_past : (n : ℕ) (words : List ℕ) (c : ℕ) → c / 64 < length words → n ≤ c → clear n (set_bit words c) ≡ clear n words
  clear_past zero words c inside past = refl
  clear_past (suc n) words c inside past = let h = clear_past n words c inside (omega arith) in let s = bit_step words c inside n in let ne : c ≢ n = omega arith in let none = none_here n c ne in let low = bit_low words n in omega arith

  clear_step : (n : ℕ) (words : List ℕ) (c : ℕ) → c / 64 < length words → c < n → clear n (set_bit words c) + (1 - bit_of words c) ≡ clear n words
  clear_step zero words c inside below = absurd (omega arith)
  clear_step (suc n) words c inside below = let s = bit_step words c inside n in let low = bit_low words n in dite (ℕ_discrete c n)
      (λ e. let h = clear_past n words c inside (omega arith) in let one : times n (c ∷ []) ≡ 1 = subst (λ (y : ℕ). times y (c ∷ []) ≡ 1) e (one_here c) in let same : bit_of words n ≡ bit_of words c = ap (bit_of words) (sym e) in omega arith)
      (λ ne. let h = clear_step n words c inside (omega arith) in let none = none_here n c ne in omega arith)

  pub clear_round : (r : Marks) (es : List Event) → Long r → AllFit chunks r es → clear chunks (end r es).words + length (firsts_of r es) ≡ clear chunks r.words
  clear_round r [] l f = omega arith
  clear_round r (mark p c ∷ es) l f =
      let w = word_inside chunks c f.0.1 in let h = clear_round (after r (mark p c)) es (long_mark r p c l) f.1 in let s = clear_step chunks r.words c (let e : length r.words ≡ word_count chunks = l in omega arith) f.0.1 in
      let b : ℕ = bit_of r.words c in let front : List ℕ = cond (eqb b 0) (c ∷ []) [] in let back : List ℕ = firsts_of (after r (mark p c)) es in
      let low = bit_low r.words c in let a = (answer b c c low).2 in let t = length-append front back in omega arith
  clear_round r (split p w ∷ es) l f = clear_round (after r (split p w)) es l f.1
  clear_round r (join p q ∷ es) l f = clear_round (after r (join p q)) es l f.1

  some_long : (xs : List ℕ) → xs ≢ [] → 0 < length xs
  some_long [] ne = absurd (ne refl)
  some_long (x ∷ xs) ne = omega arith

  module _ (targets : List (List ℕ)) where
    few_rounds : (r : Marks) (asked : List ℕ) (rounds : List (List Event)) → Long r → IsRunFrom chunks targets r asked rounds → length rounds ≤ clear chunks r.words + 1
    few_rounds r asked [] l run = absurd run
    few_rounds r asked (es ∷ []) l run = omega arith
    few_rounds r asked (es ∷ fs ∷ rounds) l run = let h = few_rounds (end r es) (targets_of targets (firsts_of r es)) (fs ∷ rounds) (long_end r es l) run.2 in
        let c = clear_round r es l run.0.0 in let s = some_long (firsts_of r es) run.1 in omega arith

    run_bits : (r : Marks) (asked : List ℕ) (rounds : List (List Event)) (x : ℕ) → Long r → IsRunFrom chunks targets r asked rounds → bit_of (run_end r rounds).words x ≡ bit_of r.words x + times x (run_firsts r rounds)
    run_bits r asked [] x l run = absurd run
    run_bits r asked (es ∷ []) x l run = let h = bits_first r es x l run.0.0 in let t = times_append x (firsts_of r es) [] in omega arith
    run_bits r asked (es ∷ fs ∷ rounds) x l run = let h = bits_first r es x l run.0.0 in let t = times_append x (firsts_of r es) (run_firsts (end r es) (fs ∷ rounds)) in
        let i = run_bits (end r es) (targets_of targets (firsts_of r es)) (fs ∷ rounds) x (long_end r es l) run.2 in omega arith

-- what these chunks refer to
pub target_of : (targets : List (List ℕ)) (cs : List ℕ) (t : ℕ) → Among t (targets_of targets cs) → (c : ℕ) × Among c cs × Among t (get_or targets c [])
target_of targets [] t m = absurd (omega arith)
target_of targets (c ∷ cs) t m = let a = times_append t (get_or targets c []) (targets_of targets cs) in dite (dec_lt 0 (times t (get_or targets c [])))
    (λ l. (c, (let o = one_here c in let h = times_append c (c ∷ []) cs in omega arith), l))
    (λ n. let h = target_of targets cs t (omega arith) in let m' = h.1 in (h.0, omega arith, h.2))

pub of_target : (targets : List (List ℕ)) (cs : List ℕ) (c t : ℕ) → Among c cs → Among t (get_or targets c []) → Among t (targets_of targets cs)
of_target targets [] c t m r = absurd (omega arith)
of_target targets (x ∷ cs) c t m r = let a = times_append t (get_or targets x []) (targets_of targets cs) in dite (ℕ_discrete x c)
    (λ e. let r' : Among t (get_or targets x []) = subst (λ (y : ℕ). Among t (get_or targets y [])) (sym e) r in omega arith)
    (λ ne. let z : cond {A = ℕ} (eqb x c) 1 0 ≡ 0 = ap (λ (b : Bool). cond {A = ℕ} b 1 0) (ne_eqb x c ne) in let h = of_target targets cs c t (omega arith) r in omega arith)

-- a walk that goes one step further
walk_on : (targets : List (List ℕ)) (a : ℕ) (walk : List ℕ) (c t : ℕ) → IsWalk targets a walk c → Among t (get_or targets c []) → IsWalk targets a (walk ++ t ∷ []) t
walk_on targets a [] c t w r = (subst (λ (y : ℕ). Among t (get_or targets y [])) (sym w) r, refl)
walk_on targets a (b ∷ bs) c t w r = (w.0, walk_on targets b bs c t w.1 r)

pub reached_on : (targets : List (List ℕ)) (roots : List ℕ) (c t : ℕ) → Reached targets roots c → Among t (get_or targets c []) → Reached targets roots t
reached_on targets roots c t h r = (h.0, h.1, h.2 ++ t ∷ [], walk_on targets h.0 h.2 c t h.3 r)

pub reached_root : (targets : List (List ℕ)) (roots : List ℕ) (c : ℕ) → Among c roots → Reached targets roots c
reached_root targets roots c m = (c, m, [], refl)

-- what has the roots and what its chunks refer to has all that the roots reach
pub closed_has : (P : ℕ → Type 0) (targets : List (List ℕ)) (roots : List ℕ) → ((c : ℕ) → Among c roots → P c) → ((c t : ℕ) → P c → Among t (get_or targets c []) → P t) → (c : ℕ) → Reached targets roots c → P c
closed_has P targets roots has on c h = along h.0 h.2 (has h.0 h.1) h.3
  where
    along : (a : ℕ) (walk : List ℕ) → P a → IsWalk targets a walk c → P c
    along a [] p w = subst P w p
    along a (b ∷ bs) p w = along b bs (on a b p w.0) w.1

module _ (chunks : ℕ) (targets : List (List ℕ)) (roots : List ℕ) where
  pub record Stands (r : Marks) (asked : List ℕ) : Type 0 where
    pub long : length r.words ≡ word_count chunks
    pub sound : (c : ℕ) → bit_of r.words c ≡ 1 → Reached targets roots c
    pub asks : (c : ℕ) → Among c asked → Reached targets roots c
    pub rooted : (c : ℕ) → Among c roots → (bit_of r.words c ≡ 1) ⊎ Among c asked
    pub closed : (c t : ℕ) → bit_of r.words c ≡ 1 → Among t (get_or targets c []) → (bit_of r.words t ≡ 1) ⊎ Among t asked

  module _ (r : Marks) (asked : List ℕ) (es : List Event) (s : Stands r asked) (round : IsRound chunks targets r asked es) where
    set_now : (c : ℕ) → (bit_of r.words c ≡ 1) ⊎ Among c asked → bit_of (end r es).words c ≡ 1
    set_now c h = let b = bits_marked chunks r es c s.long round.0 in let low = bit_low r.words c in ⊎_elim (λ (one : bit_of r.words c ≡ 1). omega arith) (λ (m : Among c asked). let d = (round.1 c).0 m in omega arith) h

    sound_now : (c : ℕ) → bit_of (end r es).words c ≡ 1 → Reached targets roots c
    sound_now c one = let b = bits_marked chunks r es c s.long round.0 in let low = bit_low r.words c in dite (ℕ_discrete (bit_of r.words c) 1)
        (λ was. s.sound c was)
        (λ new. s.asks c ((round.1 c).1 (omega arith)))

    pub next_stands : Stands (end r es) (targets_of targets (firsts_of r es))
    next_stands = record {
      long = long_end chunks r es s.long;
      sound = sound_now;
      asks = λ t m. let h = target_of targets (firsts_of r es) t m in let f = bits_first chunks r es h.0 s.long round.0 in let low = bit_low (end r es).words h.0 in let some = h.1 in
          reached_on targets roots h.0 t (sound_now h.0 (omega arith)) h.2;
      rooted = λ c m. inl (set_now c (s.rooted c m));
      closed = λ c t one refers. dite (ℕ_discrete (bit_of r.words c) 1)
          (λ was. inl (set_now t (s.closed c t was refers)))
          (λ new. let f = bits_first chunks r es c s.long round.0 in let low = bit_low r.words c in inr (of_target targets (firsts_of r es) c t (omega arith) refers));
    }

  pub stands_at_end : (r : Marks) (asked : List ℕ) (rounds : List (List Event)) → Stands r asked → IsRunFrom chunks targets r asked rounds → Stands (run_end r rounds) []
  stands_at_end r asked [] s run = absurd run
  stands_at_end r asked (es ∷ []) s run = subst (λ (fs : List ℕ). Stands (end r es) (targets_of targets fs)) run.1 (next_stands r asked es s run.0)
  stands_at_end r asked (es ∷ fs ∷ rounds) s run = stands_at_end (end r es) (targets_of targets (firsts_of r es)) (fs ∷ rounds) (next_stands r asked es s run.0) run.2

  none_asked : {A : Type 0} (c : ℕ) → A ⊎ Among c [] → A
  none_asked c h = ⊎_elim (λ a. a) (λ (m : Among c []). absurd (omega arith)) h

  pub outcome : (width : ℕ) (rounds : List (List Event)) → IsRun width chunks targets roots rounds → Outcome width chunks targets roots rounds
  outcome width rounds run =
      let r : Marks = opening_marks width chunks in
      let long : length r.words ≡ word_count chunks = length-replicate (word_count chunks) 0 in
      let zero_bit : (c : ℕ) → bit_of r.words c ≡ 0 = λ c. clear_bit (word_count chunks) c in
      let begun : Stands r roots = record {
        long = long;
        sound = λ c one. (let z = zero_bit c in absurd (omega arith));
        asks = λ c m. reached_root targets roots c m;
        rooted = λ c m. inr m;
        closed = λ c t one refers. (let z = zero_bit c in absurd (omega arith));
      } in
      let done = stands_at_end r roots rounds begun run.complete in
      let has : (c : ℕ) → Reached targets roots c → bit_of (run_end r rounds).words c ≡ 1 = closed_has (λ c. bit_of (run_end r rounds).words c ≡ 1) targets roots (λ c m. none_asked c (done.rooted c m)) (λ c t one refers. none_asked t (done.closed c t one refers)) in
      record {
        sound = done.sound;
        whole = has;
        once = λ c h. let one = has c h in let b = run_bits chunks targets r roots rounds c long run.complete in let z = zero_bit c in omega arith;
      }

pub rounds_few : (width chunks : ℕ) (targets : List (List ℕ)) (roots : List ℕ) (rounds : List (List Event)) → IsRun width chunks targets roots rounds → length rounds ≤ chunks + 1
rounds_few width chunks targets roots rounds run = let r : Marks = opening_marks width chunks in let h = few_rounds chunks targets r roots rounds (length-replicate (word_count chunks) 0) run.complete in let m = clear_most chunks chunks r.words in omega arith

-- The marked parts are the live ones, and their numbers are those of the bits.
use Rattle.std.proofs.Common.{◌≡◌, ℕ, zero, suc, ◌+◌, ◌<◌, ◌==◌, Bool, true, false, cond, List, [], ◌∷◌, length, map, filter, slice_get, Some, refl, sym, ap, ◌∙◌, subst, arith, All, AllPairs, inl, inr, eq-eqb, ne_eqb, ltb-true, lt-ltb}
use Rattle.std.specs.List.{range_with_len}
use Rattle.std.proofs.lemmas.Bool.{cases_Bool}
use Rattle.std.proofs.lemmas.List.Elements.{All-cons, All-nil}
use Rattle.std.proofs.lemmas.List.Kept.{AllPairs-cons, AllPairs-filter}
use Rattle.link_program.specs.mark_bits.Words.{times, bit_of}
use Rattle.link_program.specs.mark_bits.Reach.{Reached}
use Rattle.live_mark.specs.Live.{reached, is_among, ReachedLaw}
use Rattle.link_program.specs.name_rules.Entries.{InputSymbol}
use Rattle.link_program.specs.link_rules.Program.{Program, Part}
use Rattle.link_program.specs.link_rules.Marks.{picked, live, targets, root_places}
use Rattle.link_marks.specs.Alive.{numbers_set, IsLive}
use Rattle.link_marks.specs.declared.live.Live.{Live}

-- ---- the numbers rise

all_above : (a b n : ℕ) → a < b → All (λ k. a < k) (range_with_len b n)
all_above a b zero lt = All-nil (λ k. a < k)
all_above a b (suc n) lt = All-cons (λ k. a < k) b (range_with_len (b + 1) n) lt (all_above a (b + 1) n (omega arith))

range_rises : (a n : ℕ) → AllPairs (λ m n. m < n) (range_with_len a n)
range_rises a zero = λ i j d lt within. absurd (omega arith)
range_rises a (suc n) = AllPairs-cons (λ m n. m < n) a (range_with_len (a + 1) n) (all_above a (a + 1) n (omega arith)) (range_rises (a + 1) n)

-- ---- what is picked

module _ (test : ℕ → Bool) (parts : List Part) where
  abbrev pub picked_by : ℕ → List Part → List Part
  picked_by at [] = []
  picked_by at (x ∷ xs) = cond (test at) (x ∷ picked_by (at + 1) xs) (picked_by (at + 1) xs)

  pub numbers_pick : (at : ℕ) (xs : List Part) → ((i : ℕ) → i < length xs → slice_get parts (at + i) ≡ slice_get xs i)
      → map (slice_get parts) (filter test (range_with_len at (length xs))) ≡ map Some (picked_by at xs)
  numbers_pick at [] same = refl
  numbers_pick at (x ∷ xs) same =
      by (test at) (ap (slice_get parts) (let e : at ≡ at + 0 = omega arith in e) ∙ same 0 (omega arith))
      (numbers_pick (at + 1) xs (λ i below. ap (slice_get parts) (let e : at + 1 + i ≡ at + suc i = omega arith in e) ∙ same (suc i) (omega arith)))
    where
      by : (b : Bool) → slice_get parts at ≡ Some x → map (slice_get parts) (filter test (range_with_len (at + 1) (length xs))) ≡ map Some (picked_by (at + 1) xs)
          → map (slice_get parts) (cond b (at ∷ filter test (range_with_len (at + 1) (length xs))) (filter test (range_with_len (at + 1) (length xs))))
          ≡ map Some (cond b (x ∷ picked_by (at + 1) xs) (picked_by (at + 1) xs))
      by true here rest = λ i. here i ∷ rest i
      by false here rest = rest

  picked_is : (marked : List ℕ) → ((k : ℕ) → is_among marked k ≡ test k) → (at : ℕ) (xs : List Part) → picked marked at xs ≡ picked_by at xs
  picked_is marked same at [] = refl
  picked_is marked same at (x ∷ xs) = let h = same at in let t = picked_is marked same (at + 1) xs in λ i. cond (h i) (x ∷ t i) (t i)

-- ---- the set

module _ (targets : List (List ℕ)) (roots words : List ℕ) (law : ReachedLaw) (sound : (c : ℕ) → bit_of words c ≡ 1 → Reached targets roots c) (whole : (c : ℕ) → Reached targets roots c → bit_of words c ≡ 1) where
  same_bit : (k : ℕ) → is_among (reached targets roots) k ≡ (bit_of words k == 1)
  same_bit k = elim (cases_Bool (is_among (reached targets roots) k)) as (λ _. is_among (reached targets roots) k ≡ (bit_of words k == 1)) [
    | inl t ↦ t ∙ sym (eq-eqb (bit_of words k) 1 (whole k ((law targets roots k).0 (ltb-true 0 (times k (reached targets roots)) t))))
    | inr f ↦ f ∙ sym (ne_eqb (bit_of words k) 1 (λ one. false_is f (lt-ltb 0 (times k (reached targets roots)) ((law targets roots k).1 (sound k one)))))
  ]
    where
      false_is : {b : Bool} → b ≡ false → b ≡ true → ⊥
      false_is f t = cc

-- the live parts are those of the marked set
pub marked_live : (p : Program) (es : List InputSymbol) (l : Live) → ReachedLaw → l.set.chunks ≡ length (targets p)
    → ((c : ℕ) → bit_of l.set.words c ≡ 1 → Reached (targets p) (root_places p es) c) → ((c : ℕ) → Reached (targets p) (root_places p es) c → bit_of l.set.words c ≡ 1)
    → length (targets p) ≡ length p.parts → l.numbers ≡ numbers_set l.set.words l.set.chunks → IsLive p l (live p es)
unfolding live
marked_live p es l law chunks sound whole count numbers =
    let words = l.set.words in
    let test : ℕ → Bool = λ n. bit_of words n == 1 in
    let long : l.set.chunks ≡ length p.parts = chunks ∙ count in
    let all : numbers_set words l.set.chunks ≡ filter test (range_with_len 0 (length p.parts)) = ap (λ (n : ℕ). filter test (range_with_len 0 n)) long in
    record {
      count = long;
      numbers = numbers;
      are = record {
        rise = subst (λ (ns : List ℕ). AllPairs (λ m n. m < n) ns) (sym (numbers ∙ all)) (AllPairs-filter (λ m n. m < n) test (range_with_len 0 (length p.parts)) (range_rises 0 (length p.parts)));
        are = ap (map (slice_get p.parts)) (numbers ∙ all)
            ∙ numbers_pick test p.parts 0 p.parts (λ i below. ap (slice_get p.parts) (let e : 0 + i ≡ i = omega arith in e))
            ∙ ap (map Some) (sym (picked_is test p.parts (reached (targets p) (root_places p es)) (same_bit (targets p) (root_places p es) words law sound whole) 0 p.parts));
      };
    }

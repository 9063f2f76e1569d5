-- Shares of a round, when they are worked and put together.
use Rattle.std.proofs.Common.{◌≡◌, ℕ, zero, suc, ◌+◌, ◌-◌, ◌*◌, ◌/◌, ◌<◌, ◌≤◌, Bool, true, false, cond, eqb, List, [], ◌∷◌, ◌++◌, length, get_or, take, drop, refl, sym, ap, ◌∙◌, subst, arith, append_assoc, append-nil, eq-eqb, ne_eqb}
use Rattle.std.proofs.Math.Nat.{mul-div_cancel, le-div_iff_mul-le, div-mul-le_self}
use Rattle.std.proofs.lemmas.List.{drop-drop}
use Rattle.std.proofs.Math.Seq.{take-length}
use Rattle.std.specs.Prelude.{slice_range}
use Rattle.mark_bits.specs.declared.party.Party.{Party}
use Rattle.mark_bits.specs.Words.{Among}
use Rattle.mark_bits.specs.Marks.{joined}
use Rattle.mark_bits.specs.Rounds.{targets_of}
use Rattle.mark_bits.specs.Seats.{SeatView, IsSeatOf}
use Rattle.mark_bits.proofs.Lists.{times_append}
use Rattle.live_mark.specs.Asks.{asked_by, asks, RoundDone}
use Rattle.live_mark.specs.Shares.{Round, asked_of, cut, asked_in, if_first, IsShare, Adds}

take_none : {A : Type 0} (n : ℕ) → take {A = A} n [] ≡ []
take_none zero = refl
take_none (suc n) = refl

take_add : {A : Type 0} (a b : ℕ) (l : List A) → take (a + b) l ≡ take a l ++ take b (drop a l)
take_add zero b l = let e : 0 + b ≡ b = omega arith in ap (λ (n : ℕ). take n l) e
take_add (suc a) b [] = take_none (suc a + b) ∙ sym (take_none b)
take_add (suc a) b (x ∷ l) = let e : suc a + b ≡ suc (a + b) = omega arith in ap (λ (n : ℕ). take n (x ∷ l)) e ∙ ap (λ r. x ∷ r) (take_add a b l)

drop_add : {A : Type 0} (a b : ℕ) (l : List A) → drop (a + b) l ≡ drop b (drop a l)
drop_add a b l = sym (drop-drop b a l)

-- two ranges side by side
pub range_append : (xs : List ℕ) (i j k : ℕ) → i ≤ j → j ≤ k → slice_range xs i k ≡ slice_range xs i j ++ slice_range xs j k
range_append xs i j k a b = let e : k - i ≡ (j - i) + (k - j) = omega arith in let f : j ≡ i + (j - i) = omega arith in
    ap (λ (n : ℕ). take n (drop i xs)) e ∙ (take_add (j - i) (k - j) (drop i xs) ∙ ap (λ (l : List ℕ). take (j - i) (drop i xs) ++ take (k - j) l) (sym (ap (λ (n : ℕ). drop n xs) f ∙ drop_add i (j - i) xs)))

pub one_range : (xs : List ℕ) (i : ℕ) → i < length xs → slice_range xs i (i + 1) ≡ get_or xs i 0 ∷ []
one_range xs i l = let e : (i + 1) - i ≡ 1 = omega arith in ap (λ (n : ℕ). take n (drop i xs)) e ∙ at xs i l
  where
    at : (xs : List ℕ) (i : ℕ) → i < length xs → take 1 (drop i xs) ≡ get_or xs i 0 ∷ []
    at [] i l = absurd (omega arith)
    at (x ∷ xs) zero l = refl
    at (x ∷ xs) (suc i) l = at xs i (omega arith)

whole_range : (xs : List ℕ) → slice_range xs 0 (length xs) ≡ xs
whole_range xs = let e : length xs - 0 ≡ length xs = omega arith in ap (λ (n : ℕ). take n xs) e ∙ take-length xs

pub empty_range : (xs : List ℕ) (i : ℕ) → slice_range xs i i ≡ []
empty_range xs i = let e : i - i ≡ 0 = omega arith in ap (λ (n : ℕ). take n (drop i xs)) e

module _ (rooting : Bool) (targets : List (List ℕ)) where
  pub asks_append : (xs ys : List ℕ) → asks rooting targets (xs ++ ys) ≡ asks rooting targets xs ++ asks rooting targets ys
  asks_append [] ys = refl
  asks_append (x ∷ xs) ys = ap (λ (l : List ℕ). asked_by rooting targets x ++ l) (asks_append xs ys) ∙ sym (append_assoc (asked_by rooting targets x) (asks rooting targets xs) (asks rooting targets ys))

  -- what a place asks for is asked for
  pub asks_at : (xs : List ℕ) (i x : ℕ) → i < length xs → Among x (asked_by rooting targets (get_or xs i 0)) → Among x (asks rooting targets xs)
  asks_at [] i x l m = absurd (omega arith)
  asks_at (y ∷ xs) zero x l m = let a = times_append x (asked_by rooting targets y) (asks rooting targets xs) in omega arith
  asks_at (y ∷ xs) (suc i) x l m = let a = times_append x (asked_by rooting targets y) (asks rooting targets xs) in let h = asks_at xs i x (omega arith) m in omega arith

  pub asks_more : (xs : List ℕ) (i k : ℕ) → i ≤ k → k < length xs → asks rooting targets (slice_range xs i (k + 1)) ≡ asks rooting targets (slice_range xs i k) ++ asked_by rooting targets (get_or xs k 0)
  asks_more xs i k a l = ap (asks rooting targets) (range_append xs i k (k + 1) a (omega arith) ∙ ap (λ (r : List ℕ). slice_range xs i k ++ r) (one_range xs k l))
      ∙ (asks_append (slice_range xs i k) (get_or xs k 0 ∷ []) ∙ ap (λ (r : List ℕ). asks rooting targets (slice_range xs i k) ++ r) (append-nil (asked_by rooting targets (get_or xs k 0))))

pub asks_roots : (targets : List (List ℕ)) (xs : List ℕ) → asks true targets xs ≡ xs
asks_roots targets [] = refl
asks_roots targets (x ∷ xs) = ap (λ (l : List ℕ). x ∷ l) (asks_roots targets xs)

pub asks_targets : (targets : List (List ℕ)) (xs : List ℕ) → asks false targets xs ≡ targets_of targets xs
asks_targets targets [] = refl
asks_targets targets (x ∷ xs) = ap (λ (l : List ℕ). get_or targets x [] ++ l) (asks_targets targets xs)

mul_mono : (p a b : ℕ) → a ≤ b → p * a ≤ p * b
mul_mono zero a b l = omega arith
mul_mono (suc p) a b l = let h = mul_mono p a b l in omega arith

-- a later part doesn't begin before
pub cut_rises : (p parts a b : ℕ) → 1 ≤ parts → a ≤ b → cut p parts a ≤ cut p parts b
cut_rises p parts a b some l = let m = mul_mono p a b l in let d = div-mul-le_self (p * a) parts in (le-div_iff_mul-le {k = parts} {x = p * a / parts} {y = p * b} some).1 (omega arith)

-- the parts of two shares that stand side by side
asked_append : (r : Round) (start n n' : ℕ) → 1 ≤ r.parts → asked_in r start n ++ asked_in r (start + n) n' ≡ asked_in r start (n + n')
asked_append r start n n' some = let p : ℕ = length r.places in let a : ℕ = cut p r.parts start in let b : ℕ = cut p r.parts (start + n) in let c : ℕ = cut p r.parts (start + n + n') in
    let e : start + (n + n') ≡ start + n + n' = omega arith in
    sym (asks_append r.rooting r.targets (slice_range r.places a b) (slice_range r.places b c)) ∙ (ap (asks r.rooting r.targets) (sym (range_append r.places a b c (cut_rises p r.parts start (start + n) some (omega arith)) (cut_rises p r.parts (start + n) (start + n + n') some (omega arith))))
    ∙ ap (λ (z : ℕ). asks r.rooting r.targets (slice_range r.places a (cut p r.parts z))) (sym e))

not_first : (start : ℕ) (xs : List ℕ) → 1 ≤ start → if_first start xs ≡ []
not_first start xs l = ap (λ (t : Bool). cond t xs []) (ne_eqb start 0 (λ e. omega arith))

no_spare : (start k : ℕ) → 1 ≤ start → cond {A = ℕ} (eqb start 0) k 0 ≡ 0
no_spare start k l = ap (λ (t : Bool). cond {A = ℕ} t k 0) (ne_eqb start 0 (λ e. omega arith))

-- two done shares are one
both_done : (r : Round) (s t u : SeatView) (f f' f'' : List ℕ) (x x' x'' : Bool) (start n n' : ℕ) → IsShare r s f x start n true → IsShare r t f' x' (start + n) n' true → IsSeatOf r.bits u → u.party ≡ joined s.party t.party
    → (x'' ≡ false → (x ≡ false) × (x' ≡ false)) → (x'' ≡ false → f'' ≡ f ++ f') → IsShare r u f'' x'' start (n + n') true
both_done r s t u f f' f'' x x' x'' start n n' a b own e still noted = let some = a.some in let z = not_first (start + n) r.before.marked (omega arith) in let z' = not_first (start + n) r.before.first (omega arith) in record {
  round = a.round;
  own = own;
  some = omega arith;
  room = let h = b.room in omega arith;
  wide = let w = ap (λ (v : Party). v.width) e in let w1 = a.wide in let w2 = b.wide in let k = no_spare (start + n) (r.before.width - r.parts) (omega arith) in omega arith;
  marked = ap (λ (v : Party). v.marked) e ∙ ((λ i. a.marked i ++ (b.marked ∙ ap (λ (l : List ℕ). l ++ asked_in r (start + n) n') z) i)
      ∙ (append_assoc (if_first start r.before.marked) (asked_in r start n) (asked_in r (start + n) n') ∙ ap (λ (l : List ℕ). if_first start r.before.marked ++ l) (asked_append r start n n' a.round.some)));
  first = λ h. ap (λ (v : Party). v.first) e ∙ ((λ i. a.first (still h).0 i ++ (b.first (still h).1 ∙ ap (λ (l : List ℕ). l ++ f') z') i)
      ∙ (append_assoc (if_first start r.before.first) f f' ∙ ap (λ (l : List ℕ). if_first start r.before.first ++ l) (sym (noted h))));
}

pub joins_shares : (r r' : Round) (s t u : SeatView) (f f' f'' : List ℕ) (x x' x'' : Bool) (start n start' n' : ℕ) (d d' : Bool) → r' ≡ r → d ≡ true → d' ≡ true → start' ≡ start + n
    → IsShare r s f x start n d → IsShare r' t f' x' start' n' d' → IsSeatOf r.bits u → u.party ≡ joined s.party t.party
    → (x'' ≡ false → (x ≡ false) × (x' ≡ false)) → (x'' ≡ false → f'' ≡ f ++ f') → IsShare r u f'' x'' start (n + n') d
joins_shares r r' s t u f f' f'' x x' x'' start n start' n' d d' same done done' beside a b own e still noted =
    let b' : IsShare r t f' x' (start + n) n' true = subst (λ (z : Round × Bool × ℕ). IsShare z.0 t f' x' z.2 n' z.1) (λ i. (same i, done' i, beside i)) b in
    subst (IsShare r u f'' x'' start (n + n')) (sym done) (both_done r s t u f f' f'' x x' x'' start n n' (subst (IsShare r s f x start n) done a) b' own e still noted)

-- a share that was worked
pub works_share : (r : Round) (s t : SeatView) (f f' : List ℕ) (x x' : Bool) (start n : ℕ) (d : Bool) → d ≡ false → IsShare r s f x start n d → IsSeatOf r.bits t → Adds s t (asked_in r start n) f f' x x' → IsShare r t f' x' start n true
works_share r s t f f' x x' start n d open' a own adds = record {
  round = a.round;
  own = own;
  some = a.some;
  room = a.room;
  wide = adds.width ∙ a.wide;
  marked = adds.marked ∙ ap (λ (l : List ℕ). l ++ asked_in r start n) (a.marked ∙ (ap (λ (z : Bool). if_first start r.before.marked ++ cond z (asked_in r start n) []) open' ∙ append-nil (if_first start r.before.marked)));
  first = λ h. adds.first h (if_first start r.before.first) (a.first (adds.still h));
}

-- the share of all parts, when it is done
whole_marked : (r : Round) (s : SeatView) (f : List ℕ) (x : Bool) (start n : ℕ) (d : Bool) → d ≡ true → start ≡ 0 → n ≡ r.parts → IsShare r s f x start n d → s.party.marked ≡ r.before.marked ++ asks r.rooting r.targets r.places
whole_marked r s f x start n d done zero' all a =
    let a' : IsShare r s f x 0 r.parts true = subst (λ (z : ℕ × ℕ × Bool). IsShare r s f x z.0 z.1 z.2) (λ i. (zero' i, all i, done i)) a in
    let p : ℕ = length r.places in
    let low : cut p r.parts 0 ≡ 0 = (let m : p * 0 ≡ 0 = omega arith in ap (λ (z : ℕ). z / r.parts) m ∙ zero_div r.parts) in
    let top : cut p r.parts (0 + r.parts) ≡ p = (let e : 0 + r.parts ≡ r.parts = omega arith in ap (λ (z : ℕ). p * z / r.parts) e ∙ mul-div_cancel p a.round.some) in
    a'.marked ∙ ap (λ (l : List ℕ). r.before.marked ++ asks r.rooting r.targets l) ((λ i. slice_range r.places (low i) (top i)) ∙ whole_range r.places)
  where
    zero_div : (k : ℕ) → 0 / k ≡ 0
    zero_div k = omega arith

whole_first : (r : Round) (s : SeatView) (f : List ℕ) (x : Bool) (start n : ℕ) (d : Bool) → start ≡ 0 → IsShare r s f x start n d → x ≡ false → s.party.first ≡ r.before.first ++ f
whole_first r s f x start n d zero' a h = subst (λ (z : ℕ). s.party.first ≡ if_first z r.before.first ++ f) zero' (a.first h)

whole_width : (r : Round) (s : SeatView) (f : List ℕ) (x : Bool) (start n : ℕ) (d : Bool) → start ≡ 0 → n ≡ r.parts → IsShare r s f x start n d → s.party.width ≡ r.before.width
whole_width r s f x start n d zero' all a = let w = a.wide in let wide = a.round.wide in let k : cond {A = ℕ} (eqb start 0) (r.before.width - r.parts) 0 ≡ r.before.width - r.parts = ap (λ (t : Bool). cond {A = ℕ} t (r.before.width - r.parts) 0) (eq-eqb start 0 zero') in omega arith

pub whole_done : (r : Round) (s : SeatView) (f : List ℕ) (x : Bool) (start n : ℕ) (d : Bool) → d ≡ true → start ≡ 0 → n ≡ r.parts → IsShare r s f x start n d → RoundDone r.bits r.before (asked_of r) s f x
whole_done r s f x start n d done zero' all a = record {
  own = a.own;
  width = whole_width r s f x start n d zero' all a;
  marked = whole_marked r s f x start n d done zero' all a;
  first = whole_first r s f x start n d zero' a;
}

-- marking goes on
pub adds_more : (old s t : SeatView) (xs ys was now now' : List ℕ) (x x' x'' : Bool) → Adds old s xs was now x x' → Adds s t ys now now' x' x'' → Adds old t (xs ++ ys) was now' x x''
adds_more old s t xs ys was now now' x x' x'' a b = record {
  width = b.width ∙ a.width;
  marked = b.marked ∙ (ap (λ (l : List ℕ). l ++ ys) a.marked ∙ append_assoc old.party.marked xs ys);
  still = λ h. a.still (b.still h);
  first = λ h zs w. b.first h zs (a.first (b.still h) zs w);
}

pub adds_none : (s : SeatView) (was : List ℕ) (x : Bool) → Adds s s [] was was x x
adds_none s was x = record { width = refl; marked = sym (append-nil s.party.marked); still = λ h. h; first = λ h xs w. w }

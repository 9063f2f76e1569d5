-- The data segment leaves the memory that its blocks would leave one by one.
use Rattle.std.proofs.Common.{◌≡◌, ℕ, ◌+◌, ◌-◌, ◌≤◌, List, [], ◌∷◌, ◌++◌, length, take, drop, replicate, refl, ap, sym, subst, arith, ◌∙◌, length-append}
use Rattle.std.proofs.lemmas.List.{append_assoc, length-replicate, replicate-append-replicate, drop-replicate}
use Rattle.std.proofs.Math.Seq.{drop-append-add}
use Rattle.image_emit.specs.Bytes.{Block, laid}
use Rattle.image_emit.specs.Stored.{put, stored, Rise, OneSegment}

-- zeros
abbrev zs : ℕ → List ℕ
zs n = replicate n 0

take_front : (xs ys : List ℕ) → take (length xs) (xs ++ ys) ≡ xs
take_front [] ys = refl
take_front (x ∷ xs) ys = ap (λ l. x ∷ l) (take_front xs ys)

-- bytes written where the zeros begin
put_front : (xs new : List ℕ) (r : ℕ) → put (length xs) new (xs ++ zs (length new + r)) ≡ (xs ++ new) ++ zs r
put_front xs new r =
    let d : drop (length new) (zs (length new + r)) ≡ zs r = drop-replicate (length new) (length new + r) 0 ∙ ap zs (omega arith) in
    rw (take_front xs (zs (length new + r)), drop-append-add xs (zs (length new + r)) (length new), d) refl

rise_end : (at end : ℕ) (bs : List Block) → Rise at end bs → at ≤ end
rise_end at end [] h = h
rise_end at end (b ∷ bs) h = let k : b.address + length b.bytes ≤ end = rise_end (b.address + length b.bytes) end bs h.1 in omega (arith, h.0, k)

last_of : ℕ → List Block → ℕ
last_of at [] = at
last_of at (b ∷ bs) = last_of (b.address + length b.bytes) bs

last_within : (at end : ℕ) (bs : List Block) → Rise at end bs → last_of at bs ≤ end
unfolding last_of
last_within at end [] h = h
last_within at end (b ∷ bs) h = last_within (b.address + length b.bytes) end bs h.1

laid_length : (at end : ℕ) (bs : List Block) → Rise at end bs → at + length (laid at bs) ≡ last_of at bs
unfolding last_of
laid_length at end [] h = omega arith
laid_length at end (b ∷ bs) h =
    let k : (b.address + length b.bytes) + length (laid (b.address + length b.bytes) bs) ≡ last_of (b.address + length b.bytes) bs = laid_length (b.address + length b.bytes) end bs h.1 in
    let l : length ((zs (b.address - at) ++ b.bytes) ++ laid (b.address + length b.bytes) bs) ≡ length (zs (b.address - at) ++ b.bytes) + length (laid (b.address + length b.bytes) bs) = length-append (zs (b.address - at) ++ b.bytes) (laid (b.address + length b.bytes) bs) in
    let m : length (zs (b.address - at) ++ b.bytes) ≡ length (zs (b.address - at)) + length b.bytes = length-append (zs (b.address - at)) b.bytes in
    let n : length (zs (b.address - at)) ≡ b.address - at = length-replicate (b.address - at) 0 in
    let low : at ≤ b.address = h.0 in
    omega (arith, low, k, l, m, n)

regroup : (pre gap new rest tail : List ℕ) → ((pre ++ gap) ++ new) ++ (rest ++ tail) ≡ pre ++ (((gap ++ new) ++ rest) ++ tail)
regroup pre gap new rest tail = simp append_assoc refl

-- A block written behind what stands, where all else is zero

module _ (pre new : List ℕ) (a n : ℕ) (low : length pre ≤ a) (high : a + length new ≤ length pre + n) where
  gap : List ℕ
  gap = zs (a - length pre)

  left : ℕ
  left = length pre + n - (a + length new)

  gap_length : length (pre ++ gap) ≡ a
  unfolding gap
  gap_length = let e : length (pre ++ gap) ≡ length pre + length gap = length-append pre gap in let f : length gap ≡ a - length pre = length-replicate (a - length pre) 0 in omega (arith, e, f, low)

  split : pre ++ zs n ≡ (pre ++ gap) ++ zs (length new + left)
  unfolding gap left
  split =
      let e : (a - length pre) + (length new + left) ≡ n = omega (arith, low, high) in
      ap (λ k. pre ++ zs k) (sym e) ∙ ap (λ l. pre ++ l) (sym (replicate-append-replicate (a - length pre) (length new + left) 0)) ∙ sym (append_assoc pre gap (zs (length new + left)))

  put_behind : put a new (pre ++ zs n) ≡ ((pre ++ gap) ++ new) ++ zs left
  put_behind = subst (λ k. put k new (pre ++ zs n) ≡ ((pre ++ gap) ++ new) ++ zs left) gap_length
      (ap (λ m. put (length (pre ++ gap)) new m) split ∙ put_front (pre ++ gap) new left)

  behind_length : length ((pre ++ gap) ++ new) ≡ a + length new
  behind_length = let e : length ((pre ++ gap) ++ new) ≡ length (pre ++ gap) + length new = length-append (pre ++ gap) new in omega (arith, e, gap_length)

behind_step : (a : ℕ) (new : List ℕ) (bs : List Block) (pre : List ℕ) (n : ℕ) (low : length pre ≤ a) (high : a + length new ≤ length pre + n) →
    Rise (a + length new) (length pre + n) bs →
    (Rise (length ((pre ++ gap pre new a n low high) ++ new)) (length ((pre ++ gap pre new a n low high) ++ new) + left pre new a n low high) bs →
    stored bs (((pre ++ gap pre new a n low high) ++ new) ++ zs (left pre new a n low high))
    ≡ ((pre ++ gap pre new a n low high) ++ new) ++ (laid (length ((pre ++ gap pre new a n low high) ++ new)) bs
    ++ zs (length ((pre ++ gap pre new a n low high) ++ new) + left pre new a n low high - last_of (length ((pre ++ gap pre new a n low high) ++ new)) bs))) →
    stored bs (put a new (pre ++ zs n)) ≡ pre ++ (((zs (a - length pre) ++ new) ++ laid (a + length new) bs) ++ zs (length pre + n - last_of (a + length new) bs))
unfolding gap left
behind_step a new bs pre n low high rise ih =
    let e : length ((pre ++ gap pre new a n low high) ++ new) ≡ a + length new = behind_length pre new a n low high in
    let f : length ((pre ++ gap pre new a n low high) ++ new) + left pre new a n low high ≡ length pre + n = omega (arith, e, low, high) in
    let i = ih (subst (λ k. Rise k (length ((pre ++ gap pre new a n low high) ++ new) + left pre new a n low high) bs) (sym e) (subst (λ k. Rise (a + length new) k bs) (sym f) rise)) in
    ap (stored bs) (put_behind pre new a n low high) ∙ i
    ∙ ap (λ k. ((pre ++ gap pre new a n low high) ++ new) ++ (laid (length ((pre ++ gap pre new a n low high) ++ new)) bs ++ zs (k - last_of (length ((pre ++ gap pre new a n low high) ++ new)) bs))) f
    ∙ ap (λ k. ((pre ++ gap pre new a n low high) ++ new) ++ (laid k bs ++ zs (length pre + n - last_of k bs))) e
    ∙ regroup pre (gap pre new a n low high) new (laid (a + length new) bs) (zs (length pre + n - last_of (a + length new) bs))

stored_behind : (bs : List Block) (pre : List ℕ) (n : ℕ) → Rise (length pre) (length pre + n) bs →
    stored bs (pre ++ zs n) ≡ pre ++ (laid (length pre) bs ++ zs (length pre + n - last_of (length pre) bs))
unfolding last_of
stored_behind [] pre n h = ap (λ k. pre ++ zs k) (omega arith)
stored_behind (b ∷ bs) pre n h =
    let low : length pre ≤ b.address = h.0 in
    let high : b.address + length b.bytes ≤ length pre + n = rise_end (b.address + length b.bytes) (length pre + n) bs h.1 in
    behind_step b.address b.bytes bs pre n low high h.1
    (stored_behind bs ((pre ++ gap pre b.bytes b.address n low high) ++ b.bytes) (left pre b.bytes b.address n low high))

segment_of : (a : ℕ) (new : List ℕ) (bs : List Block) (end : ℕ) → (0 ≤ a) × Rise (a + length new) end bs →
    ((0 ≤ a) × Rise (a + length new) (0 + end) bs → stored bs (put a new (zs end)) ≡ ((zs (a - 0) ++ new) ++ laid (a + length new) bs) ++ zs (0 + end - last_of (a + length new) bs)) →
    stored bs (put a new (zs end)) ≡ put a ((zs (a - a) ++ new) ++ laid (a + length new) bs) (zs end)
segment_of a new bs end h all =
    let zero_end : 0 + end ≡ end = omega arith in
    let one = all (subst (λ k. (0 ≤ a) × Rise (a + length new) k bs) (sym zero_end) h) in
    let len : (a + length new) + length (laid (a + length new) bs) ≡ last_of (a + length new) bs = laid_length (a + length new) end bs h.1 in
    let within : last_of (a + length new) bs ≤ end = last_within (a + length new) end bs h.1 in
    let both : length (new ++ laid (a + length new) bs) ≡ length new + length (laid (a + length new) bs) = length-append new (laid (a + length new) bs) in
    let size : length (zs a) ≡ a = length-replicate a 0 in
    let none : a - a ≡ 0 = omega arith in
    let same : a - 0 ≡ a = omega arith in
    let whole : a + (length (new ++ laid (a + length new) bs) + (end - last_of (a + length new) bs)) ≡ end = omega (arith, len, within, both) in
    let parts : zs end ≡ zs a ++ zs (length (new ++ laid (a + length new) bs) + (end - last_of (a + length new) bs)) =
    ap zs (sym whole) ∙ sym (replicate-append-replicate a (length (new ++ laid (a + length new) bs) + (end - last_of (a + length new) bs)) 0) in
    let p : put a (new ++ laid (a + length new) bs) (zs end) ≡ (zs a ++ (new ++ laid (a + length new) bs)) ++ zs (end - last_of (a + length new) bs) =
    ap (put a (new ++ laid (a + length new) bs)) parts
    ∙ subst (λ k. put k (new ++ laid (a + length new) bs) (zs a ++ zs (length (new ++ laid (a + length new) bs) + (end - last_of (a + length new) bs))) ≡ (zs a ++ (new ++ laid (a + length new) bs)) ++ zs (end - last_of (a + length new) bs)) size
    (put_front (zs a) (new ++ laid (a + length new) bs) (end - last_of (a + length new) bs)) in
    one
    ∙ ap (λ k. ((zs k ++ new) ++ laid (a + length new) bs) ++ zs (0 + end - last_of (a + length new) bs)) same
    ∙ ap (λ k. ((zs a ++ new) ++ laid (a + length new) bs) ++ zs (k - last_of (a + length new) bs)) zero_end
    ∙ ap (λ l. l ++ zs (end - last_of (a + length new) bs)) (append_assoc (zs a) new (laid (a + length new) bs))
    ∙ sym p
    ∙ ap (λ k. put a ((zs k ++ new) ++ laid (a + length new) bs) (zs end)) (sym none)

pub one_segment_law : OneSegment
unfolding last_of
one_segment_law [] end h = refl
one_segment_law (b ∷ bs) end h = segment_of b.address b.bytes bs end h (stored_behind (b ∷ bs) [] end)

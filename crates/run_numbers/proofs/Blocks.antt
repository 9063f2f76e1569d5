-- Values on one stack by blocks.
use Rattle.std.proofs.Common.{◌≡◌, ℕ, zero, suc, ◌+◌, ◌-◌, ◌<◌, ◌≤◌, List, [], ◌∷◌, ◌++◌, length, take, drop, Option, Some, None, refl, sym, ap, ◌∙◌, subst, arith, length-drop}
use Rattle.std.specs.Prelude.{slice_get}
use Rattle.std.proofs.lemmas.List.{take-append-drop, length-append}
use Rattle.run_rules.specs.declared.value.Value.{Value}
use Rattle.run_rules.specs.declared.state.Label.{Label}
use Rattle.run_numbers.specs.declared.layers.Opened.{Opened}
use Rattle.run_numbers.specs.Layers.{Layers, inside, outside, layers, Heights, Closes, JumpsTo, JumpsShort}

next : (n k : ℕ) → suc n + k ≡ suc (n + k)
next n k = omega arith

pub take_over : {A : Type 0} (xs ys : List A) (k : ℕ) → take (length xs + k) (xs ++ ys) ≡ xs ++ take k ys
take_over [] ys k = let e : 0 + k ≡ k = omega arith in ap (λ n. take n ys) e
take_over (x ∷ xs) ys k = ap (λ n. take n (x ∷ (xs ++ ys))) (next (length xs) k) ∙ ap (λ l. x ∷ l) (take_over xs ys k)

pub drop_over : {A : Type 0} (xs ys : List A) (k : ℕ) → drop (length xs + k) (xs ++ ys) ≡ drop k ys
drop_over [] ys k = let e : 0 + k ≡ k = omega arith in ap (λ n. drop n ys) e
drop_over (x ∷ xs) ys k = ap (λ n. drop n (x ∷ (xs ++ ys))) (next (length xs) k) ∙ drop_over xs ys k

pub length_over : {A : Type 0} (xs ys : List A) → length (xs ++ ys) ≡ length xs + length ys
length_over [] ys = omega arith
length_over (x ∷ xs) ys = ap suc (length_over xs ys) ∙ sym (next (length xs) (length ys))

pub length_take : {A : Type 0} (k : ℕ) (xs : List A) → k ≤ length xs → length (take k xs) ≡ k
length_take zero xs h = refl
length_take (suc k) [] h = absurd (omega arith)
length_take (suc k) (x ∷ xs) h = ap suc (length_take k xs (omega arith))

pub drop_drop : {A : Type 0} (a b : ℕ) (xs : List A) → drop b (drop a xs) ≡ drop (a + b) xs
drop_drop zero b xs = let e : b ≡ 0 + b = omega arith in ap (λ n. drop n xs) e
drop_drop (suc a) zero [] = ap (λ n. drop n []) (sym (next a 0))
drop_drop (suc a) (suc b) [] = ap (λ n. drop n []) (sym (next a (suc b)))
drop_drop (suc a) b (x ∷ xs) = drop_drop a b xs ∙ ap (λ n. drop n (x ∷ xs)) (sym (next a b))

over : {A : Type 0} (xs ys : List A) (h : ℕ) → h ≤ length ys → length (xs ++ ys) - h ≡ length xs + (length ys - h)
over xs ys h le = let e = length_over xs ys in omega arith

-- what is put on top is in the innermost block alone
pub inside_over : (bs : List Opened) (xs vs : List Value) → Heights bs (length vs) → inside bs (xs ++ vs) ≡ xs ++ inside bs vs
inside_over [] xs vs h = refl
inside_over (b ∷ bs) xs vs h = ap (λ k. take k (xs ++ vs)) (over xs vs b.height h.0) ∙ take_over xs vs (length vs - b.height)

pub outside_over : (bs : List Opened) (xs vs : List Value) → Heights bs (length vs) → outside bs (xs ++ vs) ≡ outside bs vs
outside_over [] xs vs h = refl
outside_over (b ∷ bs) xs vs h =
    ap (λ r. record { target = b.target; arity = b.arity; outside = inside bs r } ∷ outside bs r)
    (ap (λ k. drop k (xs ++ vs)) (over xs vs b.height h.0) ∙ drop_over xs vs (length vs - b.height))

pub rises : (bs : List Opened) (n m : ℕ) → n ≤ m → Heights bs n → Heights bs m
rises [] n m le h = tt
rises (b ∷ bs) n m le h = (omega (arith, h.0), h.1)

pub pushed_layers : (bs : List Opened) (v : Value) (vs : List Value) → Heights bs (length vs) → layers bs (v ∷ vs) ≡ record (layers bs vs) { values = v ∷ inside bs vs }
pushed_layers bs v vs h = cc (inside_over bs (v ∷ []) vs h, outside_over bs (v ∷ []) vs h)

-- how many values are inside
pub inside_count : (bs : List Opened) (vs : List Value) (b : Opened) → slice_get bs 0 ≡ Some b → Heights bs (length vs) → length (inside bs vs) ≡ length vs - b.height
inside_count [] vs b at h = absurd (grind arith)
inside_count (c ∷ bs) vs b at h =
    let e : c ≡ b = grind arith in
    length_take (length vs - c.height) vs (omega arith) ∙ ap (λ (x : Opened). length vs - x.height) e

pub inside_all : (bs : List Opened) (vs : List Value) → slice_get bs 0 ≡ None → inside bs vs ≡ vs
inside_all [] vs at = refl
inside_all (c ∷ bs) vs at = absurd (grind arith)

-- as many as are inside can be taken off
pub below : (bs : List Opened) (vs : List Value) (p : ℕ) → Heights bs (length vs) → p ≤ length (inside bs vs) → Heights bs (length (drop p vs))
below [] vs p h le = tt
below (b ∷ bs) vs p h le =
    let n = length_take (length vs - b.height) vs (omega arith) in
    (omega (arith, n, h.0, length-drop p vs), h.1)

few : (bs : List Opened) (vs : List Value) (p : ℕ) → p ≤ length (inside bs vs) → p ≤ length vs
few [] vs p le = le
few (b ∷ bs) vs p le = let n = length_take (length vs - b.height) vs (omega arith) in omega (arith, n)

module _ (bs : List Opened) (vs : List Value) (p : ℕ) (h : Heights bs (length vs)) (le : p ≤ length (inside bs vs)) where
  parts : take p vs ++ drop p vs ≡ vs
  parts = take-append-drop p vs

  pub inside_parts : inside bs vs ≡ take p vs ++ inside bs (drop p vs)
  inside_parts = ap (inside bs) (sym parts) ∙ inside_over bs (take p vs) (drop p vs) (below bs vs p h le)

  pub outside_parts : outside bs vs ≡ outside bs (drop p vs)
  outside_parts = ap (outside bs) (sym parts) ∙ outside_over bs (take p vs) (drop p vs) (below bs vs p h le)

  long : length (take p vs) ≡ p
  long = length_take p vs (few bs vs p le)

  pub top_parts : take p (inside bs vs) ≡ take p vs
  top_parts =
      ap (take p) inside_parts ∙ ap (λ k. take k (take p vs ++ inside bs (drop p vs))) (sym long ∙ omega arith)
      ∙ take_over (take p vs) (inside bs (drop p vs)) 0 ∙ none (take p vs)
    where
      none : (xs : List Value) → xs ++ [] ≡ xs
      none [] = refl
      none (x ∷ xs) = ap (λ l. x ∷ l) (none xs)

  pub rest_parts : drop p (inside bs vs) ≡ inside bs (drop p vs)
  rest_parts =
      ap (drop p) inside_parts ∙ ap (λ k. drop k (take p vs ++ inside bs (drop p vs))) (sym long ∙ omega arith)
      ∙ drop_over (take p vs) (inside bs (drop p vs)) 0

pub outside_length : (bs : List Opened) (vs : List Value) → length (outside bs vs) ≡ length bs
outside_length [] vs = refl
outside_length (b ∷ bs) vs = ap suc (outside_length bs (drop (length vs - b.height) vs))

-- ---- a block is opened, and closed

pub opened_layers : (bs : List Opened) (vs : List Value) (p : ℕ) (b : Opened) → Heights bs (length vs) → p ≤ length (inside bs vs) → b.height ≡ length vs - p → layers (b ∷ bs) vs ≡ record { values = take p (inside bs vs); labels = record { target = b.target; arity = b.arity; outside = drop p (inside bs vs) } ∷ outside bs vs }
opened_layers bs vs p b h le is =
    let fits = few bs vs p le in
    let e : length vs - b.height ≡ p = omega (arith, is) in
    let v : take (length vs - b.height) vs ≡ take p (inside bs vs) = ap (λ k. take k vs) e ∙ sym (top_parts bs vs p h le) in
    let d : drop (length vs - b.height) vs ≡ drop p vs = ap (λ k. drop k vs) e in
    let o : inside bs (drop (length vs - b.height) vs) ≡ drop p (inside bs vs) = ap (inside bs) d ∙ sym (rest_parts bs vs p h le) in
    let l : outside bs (drop (length vs - b.height) vs) ≡ outside bs vs = ap (outside bs) d ∙ sym (outside_parts bs vs p h le) in
    cc (v, o, l)

pub opened_heights : (bs : List Opened) (vs : List Value) (p : ℕ) (b : Opened) → Heights bs (length vs) → p ≤ length (inside bs vs) → b.height ≡ length vs - p → Heights (b ∷ bs) (length vs)
opened_heights bs vs p b h le is =
    let n = length-drop p vs in
    (omega (arith, is), subst (Heights bs) (n ∙ sym is) (below bs vs p h le))

rest_length : (vs : List Value) (n : ℕ) → n ≤ length vs → length (drop (length vs - n) vs) ≡ n
rest_length vs n le = length-drop (length vs - n) vs ∙ omega arith

rest_heights : (bs : List Opened) (vs : List Value) (n : ℕ) → n ≤ length vs → Heights bs n → Heights bs (length (drop (length vs - n) vs))
rest_heights bs vs n le h = subst (Heights bs) (sym (rest_length vs n le)) h

pub closed_layers : (b : Opened) (bs : List Opened) (vs : List Value) → Heights (b ∷ bs) (length vs) → Closes (layers (b ∷ bs) vs) b.target (layers bs vs)
closed_layers b bs vs h =
    let k = length vs - b.height in
    let r = rest_heights bs vs b.height h.0 h.1 in
    let parts = take-append-drop k vs in
    record {
      label = record { target = b.target; arity = b.arity; outside = inside bs (drop k vs) };
      labels = ap (λ l. record { target = b.target; arity = b.arity; outside = inside bs (drop k vs) } ∷ l) (sym (outside_over bs (take k vs) (drop k vs) r) ∙ ap (outside bs) parts);
      leads = refl;
      values = sym (ap (inside bs) parts) ∙ inside_over bs (take k vs) (drop k vs) r;
    }

pub closed_heights : (b : Opened) (bs : List Opened) (n : ℕ) → Heights (b ∷ bs) n → Heights bs n
closed_heights b bs n h = rises bs b.height n h.0 h.1

-- ---- a jump

-- the block of a label
pub record Found (bs : List Opened) (vs : List Value) (k : ℕ) (b : Opened) : Type 0 where
  pub label : slice_get (outside bs vs) k ≡ Some (record { target = b.target; arity = b.arity; outside = inside (drop (suc k) bs) (drop (length vs - b.height) vs) })
  pub labels : drop (suc k) (outside bs vs) ≡ outside (drop (suc k) bs) (drop (length vs - b.height) vs)
  pub within : b.height ≤ length vs
  pub heights : Heights (drop (suc k) bs) b.height

pub found : (bs : List Opened) (vs : List Value) (k : ℕ) (b : Opened) → slice_get bs k ≡ Some b → Heights bs (length vs) → Found bs vs k b
found [] vs k b at h = absurd (grind arith)
found (c ∷ bs) vs zero b at h =
    let e : c ≡ b = grind arith in
    subst (Found (c ∷ bs) vs 0) e (record { label = refl; labels = refl; within = h.0; heights = h.1 })
found (c ∷ bs) vs (suc k) b at h =
    let rest = drop (length vs - c.height) vs in
    let n = rest_length vs c.height h.0 in
    let f = found bs rest k b at (rest_heights bs vs c.height h.0 h.1) in
    let low : b.height ≤ c.height = subst (λ x. b.height ≤ x) n f.within in
    let e : drop (length rest - b.height) rest ≡ drop (length vs - b.height) vs =
    ap (λ x. drop (x - b.height) rest) n ∙ drop_drop (length vs - c.height) (c.height - b.height) vs ∙ ap (λ x. drop x vs) (omega (arith, h.0)) in
    record {
      label = f.label ∙ ap (λ x. Some (record { target = b.target; arity = b.arity; outside = inside (drop (suc k) bs) x })) e;
      labels = f.labels ∙ ap (outside (drop (suc k) bs)) e;
      within = omega (arith, h.0);
      heights = f.heights;
    }

pub past : (bs : List Opened) (vs : List Value) (k : ℕ) → slice_get bs k ≡ None → slice_get (outside bs vs) k ≡ None
past [] vs k at = refl
past (c ∷ bs) vs zero at = absurd (grind arith)
past (c ∷ bs) vs (suc k) at = past bs (drop (length vs - c.height) vs) k at

pub jumped : (bs : List Opened) (vs : List Value) (k : ℕ) (b : Opened) → slice_get bs k ≡ Some b → Heights bs (length vs) → b.arity ≤ length (inside bs vs) → JumpsTo (layers bs vs) k b.target (layers (drop (suc k) bs) (take b.arity vs ++ drop (length vs - b.height) vs))
jumped bs vs k b at h le =
    let f = found bs vs k b at h in
    let rest = drop (length vs - b.height) vs in
    let r = rest_heights (drop (suc k) bs) vs b.height f.within f.heights in
    record {
      label = record { target = b.target; arity = b.arity; outside = inside (drop (suc k) bs) rest };
      at = f.label;
      leads = refl;
      enough = le;
      values = inside_over (drop (suc k) bs) (take b.arity vs) rest r ∙ ap (λ l. l ++ inside (drop (suc k) bs) rest) (sym (top_parts bs vs b.arity h le));
      labels = outside_over (drop (suc k) bs) (take b.arity vs) rest r ∙ sym f.labels;
    }

pub jumped_heights : (bs : List Opened) (vs : List Value) (k n : ℕ) (b : Opened) → slice_get bs k ≡ Some b → Heights bs (length vs) → b.height ≤ n → Heights (drop (suc k) bs) n
jumped_heights bs vs k n b at h le = rises (drop (suc k) bs) b.height n le (found bs vs k b at h).heights

pub short : (bs : List Opened) (vs : List Value) (k : ℕ) (b : Opened) → slice_get bs k ≡ Some b → Heights bs (length vs) → length (inside bs vs) < b.arity → JumpsShort (layers bs vs) k
short bs vs k b at h few = let f = found bs vs k b at h in record {
  label = record { target = b.target; arity = b.arity; outside = inside (drop (suc k) bs) (drop (length vs - b.height) vs) };
  at = f.label;
  few = few;
}

-- ---- values

pub popped_layers : (bs : List Opened) (vs : List Value) (v : Value) (rest : List Value) → vs ≡ v ∷ rest → Heights bs (length vs) → 0 < length (inside bs vs) → layers bs vs ≡ record (layers bs rest) { values = v ∷ inside bs rest }
popped_layers bs vs v rest is h some =
    let low : Heights bs (length rest) = subst (λ l. Heights bs (length (drop 1 l))) is (below bs vs 1 h some) in
    ap (layers bs) is ∙ pushed_layers bs v rest low

pub popped_heights : (bs : List Opened) (vs : List Value) (v : Value) (rest : List Value) → vs ≡ v ∷ rest → Heights bs (length vs) → 0 < length (inside bs vs) → Heights bs (length rest)
popped_heights bs vs v rest is h some = subst (λ l. Heights bs (length (drop 1 l))) is (below bs vs 1 h some)

pub dropped_layers : (bs : List Opened) (vs : List Value) (p : ℕ) → Heights bs (length vs) → p ≤ length (inside bs vs) → layers bs (drop p vs) ≡ record (layers bs vs) { values = drop p (inside bs vs) }
dropped_layers bs vs p h le = cc (rest_parts bs vs p h le, outside_parts bs vs p h le)

-- ---- the calls, by what is shown

module _ (bs : List Opened) (vs : List Value) (shown : Layers) (is : layers bs vs ≡ shown) where
  pub depth_is : (n : ℕ) → n ≡ length bs → n ≡ length shown.labels
  depth_is n e = e ∙ sym (outside_length bs vs) ∙ ap (λ (l : Layers). length l.labels) is

  pub count_in : (p : ℕ) → p ≤ length shown.values → p ≤ length (inside bs vs)
  count_in p le = subst (λ (l : Layers). p ≤ length l.values) (sym is) le

  pub push_is : (v : Value) (new : List Value) → new ≡ v ∷ vs → Heights bs (length vs) → layers bs new ≡ record { values = v ∷ shown.values; labels = shown.labels }
  push_is v new e h = ap (layers bs) e ∙ pushed_layers bs v vs h ∙ ap (λ (l : Layers). record { values = v ∷ l.values; labels = l.labels }) is

  pub put_is : (top new : List Value) → new ≡ top ++ vs → Heights bs (length vs) → layers bs new ≡ record { values = top ++ shown.values; labels = shown.labels }
  put_is top new e h =
      ap (layers bs) e ∙ cc (inside_over bs top vs h, outside_over bs top vs h) ∙ ap (λ (l : Layers). record { values = top ++ l.values; labels = l.labels }) is

  pub pop_is : (v : Value) (rest : List Value) → vs ≡ v ∷ rest → Heights bs (length vs) → 0 < length shown.values → shown ≡ record { values = v ∷ inside bs rest; labels = outside bs rest }
  pop_is v rest e h some = sym is ∙ popped_layers bs vs v rest e h (count_in 1 (omega arith))

  pub none_is : vs ≡ [] → 0 < length shown.values → ⊥
  none_is e some =
      let n = few bs vs 1 (count_in 1 (omega arith)) in
      let z = ap (λ (l : List Value). length l) e in
      omega (arith, n, z)

  pub take_is : (p : ℕ) (new : List Value) → new ≡ drop p vs → Heights bs (length vs) → p ≤ length shown.values → layers bs new ≡ record { values = drop p shown.values; labels = shown.labels }
  take_is p new e h le = ap (layers bs) e ∙ dropped_layers bs vs p h (count_in p le) ∙ ap (λ (l : Layers). record { values = drop p l.values; labels = l.labels }) is

  pub open_is : (p : ℕ) (b : Opened) (new : List Opened) → new ≡ b ∷ bs → b.height ≡ length vs - p → Heights bs (length vs) → p ≤ length shown.values → layers new vs ≡ record { values = take p shown.values; labels = record { target = b.target; arity = b.arity; outside = drop p shown.values } ∷ shown.labels }
  open_is p b new e at h le =
      ap (λ l. layers l vs) e ∙ opened_layers bs vs p b h (count_in p le) at
      ∙ ap (λ (l : Layers). record { values = take p l.values; labels = record { target = b.target; arity = b.arity; outside = drop p l.values } ∷ l.labels }) is

  pub close_is : (b : Opened) (rest : List Opened) → bs ≡ b ∷ rest → Heights bs (length vs) → Closes shown b.target (layers rest vs)
  close_is b rest e h =
      subst (λ (l : Layers). Closes l b.target (layers rest vs)) (ap (λ l. layers l vs) (sym e) ∙ is)
      (closed_layers b rest vs (subst (λ l. Heights l (length vs)) e h))

  pub past_is : (k : ℕ) → slice_get bs k ≡ None → slice_get shown.labels k ≡ None
  past_is k at = ap (λ (l : Layers). slice_get l.labels k) (sym is) ∙ past bs vs k at

  pub short_is : (k n : ℕ) (b : Opened) → slice_get bs k ≡ Some b → Heights bs (length vs) → n ≡ length shown.values → n < b.arity → JumpsShort shown k
  short_is k n b at h e lt =
      subst (λ (l : Layers). JumpsShort l k) is
      (short bs vs k b at h (subst (λ (l : Layers). length l.values < b.arity) (sym is) (subst (λ m. m < b.arity) e lt)))

  pub jump_is : (k : ℕ) (b : Opened) (new : List Opened) (left : List Value) → slice_get bs k ≡ Some b → Heights bs (length vs) → b.arity ≤ length shown.values → new ≡ drop (k + 1) bs → left ≡ take b.arity vs ++ drop (length vs - b.height) vs → JumpsTo shown k b.target (layers new left)
  jump_is k b new left at h le e f =
      let s : suc k ≡ k + 1 = omega arith in
      subst (λ (l : Layers). JumpsTo l k b.target (layers new left)) is
      (subst (λ l. JumpsTo (layers bs vs) k b.target (layers l left)) (ap (λ n. drop n bs) s ∙ sym e)
      (subst (λ l. JumpsTo (layers bs vs) k b.target (layers (drop (suc k) bs) l)) (sym f) (jumped bs vs k b at h (count_in b.arity le))))

  pub reach_is : (k : ℕ) (b : Opened) → slice_get bs k ≡ Some b → Heights bs (length vs) → b.arity ≤ length shown.values → b.arity + b.height ≤ length vs
  reach_is k b at h le = omega (arith, under bs k b at h, count_in b.arity le)
    where
      under : (bs : List Opened) (k : ℕ) (b : Opened) → slice_get bs k ≡ Some b → Heights bs (length vs) → b.height + length (inside bs vs) ≤ length vs
      under [] k b at h = absurd (grind arith)
      under (c ∷ bs) zero b at h =
          let e : c ≡ b = grind arith in
          let low : b.height ≤ length vs = subst (λ (x : Opened). x.height ≤ length vs) e h.0 in
          let n = length_take (length vs - c.height) vs (omega arith) ∙ ap (λ (x : Opened). length vs - x.height) e in
          omega (arith, n)
      under (c ∷ bs) (suc k) b at h =
          let n = length_take (length vs - c.height) vs (omega arith) in
          let f = found bs (drop (length vs - c.height) vs) k b at (rest_heights bs vs c.height h.0 h.1) in
          omega (arith, n, f.within, rest_length vs c.height h.0, h.0)

pub jump_heights : (bs : List Opened) (vs : List Value) (k n : ℕ) (b : Opened) (new : List Opened) → slice_get bs k ≡ Some b → Heights bs (length vs) → b.height ≤ n → new ≡ drop (k + 1) bs → Heights new n
jump_heights bs vs k n b new at h le e =
    let s : suc k ≡ k + 1 = omega arith in
    subst (λ l. Heights l n) (ap (λ m. drop m bs) s ∙ sym e) (jumped_heights bs vs k n b at h le)

pub sunk_long : (vs left : List Value) (a h : ℕ) → left ≡ take a vs ++ drop (length vs - h) vs → h ≤ length vs → h ≤ length left
sunk_long vs left a h e le =
    let n = ap (λ (l : List Value). length l) e ∙ length_over (take a vs) (drop (length vs - h) vs) in
    omega (arith, n, rest_length vs h le)

pub take_whole : (n : ℕ) (vs : List Value) → n ≡ length vs → take n vs ≡ vs
take_whole n vs e = ap (λ k. take k vs) e ∙ whole vs
  where
    whole : (xs : List Value) → take (length xs) xs ≡ xs
    whole [] = refl
    whole (x ∷ xs) = ap (λ l. x ∷ l) (whole xs)

pub put_heights : (bs : List Opened) (top vs new : List Value) → new ≡ top ++ vs → Heights bs (length vs) → Heights bs (length new)
put_heights bs top vs new e h =
    let n = ap (λ (l : List Value). length l) e ∙ length_over top vs in
    rises bs (length vs) (length new) (omega (arith, n)) h

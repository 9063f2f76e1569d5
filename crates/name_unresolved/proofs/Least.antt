-- The least of lists that are put together, filtered and mapped.
use Rattle.std.proofs.Common.{◌≡◌, ℕ, ◌+◌, ◌<◌, Bool, true, false, cond, List, [], ◌∷◌, ◌++◌, length, get_or, drop, map, filter, slice_get, suc, Option, Some, None, refl, sym, ap, ◌∙◌, subst, arith, add-one}
use Rattle.std.specs.List.{flat_map, filter_map, fold, range_with_len}
use Rattle.std.specs.Option.{option_and_then}
use Rattle.std.proofs.Math.Seq.{drop-cons}
use Rattle.name_unresolved.specs.Refers.{SymbolAt}
use Rattle.name_unresolved.specs.Least.{is_before, lesser, least_by}

-- ---- lesser

pub lesser_none : (a : Option SymbolAt) → lesser a None ≡ a
lesser_none None = refl
lesser_none (Some a) = refl

before_trans : (a b c : SymbolAt) → is_before a b ≡ true → is_before b c ≡ true → is_before a c ≡ true
before_trans a b c h k = grind arith

not_before_trans : (a b c : SymbolAt) → is_before a b ≡ false → is_before b c ≡ false → is_before a c ≡ false
not_before_trans a b c h k = grind arith

abbrev lesser_of : SymbolAt → SymbolAt → SymbolAt
lesser_of a b = cond (is_before b a) b a

lesser_is : (a b : SymbolAt) → lesser (Some a) (Some b) ≡ Some (lesser_of a b)
lesser_is a b = by (is_before b a)
  where
    by : (h : Bool) → cond h (Some b) (Some a) ≡ Some (cond h b a)
    by true = refl
    by false = refl

of_assoc : (a b c : SymbolAt) → lesser_of (lesser_of a b) c ≡ lesser_of a (lesser_of b c)
of_assoc a b c = by (is_before b a) (is_before c b) refl refl
  where
    by : (h k : Bool) → is_before b a ≡ h → is_before c b ≡ k
        → cond (is_before c (cond h b a)) c (cond h b a) ≡ cond (is_before (cond k c b) a) (cond k c b) a
    by true true ba cb = rw (cb, before_trans c b a cb ba) refl
    by true false ba cb = rw (cb, ba) refl
    by false true ba cb = refl
    by false false ba cb = rw (ba, not_before_trans c b a cb ba) refl

pub lesser_assoc : (a b c : Option SymbolAt) → lesser (lesser a b) c ≡ lesser a (lesser b c)
lesser_assoc None b c = refl
lesser_assoc (Some a) None c = refl
lesser_assoc (Some a) (Some b) None = lesser_none (lesser (Some a) (Some b))
lesser_assoc (Some a) (Some b) (Some c) =
    ap (λ o. lesser o (Some c)) (lesser_is a b) ∙ lesser_is (lesser_of a b) c ∙ ap Some (of_assoc a b c)
    ∙ sym (ap (lesser (Some a)) (lesser_is b c) ∙ lesser_is a (lesser_of b c))

-- ---- lists

module _ {A : Type 0} (f : A → Option SymbolAt) where
  pub append_is : (xs ys : List A) → least_by f (xs ++ ys) ≡ lesser (least_by f xs) (least_by f ys)
  append_is [] ys = refl
  append_is (x ∷ xs) ys = ap (lesser (f x)) (append_is xs ys) ∙ sym (lesser_assoc (f x) (least_by f xs) (least_by f ys))

  pub map_is : {B : Type 0} (g : B → A) (xs : List B) → least_by f (map g xs) ≡ least_by (λ x. f (g x)) xs
  map_is g [] = refl
  map_is g (x ∷ xs) = ap (lesser (f (g x))) (map_is g xs)

  pub flat_map_is : {B : Type 0} (g : B → List A) (xs : List B) → least_by f (flat_map g xs) ≡ least_by (λ x. least_by f (g x)) xs
  flat_map_is g [] = refl
  flat_map_is g (x ∷ xs) = append_is (g x) (flat_map g xs) ∙ ap (lesser (least_by f (g x))) (flat_map_is g xs)

  pub filter_map_is : {B : Type 0} (g : B → Option A) (xs : List B) → least_by f (filter_map g xs) ≡ least_by (λ x. option_and_then f (g x)) xs
  filter_map_is g [] = refl
  filter_map_is g (x ∷ xs) = by (filter_map_is g xs) (g x) refl
    where
      by : least_by f (filter_map g xs) ≡ least_by (λ x. option_and_then f (g x)) xs → (o : Option A) → g x ≡ o
          → least_by f (filter_map g (x ∷ xs)) ≡ lesser (option_and_then f o) (least_by (λ x. option_and_then f (g x)) xs)
      by rest None e = rw e rest
      by rest (Some a) e = rw e (ap (lesser (f a)) rest)

  pub filter_is : (p : A → Bool) (xs : List A) → least_by f (filter p xs) ≡ least_by (λ x. cond (p x) (f x) None) xs
  filter_is p [] = refl
  filter_is p (x ∷ xs) = by (filter_is p xs) (p x)
    where
      by : least_by f (filter p xs) ≡ least_by (λ x. cond (p x) (f x) None) xs → (b : Bool)
          → least_by f (cond b (x ∷ filter p xs) (filter p xs)) ≡ lesser (cond b (f x) None) (least_by (λ x. cond (p x) (f x) None) xs)
      by rest true = ap (lesser (f x)) rest
      by rest false = rest

  -- one item more
  pub goes_on : (xs : List A) (i : ℕ) (d : A) (so_far next whole : Option SymbolAt) → i < length xs → next ≡ lesser so_far (f (get_or xs i d))
      → lesser so_far (least_by f (drop i xs)) ≡ whole → lesser next (least_by f (drop (i + 1) xs)) ≡ whole
  goes_on xs i d so_far next whole below is all =
      ap (λ o. lesser o (least_by f (drop (i + 1) xs))) is ∙ lesser_assoc so_far (f (get_or xs i d)) (least_by f (drop (i + 1) xs))
      ∙ sym (ap (λ l. lesser so_far (least_by f l)) (drop-cons xs i d below ∙ ap (λ k. get_or xs i d ∷ drop k xs) (sym (add-one i)))) ∙ all

  -- all items
  pub ends : (xs : List A) (i : ℕ) (so_far whole : Option SymbolAt) → i ≡ length xs → lesser so_far (least_by f (drop i xs)) ≡ whole → so_far ≡ whole
  ends xs i so_far whole end all = sym (ap (lesser so_far) (ap (λ k. least_by f (drop k xs)) end ∙ past xs) ∙ lesser_none so_far) ∙ all
    where
      past : (l : List A) → least_by f (drop (length l) l) ≡ None
      past [] = refl
      past (x ∷ l) = past l

  folded : (a : Option SymbolAt) (xs : List A) → fold lesser a (map f xs) ≡ lesser a (least_by f xs)
  folded a [] = sym (lesser_none a)
  folded a (x ∷ xs) = folded (lesser a (f x)) xs ∙ lesser_assoc a (f x) (least_by f xs)

  -- put together from the left
  pub fold_is : (xs : List A) → fold lesser None (map f xs) ≡ least_by f xs
  fold_is xs = folded None xs

-- the numbers from a on, each of which gives what an item gives where its test holds
module _ {A : Type 0} (keep : ℕ → Bool) (f : A → Option SymbolAt) (kept_from : ℕ → List A → List A)
    (at_end : (a : ℕ) → kept_from a [] ≡ [])
    (at_one : (a : ℕ) (x : A) (xs : List A) → kept_from a (x ∷ xs) ≡ cond (keep a) (x ∷ kept_from (a + 1) xs) (kept_from (a + 1) xs))
    (g : ℕ → Option SymbolAt) where
  pub by_number : (xs : List A) (a : ℕ) → ((i : ℕ) → i < length xs → g (a + i) ≡ cond (keep (a + i)) (option_and_then f (slice_get xs i)) None)
      → least_by g (range_with_len a (length xs)) ≡ least_by f (kept_from a xs)
  by_number [] a gives = sym (ap (least_by f) (at_end a))
  by_number (x ∷ xs) a gives =
      let here : g a ≡ cond (keep a) (f x) None = subst (λ k. g k ≡ cond (keep k) (f x) None) (omega arith) (gives 0 (omega arith)) in
      let rest = by_number xs (a + 1) (λ i below.
      subst (λ k. g k ≡ cond (keep k) (option_and_then f (slice_get xs i)) None) (omega arith) (gives (suc i) (omega arith))) in
      by here rest (keep a) refl ∙ sym (ap (least_by f) (at_one a x xs))
    where
      by : g a ≡ cond (keep a) (f x) None → least_by g (range_with_len (a + 1) (length xs)) ≡ least_by f (kept_from (a + 1) xs) → (b : Bool) → keep a ≡ b
          → lesser (g a) (least_by g (range_with_len (a + 1) (length xs))) ≡ least_by f (cond b (x ∷ kept_from (a + 1) xs) (kept_from (a + 1) xs))
      by here rest true is = rw (here, is) (ap (lesser (f x)) rest)
      by here rest false is = rw (here, is) rest

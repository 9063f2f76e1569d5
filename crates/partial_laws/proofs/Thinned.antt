-- What is seen first decides a list without repeats: items whose value one that is kept had before may be left out.
use Rattle.std.proofs.Common.{◌≡◌, ⊎_elim, Bool, true, false, cond, List, [], ◌∷◌, ◌++◌, filter, refl, sym, ap, subst, ◌∙◌}
use Rattle.std.specs.Prelude.{if◌then◌else◌, Option, Some, None, filter_map}
use Rattle.std.specs.List.{list_any, cons_option}
use Rattle.std.proofs.lemmas.List.Folds.{list_any-append}
use Rattle.std.proofs.lemmas.Bool.{or_left, or_right}
use Rattle.list_places.specs.Has.{Has}
use Rattle.list_places.proofs.Lists.{has_either, some_is}
use Rattle.name_rules.specs.object_file.wl_base.Choice.{distinct, distinct_onto}

module _ {A K : Type 0} (keep : A → Bool) (f : A → Option K) (same : K → K → Bool) (itself : (k : K) → same k k ≡ true) where
  -- One of these is kept and has this value.
  pub record Shown (seen : List A) (k : K) : Type 0 where
    pub item : A
    pub there : Has seen item
    pub kept : keep item ≡ true
    pub gives : f item ≡ Some k

  -- Behind these, each item that isn't kept has no value, or one that is shown before.
  abbrev pub Led : List A → List A → Type 0
  Led seen [] = Unit {0}
  Led seen (x ∷ xs) = (keep x ≡ false → (k : K) → f x ≡ Some k → Shown seen k) × Led (seen ++ x ∷ []) xs

  -- The values of those that are kept are among these.
  abbrev Covers : List A → List K → Type 0
  Covers seen ks = (s : A) → Has seen s → keep s ≡ true → (k : K) → f s ≡ Some k → list_any (same k) ks ≡ true

  among_more : (ks : List K) (v k : K) (b : Bool) → list_any (same k) ks ≡ true → list_any (same k) (if b then ks else ks ++ v ∷ []) ≡ true
  among_more ks v k true h = h
  among_more ks v k false h = list_any-append (same k) ks (v ∷ []) ∙ or_left (list_any (same k) ks) (list_any (same k) (v ∷ [])) h

  added : (ks : List K) (v : K) (b : Bool) → list_any (same v) ks ≡ b → list_any (same v) (if b then ks else ks ++ v ∷ []) ≡ true
  added ks v true h = h
  added ks v false h =
      list_any-append (same v) ks (v ∷ []) ∙ or_right (list_any (same v) ks) (list_any (same v) (v ∷ [])) (or_left (same v v) false (itself v))

  covers_more : (seen : List A) (x : A) (ks more : List K) → Covers seen ks → ((k : K) → list_any (same k) ks ≡ true → list_any (same k) more ≡ true)
      → (keep x ≡ true → (k : K) → f x ≡ Some k → list_any (same k) more ≡ true) → Covers (seen ++ x ∷ []) more
  covers_more seen x ks more c grows last s there kept k gives =
      ⊎_elim (λ before. grows k (c s before kept k gives))
      (λ at. ⊎_elim (λ (it : x ≡ s). last (ap keep it ∙ kept) k (ap f it ∙ gives)) (λ none. absurd none) at)
      (has_either seen (x ∷ []) s there)

  abbrev Rest : List A → List A → Type 0
  Rest seen xs = (more : List K) → Covers seen more → distinct_onto same more (filter_map f xs) ≡ distinct_onto same more (filter_map f (filter keep xs))

  pub thinned_onto : (seen : List A) (ks : List K) (xs : List A) → Covers seen ks → Led seen xs → distinct_onto same ks (filter_map f xs) ≡ distinct_onto same ks (filter_map f (filter keep xs))
  thinned_onto seen ks [] c l = refl
  thinned_onto seen ks (x ∷ xs) c l = by_keep (λ more d. thinned_onto (seen ++ x ∷ []) more xs d l.1) (keep x) refl
    where
      next : List K → K → List K
      next now v = if list_any (same v) now then now else now ++ v ∷ []

      no_value : f x ≡ None → Covers (seen ++ x ∷ []) ks
      no_value none = covers_more seen x ks ks c (λ k h. h) (λ kept k gives. absurd (none_some k (sym none ∙ gives)))
        where
          none_some : (k : K) → None ≡ Some k → ⊥
          none_some k e = absurd cc

      kept_value : (v : K) → f x ≡ Some v → Covers (seen ++ x ∷ []) (next ks v)
      kept_value v gives =
          covers_more seen x ks (next ks v) c (λ k h. among_more ks v k (list_any (same v) ks) h)
          (λ kept k too. subst (λ w. list_any (same w) (next ks v) ≡ true) (some_is v k (sym gives ∙ too)) (added ks v (list_any (same v) ks) refl))

      left_value : (v : K) → keep x ≡ false → Covers (seen ++ x ∷ []) ks
      left_value v left = covers_more seen x ks ks c (λ k h. h) (λ kept. absurd (clash (sym left ∙ kept)))
        where
          clash : false ≡ true → ⊥
          clash e = absurd cc

      by_value : Rest (seen ++ x ∷ []) xs → (o : Option K) → f x ≡ o → keep x ≡ true
          → distinct_onto same ks (cons_option o (filter_map f xs)) ≡ distinct_onto same ks (cons_option o (filter_map f (filter keep xs)))
      by_value rest None none kept = rest ks (no_value none)
      by_value rest (Some v) some kept = rest (next ks v) (kept_value v some)

      by_left : Rest (seen ++ x ∷ []) xs → (o : Option K) → f x ≡ o → keep x ≡ false → distinct_onto same ks (cons_option o (filter_map f xs)) ≡ distinct_onto same ks (filter_map f (filter keep xs))
      by_left rest None none left = rest ks (no_value none)
      by_left rest (Some v) some left =
          let shown = l.0 left v some in
          let known : list_any (same v) ks ≡ true = c shown.item shown.there shown.kept v shown.gives in
          ap (λ (b : Bool). distinct_onto same (if b then ks else ks ++ v ∷ []) (filter_map f xs)) known ∙ rest ks (left_value v left)

      by_keep : Rest (seen ++ x ∷ []) xs → (b : Bool) → keep x ≡ b → distinct_onto same ks (filter_map f (x ∷ xs)) ≡ distinct_onto same ks (filter_map f (cond b (x ∷ filter keep xs) (filter keep xs)))
      by_keep rest true kept = by_value rest (f x) refl kept
      by_keep rest false left = by_left rest (f x) refl left

  pub thinned : (xs : List A) → Led [] xs → distinct same (filter_map f xs) ≡ distinct same (filter_map f (filter keep xs))
  thinned xs l = thinned_onto [] [] xs (λ s there. absurd there) l

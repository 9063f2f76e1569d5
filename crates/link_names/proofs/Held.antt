-- Each of the names that are gained is held, and none twice.
use Rattle.std.proofs.Common.{◌≡◌, ℕ, List, [], ◌∷◌, ◌++◌, length, map, filter, slice_index_or, Bool, true, false, refl, sym, ap, ◌∙◌, Option, Some, None, All, subst}
use Rattle.std.specs.Prelude.{flat_map, bytes_eq, if◌then◌else◌}
use Rattle.std.specs.List.{IsDistinct, list_any}
use Rattle.std.specs.Cmp.Lexicographic.{nat_list_eq_equiv}
use Rattle.std.proofs.lemmas.Map.Keys.{IsDistinct-push}
use Rattle.std.proofs.lemmas.List.Elements.{All-nil, All-cons}
use Rattle.object_file.specs.wl_base.Names.{number_of}
use Rattle.link_names.specs.Interning.{more}
use Rattle.link_names.proofs.More.{with_name, more_append, numbers_stay, new_last, not_held}

-- the number of a name that is held
abbrev pub Numbered : List (List ℕ) → List ℕ → Type 0
Numbered names x = (k : ℕ) × (number_of names x ≡ Some k)

now_held : (names : List (List ℕ)) (x : List ℕ) (o : Option ℕ) → number_of names x ≡ o → Numbered (with_name names x) x
now_held names x (Some k) at = (k, numbers_stay names (x ∷ []) x k at)
now_held names x None at = (length names, ap (λ b. number_of (if b then names else names ++ x ∷ []) x) (not_held names x at) ∙ new_last names x at)

stay_held : (names xs : List (List ℕ)) (x : List ℕ) → Numbered names x → Numbered (more names xs) x
stay_held names xs x h = (h.0, numbers_stay names xs x h.0 h.1)

pub all_held : (names xs : List (List ℕ)) → All (Numbered (more names xs)) xs
all_held names [] = All-nil (Numbered names)
all_held names (x ∷ xs) =
    All-cons (Numbered (more names (x ∷ xs))) x xs (stay_held (with_name names x) xs x (now_held names x (number_of names x) refl)) (all_held (with_name names x) xs)

pub all_stay : (names xs ys : List (List ℕ)) → All (Numbered names) ys → All (Numbered (more names xs)) ys
all_stay names xs ys h k d lt = stay_held names xs (slice_index_or ys k d) (h k d lt)

-- the same of lists of names
pub lists_held : {A : Type 0} (f : A → List (List ℕ)) (names : List (List ℕ)) (os : List A) → All (λ o. All (Numbered (more names (flat_map f os))) (f o)) os
lists_held f names [] = All-nil (λ o. All (Numbered names) (f o))
lists_held f names (o ∷ os) =
    let split : more names (flat_map f (o ∷ os)) ≡ more (more names (f o)) (flat_map f os) = more_append names (f o) (flat_map f os) in
    subst (λ ns. All (λ a. All (Numbered ns) (f a)) (o ∷ os)) (sym split)
    (All-cons (λ a. All (Numbered (more (more names (f o)) (flat_map f os))) (f a)) o os (all_stay (more names (f o)) (flat_map f os) (f o) (all_held names (f o))) (lists_held f (more names (f o)) os))

pub lists_stay : {A : Type 0} (f : A → List (List ℕ)) (names xs : List (List ℕ)) (os : List A) → All (λ o. All (Numbered names) (f o)) os → All (λ o. All (Numbered (more names xs)) (f o)) os
lists_stay f names xs os h k d lt = all_stay names xs (f (slice_index_or os k d)) (h k d lt)

-- ---- none twice

one_distinct : (names : List (List ℕ)) (x : List ℕ) (b : Bool) → list_any (bytes_eq x) names ≡ b → IsDistinct bytes_eq names → IsDistinct bytes_eq (if b then names else names ++ x ∷ [])
one_distinct names x true is d = d
one_distinct names x false is d = IsDistinct-push nat_list_eq_equiv names x d is

pub more_distinct : (names xs : List (List ℕ)) → IsDistinct bytes_eq names → IsDistinct bytes_eq (more names xs)
more_distinct names [] d = d
more_distinct names (x ∷ xs) d = more_distinct (with_name names x) xs (one_distinct names x (list_any (bytes_eq x) names) refl d)

pub none_distinct : IsDistinct bytes_eq []
unfolding IsDistinct
none_distinct = tt

-- ---- the same names, otherwise written

pub filtered : {A : Type 0} (test : A → Bool) (name : A → List ℕ) (xs : List A) → map name (filter test xs) ≡ flat_map (λ x. if test x then name x ∷ [] else []) xs
filtered test name [] = refl
filtered test name (x ∷ xs) = by (test x) (filtered test name xs)
  where
    by : (b : Bool) → map name (filter test xs) ≡ flat_map (λ x. if test x then name x ∷ [] else []) xs
        → map name (if b then x ∷ filter test xs else filter test xs) ≡ (if b then name x ∷ [] else []) ++ flat_map (λ x. if test x then name x ∷ [] else []) xs
    by true e = ap (λ (ys : List (List ℕ)). name x ∷ ys) e
    by false e = e

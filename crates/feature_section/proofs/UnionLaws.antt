-- What objects use together: the names that one of them uses, in their order.
use Rattle.std.proofs.Common.{◌≡◌, ℕ, Bool, true, false, cond, ◌||◌, ◌&&◌, List, [], ◌∷◌, refl, sym, ap, subst, ◌∙◌}
use Rattle.std.specs.declared.cmp.Ordering.{Ordering}
use Rattle.std.specs.declared.cmp.Ordering.TheVariants.{Less, Equal, Greater}
use Rattle.std.specs.Ordering.{match_ordering, ordering_reverse, is_eq}
use Rattle.std.specs.Cmp.Lexicographic.{nat_list_cmp_total}
use Rattle.std.proofs.lemmas.Map.Text.{is_eq-slice_cmp}
use Rattle.std.proofs.lemmas.Slice.Eq.{bytes_eq-Decides}
use Rattle.std.specs.FinMap.{slice_cmp-IsAntisymmetric, nat_cmp-IsAntisymmetric}
use Rattle.std.specs.List.{list_any, AllByRecursion}
use Rattle.std.specs.List.Sorted.{IsStrictlySortedBy}
use Rattle.std.specs.BTreeSet.{insert_key}
use Rattle.feature_section.specs.declared.feature.Feature.{Feature}
use Rattle.feature_section.specs.Union.{name_cmp, is_name, is_among, is_used, uses, with_name, with_features, with_objects, union_of}

-- ---- tests

pub or_false : (a : Bool) → a ≡ (a || false)
or_false true = refl
or_false false = refl

or_twice : (a b : Bool) → (a || b) ≡ (a || (a || b))
or_twice true b = refl
or_twice false b = refl

or_swap : (a b c : Bool) → (a || (b || c)) ≡ (b || (a || c))
or_swap true true c = refl
or_swap true false c = refl
or_swap false b c = refl

or_true : (a : Bool) → (a || true) ≡ true
or_true true = refl
or_true false = refl

pub or_move : (a b c : Bool) → ((a || b) || c) ≡ (b || (a || c))
or_move true true c = refl
or_move true false c = refl
or_move false b c = refl

pub or_group : (a b c : Bool) → ((a || b) || c) ≡ (a || (b || c))
or_group true b c = refl
or_group false b c = refl

-- ---- one name more

same_name : (a b : List ℕ) → name_cmp a b ≡ Equal → a ≡ b
same_name = slice_cmp-IsAntisymmetric nat_cmp-IsAntisymmetric

-- of some name, or of one that was there
pub any_insert : (P : List ℕ → Bool) (k : List ℕ) (ks : List (List ℕ)) → list_any P (insert_key name_cmp ks k) ≡ (P k || list_any P ks)
any_insert P k [] = refl
any_insert P k (x ∷ xs) = by (name_cmp k x) refl (any_insert P k xs)
  where
    by : (r : Ordering) → name_cmp k x ≡ r → list_any P (insert_key name_cmp xs k) ≡ (P k || list_any P xs)
        → list_any P (match_ordering r (k ∷ x ∷ xs) (x ∷ xs) (x ∷ insert_key name_cmp xs k)) ≡ (P k || (P x || list_any P xs))
    by Less e others = refl
    by Equal e others = subst (λ (y : List ℕ). (P x || list_any P xs) ≡ (P y || (P x || list_any P xs))) (sym (same_name k x e)) (or_twice (P x) (list_any P xs))
    by Greater e others = ap (λ (b : Bool). P x || b) others ∙ or_swap (P x) (P k) (list_any P xs)

-- a name that is there adds nothing
pub any_there : (P : List ℕ → Bool) (k : List ℕ) (ks : List (List ℕ)) → is_among ks k ≡ true → list_any P ks ≡ (P k || list_any P ks)
any_there P k [] there = absurd cc
any_there P k (x ∷ xs) there = by (name_cmp k x) refl there (any_there P k xs)
  where
    by : (r : Ordering) → name_cmp k x ≡ r → (is_eq r || is_among xs k) ≡ true → (is_among xs k ≡ true → list_any P xs ≡ (P k || list_any P xs))
        → (P x || list_any P xs) ≡ (P k || (P x || list_any P xs))
    by Less e among others = ap (λ (b : Bool). P x || b) (others among) ∙ or_swap (P x) (P k) (list_any P xs)
    by Equal e among others = subst (λ (y : List ℕ). (P x || list_any P xs) ≡ (P y || (P x || list_any P xs))) (sym (same_name k x e)) (or_twice (P x) (list_any P xs))
    by Greater e among others = ap (λ (b : Bool). P x || b) (others among) ∙ or_swap (P x) (P k) (list_any P xs)

any_with : (P : List ℕ → Bool) (k : List ℕ) (ks : List (List ℕ)) → list_any P (with_name ks k) ≡ (P k || list_any P ks)
any_with P k ks = by (is_among ks k) refl
  where
    by : (b : Bool) → is_among ks k ≡ b → list_any P (cond b ks (insert_key name_cmp ks k)) ≡ (P k || list_any P ks)
    by true there = any_there P k ks there
    by false there = any_insert P k ks

-- ---- what is among them

pub features_used : (n : List ℕ) (features : List Feature) (names : List (List ℕ)) → is_among (with_features names features) n ≡ (is_among names n || uses n features)
features_used n [] names = or_false (is_among names n)
features_used n (f ∷ features) names = by (is_used f.mark) (features_used n features)
  where
    by : (b : Bool) → ((more : List (List ℕ)) → is_among (with_features more features) n ≡ (is_among more n || uses n features))
        → is_among (with_features (cond b (with_name names f.name) names) features) n ≡ (is_among names n || ((b && is_name n f.name) || uses n features))
    by true others =
        others (with_name names f.name)
        ∙ ap (λ (b : Bool). b || uses n features) (any_with (is_name n) f.name names)
        ∙ or_move (is_name n f.name) (is_among names n) (uses n features)
    by false others = others names

objects_used : (n : List ℕ) (objects : List (List Feature)) (names : List (List ℕ)) → is_among (with_objects names objects) n ≡ (is_among names n || list_any (uses n) objects)
objects_used n [] names = or_false (is_among names n)
objects_used n (features ∷ objects) names =
    objects_used n objects (with_features names features)
    ∙ ap (λ (b : Bool). b || list_any (uses n) objects) (features_used n features names)
    ∙ or_group (is_among names n) (uses n features) (list_any (uses n) objects)

pub union_used : (objects : List (List Feature)) (name : List ℕ) → is_among (union_of objects) name ≡ list_any (uses name) objects
unfolding union_of
union_used objects name = objects_used name objects []

-- ---- what is there already

own_name : (n : List ℕ) → is_name n n ≡ true
own_name n = is_eq-slice_cmp n n ∙ (bytes_eq-Decides n n).1 refl

-- features whose names are among the names add nothing
none_new : (features : List Feature) (names : List (List ℕ)) → ((n : List ℕ) → uses n features ≡ true → is_among names n ≡ true) → with_features names features ≡ names
none_new [] names there = refl
none_new (f ∷ features) names there =
    ap (λ (more : List (List ℕ)). with_features more features) (by (is_used f.mark) refl)
    ∙ none_new features names (λ n used. there n (ap (λ (b : Bool). (is_used f.mark && is_name n f.name) || b) used ∙ or_true (is_used f.mark && is_name n f.name)))
  where
    by : (b : Bool) → is_used f.mark ≡ b → cond b (with_name names f.name) names ≡ names
    by true is =
        ap (λ (b : Bool). cond b names (insert_key name_cmp names f.name))
        (there f.name (ap (λ (b : Bool). (b && is_name f.name f.name) || uses f.name features) is ∙ ap (λ (b : Bool). b || uses f.name features) (own_name f.name)))
    by false is = refl

-- what was added adds nothing
pub used_twice : (names : List (List ℕ)) (features : List Feature) → with_features (with_features names features) features ≡ with_features names features
used_twice names features = none_new features (with_features names features) (λ n used. features_used n features names ∙ (ap (λ (b : Bool). is_among names n || b) used ∙ or_true (is_among names n)))

-- ---- their order

abbrev Below : List ℕ → List (List ℕ) → Type 0
Below k ks = AllByRecursion (λ y. name_cmp k y ≡ Less) ks

below_insert : (x k : List ℕ) (ks : List (List ℕ)) → Below x ks → name_cmp x k ≡ Less → Below x (insert_key name_cmp ks k)
below_insert x k [] below less = (less, tt)
below_insert x k (y ∷ ys) below less = by (name_cmp k y) (below_insert x k ys below.1 less)
  where
    by : (r : Ordering) → Below x (insert_key name_cmp ys k) → Below x (match_ordering r (k ∷ y ∷ ys) (y ∷ ys) (y ∷ insert_key name_cmp ys k))
    by Less others = (less, below)
    by Equal others = below
    by Greater others = (below.0, others)

below_less : (k x : List ℕ) (xs : List (List ℕ)) → name_cmp k x ≡ Less → Below x xs → Below k xs
below_less k x [] less below = tt
below_less k x (y ∷ ys) less below = (nat_list_cmp_total.trans k x y less below.0, below_less k x ys less below.1)

insert_sorted : (k : List ℕ) (ks : List (List ℕ)) → IsStrictlySortedBy name_cmp ks → IsStrictlySortedBy name_cmp (insert_key name_cmp ks k)
unfolding IsStrictlySortedBy
insert_sorted k [] sorted = (tt, tt)
insert_sorted k (x ∷ xs) sorted = by (name_cmp k x) refl (insert_sorted k xs sorted.1)
  where
    by : (r : Ordering) → name_cmp k x ≡ r → IsStrictlySortedBy name_cmp (insert_key name_cmp xs k) → IsStrictlySortedBy name_cmp (match_ordering r (k ∷ x ∷ xs) (x ∷ xs) (x ∷ insert_key name_cmp xs k))
    by Less e others = ((e, below_less k x xs e sorted.0), sorted)
    by Equal e others = sorted
    by Greater e others = (below_insert x k xs sorted.0 (nat_list_cmp_total.antisymm x k ∙ ap ordering_reverse e), others)

with_sorted : (k : List ℕ) (ks : List (List ℕ)) → IsStrictlySortedBy name_cmp ks → IsStrictlySortedBy name_cmp (with_name ks k)
with_sorted k ks sorted = by (is_among ks k)
  where
    by : (b : Bool) → IsStrictlySortedBy name_cmp (cond b ks (insert_key name_cmp ks k))
    by true = sorted
    by false = insert_sorted k ks sorted

features_sorted : (features : List Feature) (names : List (List ℕ)) → IsStrictlySortedBy name_cmp names → IsStrictlySortedBy name_cmp (with_features names features)
features_sorted [] names sorted = sorted
features_sorted (f ∷ features) names sorted = features_sorted features _ (by (is_used f.mark))
  where
    by : (b : Bool) → IsStrictlySortedBy name_cmp (cond b (with_name names f.name) names)
    by true = with_sorted f.name names sorted
    by false = sorted

objects_sorted : (objects : List (List Feature)) (names : List (List ℕ)) → IsStrictlySortedBy name_cmp names → IsStrictlySortedBy name_cmp (with_objects names objects)
objects_sorted [] names sorted = sorted
objects_sorted (features ∷ objects) names sorted = objects_sorted objects (with_features names features) (features_sorted features names sorted)

pub union_sorted : (objects : List (List Feature)) → IsStrictlySortedBy name_cmp (union_of objects)
unfolding union_of IsStrictlySortedBy
union_sorted objects = objects_sorted objects [] tt

-- Names among names, and lists in which the same names stand.
use Rattle.std.proofs.Common.{◌≡◌, ℕ, suc, Bool, true, false, ◌&&◌, ◌==◌, List, [], ◌∷◌, filter, map, length, inl, inr, refl, sym, ap, subst, ◌∙◌, arith}
use Rattle.std.specs.Prelude.{Option, Some, None, bytes_eq, flat_map, Result, Ok, Err}
use Rattle.std.specs.List.{list_any}
use Rattle.std.proofs.lemmas.Bool.{and_parts, and_from, ne_eqb}
use Rattle.std.proofs.lemmas.Slice.Eq.{bytes_eq-Decides}
use Rattle.list_places.specs.Has.{Has}
use Rattle.list_places.proofs.Lists.{any_has, has_any, has_filter, filter_has}
use Rattle.name_rules.specs.object_file.wl_base.Choice.{first_some, unless, ◌>>=◌, has_name}
use Rattle.partial_loading_laws.proofs.Zips.{any_in_flat}

pub both_ways : (s t : Bool) → (s ≡ true → t ≡ true) → (t ≡ true → s ≡ true) → s ≡ t
both_ways true true there back = refl
both_ways true false there back = sym (there refl)
both_ways false true there back = back refl
both_ways false false there back = refl

pub has_named : (names : List (List ℕ)) (name : List ℕ) → Has names name → has_name names name ≡ true
has_named names name has = any_has (bytes_eq name) names name has ((bytes_eq-Decides name name).1 refl)

pub named_has : (names : List (List ℕ)) (name : List ℕ) → has_name names name ≡ true → Has names name
named_has names name is =
    let x = has_any (bytes_eq name) names is in
    subst (Has names) (sym ((bytes_eq-Decides name x.0).0 x.2)) x.1

pub filter_name : (test : List ℕ → Bool) (names : List (List ℕ)) (name : List ℕ) → has_name (filter test names) name ≡ (has_name names name && test name)
filter_name test names name = both_ways (has_name (filter test names) name) (has_name names name && test name)
    (λ is.
    let h = has_filter test names name (named_has (filter test names) name is) in
    and_from (has_name names name) (test name) (has_named names name h.0) h.1)
    (λ is.
    let p = and_parts (has_name names name) (test name) is in
    has_named (filter test names) name (filter_has test names name (named_has names name p.0) p.1))

-- The same names stand in both.
abbrev pub SameNames : List (List ℕ) → List (List ℕ) → Type 0
SameNames xs ys = (name : List ℕ) → has_name ys name ≡ has_name xs name

pub filter_same_names : (test other : List ℕ → Bool) (xs ys : List (List ℕ)) → ((name : List ℕ) → other name ≡ test name) → SameNames xs ys → SameNames (filter test xs) (filter other ys)
filter_same_names test other xs ys tests same name =
    filter_name other ys name ∙ (ap (λ (b : Bool). b && other name) (same name) ∙ (ap (λ (b : Bool). has_name xs name && b) (tests name) ∙ sym (filter_name test xs name)))

pub none_of : {A : Type 0} (xs : List A) → ((x : A) → Has xs x → ⊥) → xs ≡ []
none_of [] none = refl
none_of (x ∷ xs) none = absurd (none x (inl refl))

-- one of the two is empty where the other is
pub as_empty : (xs ys : List (List ℕ)) → SameNames xs ys → (length ys == 0) ≡ (length xs == 0)
as_empty [] [] same = refl
as_empty [] (y ∷ ys) same = absurd (named_has [] y (sym (same y) ∙ has_named (y ∷ ys) y (inl refl)))
as_empty (x ∷ xs) [] same = absurd (named_has [] x (same x ∙ has_named (x ∷ xs) x (inl refl)))
as_empty (x ∷ xs) (y ∷ ys) same = ne_eqb (suc (length ys)) 0 (λ e. omega (arith, e)) ∙ sym (ne_eqb (suc (length xs)) 0 (λ e. omega (arith, e)))

pub name_in_flat : {A : Type 0} (f : A → List (List ℕ)) (xs : List A) (name : List ℕ) → has_name (flat_map f xs) name ≡ list_any (λ x. has_name (f x) name) xs
name_in_flat f xs name = any_in_flat (bytes_eq name) f xs

-- ---- the first fault

abbrev pub first_of : {A B : Type 0} → (A → Option B) → List A → Option B
first_of f xs = first_some (map f xs)

pub no_some : {A : Type 0} (a : A) → Some a ≡ None → ⊥
no_some a e = absurd cc

pub none_each : {A B : Type 0} (f : A → Option B) (xs : List A) → first_of f xs ≡ None → (x : A) → Has xs x → f x ≡ None
none_each f [] none x has = absurd has
none_each {A} {B} f (y ∷ ys) none x has = by_head (f y) refl none has (λ rest h. none_each f ys rest x h)
  where
    by_head : (o : Option B) → f y ≡ o → first_some (o ∷ map f ys) ≡ None → Has (y ∷ ys) x → (first_some (map f ys) ≡ None → Has ys x → f x ≡ None) → f x ≡ None
    by_head (Some b) is none has later = absurd (no_some b none)
    by_head None is none (inl e) later = ap f (sym e) ∙ is
    by_head None is none (inr h) later = later none h

pub each_none : {A B : Type 0} (f : A → Option B) (xs : List A) → ((x : A) → Has xs x → f x ≡ None) → first_of f xs ≡ None
each_none f [] none = refl
each_none f (y ∷ ys) none = ap (λ o. first_some (o ∷ map f ys)) (none y (inl refl)) ∙ each_none f ys (λ x has. none x (inr has))

pub guard : {A B F : Type 0} (t : Option F) (x : A) (f : A → Result B F) (y : B) → (unless t x >>= f) ≡ Ok y → (t ≡ None) × (f x ≡ Ok y)
guard None x f y e = (refl, e)
guard (Some g) x f y e = absurd (grind arith)

pub ok_is : {A F : Type 0} (x y : A) (r : Result A F) → r ≡ Ok x → r ≡ Ok y → x ≡ y
ok_is x y r a b = grind arith

pub bind_ok : {A B F : Type 0} (r : Result A F) (f : A → Result B F) (y : B) → (r >>= f) ≡ Ok y → (x : A) × (r ≡ Ok x) × (f x ≡ Ok y)
bind_ok (Ok x) f y e = (x, refl, e)
bind_ok (Err g) f y e = absurd (grind arith)

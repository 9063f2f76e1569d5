-- Keys that differ, by their places.
use Rattle.std.proofs.Common.{◌≡◌, ℕ, zero, suc, Bool, true, false, not, List, [], ◌∷◌, ◌++◌, map, refl, sym, ap, subst, ◌∙◌, Option, Some, None}
use Rattle.std.specs.Prelude.{slice_get, filter_map, flat_map, option_map, ◌||◌, nat_eq}
use Rattle.std.specs.List.{list_any, cons_option}
use Rattle.std.specs.Str.{bytes_eq}
use Rattle.std.proofs.lemmas.Bool.{and_parts, and_from, or_left, or_right, not-true, both_ways, eq-eqb}
use Rattle.std.proofs.lemmas.List.Folds.{list_any-append}
use Rattle.std.proofs.lemmas.Option.{slice_get-map}
use Rattle.std.proofs.lemmas.Slice.Eq.{bytes_eq-Decides}
use Rattle.object_rules.specs.linking_section.declared.group.Member.{Member}
use Rattle.object_rules.specs.linking_section.declared.group.Group.{Group}
use Rattle.object_rules.specs.Differ.{all_differ}
use Rattle.object_rules.specs.Metadata.{member_key}
use Rattle.object_file.specs.Sound.{GroupsDiffer, MembersDiffer}

some_is : {A : Type 0} {x y : A} → (let r : Option A = Some x in r ≡ Some y) → x ≡ y
some_is e = cc

module _ {K : Type 0} (equal : K → K → Bool) (same : (x : K) → equal x x ≡ true) where
  -- a key is found where it stands
  any_at : (keys : List K) (k : ℕ) (x : K) → slice_get keys k ≡ Some x → list_any (equal x) keys ≡ true
  any_at [] k x e = absurd cc
  any_at (y ∷ ys) zero x e = or_left (equal x y) (list_any (equal x) ys) (subst (λ z. equal x z ≡ true) (sym (some_is e)) (same x))
  any_at (y ∷ ys) (suc k) x e = or_right (equal x y) (list_any (equal x) ys) (any_at ys k x e)

  -- the first key stands nowhere else
  first_alone : (y : K) (ys : List K) (k : ℕ) → all_differ equal (y ∷ ys) ≡ true → slice_get ys k ≡ Some y → ⊥
  first_alone y ys k e there =
      both_ways (list_any (equal y) ys) (not-true (list_any (equal y) ys) (and_parts (not (list_any (equal y) ys)) (all_differ equal ys) e).0) (any_at ys k y there)

  rest_differ : (y : K) (ys : List K) → all_differ equal (y ∷ ys) ≡ true → all_differ equal ys ≡ true
  rest_differ y ys e = (and_parts (not (list_any (equal y) ys)) (all_differ equal ys) e).1

  pub one_place : (keys : List K) (j k : ℕ) (x : K) → all_differ equal keys ≡ true → slice_get keys j ≡ Some x → slice_get keys k ≡ Some x → j ≡ k
  one_place [] j k x e a b = absurd cc
  one_place (y ∷ ys) zero zero x e a b = refl
  one_place (y ∷ ys) zero (suc k) x e a b = absurd (first_alone y ys k e (b ∙ sym a))
  one_place (y ∷ ys) (suc j) zero x e a b = absurd (first_alone y ys j e (a ∙ sym b))
  one_place (y ∷ ys) (suc j) (suc k) x e a b = ap suc (one_place ys j k x (rest_differ y ys e) a b)

  -- ---- keys that some have

  module _ {A : Type 0} (key : A → Option K) where
    key_at : (xs : List A) (k : ℕ) (a : A) (x : K) → slice_get xs k ≡ Some a → key a ≡ Some x → list_any (equal x) (filter_map key xs) ≡ true
    key_at [] k a x e is = absurd cc
    key_at (b ∷ bs) zero a x e is =
        let here : key b ≡ Some x = ap key (some_is e) ∙ is in
        rw here (or_left (equal x x) (list_any (equal x) (filter_map key bs)) (same x))
    key_at (b ∷ bs) (suc k) a x e is = later (key b) (key_at bs k a x e is)
      where
        later : (first : Option K) → list_any (equal x) (filter_map key bs) ≡ true → list_any (equal x) (cons_option first (filter_map key bs)) ≡ true
        later None found = found
        later (Some y) found = or_right (equal x y) (list_any (equal x) (filter_map key bs)) found

    others_differ : (first : Option K) (ys : List K) → all_differ equal (cons_option first ys) ≡ true → all_differ equal ys ≡ true
    others_differ None ys e = e
    others_differ (Some y) ys e = rest_differ y ys e

    alone : (x : K) (bs : List A) (b c : A) (k : ℕ) → all_differ equal (cons_option (key b) (filter_map key bs)) ≡ true → key b ≡ Some x → slice_get bs k ≡ Some c → key c ≡ Some x → ⊥
    alone x bs b c k e is there also =
        let differ : all_differ equal (x ∷ filter_map key bs) ≡ true = subst (λ first. all_differ equal (cons_option first (filter_map key bs)) ≡ true) is e in
        both_ways (list_any (equal x) (filter_map key bs)) (not-true (list_any (equal x) (filter_map key bs)) (and_parts (not (list_any (equal x) (filter_map key bs))) (all_differ equal (filter_map key bs)) differ).0)
        (key_at bs k c x there also)

    pub one_key : (xs : List A) (j k : ℕ) (a b : A) (x : K) → all_differ equal (filter_map key xs) ≡ true → slice_get xs j ≡ Some a → slice_get xs k ≡ Some b → key a ≡ Some x → key b ≡ Some x → j ≡ k
    one_key [] j k a b x e f g p q = absurd cc
    one_key (y ∷ ys) zero zero a b x e f g p q = refl
    one_key (y ∷ ys) zero (suc k) a b x e f g p q = absurd (alone x ys y b k e (ap key (some_is f) ∙ p) g q)
    one_key (y ∷ ys) (suc j) zero a b x e f g p q = absurd (alone x ys y a j e (ap key (some_is g) ∙ q) f p)
    one_key (y ∷ ys) (suc j) (suc k) a b x e f g p q = ap suc (one_key ys j k a b x (others_differ (key y) (filter_map key ys) e) f g p q)

  -- ---- one list behind another

  not_either : (a b : Bool) → not (a || b) ≡ true → (not a ≡ true) × (not b ≡ true)
  not_either true b e = absurd cc
  not_either false b e = (refl, e)

  front_differs : (xs ys : List K) → all_differ equal (xs ++ ys) ≡ true → all_differ equal xs ≡ true
  front_differs [] ys e = refl
  front_differs (x ∷ xs) ys e =
      let both = and_parts (not (list_any (equal x) (xs ++ ys))) (all_differ equal (xs ++ ys)) e in
      let none = subst (λ q. not q ≡ true) (list_any-append (equal x) xs ys) both.0 in
      and_from (not (list_any (equal x) xs)) (all_differ equal xs) (not_either (list_any (equal x) xs) (list_any (equal x) ys) none).0 (front_differs xs ys both.1)

  back_differs : (xs ys : List K) → all_differ equal (xs ++ ys) ≡ true → all_differ equal ys ≡ true
  back_differs [] ys e = e
  back_differs (x ∷ xs) ys e = back_differs xs ys (rest_differ x (xs ++ ys) e)

  lists_apart : (xs ys : List K) (i j : ℕ) (x : K) → all_differ equal (xs ++ ys) ≡ true → slice_get xs i ≡ Some x → slice_get ys j ≡ Some x → ⊥
  lists_apart [] ys i j x e f g = absurd cc
  lists_apart (y ∷ xs) ys zero j x e f g =
      let both = and_parts (not (list_any (equal y) (xs ++ ys))) (all_differ equal (xs ++ ys)) e in
      let none = subst (λ q. not q ≡ true) (list_any-append (equal y) xs ys) both.0 in
      both_ways (list_any (equal y) ys) (not-true (list_any (equal y) ys) (not_either (list_any (equal y) xs) (list_any (equal y) ys) none).1) (any_at ys j y (g ∙ sym f))
  lists_apart (y ∷ xs) ys (suc i) j x e f g = lists_apart xs ys i j x (rest_differ y (xs ++ ys) e) f g

-- ---- groups

same_number : (n : ℕ) → nat_eq n n ≡ true
same_number n = eq-eqb n n refl

pub same_bytes : (bs : List ℕ) → bytes_eq bs bs ≡ true
same_bytes bs = (bytes_eq-Decides bs bs).1 refl

pub groups_differ : (groups : List Group) → all_differ bytes_eq (map (λ g. g.name) groups) ≡ true → GroupsDiffer groups
groups_differ groups e = λ j k a b f g same.
    one_place bytes_eq same_bytes (map (λ (x : Group). x.name) groups) j k a.name e
    (slice_get-map (λ (x : Group). x.name) groups j ∙ ap (option_map (λ (x : Group). x.name)) f)
    (slice_get-map (λ (x : Group). x.name) groups k ∙ ap (option_map (λ (x : Group). x.name)) g ∙ ap (λ n. Some n) (sym same))

abbrev keys : List Member → List ℕ
keys members = map member_key members

at_key : (members : List Member) (i : ℕ) (m : Member) → slice_get members i ≡ Some m → slice_get (keys members) i ≡ Some (member_key m)
at_key members i m e = slice_get-map member_key members i ∙ ap (option_map member_key) e

-- a member of a group among all
among : (groups : List Group) (g i : ℕ) (a : Group) (m : Member) → slice_get groups g ≡ Some a → slice_get a.members i ≡ Some m → (n : ℕ) × (slice_get (flat_map (λ x. keys x.members) groups) n ≡ Some (member_key m))
among [] g i a m e f = absurd cc
among (x ∷ xs) zero i a m e f =
    let here : slice_get x.members i ≡ Some m = ap (λ (y : Group). slice_get y.members i) (some_is e) ∙ f in
    (i, front (keys x.members) (flat_map (λ y. keys y.members) xs) i (member_key m) (at_key x.members i m here))
  where
    front : (ks ls : List ℕ) (i n : ℕ) → slice_get ks i ≡ Some n → slice_get (ks ++ ls) i ≡ Some n
    front [] ls i n h = absurd cc
    front (k ∷ ks) ls zero n h = h
    front (k ∷ ks) ls (suc i) n h = front ks ls i n h
among (x ∷ xs) (suc g) i a m e f =
    let others = among xs g i a m e f in
    back (keys x.members) (flat_map (λ y. keys y.members) xs) others.0 (member_key m) others.1
  where
    back : (ks ls : List ℕ) (i n : ℕ) → slice_get ls i ≡ Some n → (at : ℕ) × (slice_get (ks ++ ls) at ≡ Some n)
    back [] ls i n h = (i, h)
    back (k ∷ ks) ls i n h = let later = back ks ls i n h in (suc later.0, later.1)

pub members_differ : (groups : List Group) → all_differ nat_eq (flat_map (λ x. keys x.members) groups) ≡ true → MembersDiffer groups
members_differ [] e g h i j a b m f p q r = absurd cc
members_differ (x ∷ xs) e zero zero i j a b m f p q r =
    let here : slice_get x.members i ≡ Some m = ap (λ (y : Group). slice_get y.members i) (some_is f) ∙ q in
    let there : slice_get x.members j ≡ Some m = ap (λ (y : Group). slice_get y.members j) (some_is p) ∙ r in
    (refl, one_place nat_eq same_number (keys x.members) i j (member_key m) (front_differs nat_eq same_number (keys x.members) (flat_map (λ y. keys y.members) xs) e) (at_key x.members i m here) (at_key x.members j m there))
members_differ (x ∷ xs) e zero (suc h) i j a b m f p q r =
    let here : slice_get x.members i ≡ Some m = ap (λ (y : Group). slice_get y.members i) (some_is f) ∙ q in
    let other = among xs h j b m p r in
    absurd (lists_apart nat_eq same_number (keys x.members) (flat_map (λ y. keys y.members) xs) i other.0 (member_key m) e (at_key x.members i m here) other.1)
members_differ (x ∷ xs) e (suc g) zero i j a b m f p q r =
    let here : slice_get x.members j ≡ Some m = ap (λ (y : Group). slice_get y.members j) (some_is p) ∙ r in
    let other = among xs g i a m f q in
    absurd (lists_apart nat_eq same_number (keys x.members) (flat_map (λ y. keys y.members) xs) j other.0 (member_key m) e (at_key x.members j m here) other.1)
members_differ (x ∷ xs) e (suc g) (suc h) i j a b m f p q r =
    let both = members_differ xs (back_differs nat_eq same_number (keys x.members) (flat_map (λ y. keys y.members) xs) e) g h i j a b m f p q r in
    (ap suc both.0, both.1)

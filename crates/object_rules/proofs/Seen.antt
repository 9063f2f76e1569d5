-- Keys that differ, as a loop goes over them beside the keys that it saw.
use Rattle.std.proofs.Common.{◌≡◌, Bool, true, false, not, ◌&&◌, ◌||◌, List, [], ◌∷◌, ◌++◌, cond, refl, ap, subst, ◌∙◌}
use Rattle.std.specs.List.{list_any, list_all}
use Rattle.std.proofs.lemmas.List.Folds.{list_any-append}
use Rattle.indexmap.specs.IndexSet.{insert_key}
use Rattle.object_rules.specs.Differ.{all_differ}

-- none of these keys was seen
abbrev pub are_new : {K A : Type 0} → (K → K → Bool) → (A → K) → List A → List K → Bool
are_new equal spelled seen keys = list_all (λ k. not (list_any (λ s. equal k (spelled s)) seen)) keys

-- the keys differ from those that were seen and from one another
abbrev pub differ_behind : {K A : Type 0} → (K → K → Bool) → (A → K) → List A → List K → Bool
differ_behind equal spelled seen keys = all_differ equal keys && are_new equal spelled seen keys

pub none_seen : {K A : Type 0} (equal : K → K → Bool) (spelled : A → K) (keys : List K) → differ_behind equal spelled [] keys ≡ all_differ equal keys
none_seen {K = K} {A = A} equal spelled keys = by (all_differ equal keys) (all_new keys)
  where
    all_new : (ks : List K) → are_new equal spelled [] ks ≡ true
    all_new [] = refl
    all_new (k ∷ ks) = all_new ks

    by : (b : Bool) → are_new equal spelled [] keys ≡ true → (b && are_new equal spelled [] keys) ≡ b
    by true e = e
    by false e = refl

swapped : (a b c d : Bool) → (not (a || (b || false)) && (not c && d)) ≡ (not (b || c) && (not a && d))
swapped true true c d = refl
swapped true false true d = refl
swapped true false false d = refl
swapped false true c d = refl
swapped false false c d = refl

moved : (a b c : Bool) → (a && (not b && c)) ≡ ((not b && a) && (true && c))
moved true true c = refl
moved true false c = refl
moved false true c = refl
moved false false c = refl

-- with one more key seen, it is none of the others
new_behind : {K A : Type 0} (equal : K → K → Bool) (symmetric : (x y : K) → equal x y ≡ equal y x) (spelled : A → K) (seen : List A) (key : A) (keys : List K)
    → are_new equal spelled (seen ++ key ∷ []) keys ≡ (not (list_any (equal (spelled key)) keys) && are_new equal spelled seen keys)
new_behind equal symmetric spelled seen key [] = refl
new_behind equal symmetric spelled seen key (k ∷ ks) =
    rw (list_any-append (λ s. equal k (spelled s)) seen (key ∷ []), new_behind equal symmetric spelled seen key ks, symmetric k (spelled key))
    (swapped (list_any (λ s. equal k (spelled s)) seen) (equal (spelled key) k) (list_any (equal (spelled key)) ks) (are_new equal spelled seen ks))

-- one key goes over to those that were seen
one_seen : {K A : Type 0} (equal : K → K → Bool) (symmetric : (x y : K) → equal x y ≡ equal y x) (spelled : A → K) (seen : List A) (key : A) (k : K) (keys : List K)
    → spelled key ≡ k → list_any (λ s. equal k (spelled s)) seen ≡ false → differ_behind equal spelled (seen ++ key ∷ []) keys ≡ differ_behind equal spelled seen (k ∷ keys)
one_seen equal symmetric spelled seen key k keys is fresh =
    rw (new_behind equal symmetric spelled seen key keys, is, fresh) (moved (all_differ equal keys) (list_any (equal k) keys) (are_new equal spelled seen keys))

not_true : (b : Bool) → true ≡ not b → b ≡ false
not_true true e = e
not_true false e = refl

not_false : (b : Bool) → false ≡ not b → b ≡ true
not_false true e = refl
not_false false e = e

-- a key that is new
pub goes_on : {K A : Type 0} (equal : K → K → Bool) (symmetric : (x y : K) → equal x y ≡ equal y x) (spelled : A → K) (seen after : List A) (key : A) (k : K) (keys : List K) (whole : Bool)
    → spelled key ≡ k → true ≡ not (list_any (λ s. equal (spelled key) (spelled s)) seen) → after ≡ insert_key (λ x y. equal (spelled x) (spelled y)) seen key
    → differ_behind equal spelled seen (k ∷ keys) ≡ whole → differ_behind equal spelled after keys ≡ whole
goes_on equal symmetric spelled seen after key k keys whole is added inserted so_far =
    let fresh = not_true (list_any (λ s. equal (spelled key) (spelled s)) seen) added in
    ap (λ all. differ_behind equal spelled all keys) (inserted ∙ ap (λ b. cond b seen (seen ++ key ∷ [])) fresh)
    ∙ one_seen equal symmetric spelled seen key k keys is (subst (λ n. list_any (λ s. equal n (spelled s)) seen ≡ false) is fresh)
    ∙ so_far

-- a key that was seen
pub stops : {K A : Type 0} (equal : K → K → Bool) (spelled : A → K) (seen : List A) (key : A) (k : K) (keys : List K) (whole : Bool)
    → spelled key ≡ k → false ≡ not (list_any (λ s. equal (spelled key) (spelled s)) seen)
    → differ_behind equal spelled seen (k ∷ keys) ≡ whole → false ≡ whole
stops equal spelled seen key k keys whole is there so_far =
    let known = not_false (list_any (λ s. equal (spelled key) (spelled s)) seen) there in
    none (all_differ equal (k ∷ keys)) (are_new equal spelled seen keys) (list_any (λ s. equal k (spelled s)) seen) (subst (λ n. list_any (λ s. equal n (spelled s)) seen ≡ true) is known)
    ∙ so_far
  where
    none : (a b c : Bool) → c ≡ true → false ≡ (a && (not c && b))
    none true b true e = refl
    none false b true e = refl
    none true b false e = cc
    none false b false e = refl

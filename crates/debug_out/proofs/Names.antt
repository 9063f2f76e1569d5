-- Names and their numbers.
use Rattle.std.proofs.Common.{◌≡◌, ℕ, ◌≤◌, ◌<◌, List, [], ◌∷◌, ◌++◌, Bool, true, false, refl, sym, ap, ◌∙◌, arith, length, Some, None, nat_lt, cond, not, subst, ◌||◌, ◌+◌, ◌==◌, Option, Result, Ok, Err, slice_get, slice_index_or, get_or}
use Rattle.std.specs.Prelude.{if◌then◌else◌, bytes_eq}
use Rattle.std.specs.List.{position_or_len, list_any}
use Rattle.std.proofs.lemmas.Bool.Decides.{nat_tests}
use Rattle.std.proofs.lemmas.Slice.Eq.{bytes_eq-Decides}
use Rattle.std.proofs.lemmas.List.Quantifiers.{position-Some}
use Rattle.wl_base.specs.Choice.{distinct_onto}
use Rattle.wl_base.specs.Names.{Names, number_of, interned, held_or, Interns}
use Rattle.wl_base.specs.declared.name_table.NameFault.{NameFault}
use Rattle.wl_base.specs.declared.name_table.NameFault.TheVariants.{TooMany, OutOfMemory}

-- ---- a name more

any_is : (names : List (List ℕ)) (x : List ℕ) → list_any (bytes_eq x) names ≡ nat_lt (position_or_len (bytes_eq x) names) (length names)
any_is [] x = refl
any_is (y ∷ names) x = by (bytes_eq x y) (any_is names x)
  where
    by : (b : Bool) → list_any (bytes_eq x) names ≡ nat_lt (position_or_len (bytes_eq x) names) (length names)
        → (b || list_any (bytes_eq x) names) ≡ nat_lt (cond (not b) (1 + position_or_len (bytes_eq x) names) 0) (length (y ∷ names))
    by true e = grind (arith, nat_tests)
    by false e = e ∙ grind (arith, nat_tests)

held_place : (p len k : ℕ) (any : Bool) → any ≡ nat_lt p len → cond (nat_lt p len) (Some p) None ≡ Some k → any ≡ true
held_place p len k any is at = by (nat_lt p len) is at
  where
    by : (b : Bool) → any ≡ b → cond b (Some p) None ≡ Some k → any ≡ true
    by true e found = e
    by false e found = absurd cc

absent : (p len : ℕ) (any : Bool) → any ≡ nat_lt p len → cond (nat_lt p len) (Some p) None ≡ None → any ≡ false
absent p len any is at = by (nat_lt p len) is at
  where
    by : (b : Bool) → any ≡ b → cond b (Some p) None ≡ None → any ≡ false
    by true e none = absurd cc
    by false e none = e

tables : (k n : ℕ) (t new : Names) → (let r : Result (ℕ × Names) NameFault = Ok (k, t) in r ≡ Ok (n, new)) → ◌≡◌ {A = ℕ × Names} (k, t) (n, new)
tables k n t new e = cc

named_by : (t new : Names) (name : List ℕ) (n : ℕ) (o : Option ℕ) (small : Bool) → number_of t.names name ≡ o
    → held_or o t (if small then Ok (length t.names, record { limit = t.limit; names = t.names ++ name ∷ [] }) else Err TooMany) ≡ Ok (n, new)
    → new.names ≡ distinct_onto bytes_eq t.names (name ∷ [])
named_by t new name n (Some k) small at told =
    let there = held_place (position_or_len (bytes_eq name) t.names) (length t.names) k (list_any (bytes_eq name) t.names) (any_is t.names name) at in
    ap (λ (p : ℕ × Names). p.1.names) (sym (tables k n t new told)) ∙ ap (λ b. if b then t.names else t.names ++ name ∷ []) (sym there)
named_by t new name n None true at told =
    let there = absent (position_or_len (bytes_eq name) t.names) (length t.names) (list_any (bytes_eq name) t.names) (any_is t.names name) at in
    ap (λ (p : ℕ × Names). p.1.names) (sym (tables (length t.names) n (record { limit = t.limit; names = t.names ++ name ∷ [] }) new told))
    ∙ ap (λ b. if b then t.names else t.names ++ name ∷ []) (sym there)
named_by t new name n None false at told = absurd cc

pub one_named : (t new : Names) (name : List ℕ) (n : ℕ) → interned t name ≡ Ok (n, new) → new.names ≡ distinct_onto bytes_eq t.names (name ∷ [])
one_named t new name n told = named_by t new name n (number_of t.names name) (nat_lt (length t.names) t.limit) refl told

-- ---- names are the same exactly where their numbers are

some_is : {x y : ℕ} → Some x ≡ Some y → x ≡ y
some_is e = cc

pub same_number : (names : List (List ℕ)) (a b : List ℕ) (m n : ℕ) → number_of names a ≡ Some m → number_of names b ≡ Some n → bytes_eq a b ≡ (m == n)
same_number names a b m n at_a at_b = by (bytes_eq a b) (m == n) refl refl
  where
    by : (same equal : Bool) → bytes_eq a b ≡ same → (m == n) ≡ equal → same ≡ equal
    by true true s e = refl
    by false false s e = refl
    by true false s e =
        let ab : a ≡ b = (bytes_eq-Decides a b).0 s in
        let mn : m ≡ n = some_is (sym at_a ∙ (ap (number_of names) ab ∙ at_b)) in
        absurd (grind (arith, nat_tests))
    by false true s e =
        let mn : m ≡ n = grind (arith, nat_tests) in
        let here = (position-Some (bytes_eq a) names m [] at_a).1 in
        let there = (position-Some (bytes_eq b) names n [] at_b).1 in
        let ax : a ≡ get_or names m [] = (bytes_eq-Decides a (get_or names m [])).0 here in
        let bx : b ≡ get_or names n [] = (bytes_eq-Decides b (get_or names n [])).0 there in
        let ab : a ≡ b = ax ∙ (ap (λ k. get_or names k []) mn ∙ sym bx) in
        absurd (let yes = (bytes_eq-Decides a b).1 ab in cc)

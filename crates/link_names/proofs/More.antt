-- Names with more names: what is held keeps its number, and each of the others is held.
use Rattle.std.proofs.Common.{◌≡◌, ℕ, ◌≤◌, ◌<◌, List, [], ◌∷◌, ◌++◌, Bool, true, false, refl, sym, ap, ◌∙◌, arith, length, Some, None, nat_lt, cond, length-append, not, subst, ◌||◌, ◌+◌, Option, Result, Ok, Err}
use Rattle.std.specs.Prelude.{if◌then◌else◌, bytes_eq}
use Rattle.std.specs.List.{position_or_len, list_any}
use Rattle.std.proofs.lemmas.Grind.{common_steps}
use Rattle.std.proofs.lemmas.Bool.Decides.{nat_tests}
use Rattle.std.proofs.lemmas.List.Folds.{position_or_len_push}
use Rattle.std.proofs.lemmas.List.Sums.{prefix_len-le-length}
use Rattle.std.proofs.lemmas.Slice.Eq.{bytes_eq-Decides}
use Rattle.object_file.specs.wl_base.Names.{Names, number_of, interned, held_or, Interns}
use Rattle.object_file.specs.wl_base.declared.name_table.NameFault.{NameFault}
use Rattle.object_file.specs.wl_base.declared.name_table.NameFault.TheVariants.{TooMany, OutOfMemory}
use Rattle.link_names.specs.Interning.{more, Room, Takes, IsNumber}

some_is : (x y : ℕ) → (let o : Option ℕ = Some x in o ≡ Some y) → x ≡ y
some_is x y e = cc

-- a list with one more name, where it is new
abbrev pub with_name : List (List ℕ) → List ℕ → List (List ℕ)
with_name names x = if list_any (bytes_eq x) names then names else names ++ x ∷ []

pub more_append : (names xs ys : List (List ℕ)) → more names (xs ++ ys) ≡ more (more names xs) ys
more_append names [] ys = refl
more_append names (x ∷ xs) ys = more_append (with_name names x) xs ys

one_longer : (names : List (List ℕ)) (x : List ℕ) → length names ≤ length (with_name names x)
one_longer names x = by_cases (list_any (bytes_eq x) names)
  where
    by_cases : (held : Bool) → length names ≤ length (if held then names else names ++ x ∷ [])
    by_cases true = omega arith
    by_cases false = omega (arith, length-append names (x ∷ []))

pub longer : (names xs : List (List ℕ)) → length names ≤ length (more names xs)
longer names [] = omega arith
longer names (x ∷ xs) = omega (arith, one_longer names x, longer (with_name names x) xs)

stays_behind : (names : List (List ℕ)) (x t : List ℕ) (n : ℕ) → number_of names t ≡ Some n → number_of (names ++ x ∷ []) t ≡ Some n
stays_behind names x t n at =
    let push = position_or_len_push (bytes_eq t) names x in
    rw (push, length-append names (x ∷ [])) (grind (arith, common_steps))

stays : (names : List (List ℕ)) (x t : List ℕ) (n : ℕ) → number_of names t ≡ Some n → number_of (with_name names x) t ≡ Some n
stays names x t n at = by_cases (list_any (bytes_eq x) names)
  where
    by_cases : (held : Bool) → number_of (if held then names else names ++ x ∷ []) t ≡ Some n
    by_cases true = at
    by_cases false = stays_behind names x t n at

-- a number stays
pub numbers_stay : (names xs : List (List ℕ)) (t : List ℕ) (n : ℕ) → number_of names t ≡ Some n → number_of (more names xs) t ≡ Some n
numbers_stay names [] t n at = at
numbers_stay names (x ∷ xs) t n at = numbers_stay (with_name names x) xs t n (stays names x t n at)

-- ---- one name

by_place : (n m : ℕ) → n ≤ m → cond (nat_lt n m) (Some n) None ≡ None → n ≡ m
by_place n m le none = grind (arith, common_steps)

pub new_last : (names : List (List ℕ)) (t : List ℕ) → number_of names t ≡ None → number_of (names ++ t ∷ []) t ≡ Some (length names)
new_last names t none =
    let last : position_or_len (bytes_eq t) names ≡ length names = by_place (position_or_len (bytes_eq t) names) (length names) (prefix_len-le-length (λ x. not (bytes_eq t x)) names) none in
    let itself : bytes_eq t t ≡ true = (bytes_eq-Decides t t).1 refl in
    let at : position_or_len (bytes_eq t) (names ++ t ∷ []) ≡ length names =
    position_or_len_push (bytes_eq t) names t ∙ rw (last, itself) (grind (arith, common_steps)) in
    rw (at, length-append names (t ∷ [])) (grind (arith, common_steps))

any_is : (names : List (List ℕ)) (x : List ℕ) → list_any (bytes_eq x) names ≡ nat_lt (position_or_len (bytes_eq x) names) (length names)
any_is [] x = refl
any_is (y ∷ names) x = by (bytes_eq x y) (any_is names x)
  where
    by : (b : Bool) → list_any (bytes_eq x) names ≡ nat_lt (position_or_len (bytes_eq x) names) (length names)
        → (b || list_any (bytes_eq x) names) ≡ nat_lt (cond (not b) (1 + position_or_len (bytes_eq x) names) 0) (length (y ∷ names))
    by true e = grind (arith, nat_tests)
    by false e = e ∙ grind (arith, nat_tests)

held_place : (p len k : ℕ) (any : Bool) → any ≡ nat_lt p len → cond (nat_lt p len) (Some p) None ≡ Some k → (any ≡ true) × (k < len)
held_place p len k any is at = by (nat_lt p len) refl is at
  where
    by : (b : Bool) → nat_lt p len ≡ b → any ≡ b → cond b (Some p) None ≡ Some k → (any ≡ true) × (k < len)
    by true less e found = (e, let same = some_is p k found in grind (arith, nat_tests))
    by false less e found = absurd cc

-- a name with a number is held, and its number is below their count
pub held : (names : List (List ℕ)) (x : List ℕ) (k : ℕ) → number_of names x ≡ Some k → (list_any (bytes_eq x) names ≡ true) × (k < length names)
held names x k at = held_place (position_or_len (bytes_eq x) names) (length names) k (list_any (bytes_eq x) names) (any_is names x) at

absent : (p len : ℕ) (any : Bool) → any ≡ nat_lt p len → cond (nat_lt p len) (Some p) None ≡ None → any ≡ false
absent p len any is at = by (nat_lt p len) is at
  where
    by : (b : Bool) → any ≡ b → cond b (Some p) None ≡ None → any ≡ false
    by true e none = absurd cc
    by false e none = e

pub not_held : (names : List (List ℕ)) (x : List ℕ) → number_of names x ≡ None → list_any (bytes_eq x) names ≡ false
not_held names x at = absent (position_or_len (bytes_eq x) names) (length names) (list_any (bytes_eq x) names) (any_is names x) at

-- ---- the answer of a table

first_of : (k n : ℕ) (t new : Names) → (let r : Result (ℕ × Names) NameFault = Ok (k, t) in r ≡ Ok (n, new)) → ◌≡◌ {A = ℕ × Names} (k, t) (n, new)
first_of k n t new e = cc

ok_is : (k n : ℕ) (t new : Names) → (let r : Result (ℕ × Names) NameFault = Ok (k, t) in r ≡ Ok (n, new)) → (k ≡ n) × (t ≡ new)
ok_is k n t new e = let same = first_of k n t new e in (ap (λ (p : ℕ × Names). p.0) same, ap (λ (p : ℕ × Names). p.1) same)

-- a name that is held: nothing is gained
takes_held : (t new : Names) (name : List ℕ) (k n : ℕ) → number_of t.names name ≡ Some k → (k ≡ n) × (t ≡ new) → Room t → Takes (IsNumber name) (Ok n) t new (name ∷ [])
takes_held t new name k n at is room =
    let h = held t.names name k at in
    let names : more t.names (name ∷ []) ≡ t.names = ap (λ b. if b then t.names else t.names ++ name ∷ []) h.0 in
    let there : number_of t.names name ≡ Some n = at ∙ ap (λ k. Some k) is.0 in (
      (sym is.1 ∙ (λ j. record { limit = t.limit; names = sym names j }), subst Room is.1 room),
      (omega (arith, is.0, h.1, room.0, room.1), λ xs. sym (numbers_stay new.names xs name n (ap (λ (t : Names). number_of t.names name) (sym is.1) ∙ there))),
    )

-- a new name goes last
takes_new : (t new : Names) (name : List ℕ) (n : ℕ) → number_of t.names name ≡ None → length t.names < t.limit
    → (length t.names ≡ n) × (record { limit = t.limit; names = t.names ++ name ∷ [] } ≡ new) → Room t → Takes (IsNumber name) (Ok n) t new (name ∷ [])
takes_new t new name n none small is room =
    let names : more t.names (name ∷ []) ≡ t.names ++ name ∷ [] = ap (λ b. if b then t.names else t.names ++ name ∷ []) (not_held t.names name none) in
    let after : Names = record { limit = t.limit; names = t.names ++ name ∷ [] } in
    let there : number_of (t.names ++ name ∷ []) name ≡ Some n = new_last t.names name none ∙ ap (λ k. Some k) is.0 in
    let room' : Room after = (omega (arith, length-append t.names (name ∷ []), small), room.1) in (
      (sym is.1 ∙ (λ j. record { limit = t.limit; names = sym names j }), subst Room is.1 room'),
      (omega (arith, is.0, small, room.1), λ xs. sym (numbers_stay new.names xs name n (ap (λ (t : Names). number_of t.names name) (sym is.1) ∙ there))),
    )

by_answer : (t new : Names) (name : List ℕ) (r : Result ℕ NameFault) (o : Option ℕ) (small : Bool) → number_of t.names name ≡ o → nat_lt (length t.names) t.limit ≡ small
    → Interns r (held_or o t (if small then Ok (length t.names, record { limit = t.limit; names = t.names ++ name ∷ [] }) else Err TooMany)) t new → Room t → Takes (IsNumber name) r t new (name ∷ [])
by_answer t new name (Ok n) (Some k) small at less told room = takes_held t new name k n at (ok_is k n t new told) room
by_answer t new name (Ok n) None true at less told room = takes_new t new name n at (grind (arith, nat_tests)) (ok_is (length t.names) n (record { limit = t.limit; names = t.names ++ name ∷ [] }) new told) room
by_answer t new name (Ok n) None false at less told room = absurd cc
by_answer t new name (Err TooMany) (Some k) small at less told room = let e = told.0 in absurd cc
by_answer t new name (Err TooMany) None true at less told room = let e = told.0 in absurd cc
by_answer t new name (Err TooMany) None false at less told room =
    let names : more t.names (name ∷ []) ≡ t.names ++ name ∷ [] = ap (λ b. if b then t.names else t.names ++ name ∷ []) (not_held t.names name at) in
    let full : t.limit ≤ length t.names = grind (arith, nat_tests) in
    omega (arith, ap (λ (ns : List (List ℕ)). length ns) names, length-append t.names (name ∷ []), full)
by_answer t new name (Err OutOfMemory) o small at less told room = tt

-- what a table answers to a name
pub takes : (t new : Names) (name : List ℕ) (r : Result ℕ NameFault) → Interns r (interned t name) t new → Room t → Takes (IsNumber name) r t new (name ∷ [])
takes t new name r told room = by_answer t new name r (number_of t.names name) (nat_lt (length t.names) t.limit) refl refl told room

-- the same of a table of which nothing else is known
pub gains_one : (t new : Names) (name : List ℕ) (n : ℕ) → Interns (Ok n) (interned t name) t new → (new.names ≡ more t.names (name ∷ [])) × (number_of new.names name ≡ Some n)
gains_one t new name n told = by (number_of t.names name) refl (nat_lt (length t.names) t.limit) told
  where
    by : (o : Option ℕ) → number_of t.names name ≡ o → (small : Bool) → held_or o t (if small then Ok (length t.names, record { limit = t.limit; names = t.names ++ name ∷ [] }) else Err TooMany) ≡ Ok (n, new)
        → (new.names ≡ more t.names (name ∷ [])) × (number_of new.names name ≡ Some n)
    by (Some k) at small told =
        let is = ok_is k n t new told in
        let same : new.names ≡ t.names = ap (λ (t : Names). t.names) (sym is.1) in (
          same ∙ sym (ap (λ b. if b then t.names else t.names ++ name ∷ []) (held t.names name k at).0),
          ap (λ ns. number_of ns name) same ∙ at ∙ ap (λ k. Some k) is.0,
        )
    by None at true told =
        let is = ok_is (length t.names) n (record { limit = t.limit; names = t.names ++ name ∷ [] }) new told in
        let same : new.names ≡ t.names ++ name ∷ [] = ap (λ (t : Names). t.names) (sym is.1) in (
          same ∙ sym (ap (λ b. if b then t.names else t.names ++ name ∷ []) (not_held t.names name at)),
          ap (λ ns. number_of ns name) same ∙ new_last t.names name at ∙ ap (λ k. Some k) is.0,
        )
    by None at false told = absurd cc

-- The number of a type among those that stood first, where it was looked for among more.
use Rattle.std.proofs.Common.{◌≡◌, ℕ, zero, suc, ◌+◌, ◌≤◌, ◌<◌, ◌==◌, nat_lt, Bool, true, false, cond, List, [], ◌∷◌, ◌++◌, take, length, position, Option, Some, None, option_map, unwrap_or, refl, sym, ap, subst, ◌∙◌, arith}
use Rattle.std.specs.Prelude.{if◌then◌else◌}
use Rattle.std.specs.List.{list_any, position_or_len}
use Rattle.std.proofs.lemmas.Bool.Decides.{nat_tests}
use Rattle.std.proofs.lemmas.List.{length-append}
use Rattle.std.proofs.lemmas.Option.{same_Some, none-some}
use Rattle.type_merge.specs.Types.{type_number, with_type}
use Rattle.partial_tree.specs.link_program.wasm_types.declared.function.FuncType.{FuncType}
use Rattle.partial_tree.specs.link_program.wasm_types.Same.{same_type}
use Rattle.partial_items.specs.Types.{number_in}

-- ---- first places

shift : (l n : ℕ) → cond (nat_lt (1 + l) (suc n)) (Some (1 + l)) None ≡ option_map suc (cond (nat_lt l n) (Some l) None)
shift l n = grind (arith, nat_tests)

position_next : {A : Type 0} (p : A → Bool) (x : A) (xs : List A) → p x ≡ false → position p (x ∷ xs) ≡ option_map suc (position p xs)
position_next p x xs e = rw e (shift (position_or_len p xs) (length xs))

position_first : {A : Type 0} (p : A → Bool) (x : A) (xs : List A) → p x ≡ true → position p (x ∷ xs) ≡ Some 0
position_first p x xs e = rw e (grind (arith, nat_tests))

-- ---- among the first ones

abbrev before : ℕ → ℕ → Option ℕ
before n count = if nat_lt n count then Some n else None

later : (m count : ℕ) → option_map suc (before m count) ≡ before (suc m) (suc count)
later m count = by (nat_lt m count) (grind (arith, nat_tests))
  where
    by : (b : Bool) → nat_lt (suc m) (suc count) ≡ b → option_map suc (if b then Some m else None) ≡ before (suc m) (suc count)
    by true lt = sym (ap (λ b. if b then Some (suc m) else None) lt)
    by false lt = sym (ap (λ b. if b then Some (suc m) else None) lt)

at_once : (first count : ℕ) → first ≡ 0 → Some first ≡ before first (suc count)
at_once first count is = by (nat_lt first (suc count)) (grind (arith, nat_tests))
  where
    by : (b : Bool) → b ≡ true → Some first ≡ (if b then Some first else None)
    by true lt = refl
    by false lt = absurd cc

never : (n : ℕ) → None ≡ cond (nat_lt n 0) (Some n) None
never n = grind (arith, nat_tests)

position_take : {A : Type 0} (p : A → Bool) (xs : List A) (count n : ℕ) → position p xs ≡ Some n → position p (take count xs) ≡ before n count
position_take p [] count n at = absurd (none-some n at)
position_take p (x ∷ xs) zero n at = never n
position_take {A} p (x ∷ xs) (suc count) n at = by (p x) refl (λ m. position_take p xs count m)
  where
    Again : Type 0
    Again = (m : ℕ) → position p xs ≡ Some m → position p (take count xs) ≡ before m count

    next : (o : Option ℕ) → position p xs ≡ o → p x ≡ false → option_map suc o ≡ Some n → Again → position p (x ∷ take count xs) ≡ before n (suc count)
    next None there is same again = absurd (none-some n same)
    next (Some m) there is same again =
        position_next p x (take count xs) is
        ∙ (ap (option_map suc) (again m there)
        ∙ (later m count ∙ ap (λ k. before k (suc count)) (same_Some (suc m) n same)))

    by : (b : Bool) → p x ≡ b → Again → position p (take (suc count) (x ∷ xs)) ≡ before n (suc count)
    by true is again = position_first p x (take count xs) is ∙ (at_once 0 count refl ∙ ap (λ k. before k (suc count)) (same_Some 0 n (sym (position_first p x xs is) ∙ at)))
    by false is again = next (position p xs) refl is (sym (position_next p x xs is) ∙ at) again

take_front : {A : Type 0} (xs ys : List A) (count : ℕ) → count ≤ length xs → take count (xs ++ ys) ≡ take count xs
take_front [] [] zero le = refl
take_front [] (y ∷ ys) zero le = refl
take_front [] ys (suc count) le = absurd (omega (arith, le))
take_front (x ∷ xs) ys zero le = refl
take_front (x ∷ xs) ys (suc count) le = ap (λ zs. x ∷ zs) (take_front xs ys count (omega (arith, le)))

-- one type more

pub front_stays : (old new : List FuncType) (t : FuncType) (count : ℕ) → count ≤ length old → new ≡ with_type old t → take count new ≡ take count old
front_stays old new t count le is = ap (take count) is ∙ by (list_any (same_type t) old)
  where
    by : (b : Bool) → take count (if b then old else old ++ t ∷ []) ≡ take count old
    by true = refl
    by false = take_front old (t ∷ []) count le

pub no_shorter : (old new : List FuncType) (t : FuncType) (count : ℕ) → count ≤ length old → new ≡ with_type old t → count ≤ length new
no_shorter old new t count le is = subst (λ ts. count ≤ length ts) (sym is) (by (list_any (same_type t) old))
  where
    by : (b : Bool) → count ≤ length (if b then old else old ++ t ∷ [])
    by true = le
    by false = let e : length (old ++ t ∷ []) ≡ length old + 1 = length-append old (t ∷ []) in omega (arith, le, e)

among : (old new : List FuncType) (t : FuncType) (count n : ℕ) → count ≤ length old → new ≡ with_type old t → type_number new t ≡ Some n → (b : Bool) → nat_lt n count ≡ b
    → (if b then n else 0) ≡ number_in (take count old) t
among old new t count n le is at b lt =
    by b ∙ sym (ap (λ o. unwrap_or o 0) (ap (position (same_type t)) (sym (front_stays old new t count le is)) ∙ (position_take (same_type t) new count n at ∙ ap (λ b. if b then Some n else None) lt)))
  where
    by : (b : Bool) → (if b then n else 0) ≡ unwrap_or (if b then Some n else None) 0
    by true = refl
    by false = refl

-- it is one of the first ones
pub number_in_front : (old new : List FuncType) (t : FuncType) (count n : ℕ) → count ≤ length old → new ≡ with_type old t → type_number new t ≡ Some n → n < count → n ≡ number_in (take count old) t
number_in_front old new t count n le is at lt = among old new t count n le is at true (grind (arith, nat_tests))

-- it stands behind them
pub number_behind : (old new : List FuncType) (t : FuncType) (count n : ℕ) → count ≤ length old → new ≡ with_type old t → type_number new t ≡ Some n → count ≤ n → 0 ≡ number_in (take count old) t
number_behind old new t count n le is at past = among old new t count n le is at false (grind (arith, nat_tests))

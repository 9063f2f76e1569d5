-- The number that a table says, where the function stands there, is the number of the function.
use Rattle.std.proofs.Common.{◌≡◌, ℕ, zero, suc, ◌+◌, ◌<◌, ◌==◌, Bool, true, false, List, [], ◌∷◌, slice_get, get_or, position, if◌then◌else◌, Option, Some, None, unwrap_or, refl, sym, ap, ◌∙◌, arith}
use Rattle.std.proofs.lemmas.Bool.{and_parts}
use Rattle.std.proofs.lemmas.Bool.Decides.{nat_tests}
use Rattle.std.proofs.lemmas.Grind.{common_steps}
use Rattle.std.proofs.lemmas.List.Quantifiers.{position-Some}
use Rattle.std.proofs.lemmas.List.Sums.{fails_before_first}
use Rattle.std.proofs.lemmas.Option.{slice_get-get_or, slice_get_within, get_or_from_slice_get}
use Rattle.std.specs.List.{position_or_len}
use Rattle.link_keys.specs.link_program.index_layout.Numbers.{number_by}
use Rattle.link_keys.specs.link_program.declared.keys.FunctionKey.{FunctionKey}
use Rattle.link_keys.specs.link_program.declared.keys.FunctionKey.TheVariants as functions
use Rattle.link_keys.specs.link_program.Keys.{same_function_key}
use Rattle.link_numbers.specs.Rows.{is_function, stands_at, all_told}

is_one : (a b : FunctionKey) → same_function_key a b ≡ true → a ≡ b
is_one (functions.Import a) (functions.Import b) e = let h : a ≡ b = grind (arith, nat_tests) in ap functions.Import h
is_one (functions.Import a) (functions.Own input index) e = absurd cc
is_one (functions.Import a) (functions.Stub b) e = absurd cc
is_one (functions.Own input index) (functions.Import b) e = absurd cc
is_one (functions.Own a i) (functions.Own b j) e =
    let p = and_parts (a == b) (i == j) e in
    let h : a ≡ b = grind (arith, nat_tests) in
    let k : i ≡ j = grind (arith, nat_tests) in
    λ n. functions.Own (h n) (k n)
is_one (functions.Own input index) (functions.Stub b) e = absurd cc
is_one (functions.Stub a) (functions.Import b) e = absurd cc
is_one (functions.Stub a) (functions.Own input index) e = absurd cc
is_one (functions.Stub a) (functions.Stub b) e = let h : a ≡ b = grind (arith, nat_tests) in ap functions.Stub h

-- each function is told its place
told_at : (told : FunctionKey → ℕ) (from : ℕ) (keys : List FunctionKey) → all_told told from keys ≡ true → (i : ℕ) (k : FunctionKey) → slice_get keys i ≡ Some k → told k ≡ from + i
told_at told from [] all i k at = absurd cc
told_at told from (key ∷ keys) all zero k at =
    let p = and_parts (told key == from) (all_told told (from + 1) keys) all in
    let e : key ≡ k = cc in
    let h : told key ≡ from = grind (arith, nat_tests) in
    ap told (sym e) ∙ h ∙ omega arith
told_at told from (key ∷ keys) all (suc i) k at =
    let p = and_parts (told key == from) (all_told told (from + 1) keys) all in
    told_at told (from + 1) keys p.1 i k at ∙ omega arith

-- nothing passes where the first that does has no place
none_passes : {A : Type 0} (p : A → Bool) (xs : List A) (i : ℕ) (x : A) → position p xs ≡ None → slice_get xs i ≡ Some x → p x ≡ false
none_passes p xs i x none at =
    let inside = slice_get_within xs i x at in
    let before : i < position_or_len p xs = grind (arith, common_steps) in
    ap p (sym (get_or_from_slice_get xs i x x at)) ∙ fails_before_first p xs i x before

module _ (told : FunctionKey → ℕ) (keys : List FunctionKey) (all : all_told told 0 keys ≡ true) (key : FunctionKey) where
  first_is_told : (n : ℕ) → position (same_function_key key) keys ≡ Some n → (told key ≡ n) × (stands_at keys n key ≡ true)
  first_is_told n first =
      let p = position-Some (same_function_key key) keys n key first in
      let at : slice_get keys n ≡ Some (get_or keys n key) = slice_get-get_or keys n key p.0 in
      let e = is_one key (get_or keys n key) p.1 in
      (ap told e ∙ told_at told 0 keys all n (get_or keys n key) at ∙ omega arith, ap (is_function key) at ∙ p.1)

  by_first : (o : Option ℕ) → position (same_function_key key) keys ≡ o → (there : Bool) → stands_at keys (told key) key ≡ there → (if there then told key else 0) ≡ unwrap_or o 0
  by_first (Some n) first true is = (first_is_told n first).0
  by_first (Some n) first false is =
      let f = first_is_told n first in
      absurd (let e : stands_at keys (told key) key ≡ true = ap (λ n. stands_at keys n key) f.0 ∙ f.1 in cc)
  by_first None none true is = absurd (let e : true ≡ false = stands (slice_get keys (told key)) refl is in cc)
    where
      stands : (o : Option FunctionKey) → slice_get keys (told key) ≡ o → is_function key o ≡ true → true ≡ false
      stands None at is = absurd cc
      stands (Some there) at is = sym is ∙ none_passes (same_function_key key) keys (told key) there none at
  by_first None none false is = refl

  pub told_there : stands_at keys (told key) key ≡ true → told key ≡ number_by same_function_key keys key
  told_there is = by_first (position (same_function_key key) keys) refl true is

  pub told_absent : stands_at keys (told key) key ≡ false → 0 ≡ number_by same_function_key keys key
  told_absent is = by_first (position (same_function_key key) keys) refl false is

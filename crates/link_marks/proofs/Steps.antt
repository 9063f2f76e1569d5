-- The steps of loops over lists.
use Rattle.std.proofs.Common.{◌≡◌, ℕ, zero, suc, ◌+◌, ◌<◌, ◌==◌, not, inl, inr, Bool, true, false, cond, List, [], ◌∷◌, ◌++◌, length, get_or, map, filter, filter_map, take, drop, slice_get, Option, Some, None, Ok, Err, Result, option_map, option_and_then, find, option_to_list, MatchBool, All, refl, sym, ap, ◌∙◌, subst, arith, append_assoc, append-nil, add-one, drop-cons, nat_lt, lt-ltb, le-ltb}
use Rattle.std.specs.List.{cons_option, list_all, range_with_len, position_or_len}
use Rattle.std.specs.Str.{bytes_eq}
use Rattle.std.proofs.lemmas.List.{take_more, map_more}
use Rattle.std.proofs.lemmas.List.Elements.{filter_map-append, filter-append, filter_more}
use Rattle.std.proofs.lemmas.List.Folds.{find_at}
use Rattle.std.proofs.lemmas.Option.{same_Some, none-some, slice_get_past}
use Rattle.std.proofs.lemmas.Bool.{cases_lt, ltb-true}
use Rattle.std.proofs.lemmas.List.Sums.{AllPass-from_list_all}
use Rattle.std.specs.Cmp.Lexicographic.{nat_list_eq_equiv}
use Rattle.link_program.specs.wl_base.Choice.{first_some}
use Rattle.link_program.specs.wl_base.Names.{Names, number_of, interned, added, held_or}
use Rattle.link_program.specs.wl_base.declared.name_table.NameFault.{NameFault}
use Rattle.link_program.specs.wl_base.declared.name_table.NameFault.TheVariants.{TooMany}
use Rattle.link_program.specs.wl_base.declared.fault.Fault.{Fault}
use Rattle.link_program.specs.wl_base.declared.fault.Fault.TheVariants.{Duplicate}
use Rattle.link_program.specs.mark_bits.Words.{bit_of}
use Rattle.link_program.specs.link_rules.Marks.{Given, first_repeat}
use Rattle.link_program.specs.declared.symbol.Winner.{Winner}
use Rattle.link_marks.specs.Alive.{numbers_set}
use Rattle.link_marks.specs.Seen.{places_from}
use Rattle.link_marks.specs.Names.{AreGiven}
use Rattle.link_marks.proofs.Columns.{number_within}
use Rattle.link_marks.proofs.Mapped.{map_count}

module _ {A : Type 0} (xs : List A) (i : ℕ) (d : A) (below : i < length xs) where
  next : drop i xs ≡ get_or xs i d ∷ drop (i + 1) xs
  next = drop-cons xs i d below ∙ ap (λ k. get_or xs i d ∷ drop k xs) (sym (add-one i))

  mapped : {B : Type 0} (f : A → Option B) → filter_map f (take (i + 1) xs) ≡ filter_map f (take i xs) ++ cons_option (f (get_or xs i d)) []
  mapped f = ap (filter_map f) (take_more xs i d below) ∙ filter_map-append f (take i xs) (get_or xs i d ∷ [])

  pub added_some : {B : Type 0} (f : A → Option B) (before old new : List B) (y : B) → old ≡ before ++ filter_map f (take i xs) → f (get_or xs i d) ≡ Some y → new ≡ old ++ y ∷ []
      → new ≡ before ++ filter_map f (take (i + 1) xs)
  added_some f before old new y was is now =
      now ∙ ap (λ l. l ++ y ∷ []) was ∙ append_assoc before (filter_map f (take i xs)) (y ∷ [])
      ∙ ap (λ l. before ++ l) (sym (mapped f ∙ ap (λ o. filter_map f (take i xs) ++ cons_option o []) is))

  pub added_none : {B : Type 0} (f : A → Option B) (before old : List B) → old ≡ before ++ filter_map f (take i xs) → f (get_or xs i d) ≡ None → old ≡ before ++ filter_map f (take (i + 1) xs)
  added_none f before old was is =
      was ∙ ap (λ l. before ++ l) (sym (mapped f ∙ ap (λ o. filter_map f (take i xs) ++ cons_option o []) is ∙ append-nil (filter_map f (take i xs))))

  pub gained : {B : Type 0} (f : A → Option B) (before old new : List B) (o : Option B) → old ≡ before ++ filter_map f (take i xs) → o ≡ f (get_or xs i d) → new ≡ old ++ option_to_list o
      → new ≡ before ++ filter_map f (take (i + 1) xs)
  gained f before old new None was is now = now ∙ append-nil old ∙ added_none f before old was (sym is)
  gained f before old new (Some y) was is now = added_some f before old new y was (sym is) now

  pub kept_some : {B : Type 0} (f : A → Option B) (q : A → Bool) (before old new : List B) → old ≡ before ++ filter_map f (filter q (take i xs)) → q (get_or xs i d) ≡ true
      → new ≡ old ++ filter_map f (get_or xs i d ∷ []) → new ≡ before ++ filter_map f (filter q (take (i + 1) xs))
  kept_some f q before old new was is now =
      now ∙ ap (λ l. l ++ filter_map f (get_or xs i d ∷ [])) was ∙ append_assoc before (filter_map f (filter q (take i xs))) (filter_map f (get_or xs i d ∷ []))
      ∙ ap (λ l. before ++ l) (sym (ap (filter_map f) (filter_more q xs i d below ∙ ap (λ b. filter q (take i xs) ++ cond b (get_or xs i d ∷ []) []) is) ∙ filter_map-append f (filter q (take i xs)) (get_or xs i d ∷ [])))

  pub kept_none : {B : Type 0} (f : A → Option B) (q : A → Bool) (before old : List B) → old ≡ before ++ filter_map f (filter q (take i xs)) → q (get_or xs i d) ≡ false
      → old ≡ before ++ filter_map f (filter q (take (i + 1) xs))
  kept_none f q before old was is =
      was ∙ ap (λ l. before ++ filter_map f l) (sym (filter_more q xs i d below ∙ ap (λ b. filter q (take i xs) ++ cond b (get_or xs i d ∷ []) []) is ∙ append-nil (filter q (take i xs))))

  pub passed : (q : A → Bool) (old new : List A) → old ≡ filter q (take i xs) → q (get_or xs i d) ≡ true → new ≡ old ++ get_or xs i d ∷ [] → new ≡ filter q (take (i + 1) xs)
  passed q old new was is now = now ∙ ap (λ l. l ++ get_or xs i d ∷ []) was ∙ sym (filter_more q xs i d below ∙ ap (λ b. filter q (take i xs) ++ cond b (get_or xs i d ∷ []) []) is)

  pub failed : (q : A → Bool) (old : List A) → old ≡ filter q (take i xs) → q (get_or xs i d) ≡ false → old ≡ filter q (take (i + 1) xs)
  failed q old was is = was ∙ sym (filter_more q xs i d below ∙ ap (λ b. filter q (take i xs) ++ cond b (get_or xs i d ∷ []) []) is ∙ append-nil (filter q (take i xs)))

  pub placed : (q : A → Bool) (old new whole : List ℕ) → old ++ places_from q i (drop i xs) ≡ whole → q (get_or xs i d) ≡ true → new ≡ old ++ i ∷ [] → new ++ places_from q (i + 1) (drop (i + 1) xs) ≡ whole
  placed q old new whole was is now =
      ap (λ l. l ++ places_from q (i + 1) (drop (i + 1) xs)) now ∙ append_assoc old (i ∷ []) (places_from q (i + 1) (drop (i + 1) xs))
      ∙ sym (ap (λ l. old ++ places_from q i l) next ∙ ap (λ b. old ++ cond b (i ∷ places_from q (i + 1) (drop (i + 1) xs)) (places_from q (i + 1) (drop (i + 1) xs))) is) ∙ was

  pub not_placed : (q : A → Bool) (old whole : List ℕ) → old ++ places_from q i (drop i xs) ≡ whole → q (get_or xs i d) ≡ false → old ++ places_from q (i + 1) (drop (i + 1) xs) ≡ whole
  not_placed q old whole was is =
      sym (ap (λ l. old ++ places_from q i l) next ∙ ap (λ b. old ++ cond b (i ∷ places_from q (i + 1) (drop (i + 1) xs)) (places_from q (i + 1) (drop (i + 1) xs))) is) ∙ was

  pub none_yet : {B : Type 0} (m : A → Option B) (whole : Option B) → first_some (map m (drop i xs)) ≡ whole → m (get_or xs i d) ≡ None → first_some (map m (drop (i + 1) xs)) ≡ whole
  none_yet m whole was is = sym (ap (λ l. first_some (map m l)) next ∙ ap (λ o. first_some (o ∷ map m (drop (i + 1) xs))) is) ∙ was

  pub first_one : {B : Type 0} (m : A → Option B) (whole : Option B) (y : B) → first_some (map m (drop i xs)) ≡ whole → m (get_or xs i d) ≡ Some y → Some y ≡ whole
  first_one m whole y was is = sym (ap (λ l. first_some (map m l)) next ∙ ap (λ o. first_some (o ∷ map m (drop (i + 1) xs))) is) ∙ was

past : {A : Type 0} (xs : List A) → drop (length xs) xs ≡ []
past [] = refl
past (x ∷ xs) = past xs

pub all_placed : {A : Type 0} (q : A → Bool) (xs : List A) (i : ℕ) (old whole : List ℕ) → i ≡ length xs → old ++ places_from q i (drop i xs) ≡ whole → old ≡ whole
all_placed q xs i old whole end was = sym (ap (λ k. old ++ places_from q i (drop k xs)) end ∙ ap (λ l. old ++ places_from q i l) (past xs) ∙ append-nil old) ∙ was

pub none_at_all : {A B : Type 0} (m : A → Option B) (xs : List A) (i : ℕ) (whole : Option B) → i ≡ length xs → first_some (map m (drop i xs)) ≡ whole → None ≡ whole
none_at_all m xs i whole end was = sym (ap (λ k. first_some (map m (drop k xs))) end ∙ ap (λ l. first_some (map m l)) (past xs)) ∙ was

-- ---- numbers of bits

range_more : (a n : ℕ) → range_with_len a (n + 1) ≡ range_with_len a n ++ (a + n) ∷ []
range_more a n = ap (range_with_len a) (add-one n) ∙ by a n
  where
    by : (a n : ℕ) → range_with_len a (suc n) ≡ range_with_len a n ++ (a + n) ∷ []
    by a zero = ap (λ k. k ∷ []) (let e : a ≡ a + 0 = omega arith in e)
    by a (suc n) = ap (λ l. a ∷ l) (by (a + 1) n ∙ ap (λ k. range_with_len (a + 1) n ++ k ∷ []) (let e : a + 1 + n ≡ a + suc n = omega arith in e))

numbers_more : (words : List ℕ) (n : ℕ) → numbers_set words (n + 1) ≡ numbers_set words n ++ cond (bit_of words n == 1) (n ∷ []) []
numbers_more words n =
    ap (filter (λ k. bit_of words k == 1)) (range_more 0 n) ∙ filter-append (λ k. bit_of words k == 1) (range_with_len 0 n) ((0 + n) ∷ [])
    ∙ ap (λ k. numbers_set words n ++ cond (bit_of words k == 1) (k ∷ []) []) (let e : 0 + n ≡ n = omega arith in e)

pub bit_set : (words : List ℕ) (n : ℕ) (old new : List ℕ) → old ≡ numbers_set words n → bit_of words n ≡ 1 → new ≡ old ++ n ∷ [] → new ≡ numbers_set words (n + 1)
bit_set words n old new was one now = now ∙ ap (λ l. l ++ n ∷ []) was ∙ sym (numbers_more words n ∙ ap (λ b. numbers_set words n ++ cond (b == 1) (n ∷ []) []) one)

pub bit_clear : (words : List ℕ) (n : ℕ) (old : List ℕ) → old ≡ numbers_set words n → bit_of words n ≡ 0 → old ≡ numbers_set words (n + 1)
bit_clear words n old was none = was ∙ sym (numbers_more words n ∙ ap (λ b. numbers_set words n ++ cond (b == 1) (n ∷ []) []) none ∙ append-nil (numbers_set words n))

pub bit_more : (words : List ℕ) (n : ℕ) (old new : List ℕ) (t : Bool) → old ≡ numbers_set words n → MatchBool t (bit_of words n ≡ 1) (bit_of words n ≡ 0) → new ≡ old ++ cond t (n ∷ []) []
    → new ≡ numbers_set words (n + 1)
bit_more words n old new true was one now = bit_set words n old new was one now
bit_more words n old new false was none now = now ∙ append-nil old ∙ bit_clear words n old was none

-- ---- names that are given

bytes_back : (a b : List ℕ) → bytes_eq a b ≡ bytes_eq b a
bytes_back a b = nat_list_eq_equiv.symm a b

same_place : (name : List ℕ) (gs : List Given) → position_or_len (bytes_eq name) (map (λ (g : Given). g.name) gs) ≡ position_or_len (λ (g : Given). bytes_eq g.name name) gs
same_place name [] = refl
same_place name (g ∷ gs) = let h = bytes_back name g.name in let t = same_place name gs in λ i. cond (not (h i)) (1 + t i) 0

-- the input of the first that was given under the name
pub first_given : (earlier : List Given) (name : List ℕ)
    → option_map (λ (g : Given). g.input) (find (λ (g : Given). bytes_eq g.name name) earlier) ≡ option_and_then (slice_get (map (λ (g : Given). g.input) earlier)) (number_of (map (λ (g : Given). g.name) earlier) name)
first_given earlier name =
    let n = position_or_len (λ (g : Given). bytes_eq g.name name) earlier in
    ap (option_map (λ (g : Given). g.input)) (find_at (λ (g : Given). bytes_eq g.name name) earlier)
    ∙ get_map earlier n
    ∙ inside (map (λ (g : Given). g.input) earlier) n (length earlier) (map_count (λ (g : Given). g.input) earlier)
    ∙ sym (λ i. option_and_then (slice_get (map (λ (g : Given). g.input) earlier)) (cond (nat_lt (same_place name earlier i) (map_count (λ (g : Given). g.name) earlier i)) (Some (same_place name earlier i)) None))
  where
    get_map : (gs : List Given) (n : ℕ) → option_map (λ (g : Given). g.input) (slice_get gs n) ≡ slice_get (map (λ (g : Given). g.input) gs) n
    get_map [] n = refl
    get_map (g ∷ gs) zero = refl
    get_map (g ∷ gs) (suc n) = get_map gs n

    inside : (xs : List ℕ) (n m : ℕ) → length xs ≡ m → slice_get xs n ≡ option_and_then (slice_get xs) (cond (nat_lt n m) (Some n) None)
    inside xs n m is = elim (cases_lt n m) as (λ _. slice_get xs n ≡ option_and_then (slice_get xs) (cond (nat_lt n m) (Some n) None)) [
      | inl lt ↦ ap (λ b. option_and_then (slice_get xs) (cond b (Some n) None)) (sym (lt-ltb n m lt))
      | inr ge ↦ slice_get_past xs n (omega (arith, is, ge)) ∙ ap (λ b. option_and_then (slice_get xs) (cond b (Some n) None)) (sym (le-ltb n m ge))
    ]

is_ok : {A F : Type 0} {x y : A} → ◌≡◌ {A = Result A F} (Ok x) (Ok y) → x ≡ y
is_ok h = cc

no_ok : {A F : Type 0} {f : F} {y : A} → ◌≡◌ {A = Result A F} (Err f) (Ok y) → ⊥
no_ok h = cc

-- what interning answers: a name that is there has its number, and a new one goes last
held_is : (t new : Names) (name : List ℕ) (number k : ℕ) → number_of t.names name ≡ Some k → interned t name ≡ Ok (number, new) → (number ≡ k) × (new ≡ t)
held_is t new name number k is said =
    let pair : ◌≡◌ {A = ℕ × Names} (k, t) (number, new) = is_ok (ap (λ o. held_or o t (added t name)) (sym is) ∙ said) in
    (sym (ap (λ p. p.0) pair), sym (ap (λ p. p.1) pair))

new_is : (t new : Names) (name : List ℕ) (number : ℕ) → number_of t.names name ≡ None → interned t name ≡ Ok (number, new) → (number ≡ length t.names) × (new.names ≡ t.names ++ name ∷ [])
new_is t new name number is said = by (nat_lt (length t.names) t.limit) (ap (λ o. held_or o t (added t name)) (sym is) ∙ said)
  where
    by : (b : Bool) → ◌≡◌ {A = Result (ℕ × Names) NameFault} (cond b (Ok (length t.names, record { limit = t.limit; names = t.names ++ name ∷ [] })) (Err TooMany)) (Ok (number, new))
        → (number ≡ length t.names) × (new.names ≡ t.names ++ name ∷ [])
    by true h =
        let pair : ◌≡◌ {A = ℕ × Names} (length t.names, record { limit = t.limit; names = t.names ++ name ∷ [] }) (number, new) = is_ok h in
        (sym (ap (λ p. p.0) pair), sym (ap (λ p. p.1.names) pair))
    by false h = absurd (no_ok h)

module _ (t new : Names) (name : List ℕ) (input number : ℕ) (inputs : List ℕ) (said : interned t name ≡ Ok (number, new)) (earlier : List Given) (are : AreGiven earlier t.names inputs) where
  told : option_map (λ (g : Given). g.input) (find (λ (g : Given). bytes_eq g.name name) earlier) ≡ option_and_then (slice_get inputs) (number_of t.names name)
  told = first_given earlier name ∙ sym (λ i. option_and_then (slice_get (are.inputs i)) (number_of (are.names i) name))

  lengths : length inputs ≡ length t.names
  lengths = ap length are.inputs ∙ map_count (λ (g : Given). g.input) earlier ∙ sym (ap length are.names ∙ map_count (λ (g : Given). g.name) earlier)

  pub found_given : (first : ℕ) → slice_get inputs number ≡ Some first → Some first ≡ option_map (λ (g : Given). g.input) (find (λ (g : Given). bytes_eq g.name name) earlier)
  found_given first at = by (number_of t.names name) refl ∙ sym told
    where
      by : (o : Option ℕ) → number_of t.names name ≡ o → Some first ≡ option_and_then (slice_get inputs) o
      by (Some k) is = let h = held_is t new name number k is said in sym (ap (slice_get inputs) (sym h.0) ∙ at)
      by None is = let h = new_is t new name number is said in absurd (none-some first (sym (slice_get_past inputs number (omega (arith, h.0, lengths))) ∙ at))

  pub not_found : slice_get inputs number ≡ None → None ≡ option_map (λ (g : Given). g.input) (find (λ (g : Given). bytes_eq g.name name) earlier)
  not_found at = by (number_of t.names name) refl ∙ sym told
    where
      by : (o : Option ℕ) → number_of t.names name ≡ o → None ≡ option_and_then (slice_get inputs) o
      by (Some k) is = let h = held_is t new name number k is said in sym (ap (slice_get inputs) (sym h.0) ∙ at)
      by None is = refl

  pub one_given : slice_get inputs number ≡ None → (after : List ℕ) → after ≡ inputs ++ input ∷ [] → AreGiven (earlier ++ record { name = name; input = input } ∷ []) new.names after
  one_given at after now = by (number_of t.names name) refl
    where
      map_last : {B : Type 0} (f : Given → B) (gs : List Given) (g : Given) → map f (gs ++ g ∷ []) ≡ map f gs ++ f g ∷ []
      map_last f [] g = refl
      map_last f (x ∷ gs) g = ap (λ l. f x ∷ l) (map_last f gs g)

      some_at : (xs : List ℕ) (k : ℕ) → k < length xs → slice_get xs k ≡ None → ⊥
      some_at [] k lt is = absurd (omega arith)
      some_at (x ∷ xs) zero lt is = none-some x (sym is)
      some_at (x ∷ xs) (suc k) lt is = some_at xs k (omega arith) is

      by : (o : Option ℕ) → number_of t.names name ≡ o → AreGiven (earlier ++ record { name = name; input = input } ∷ []) new.names after
      by (Some k) is =
          let h = held_is t new name number k is said in
          absurd (some_at inputs k (omega (arith, number_within t.names name k is, lengths)) (ap (slice_get inputs) (sym h.0) ∙ at))
      by None is = let h = new_is t new name number is said in record {
        names = h.1 ∙ ap (λ l. l ++ name ∷ []) are.names ∙ sym (map_last (λ (g : Given). g.name) earlier (record { name = name; input = input }));
        inputs = now ∙ ap (λ l. l ++ input ∷ []) are.inputs ∙ sym (map_last (λ (g : Given). g.input) earlier (record { name = name; input = input }));
      }

-- ---- the first that is given twice

only_one : {A : Type 0} (o : Option A) → first_some (o ∷ []) ≡ o
only_one None = refl
only_one (Some x) = refl

none_mapped : {A B : Type 0} (f : A → B) (o : Option A) → None ≡ option_map f o → o ≡ None
none_mapped f None h = refl
none_mapped f (Some x) h = absurd (none-some (f x) h)

pub not_repeated : (earlier : List Given) (g : Given) (gs : List Given) (whole : Option Fault) → first_repeat earlier (g ∷ gs) ≡ whole
    → None ≡ option_map (λ (f : Given). f.input) (find (λ (f : Given). bytes_eq f.name g.name) earlier) → first_repeat (earlier ++ g ∷ []) gs ≡ whole
not_repeated earlier g gs whole was none =
    sym (ap (λ o. first_some (option_map (λ (f : Given). Duplicate g.name f.input g.input) o ∷ first_repeat (earlier ++ g ∷ []) gs ∷ [])) (none_mapped _ _ none) ∙ only_one (first_repeat (earlier ++ g ∷ []) gs)) ∙ was

pub is_repeated : (earlier : List Given) (g : Given) (gs : List Given) (whole : Option Fault) (first : ℕ) → first_repeat earlier (g ∷ gs) ≡ whole
    → Some first ≡ option_map (λ (f : Given). f.input) (find (λ (f : Given). bytes_eq f.name g.name) earlier) → Some (Duplicate g.name first g.input) ≡ whole
is_repeated earlier g gs whole first was found = by (find (λ (f : Given). bytes_eq f.name g.name) earlier) refl found
  where
    by : (o : Option Given) → find (λ (f : Given). bytes_eq f.name g.name) earlier ≡ o → Some first ≡ option_map (λ (f : Given). f.input) o → Some (Duplicate g.name first g.input) ≡ whole
    by None is h = absurd (none-some first (sym h))
    by (Some f) is h =
        ap (λ (k : ℕ). Some (Duplicate g.name k g.input)) (same_Some first f.input h)
        ∙ sym (ap (λ o. first_some (option_map (λ (f : Given). Duplicate g.name f.input g.input) o ∷ first_repeat (earlier ++ g ∷ []) gs ∷ [])) is) ∙ was

module _ (see : Winner → Given) (first : List Given) (xs : List Winner) (i : ℕ) (d : Winner) (below : i < length xs) where
  seen_next : map see (drop i xs) ≡ see (get_or xs i d) ∷ map see (drop (i + 1) xs)
  seen_next = ap (map see) (next xs i d below)

  seen_more : first ++ map see (take (i + 1) xs) ≡ (first ++ map see (take i xs)) ++ see (get_or xs i d) ∷ []
  seen_more = ap (λ l. first ++ l) (map_more see xs i d below) ∙ sym (append_assoc first (map see (take i xs)) (see (get_or xs i d) ∷ []))

  -- the export was given before
  pub repeated_at : (whole : Option Fault) (name : List ℕ) (n : ℕ) → first_repeat (first ++ map see (take i xs)) (map see (drop i xs)) ≡ whole → name ≡ (see (get_or xs i d)).name
      → Some n ≡ option_map (λ (f : Given). f.input) (find (λ (f : Given). bytes_eq f.name name) (first ++ map see (take i xs))) → Some (Duplicate name n (see (get_or xs i d)).input) ≡ whole
  repeated_at whole name n was named found =
      ap (λ m. Some (Duplicate m n (see (get_or xs i d)).input)) named
      ∙ is_repeated (first ++ map see (take i xs)) (see (get_or xs i d)) (map see (drop (i + 1) xs)) whole n (ap (first_repeat (first ++ map see (take i xs))) (sym seen_next) ∙ was)
      (found ∙ ap (λ m. option_map (λ (f : Given). f.input) (find (λ (f : Given). bytes_eq f.name m) (first ++ map see (take i xs)))) named)

  -- it wasn't
  pub not_repeated_at : (whole : Option Fault) (name : List ℕ) → first_repeat (first ++ map see (take i xs)) (map see (drop i xs)) ≡ whole → name ≡ (see (get_or xs i d)).name
      → None ≡ option_map (λ (f : Given). f.input) (find (λ (f : Given). bytes_eq f.name name) (first ++ map see (take i xs)))
      → first_repeat (first ++ map see (take (i + 1) xs)) (map see (drop (i + 1) xs)) ≡ whole
  not_repeated_at whole name was named none =
      ap (λ l. first_repeat l (map see (drop (i + 1) xs))) seen_more
      ∙ not_repeated (first ++ map see (take i xs)) (see (get_or xs i d)) (map see (drop (i + 1) xs)) whole (ap (first_repeat (first ++ map see (take i xs))) (sym seen_next) ∙ was)
      (none ∙ ap (λ m. option_map (λ (f : Given). f.input) (find (λ (f : Given). bytes_eq f.name m) (first ++ map see (take i xs)))) named)

  pub given_more : (names : List (List ℕ)) (inputs : List ℕ) (name : List ℕ) (input : ℕ) → name ≡ (see (get_or xs i d)).name → input ≡ (see (get_or xs i d)).input
      → AreGiven ((first ++ map see (take i xs)) ++ record { name = name; input = input } ∷ []) names inputs → AreGiven (first ++ map see (take (i + 1) xs)) names inputs
  given_more names inputs name input named of are =
      subst (λ l. AreGiven l names inputs) (sym seen_more) (subst (λ (g : Given). AreGiven ((first ++ map see (take i xs)) ++ g ∷ []) names inputs) (λ j. record { name = named j; input = of j }) are)

-- ---- names that are there

pub all_below : (n : ℕ) (ws : List Winner) → list_all (λ (w : Winner). nat_lt w.name n) ws ≡ true → All (λ (w : Winner). w.name < n) ws
all_below n ws h k d below = ltb-true (get_or ws k d).name n (AllPass-from_list_all (λ (w : Winner). nat_lt w.name n) ws h k d below)

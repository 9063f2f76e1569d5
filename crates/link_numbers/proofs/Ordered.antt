-- The names of variants come behind all others, of which none is theirs: what that gives for the names that are called.
use Rattle.std.proofs.Common.{◌≡◌, ℕ, zero, suc, Bool, true, false, ◌&&◌, ◌||◌, not, cond, List, [], ◌∷◌, ◌++◌, filter, slice_get, get_or, Some, refl, sym, ap, subst, ◌∙◌, append_assoc}
use Rattle.std.specs.Prelude.{if◌then◌else◌, bytes_eq}
use Rattle.std.specs.List.{list_any, All}
use Rattle.std.proofs.lemmas.List.{append-nil}
use Rattle.std.proofs.lemmas.List.Elements.{All-head, All-tail, filter-append}
use Rattle.std.proofs.lemmas.List.Folds.{list_any-append}
use Rattle.std.proofs.lemmas.Option.{slice_get-get_or}
use Rattle.link_keys.specs.link_program.wl_base.Choice.{distinct, distinct_onto}
use Rattle.link_keys.proofs.Any.{any_left, any_right}
use Rattle.link_keys.proofs.Equals.{OnePlace, one_place, holds_at, holds_distinct, filter_distinct_onto, settled}
use Rattle.link_keys.proofs.Heard.{onto_append}
use Rattle.link_keys.proofs.Imports.{name_equal, name_itself, both}

-- one of these names is among those
abbrev pub Is : List (List ℕ) → List ℕ → Type 0
Is xs name = list_any (bytes_eq name) xs ≡ true

abbrev pub IsNot : List (List ℕ) → List ℕ → Type 0
IsNot xs name = list_any (bytes_eq name) xs ≡ false

pub is_or_not : (xs : List (List ℕ)) (name : List ℕ) → Is xs name → IsNot xs name → ⊥
is_or_not xs name a b = let e : true ≡ false = sym a ∙ b in cc

pub not_is : (b : Bool) → (b ≡ true → ⊥) → b ≡ false
not_is true h = absurd (h refl)
not_is false h = refl

-- ---- names behind others

behind : (seen more xs : List (List ℕ)) → All (IsNot seen) xs → distinct_onto bytes_eq (seen ++ more) xs ≡ seen ++ distinct_onto bytes_eq more xs
behind seen more [] all = refl
behind seen more (x ∷ xs) all =
    let among : list_any (bytes_eq x) (seen ++ more) ≡ list_any (bytes_eq x) more =
    list_any-append (bytes_eq x) seen more ∙ ap (λ b. b || list_any (bytes_eq x) more) (All-head (IsNot seen) x xs all) in
    ap (λ b. distinct_onto bytes_eq (if b then seen ++ more else (seen ++ more) ++ x ∷ []) xs) among
    ∙ by (list_any (bytes_eq x) more) (behind seen more xs (All-tail (IsNot seen) x xs all))
    (ap (λ ys. distinct_onto bytes_eq ys xs) (append_assoc seen more (x ∷ [])) ∙ behind seen (more ++ x ∷ []) xs (All-tail (IsNot seen) x xs all))
  where
    by : (b : Bool) → distinct_onto bytes_eq (seen ++ more) xs ≡ seen ++ distinct_onto bytes_eq more xs
        → distinct_onto bytes_eq ((seen ++ more) ++ x ∷ []) xs ≡ seen ++ distinct_onto bytes_eq (more ++ x ∷ []) xs
        → distinct_onto bytes_eq (if b then seen ++ more else (seen ++ more) ++ x ∷ []) xs ≡ seen ++ distinct_onto bytes_eq (if b then more else more ++ x ∷ []) xs
    by true here there = here
    by false here there = there

pub all_behind : (seen xs : List (List ℕ)) → All (IsNot seen) xs → distinct_onto bytes_eq seen xs ≡ seen ++ distinct bytes_eq xs
all_behind seen xs all = ap (λ ys. distinct_onto bytes_eq ys xs) (sym (append-nil seen)) ∙ behind seen [] xs all

-- ---- the names, and which of them are called

filter_same : (c d : List ℕ → Bool) (xs : List (List ℕ)) → All (λ x. c x ≡ d x) xs → filter c xs ≡ filter d xs
filter_same c d [] all = refl
filter_same c d (x ∷ xs) all =
    ap (λ b. cond b (x ∷ filter c xs) (filter c xs)) (All-head (λ x. c x ≡ d x) x xs all)
    ∙ ap (λ r. cond (d x) (x ∷ r) r) (filter_same c d xs (All-tail (λ x. c x ≡ d x) x xs all))

any_one : (xs : List (List ℕ)) (name : List ℕ) → Is xs name → (i : ℕ) × (x : List ℕ) × (slice_get xs i ≡ Some x) × (bytes_eq name x ≡ true)
any_one [] name is = absurd cc
any_one (x ∷ xs) name is = by (bytes_eq name x) refl is (any_one xs name)
  where
    by : (b : Bool) → bytes_eq name x ≡ b → (b || list_any (bytes_eq name) xs) ≡ true
        → (Is xs name → (i : ℕ) × (y : List ℕ) × (slice_get xs i ≡ Some y) × (bytes_eq name y ≡ true))
        → (i : ℕ) × (y : List ℕ) × (slice_get (x ∷ xs) i ≡ Some y) × (bytes_eq name y ≡ true)
    by true same e later = (0, x, refl, same)
    by false same e later = let r = later e in (suc r.0, r.1, r.2, r.3)

-- what is among the ones isn't among the others, where the others are none of them
pub before_is_not : (before last : List (List ℕ)) → All (IsNot before) last → (name : List ℕ) → Is before name → IsNot last name
before_is_not before last apart name is = not_is (list_any (bytes_eq name) last) (λ among.
    let r = any_one last name among in
    is_or_not before r.1 (subst (Is before) (name_equal name r.1 r.3) is) (at last r.0 r.1 r.2 apart))
  where
    at : (xs : List (List ℕ)) (i : ℕ) (x : List ℕ) → slice_get xs i ≡ Some x → All (IsNot before) xs → IsNot before x
    at [] i x h all = absurd cc
    at (y ∷ ys) zero x h all = let e : y ≡ x = cc in subst (IsNot before) e (All-head (IsNot before) y ys all)
    at (y ∷ ys) (suc i) x h all = at ys i x h (All-tail (IsNot before) y ys all)

-- nothing else is in a list without repeats
distinct_among : (seen xs : List (List ℕ)) (name : List ℕ) → Is (distinct_onto bytes_eq seen xs) name → Is (seen ++ xs) name
distinct_among seen [] name is = subst (λ ys. Is ys name) (sym (append-nil seen)) is
distinct_among seen (x ∷ xs) name is =
    by (list_any (bytes_eq x) seen) is (distinct_among seen xs name) (λ h. subst (λ ys. Is ys name) (append_assoc seen (x ∷ []) xs) (distinct_among (seen ++ x ∷ []) xs name h))
  where
    more : (a : Bool) → list_any (bytes_eq name) seen ≡ a → Is (seen ++ xs) name → Is (seen ++ x ∷ xs) name
    more true t h = any_left (bytes_eq name) seen (x ∷ xs) t
    more false t h =
        let r : Is xs name = sym (list_any-append (bytes_eq name) seen xs ∙ ap (λ b. b || list_any (bytes_eq name) xs) t) ∙ h in
        any_right (bytes_eq name) seen (x ∷ xs) (any_right (bytes_eq name) (x ∷ []) xs r)

    by : (b : Bool) → Is (distinct_onto bytes_eq (if b then seen else seen ++ x ∷ []) xs) name → (Is (distinct_onto bytes_eq seen xs) name → Is (seen ++ xs) name)
        → (Is (distinct_onto bytes_eq (seen ++ x ∷ []) xs) name → Is (seen ++ x ∷ xs) name) → Is (seen ++ x ∷ xs) name
    by true h same new = more (list_any (bytes_eq name) seen) refl (same h)
    by false h same new = new h

pub last_is_not : (before last : List (List ℕ)) → All (IsNot before) last → (name : List ℕ) → Is (distinct bytes_eq last) name → IsNot before name
last_is_not before last apart name is =
    not_is (list_any (bytes_eq name) before) (λ among. is_or_not last name (distinct_among [] last name is) (before_is_not before last apart name among))

-- the names of entries, those behind them, and those of variants
module _ (names first later last : List (List ℕ)) (order : names ≡ distinct bytes_eq (first ++ later) ++ distinct bytes_eq last) (apart : All (IsNot (distinct bytes_eq (first ++ later))) last) where
  abbrev before : List (List ℕ)
  before = distinct bytes_eq (first ++ later)

  whole : names ≡ distinct bytes_eq ((first ++ later) ++ last)
  whole = order ∙ sym (onto_append bytes_eq [] (first ++ later) last ∙ all_behind before last apart)

  pub one : OnePlace bytes_eq name_equal name_itself names
  one = subst (λ ns. OnePlace bytes_eq name_equal name_itself ns) (sym whole) (one_place bytes_eq name_equal name_itself ((first ++ later) ++ last))

  pub held : (name : List ℕ) → Is (first ++ last) name → Is names name
  held name is =
      subst (λ ns. Is ns name) (sym whole) (holds_distinct bytes_eq name_equal name_itself ((first ++ later) ++ last) name (by (list_any (bytes_eq name) first) refl (sym (list_any-append (bytes_eq name) first last) ∙ is)))
    where
      by : (b : Bool) → list_any (bytes_eq name) first ≡ b → (b || list_any (bytes_eq name) last) ≡ true → Is ((first ++ later) ++ last) name
      by true e h = any_left (bytes_eq name) (first ++ later) last (any_left (bytes_eq name) first later e)
      by false e h = any_right (bytes_eq name) (first ++ later) last h

  -- a name that comes before isn't a variant's
  before_not : (name : List ℕ) → Is before name → IsNot last name
  before_not name is = before_is_not before last apart name is

  module _ (called : List ℕ → Bool) (known : (name : List ℕ) → called name ≡ true → Is (first ++ last) name) where
    -- those that aren't variants'
    abbrev other : List ℕ → Bool
    other name = called name && not (list_any (bytes_eq name) last)

    other_known : (name : List ℕ) → other name ≡ true → Is (distinct bytes_eq first) name
    other_known name is =
        let b = both (called name) (not (list_any (bytes_eq name) last)) is in
        holds_distinct bytes_eq name_equal name_itself first name (by (list_any (bytes_eq name) last) b.1 (list_any (bytes_eq name) first) (sym (list_any-append (bytes_eq name) first last) ∙ known name b.0))
      where
        by : (l : Bool) → not l ≡ true → (f : Bool) → (f || l) ≡ true → f ≡ true
        by true n f h = absurd cc
        by false n true h = refl
        by false n false h = h

    same_before : (xs : List (List ℕ)) → ((name : List ℕ) → Is xs name → Is before name) → filter called xs ≡ filter other xs
    same_before xs among = filter_same called other xs (λ k d below.
        let name = get_or xs k d in
        let n = before_not name (among name (holds_at bytes_eq name_equal name_itself xs k name (slice_get-get_or xs k d below))) in
        by (called name) (list_any (bytes_eq name) last) n)
      where
        by : (c l : Bool) → l ≡ false → c ≡ (c && not l)
        by true true n = absurd cc
        by true false n = refl
        by false l n = refl

    first_before : (name : List ℕ) → Is (distinct bytes_eq first) name → Is before name
    first_before name is =
        let r = any_one (distinct bytes_eq first) name is in
        subst (λ ns. Is ns name) (sym (onto_append bytes_eq [] first later)) (stays later (distinct bytes_eq first) is)
      where
        stays : (xs seen : List (List ℕ)) → Is seen name → Is (distinct_onto bytes_eq seen xs) name
        stays [] seen h = h
        stays (x ∷ xs) seen h = stays xs (if list_any (bytes_eq x) seen then seen else seen ++ x ∷ []) (by (list_any (bytes_eq x) seen))
          where
            by : (b : Bool) → Is (if b then seen else seen ++ x ∷ []) name
            by true = h
            by false = any_left (bytes_eq name) seen (x ∷ []) h

    -- the names of entries and of variants that are called, each once, are those of all names that are called
    pub listed : distinct bytes_eq (filter called (first ++ last)) ≡ filter called names
    listed =
        filter_distinct_onto bytes_eq name_equal name_itself called [] (first ++ last)
        ∙ ap (filter called) (onto_append bytes_eq [] first last ∙ all_behind (distinct bytes_eq first) last apart_first)
        ∙ filter-append called (distinct bytes_eq first) (distinct bytes_eq last)
        ∙ ap (λ xs. xs ++ filter called (distinct bytes_eq last)) (
        same_before (distinct bytes_eq first) first_before
        ∙ sym (settled bytes_eq name_equal name_itself other (distinct bytes_eq first) later other_known)
        ∙ ap (filter other) (sym (onto_append bytes_eq [] first later))
        ∙ sym (same_before before (λ name h. h)))
        ∙ sym (filter-append called before (distinct bytes_eq last))
        ∙ ap (filter called) (sym order)
      where
        apart_first : All (IsNot (distinct bytes_eq first)) last
        apart_first = λ k d below.
            let name = get_or last k d in
            not_is (list_any (bytes_eq name) (distinct bytes_eq first)) (λ among. is_or_not before name (first_before name among) (apart k d below))

-- The names of variants go behind all others.
use Rattle.std.proofs.Common.{◌≡◌, ℕ, zero, suc, ◌+◌, ◌-◌, ◌<◌, ◌≤◌, ◌^◌, ◌==◌, Bool, true, false, cond, ◌||◌, take, List, [], ◌∷◌, ◌++◌, length, refl, sym, ap, subst, ◌∙◌, arith, length-append, append_assoc, Option, Some, None}
use Rattle.std.specs.Prelude.{map, slice_get, find, if◌then◌else◌, unwrap_or, option_map, bytes_eq, All}
use Rattle.std.specs.List.{list_any}
use Rattle.std.proofs.lemmas.Bool.{eq-eqb}
use Rattle.std.proofs.lemmas.Bool.Decides.{nat_tests}
use Rattle.std.proofs.lemmas.Slice.Eq.{bytes_eq-Decides}
use Rattle.std.proofs.lemmas.List.{append-nil, length-map, map-append}
use Rattle.std.proofs.lemmas.List.Elements.{All-append, All-cons, All-nil, All-head, All-tail}
use Rattle.std.proofs.lemmas.List.Folds.{list_any-append}
use Rattle.program_tables.specs.link_program.wl_base.Choice.{distinct, distinct_onto}
use Rattle.program_tables.specs.link_program.wl_base.Names.{number_of}
use Rattle.program_tables.specs.link_program.wasm_types.declared.function.FuncType.{FuncType}
use Rattle.program_tables.specs.link_program.object_file.Spaces.{no_type}
use Rattle.program_tables.specs.link_program.link_names.Numbered.{Numbered}
use Rattle.program_tables.specs.link_program.declared.symbol.Lead.TheVariants.{Null}
use Rattle.link_names.specs.Interning.{more}
use Rattle.link_names.proofs.More.{with_name, more_append, numbers_stay, new_last, held, not_held}
use Rattle.loose_calls.specs.declared.variant.Variant.{Variant}
use Rattle.loose_calls.specs.declared.interning.Interned.{Interned}
use Rattle.loose_calls.specs.Interned.{variant_row, named_type, names_in, Adds, Stays, Interns}

abbrev pub IsNot : List (List ℕ) → List ℕ → Type 0
IsNot xs name = list_any (bytes_eq name) xs ≡ false

-- ---- names behind others

behind : (seen more xs : List (List ℕ)) → All (IsNot seen) xs → distinct_onto bytes_eq (seen ++ more) xs ≡ seen ++ distinct_onto bytes_eq more xs
behind seen more [] all = refl
behind seen more (x ∷ xs) all =
    let among : list_any (bytes_eq x) (seen ++ more) ≡ list_any (bytes_eq x) more =
    list_any-append (bytes_eq x) seen more ∙ ap (λ b. b || list_any (bytes_eq x) more) (All-head (IsNot seen) x xs all) in
    ap (λ b. distinct_onto bytes_eq (if b then seen ++ more else (seen ++ more) ++ x ∷ []) xs) among
    ∙ by (list_any (bytes_eq x) more) (behind seen more xs (All-tail (IsNot seen) x xs all))
    (ap (λ ys. distinct_onto bytes_eq ys xs) (append_assoc seen more (x ∷ [])) ∙ behind seen (more ++ x ∷ []) xs (All-tail (IsNot seen) x xs all))
  where
    by : (b : Bool) → distinct_onto bytes_eq (seen ++ more) xs ≡ seen ++ distinct_onto bytes_eq more xs
        → distinct_onto bytes_eq ((seen ++ more) ++ x ∷ []) xs ≡ seen ++ distinct_onto bytes_eq (more ++ x ∷ []) xs
        → distinct_onto bytes_eq (if b then seen ++ more else (seen ++ more) ++ x ∷ []) xs ≡ seen ++ distinct_onto bytes_eq (if b then more else more ++ x ∷ []) xs
    by true here there = here
    by false here there = there

pub all_behind : (seen xs : List (List ℕ)) → All (IsNot seen) xs → more seen xs ≡ seen ++ distinct bytes_eq xs
all_behind seen xs all = ap (λ ys. distinct_onto bytes_eq ys xs) (sym (append-nil seen)) ∙ behind seen [] xs all

distinct_more : (xs : List (List ℕ)) (x : List ℕ) → distinct bytes_eq (xs ++ x ∷ []) ≡ (if list_any (bytes_eq x) (distinct bytes_eq xs) then distinct bytes_eq xs else distinct bytes_eq xs ++ x ∷ [])
distinct_more xs x = more_append [] xs (x ∷ [])

-- the number of a name that was just added
found_at : (seen : List (List ℕ)) (x : List ℕ) → (k : ℕ) × (number_of (with_name seen x) x ≡ Some k)
found_at seen x = by (number_of seen x) refl
  where
    by : (o : Option ℕ) → number_of seen x ≡ o → (k : ℕ) × (number_of (with_name seen x) x ≡ Some k)
    by (Some k) is = (k, ap (λ b. number_of (if b then seen else seen ++ x ∷ []) x) (held seen x k is).0 ∙ is)
    by None is = (length seen, ap (λ b. number_of (if b then seen else seen ++ x ∷ []) x) (not_held seen x is) ∙ new_last seen x is)

-- what isn't in a list without repeats isn't in the list
not_in : (seen xs : List (List ℕ)) (name : List ℕ) → IsNot (distinct_onto bytes_eq seen xs) name → IsNot xs name
not_in seen [] name not = refl
not_in seen (x ∷ xs) name not = ap (λ b. b || list_any (bytes_eq name) xs) first ∙ not_in (with_name seen x) xs name not
  where
    first : bytes_eq name x ≡ false
    first = by (bytes_eq name x) refl
      where
        by : (b : Bool) → bytes_eq name x ≡ b → b ≡ false
        by false is = refl
        by true is = absurd (
            let same : name ≡ x = (bytes_eq-Decides name x).0 is in
            let found : number_of (with_name seen x) x ≡ Some (found_at seen x).0 = (found_at seen x).1 in
            let stays : number_of (distinct_onto bytes_eq (with_name seen x) xs) x ≡ Some (found_at seen x).0 = numbers_stay (with_name seen x) xs x (found_at seen x).0 found in
            let e : true ≡ false = sym (held (distinct_onto bytes_eq (with_name seen x) xs) x (found_at seen x).0 stays).0 ∙ ap (λ n. list_any (bytes_eq n) (distinct_onto bytes_eq (with_name seen x) xs)) (sym same) ∙ not in
            cc)

-- ---- the first of a name

first_one : (xs : List Variant) (v : Variant) (rest : List Variant) → IsNot (names_in xs) v.name → find (λ (w : Variant). bytes_eq w.name v.name) (xs ++ v ∷ rest) ≡ Some v
first_one [] v rest not = ap (λ b. cond b (Some v) (find (λ (w : Variant). bytes_eq w.name v.name) rest)) ((bytes_eq-Decides v.name v.name).1 refl)
first_one (x ∷ xs) v rest not = by (bytes_eq x.name v.name) refl (first_one xs v rest both.1)
  where
    split : (a b : Bool) → (a || b) ≡ false → (a ≡ false) × (b ≡ false)
    split true b h = absurd cc
    split false b h = (refl, h)

    both : (bytes_eq v.name x.name ≡ false) × IsNot (names_in xs) v.name
    both = split (bytes_eq v.name x.name) (list_any (bytes_eq v.name) (names_in xs)) not

    by : (b : Bool) → bytes_eq x.name v.name ≡ b → find (λ (w : Variant). bytes_eq w.name v.name) (xs ++ v ∷ rest) ≡ Some v → cond b (Some x) (find (λ (w : Variant). bytes_eq w.name v.name) (xs ++ v ∷ rest)) ≡ Some v
    by true is later = absurd (let same : x.name ≡ v.name = (bytes_eq-Decides x.name v.name).0 is in let e : true ≡ false = sym ((bytes_eq-Decides v.name x.name).1 (sym same)) ∙ both.0 in cc)
    by false is later = later

-- ---- one variant more

apart_from : (base xs : List (List ℕ)) (name : List ℕ) (n : ℕ) → number_of (more base xs) name ≡ Some n → length base ≤ n → IsNot base name
apart_from base xs name n at low = by (number_of base name) refl
  where
    by : (o : Option ℕ) → number_of base name ≡ o → IsNot base name
    by None none = not_held base name none
    by (Some k) is = absurd (let both : Some k ≡ Some n = sym (numbers_stay base xs name k is) ∙ at in let same : k ≡ n = cc in let less = (held base name k is).1 in omega (arith, same, less, low))

none_of : (names : List (List ℕ)) (name : List ℕ) → IsNot names name → number_of names name ≡ None
none_of names name not = by (number_of names name) refl
  where
    by : (o : Option ℕ) → number_of names name ≡ o → o ≡ None
    by None is = refl
    by (Some k) is = absurd (let e : true ≡ false = sym (held names name k is).0 ∙ not in cc)

-- What stands after some of all variants.
pub record Now (base : List (List ℕ)) (whole vs : List Variant) (now : List (List ℕ)) (i : Interned) : Type 0 where
  pub names : now ≡ more base (names_in vs)
  pub apart : All (IsNot base) (names_in vs)
  pub symbols : (zs : List (List ℕ)) → i.symbols ≡ map (variant_row (more now zs)) vs
  pub types : i.types ≡ map (named_type whole) (distinct bytes_eq (names_in vs))

module _ (base : List (List ℕ)) (whole vs rest : List Variant) (v : Variant) (old new : List (List ℕ)) (n : ℕ) (i j : Interned)
    (splits : whole ≡ vs ++ v ∷ rest) (w : Now base whole vs old i) (is : new ≡ more old (v.name ∷ [])) (at : number_of new v.name ≡ Some n) (low : length base ≤ n) (adds : Adds v n (length base) i j) where
  abbrev before : List (List ℕ)
  before = distinct bytes_eq (names_in vs)

  names_more : names_in (vs ++ v ∷ []) ≡ names_in vs ++ v.name ∷ []
  names_more = map-append (λ (v : Variant). v.name) vs (v ∷ [])

  names_now : new ≡ more base (names_in (vs ++ v ∷ []))
  names_now = is ∙ ap (λ l. more l (v.name ∷ [])) w.names ∙ sym (more_append base (names_in vs) (v.name ∷ [])) ∙ ap (more base) (sym names_more)

  one_apart : IsNot base v.name
  one_apart = apart_from base (names_in (vs ++ v ∷ [])) v.name n (ap (λ l. number_of l v.name) (sym names_now) ∙ at) low

  apart_now : All (IsNot base) (names_in (vs ++ v ∷ []))
  apart_now = subst (All (IsNot base)) (sym names_more) (All-append (IsNot base) (names_in vs) (v.name ∷ []) w.apart (All-cons (IsNot base) v.name [] one_apart (All-nil (IsNot base))))

  rows_now : (zs : List (List ℕ)) → j.symbols ≡ map (variant_row (more new zs)) (vs ++ v ∷ [])
  rows_now zs =
      adds.symbols
      ∙ ap (λ l. l ++ record { kind = v.kind; name = Some n; lead = Null } ∷ []) (w.symbols (v.name ∷ zs) ∙ ap (λ l. map (variant_row (more l zs)) vs) (sym is))
      ∙ ap (λ o. map (variant_row (more new zs)) vs ++ record { kind = v.kind; name = o; lead = Null } ∷ []) (sym (numbers_stay new zs v.name n at))
      ∙ sym (map-append (variant_row (more new zs)) vs (v ∷ []))

  old_is : old ≡ base ++ before
  old_is = w.names ∙ all_behind base (names_in vs) w.apart

  among : list_any (bytes_eq v.name) old ≡ list_any (bytes_eq v.name) before
  among = ap (list_any (bytes_eq v.name)) old_is ∙ list_any-append (bytes_eq v.name) base before ∙ ap (λ b. b || list_any (bytes_eq v.name) before) one_apart

  counted : length old ≡ length base + length before
  counted = ap (λ (l : List (List ℕ)). length l) old_is ∙ length-append base before

  many : length i.types ≡ length before
  many = ap (λ (l : List FuncType). length l) w.types ∙ length-map before (named_type whole)

  -- a name of an earlier variant
  held_types : list_any (bytes_eq v.name) old ≡ true → j.types ≡ map (named_type whole) (distinct bytes_eq (names_in (vs ++ v ∷ [])))
  held_types held_so =
      let same : new ≡ old = is ∙ ap (λ b. if b then old else old ++ v.name ∷ []) held_so in
      let less : n < length old = (held old v.name n (ap (λ l. number_of l v.name) (sym same) ∙ at)).1 in
      let few : n - length base < length i.types = omega (arith, less, low, counted, many) in
      let not : (n - length base == length i.types) ≡ false = grind (arith, nat_tests) in
      adds.types ∙ ap (λ b. if b then i.types ++ v.of_type ∷ [] else i.types) not ∙ w.types
      ∙ ap (map (named_type whole)) (sym (ap (distinct bytes_eq) names_more ∙ distinct_more (names_in vs) v.name ∙ ap (λ b. if b then before else before ++ v.name ∷ []) (sym among ∙ held_so)))

  earlier_not : list_any (bytes_eq v.name) old ≡ false → IsNot (names_in vs) v.name
  earlier_not not_so = not_in [] (names_in vs) v.name (sym among ∙ not_so)

  new_types : list_any (bytes_eq v.name) old ≡ false → j.types ≡ map (named_type whole) (distinct bytes_eq (names_in (vs ++ v ∷ [])))
  new_types not_so =
      let same : new ≡ old ++ v.name ∷ [] = is ∙ ap (λ b. if b then old else old ++ v.name ∷ []) not_so in
      let last : Some n ≡ Some (length old) = sym at ∙ ap (λ l. number_of l v.name) same ∙ new_last old v.name (none_of old v.name not_so) in
      let place : n ≡ length old = cc in
      let next : n - length base ≡ length i.types = omega (arith, place, low, counted, many) in
      let held_so : (n - length base == length i.types) ≡ true = eq-eqb (n - length base) (length i.types) next in
      let first : named_type whole v.name ≡ v.of_type =
      ap (λ (l : List Variant). named_type l v.name) splits ∙ ap (λ o. unwrap_or (option_map (λ (v : Variant). v.of_type) o) no_type) (first_one vs v rest (earlier_not not_so)) in
      adds.types ∙ ap (λ b. if b then i.types ++ v.of_type ∷ [] else i.types) held_so ∙ ap (λ l. l ++ v.of_type ∷ []) w.types
      ∙ ap (λ t. map (named_type whole) before ++ t ∷ []) (sym first)
      ∙ sym (map-append (named_type whole) before (v.name ∷ []))
      ∙ ap (map (named_type whole)) (sym (ap (distinct bytes_eq) names_more ∙ distinct_more (names_in vs) v.name ∙ ap (λ b. if b then before else before ++ v.name ∷ []) (sym among ∙ not_so)))

  pub one_more : Now base whole (vs ++ v ∷ []) new j
  one_more = record { names = names_now; apart = apart_now; symbols = rows_now; types = by (list_any (bytes_eq v.name) old) refl }
    where
      by : (b : Bool) → list_any (bytes_eq v.name) old ≡ b → j.types ≡ map (named_type whole) (distinct bytes_eq (names_in (vs ++ v ∷ [])))
      by true held_so = held_types held_so
      by false not_so = new_types not_so

pub none_yet : (base : List (List ℕ)) (whole : List Variant) (i : Interned) → i.symbols ≡ [] → i.types ≡ [] → Now base whole [] base i
none_yet base whole i symbols types = record { names = refl; apart = All-nil (IsNot base); symbols = λ zs. symbols; types = types }

pub split_at : {A : Type 0} (xs : List A) (i : ℕ) (x : A) → slice_get xs i ≡ Some x → (rest : List A) × (xs ≡ take i xs ++ x ∷ rest)
split_at [] i x at = absurd cc
split_at (y ∷ xs) zero x at = let same : y ≡ x = cc in (xs, ap (λ z. z ∷ xs) same)
split_at (y ∷ xs) (suc i) x at = let rest = split_at xs i x at in (rest.0, ap (λ l. y ∷ l) rest.1)

pub stays_on : (a b c : Numbered) → Stays a b → Stays b c → Stays a c
stays_on a b c first second = record { made = second.made ∙ first.made; symbols = second.symbols ∙ first.symbols; groups = second.groups ∙ first.groups }

pub all_interned : (old new : Numbered) (vs : List Variant) (i : Interned) → Now old.names vs vs new.names i → Stays old new → (count : ℕ) → count ≡ length new.names → count < 2 ^ 32 → Interns old new vs i
all_interned old new vs i now stays count is few = record {
  names = now.names ∙ all_behind old.names (names_in vs) now.apart;
  stays = stays;
  few = subst (λ n. n < 2 ^ 32) is few;
  apart = now.apart;
  symbols = now.symbols [];
  types = now.types;
}

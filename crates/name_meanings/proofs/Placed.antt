-- What holds of all entries: their parts make ranks, objects' inputs aren't 0, and their names have numbers.
use Rattle.std.proofs.Common.{◌≡◌, ℕ, ◌+◌, ◌^◌, ◌<◌, ◌≤◌, zero, suc, Bool, true, false, ◌∙◌, List, [], ◌∷◌, ◌++◌, refl, ap, sym, subst, arith, Option, Some, None, length, get_or, nat_lt}
use Rattle.std.specs.Prelude.{filter, map, flat_map, if◌then◌else◌, slice_get, IsSome, is_some, unwrap_or}
use Rattle.std.specs.List.{All, list_all}
use Rattle.std.proofs.lemmas.List.Elements.{All-head, All-tail}
use Rattle.std.proofs.lemmas.Bool.{and_parts, ltb-true}
use Rattle.std.proofs.lemmas.Option.{slice_get_within, get_or_from_slice_get}
use Rattle.std.proofs.lemmas.List.{length-map}
use Rattle.name_entries.specs.wl_base.Names.{number_of}
use Rattle.name_entries.specs.linking_section.declared.symbol.Symbol.{Symbol}
use Rattle.name_entries.specs.linking_section.Flags.{is_weak}
use Rattle.symbol_race.specs.Ranks.{IsParts}
use Rattle.name_entries.specs.object_file.declared.object.Object.{Object}
use Rattle.name_entries.specs.made_symbols.declared.mode.Mode.{Mode}
use Rattle.name_entries.specs.made_symbols.declared.mode.Mode.TheVariants.{Plain, Shared}
use Rattle.name_entries.specs.made_symbols.Made.{MadeSymbol, made}
use Rattle.name_entries.specs.link_names.Numbered.{Numbered, AreNumbers, is_entry_symbol, symbol_name, symbol_number, entry_names, Held, Short}
use Rattle.name_entries.specs.name_rules.Entries.{InputSymbol, entries_from, made_from, is_entry, entries, name_of, is_named, symbols_of, named}
use Rattle.name_entries.specs.name_rules.Meanings.{entry_rank, lesser, least, winner, definitions}
use Rattle.name_entries.specs.View.{rows_of, entry_at, entry_number, InputsRise}

abbrev pub Each : (InputSymbol → Type 0) → List InputSymbol → Type 0
Each P [] = Unit {0}
Each P (e ∷ es) = P e × Each P es

each_append : (P : InputSymbol → Type 0) (xs ys : List InputSymbol) → Each P xs → Each P ys → Each P (xs ++ ys)
each_append P [] ys first second = second
each_append P (x ∷ xs) ys first second = (first.0, each_append P xs ys first.1 second)

each_kept : (P : InputSymbol → Type 0) (kept : Bool) (e : InputSymbol) (rest : List InputSymbol) → P e → Each P rest → Each P (if kept then e ∷ rest else rest)
each_kept P true e rest first second = (first, second)
each_kept P false e rest first second = second

each_filter : (P : InputSymbol → Type 0) (q : InputSymbol → Bool) (es : List InputSymbol) → Each P es → Each P (filter q es)
each_filter P q [] all = tt
each_filter P q (e ∷ es) all = each_kept P (q e) e (filter q es) all.0 (each_filter P q es all.1)

each_at : (P : InputSymbol → Type 0) (es : List InputSymbol) (k : ℕ) (e : InputSymbol) → Each P es → slice_get es k ≡ Some e → P e
each_at P es k e all at = by_place es k all (slice_get_within es k e at) (get_or_from_slice_get es k e e at)
  where
    by_place : (xs : List InputSymbol) (i : ℕ) → Each P xs → i < length xs → get_or xs i e ≡ e → P e
    by_place [] i all within is = absurd (omega arith)
    by_place (x ∷ xs) zero all within is = subst P is all.0
    by_place (x ∷ xs) (suc i) all within is = by_place xs i all.1 (omega arith) is

lesser_is : (P : InputSymbol → Type 0) (e f d : InputSymbol) (second : Bool) → P e → P f → (if second then Some f else Some e) ≡ Some d → P d
lesser_is P e f d true first holds same = subst P (ap (λ o. unwrap_or o e) same) holds
lesser_is P e f d false first holds same = subst P (ap (λ o. unwrap_or o e) same) first

lesser_holds : (P : InputSymbol → Type 0) (e : InputSymbol) (rest : Option InputSymbol) (d : InputSymbol) → P e → ((f : InputSymbol) → rest ≡ Some f → P f) → lesser e rest ≡ Some d → P d
lesser_holds P e None d first others same = subst P (ap (λ o. unwrap_or o e) same) first
lesser_holds P e (Some f) d first others same = lesser_is P e f d (nat_lt (entry_rank f) (entry_rank e)) first (others f refl) same

each_least : (P : InputSymbol → Type 0) (es : List InputSymbol) (d : InputSymbol) → Each P es → least es ≡ Some d → P d
each_least P [] d all is = absurd cc
each_least P (e ∷ es) d all is = lesser_holds P e (least es) d all.0 (λ f found. each_least P es f all.1 found) is

-- ---- the parts of entries

abbrev pub HasParts : InputSymbol → Type 0
HasParts e = IsParts e.class e.input e.place

abbrev pub Placed : InputSymbol → Type 0
Placed e = HasParts e × (0 < e.input)

small_class : (weak : Bool) → (if weak then 1 else 0) < 3
small_class true = omega arith
small_class false = omega arith

placed_row : (objects : List Object) (o : Object) (k : ℕ) (ss : List Symbol) → 0 < o.input → o.input < 2 ^ 20 → k + length ss ≤ 2 ^ 32 → Each Placed (entries_from objects o k ss)
placed_row objects o k [] some few short = tt
placed_row objects o k (s ∷ ss) some few short =
    let below : k < 2 ^ 32 = omega arith in
    let rest : (k + 1) + length ss ≤ 2 ^ 32 = omega arith in
    ((record { class = small_class (is_weak s); input = few; symbol = below }, some), placed_row objects o (k + 1) ss some few rest)

abbrev numbers_in : List (List ℕ) → Object → List (Option ℕ)
numbers_in names o = map (symbol_number names) o.symbols

placed_object : (objects : List Object) (names : List (List ℕ)) (o : Object) → 0 < o.input → o.input < 2 ^ 20 → Short (numbers_in names o) → Each Placed (symbols_of objects o)
placed_object objects names o some few short =
    let counted : length (numbers_in names o) ≡ length o.symbols = length-map o.symbols (symbol_number names) in
    placed_row objects o 0 o.symbols some few (omega arith)

placed_in : (objects : List Object) (names : List (List ℕ)) (last : ℕ) (os : List Object) → InputsRise last os → All (λ (numbers : List (Option ℕ)). Short numbers) (map (numbers_in names) os)
    → Each Placed (flat_map (symbols_of objects) os)
placed_in objects names last [] rise short = tt
placed_in objects names last (o ∷ os) rise short =
    each_append Placed (symbols_of objects o) (flat_map (symbols_of objects) os)
    (placed_object objects names o (omega (arith, rise.0)) rise.1 (All-head (λ (numbers : List (Option ℕ)). Short numbers) (numbers_in names o) (map (numbers_in names) os) short))
    (placed_in objects names o.input os rise.2 (All-tail (λ (numbers : List (Option ℕ)). Short numbers) (numbers_in names o) (map (numbers_in names) os) short))

placed_in_row : (objects : List Object) (names : List (List ℕ)) (last : ℕ) (os : List Object) (i : ℕ) → InputsRise last os → All (λ (numbers : List (Option ℕ)). Short numbers) (map (numbers_in names) os)
    → Each Placed (get_or (map (symbols_of objects) os) i [])
placed_in_row objects names last [] i rise short = tt
placed_in_row objects names last (o ∷ os) zero rise short =
    placed_object objects names o (omega (arith, rise.0)) rise.1 (All-head (λ (numbers : List (Option ℕ)). Short numbers) (numbers_in names o) (map (numbers_in names) os) short)
placed_in_row objects names last (o ∷ os) (suc i) rise short =
    placed_in_row objects names o.input os i rise.2 (All-tail (λ (numbers : List (Option ℕ)). Short numbers) (numbers_in names o) (map (numbers_in names) os) short)

each_weaker : (P Q : InputSymbol → Type 0) → ((e : InputSymbol) → P e → Q e) → (es : List InputSymbol) → Each P es → Each Q es
each_weaker P Q weaker [] all = tt
each_weaker P Q weaker (e ∷ es) all = (weaker e all.0, each_weaker P Q weaker es all.1)

parts_made : (k : ℕ) (ms : List MadeSymbol) → list_all (λ m. nat_lt m.class 3) ms ≡ true → k + length ms ≤ 2 ^ 32 → Each HasParts (made_from k ms)
parts_made k [] small short = tt
parts_made k (m ∷ ms) small short =
    let two = and_parts (nat_lt m.class 3) (list_all (λ (x : MadeSymbol). nat_lt x.class 3) ms) small in
    let below : k < 2 ^ 32 = omega arith in
    let rest : (k + 1) + length ms ≤ 2 ^ 32 = omega arith in
    (record { class = ltb-true m.class 3 two.0; input = omega arith; symbol = below }, parts_made (k + 1) ms two.1 rest)

few_made : (mode : Mode) → Each HasParts (made_from 0 (made mode))
few_made Plain = parts_made 0 (made Plain) refl (omega arith)
few_made Shared = parts_made 0 (made Shared) refl (omega arith)

pub winner_has_parts : (mode : Mode) (objects : List Object) (n : Numbered) (name : List ℕ) (d : InputSymbol) → AreNumbers mode objects n → InputsRise 0 objects → winner (entries mode objects) name ≡ Some d → HasParts d
unfolding entries
winner_has_parts mode objects n name d numbers rise wins =
    let all = flat_map (symbols_of objects) objects in
    let short = subst (All (λ (l : List (Option ℕ)). Short l)) numbers.symbols numbers.short in
    let objects_have = each_weaker Placed HasParts (λ e p. p.0) all (placed_in objects n.names 0 objects rise short) in
    let have = each_append HasParts (made_from 0 (made mode)) (filter is_entry all) (few_made mode) (each_filter HasParts is_entry all objects_have) in
    each_least HasParts (definitions (entries mode objects) name) d
    (each_filter HasParts (λ (e : InputSymbol). e.defines) (named (entries mode objects) name) (each_filter HasParts (is_named name) (entries mode objects) have)) wins

pub entry_is_placed : (objects : List Object) (mode : Mode) (n : Numbered) (object place : ℕ) (e : InputSymbol) → AreNumbers mode objects n → InputsRise 0 objects → entry_at objects object place ≡ Some e → Placed e
entry_is_placed objects mode n object place e numbers rise at =
    let short = subst (All (λ (l : List (Option ℕ)). Short l)) numbers.symbols numbers.short in
    each_at Placed (get_or (rows_of objects) object []) place e (placed_in_row objects n.names 0 objects object rise short) at

-- ---- the names of entries

abbrev HasNumber : List (List ℕ) → InputSymbol → Type 0
HasNumber names e = is_entry e ≡ true → IsSome (number_of names (name_of e))

held_split : (names : List (List ℕ)) (s : Symbol) (kept : Bool) (rest : List Symbol) → All (Held names) (map symbol_name (if kept then s ∷ rest else rest))
    → (kept ≡ true → Held names (symbol_name s)) × All (Held names) (map symbol_name rest)
held_split names s true rest held = (λ e. All-head (Held names) (symbol_name s) (map symbol_name rest) held, All-tail (Held names) (symbol_name s) (map symbol_name rest) held)
held_split names s false rest held = (λ e. absurd (let x : false ≡ true = e in cc), held)

held_row : (names : List (List ℕ)) (objects : List Object) (o : Object) (k : ℕ) (ss : List Symbol) → All (Held names) (map symbol_name (filter is_entry_symbol ss))
    → Each (HasNumber names) (entries_from objects o k ss)
held_row names objects o k [] held = tt
held_row names objects o k (s ∷ ss) held =
    let two = held_split names s (is_entry_symbol s) (filter is_entry_symbol ss) held in
    (two.0, held_row names objects o (k + 1) ss two.1)

held_rows : (names : List (List ℕ)) (objects os : List Object) (i : ℕ) → All (λ o. All (Held names) (entry_names o)) os → Each (HasNumber names) (get_or (map (symbols_of objects) os) i [])
held_rows names objects [] i held = tt
held_rows names objects (o ∷ os) zero held = held_row names objects o 0 o.symbols (All-head (λ (x : Object). All (Held names) (entry_names x)) o os held)
held_rows names objects (o ∷ os) (suc i) held = held_rows names objects os i (All-tail (λ (x : Object). All (Held names) (entry_names x)) o os held)

no_entry : (names : List (List ℕ)) (name : List ℕ) (entry : Bool) → (entry ≡ true → IsSome (number_of names name)) → (if entry then number_of names name else None) ≡ None → entry ≡ false
no_entry names name true held none =
    let some : is_some (number_of names name) ≡ true = held refl in
    let not_some : is_some (number_of names name) ≡ false = ap is_some none in
    sym some ∙ not_some
no_entry names name false held none = refl

pub unnumbered_is_none : (mode : Mode) (objects : List Object) (n : Numbered) (object place : ℕ) (e : InputSymbol) → AreNumbers mode objects n → entry_at objects object place ≡ Some e
    → entry_number n.names e ≡ None → is_entry e ≡ false
unnumbered_is_none mode objects n object place e numbers at none =
    no_entry n.names (name_of e) (is_entry e) (each_at (HasNumber n.names) (get_or (rows_of objects) object []) place e (held_rows n.names objects objects object numbers.symbols_held) at) none

is_numbered : (names : List (List ℕ)) (name : List ℕ) (number : ℕ) (entry : Bool) → (if entry then number_of names name else None) ≡ Some number → (entry ≡ true) × (number_of names name ≡ Some number)
is_numbered names name number true at = (refl, at)
is_numbered names name number false at = absurd cc

pub numbered_is_entry : (names : List (List ℕ)) (e : InputSymbol) (number : ℕ) → entry_number names e ≡ Some number → (is_entry e ≡ true) × (number_of names (name_of e) ≡ Some number)
numbered_is_entry names e number at = is_numbered names (name_of e) number (is_entry e) at

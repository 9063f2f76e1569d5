-- The winner of a name is the entry that has the rank of the winner.
use Rattle.std.proofs.Common.{◌≡◌, ℕ, ◌+◌, ◌^◌, ◌<◌, ◌≤◌, Bool, true, false, not, cond, ◌∙◌, List, [], ◌∷◌, ◌++◌, refl, ap, sym, subst, arith, Option, Some, None, length, nat_lt}
use Rattle.std.specs.Prelude.{◌==◌, flat_map, map, filter, filter_map, if◌then◌else◌, option_map, option_and_then, unwrap_or, IsSome}
use Rattle.std.specs.List.{All, list_all}
use Rattle.std.proofs.lemmas.Bool.{eqb-true, eq-eqb, and_parts, ltb-true}
use Rattle.std.proofs.lemmas.List.{length-map}
use Rattle.std.proofs.lemmas.List.Elements.{All-head, All-tail, filter_map-append}
use Rattle.link_program.specs.wl_base.Choice.{given}
use Rattle.link_program.specs.wl_base.Names.{number_of}
use Rattle.link_program.specs.linking_section.declared.symbol.Symbol.{Symbol}
use Rattle.link_program.specs.linking_section.Flags.{is_weak}
use Rattle.link_program.specs.symbol_race.Ranks.{IsParts, rank_of}
use Rattle.link_program.specs.object_file.declared.object.Object.{Object}
use Rattle.link_program.specs.made_symbols.declared.mode.Mode.{Mode}
use Rattle.link_program.specs.made_symbols.Made.{MadeSymbol, made}
use Rattle.link_program.specs.link_names.Numbered.{Numbered, AreNumbers, is_entry_symbol, symbol_name, symbol_number, entry_names, Held, Short}
use Rattle.link_program.specs.name_rules.Entries.{InputSymbol, entries_from, made_from, is_entry, is_named, entries, name_of, symbols_of, named, same_entry}
use Rattle.link_program.specs.name_rules.Meanings.{entry_rank, winner, definitions}
use Rattle.link_program.specs.name_entries.View.{InputsRise, WinnersAre}
use Rattle.link_program.proofs.name_entries_lemmas.Numbered.{named_by}
use Rattle.link_program.specs.link_rules.Program.{is_that, is_winner, winners_of}
use Rattle.link_program.specs.declared.symbol.Winner.{Winner}
use Rattle.link_program.specs.Told.{told_definition, told_winner}
use Rattle.program_tables.specs.Winners.{is_rank, winner_by, winner_of, winners_in}
use Rattle.program_tables.proofs.Lists.{Each, each_append, each_filter, each_both, kept_map, kept_only}
use Rattle.program_tables.proofs.MadeOnes.{small_classes, few_made}
use Rattle.program_tables.proofs.There.{Stands, entries_stand, one_entry, each_least}

-- ---- the parts of ranks

abbrev pub HasParts : InputSymbol → Type 0
HasParts e = IsParts e.class e.input e.place

small_class : (weak : Bool) → (if weak then 1 else 0) < 3
small_class true = omega arith
small_class false = omega arith

parts_row : (objects : List Object) (o : Object) (k : ℕ) (ss : List Symbol) → o.input < 2 ^ 20 → k + length ss ≤ 2 ^ 32 → Each HasParts (entries_from objects o k ss)
parts_row objects o k [] few short = tt
parts_row objects o k (s ∷ ss) few short =
    let below : k < 2 ^ 32 = omega arith in
    let rest : (k + 1) + length ss ≤ 2 ^ 32 = omega arith in
    (record { class = small_class (is_weak s); input = few; symbol = below }, parts_row objects o (k + 1) ss few rest)

abbrev numbers_in : List (List ℕ) → Object → List (Option ℕ)
numbers_in names o = map (symbol_number names) o.symbols

parts_object : (objects : List Object) (names : List (List ℕ)) (o : Object) → o.input < 2 ^ 20 → Short (numbers_in names o) → Each HasParts (symbols_of objects o)
parts_object objects names o few short =
    let counted : length (numbers_in names o) ≡ length o.symbols = length-map o.symbols (symbol_number names) in
    parts_row objects o 0 o.symbols few (omega arith)

parts_objects : (objects : List Object) (names : List (List ℕ)) (last : ℕ) (os : List Object) → InputsRise last os → All (λ (numbers : List (Option ℕ)). Short numbers) (map (numbers_in names) os)
    → Each HasParts (flat_map (symbols_of objects) os)
parts_objects objects names last [] rise short = tt
parts_objects objects names last (o ∷ os) rise short =
    each_append HasParts (symbols_of objects o) (flat_map (symbols_of objects) os)
    (parts_object objects names o rise.1 (All-head (λ (numbers : List (Option ℕ)). Short numbers) (numbers_in names o) (map (numbers_in names) os) short))
    (parts_objects objects names o.input os rise.2 (All-tail (λ (numbers : List (Option ℕ)). Short numbers) (numbers_in names o) (map (numbers_in names) os) short))

parts_made : (k : ℕ) (ms : List MadeSymbol) → list_all (λ m. nat_lt m.class 3) ms ≡ true → k + length ms ≤ 2 ^ 32 → Each HasParts (made_from k ms)
parts_made k [] small short = tt
parts_made k (m ∷ ms) small short =
    let two = and_parts (nat_lt m.class 3) (list_all (λ (x : MadeSymbol). nat_lt x.class 3) ms) small in
    let below : k < 2 ^ 32 = omega arith in
    let rest : (k + 1) + length ms ≤ 2 ^ 32 = omega arith in
    (record { class = ltb-true m.class 3 two.0; input = omega arith; symbol = below }, parts_made (k + 1) ms two.1 rest)

symbols_have_parts : (mode : Mode) (objects : List Object) (n : Numbered) → AreNumbers mode objects n → InputsRise 0 objects → Each HasParts (flat_map (symbols_of objects) objects)
symbols_have_parts mode objects n numbers rise =
    let short = subst (All (λ (l : List (Option ℕ)). Short l)) numbers.symbols numbers.short in
    parts_objects objects n.names 0 objects rise short

pub entries_have_parts : (mode : Mode) (objects : List Object) (n : Numbered) → AreNumbers mode objects n → InputsRise 0 objects → Each HasParts (entries mode objects)
unfolding entries
entries_have_parts mode objects n numbers rise =
    each_append HasParts (made_from 0 (made mode)) (filter is_entry (flat_map (symbols_of objects) objects)) (parts_made 0 (made mode) (small_classes mode) (few_made mode))
    (each_filter HasParts is_entry (flat_map (symbols_of objects) objects) (symbols_have_parts mode objects n numbers rise))

-- equal ranks are of one input and one place
rank_parts : (a i s b j t : ℕ) → a < 3 → i < 2 ^ 20 → s < 2 ^ 32 → b < 3 → j < 2 ^ 20 → t < 2 ^ 32 → rank_of a i s ≡ rank_of b j t → (i ≡ j) × (s ≡ t)
rank_parts a i s b j t ca ci cs cb cj ct same = (omega arith, omega arith)

-- ---- names that are held

abbrev IsHeld : List (List ℕ) → InputSymbol → Type 0
IsHeld names e = is_entry e ≡ true → IsSome (number_of names (name_of e))

held_split : (names : List (List ℕ)) (s : Symbol) (kept : Bool) (rest : List Symbol) → All (Held names) (map symbol_name (if kept then s ∷ rest else rest))
    → (kept ≡ true → Held names (symbol_name s)) × All (Held names) (map symbol_name rest)
held_split names s true rest held = (λ e. All-head (Held names) (symbol_name s) (map symbol_name rest) held, All-tail (Held names) (symbol_name s) (map symbol_name rest) held)
held_split names s false rest held = (λ e. absurd (let x : false ≡ true = e in cc), held)

held_row : (names : List (List ℕ)) (objects : List Object) (o : Object) (k : ℕ) (ss : List Symbol) → All (Held names) (map symbol_name (filter is_entry_symbol ss))
    → Each (IsHeld names) (entries_from objects o k ss)
held_row names objects o k [] held = tt
held_row names objects o k (s ∷ ss) held =
    let two = held_split names s (is_entry_symbol s) (filter is_entry_symbol ss) held in
    (two.0, held_row names objects o (k + 1) ss two.1)

held_objects : (names : List (List ℕ)) (objects os : List Object) → All (λ o. All (Held names) (entry_names o)) os → Each (IsHeld names) (flat_map (symbols_of objects) os)
held_objects names objects [] held = tt
held_objects names objects (o ∷ os) held =
    each_append (IsHeld names) (symbols_of objects o) (flat_map (symbols_of objects) os)
    (held_row names objects o 0 o.symbols (All-head (λ (x : Object). All (Held names) (entry_names x)) o os held))
    (held_objects names objects os (All-tail (λ (x : Object). All (Held names) (entry_names x)) o os held))

held_made : (names : List (List ℕ)) (k : ℕ) (ms : List MadeSymbol) → All (Held names) (map (λ (m : MadeSymbol). m.name) ms) → Each (IsHeld names) (made_from k ms)
held_made names k [] held = tt
held_made names k (m ∷ ms) held =
    let name_list = map (λ (x : MadeSymbol). x.name) ms in
    ((λ e. All-head (Held names) m.name name_list held), held_made names (k + 1) ms (All-tail (Held names) m.name name_list held))

-- ---- one entry

bool_same : (p q : Bool) → (p ≡ true → q ≡ true) → (q ≡ true → p ≡ true) → p ≡ q
bool_same true true a b = refl
bool_same false false a b = refl
bool_same true false a b = sym (a refl)
bool_same false true a b = b refl

same_by_rank : (mode : Mode) (objects : List Object) (e f : InputSymbol) → InputsRise 0 objects → Stands mode objects e → Stands mode objects f → HasParts e → HasParts f
    → (entry_rank e == entry_rank f) ≡ same_entry e f
same_by_rank mode objects e f rise se sf pe pf =
    bool_same (entry_rank e == entry_rank f) (same_entry e f)
    (λ h. let parts = rank_parts e.class e.input e.place f.class f.input f.place pe.class pe.input pe.symbol pf.class pf.input pf.symbol (eqb-true (entry_rank e) (entry_rank f) h) in
    rw (eq-eqb e.input f.input parts.0, eq-eqb e.place f.place parts.1) refl)
    (λ h. let two = and_parts (e.input == f.input) (e.place == f.place) h in
    let same : e ≡ f = one_entry mode objects e f rise se sf (eqb-true e.input f.input two.0) (eqb-true e.place f.place two.1) in
    eq-eqb (entry_rank e) (entry_rank f) (ap entry_rank same))

that_by_rank : (mode : Mode) (objects : List Object) (e : InputSymbol) (w : Option InputSymbol) → InputsRise 0 objects → Stands mode objects e → HasParts e → ((f : InputSymbol) → w ≡ Some f → Stands mode objects f × HasParts f)
    → is_rank (entry_rank e) (option_map entry_rank w) ≡ is_that e w
that_by_rank mode objects e None rise se pe found = refl
that_by_rank mode objects e (Some f) rise se pe found = let two = found f refl in same_by_rank mode objects e f rise se two.0 pe two.1

-- What is known of names, ranks and objects.
pub record IsRanked (mode : Mode) (objects : List Object) (n : Numbered) (ranks : List (Option ℕ)) : Type 0 where
  pub numbers : AreNumbers mode objects n
  pub rise : InputsRise 0 objects
  pub winners : WinnersAre n.names (entries mode objects) ranks

winner_known : (mode : Mode) (objects : List Object) (n : Numbered) (ranks : List (Option ℕ)) → IsRanked mode objects n ranks → (name : List ℕ) (f : InputSymbol) → winner (entries mode objects) name ≡ Some f
    → Stands mode objects f × HasParts f
winner_known mode objects n ranks known name f wins =
    let P = λ (e : InputSymbol). Stands mode objects e × HasParts e in
    let all : Each P (entries mode objects) = each_both (Stands mode objects) HasParts (entries mode objects) (entries_stand mode objects) (entries_have_parts mode objects n known.numbers known.rise) in
    each_least P (definitions (entries mode objects) name) f (each_filter P (λ (e : InputSymbol). e.defines) (named (entries mode objects) name) (each_filter P (is_named name) (entries mode objects) all)) wins

by_number : (mode : Mode) (objects : List Object) (n : Numbered) (ranks : List (Option ℕ)) (e : InputSymbol) (number : Option ℕ) → IsRanked mode objects n ranks → Stands mode objects e → HasParts e
    → number_of n.names (name_of e) ≡ number → IsSome number
    → option_and_then (winner_by ranks e) number ≡ given (is_winner (entries mode objects) e) (record { definition = told_definition e; name = unwrap_or number 0; flags = e.symbol.flags })
by_number mode objects n ranks e None known se pe is some = absurd (let x : false ≡ true = some in cc)
by_number mode objects n ranks e (Some k) known se pe is some =
    let at = named_by n.names (name_of e) k is in
    let rank = known.winners k (name_of e) at in
    ap (λ o. given (is_rank (entry_rank e) o) (record { definition = told_definition e; name = k; flags = e.symbol.flags })) rank
    ∙ ap (λ b. given b (record { definition = told_definition e; name = k; flags = e.symbol.flags }))
    (that_by_rank mode objects e (winner (entries mode objects) (name_of e)) known.rise se pe (winner_known mode objects n ranks known (name_of e)))

entry_wins : (mode : Mode) (objects : List Object) (n : Numbered) (ranks : List (Option ℕ)) (e : InputSymbol) → IsRanked mode objects n ranks → Stands mode objects e → HasParts e → IsHeld n.names e → is_entry e ≡ true
    → winner_of n.names ranks e ≡ given (is_winner (entries mode objects) e) (told_winner n.names e)
entry_wins mode objects n ranks e known se pe held is =
    ap (λ b. option_and_then (winner_by ranks e) (if b then number_of n.names (name_of e) else None)) is
    ∙ by_number mode objects n ranks e (number_of n.names (name_of e)) known se pe refl (held is)

no_entry_wins : (names : List (List ℕ)) (ranks : List (Option ℕ)) (e : InputSymbol) → is_entry e ≡ false → winner_of names ranks e ≡ None
no_entry_wins names ranks e not = ap (λ b. option_and_then (winner_by ranks e) (if b then number_of names (name_of e) else None)) not

-- ---- all entries

filter_is : {A : Type 0} (q : A → Bool) (xs : List A) → Each (λ x. q x ≡ true) (filter q xs)
filter_is q [] = tt
filter_is {A = A} q (x ∷ xs) = by (q x) refl (filter_is q xs)
  where
    by : (b : Bool) → q x ≡ b → Each (λ y. q y ≡ true) (filter q xs) → Each (λ y. q y ≡ true) (cond b (x ∷ filter q xs) (filter q xs))
    by true e rest = (e, rest)
    by false e rest = rest

made_are_entries : (k : ℕ) (ms : List MadeSymbol) → Each (λ e. is_entry e ≡ true) (made_from k ms)
made_are_entries k [] = tt
made_are_entries k (m ∷ ms) = (refl, made_are_entries (k + 1) ms)

rows_flat : (f : List (InputSymbol) → List Winner) (objects os : List Object) → ((xs ys : List InputSymbol) → f (xs ++ ys) ≡ f xs ++ f ys) → f [] ≡ []
    → flat_map (λ row. f row) (map (symbols_of objects) os) ≡ f (flat_map (symbols_of objects) os)
rows_flat f objects [] append nothing = sym nothing
rows_flat f objects (o ∷ os) append nothing =
    ap (λ l. f (symbols_of objects o) ++ l) (rows_flat f objects os append nothing) ∙ sym (append (symbols_of objects o) (flat_map (symbols_of objects) os))

all_wins : (mode : Mode) (objects : List Object) (n : Numbered) (ranks : List (Option ℕ)) (es : List InputSymbol) → IsRanked mode objects n ranks → Each (Stands mode objects) es → Each HasParts es → Each (IsHeld n.names) es
    → Each (λ e. is_entry e ≡ true) es → Each (λ e. winner_of n.names ranks e ≡ given (is_winner (entries mode objects) e) (told_winner n.names e)) es
all_wins mode objects n ranks [] known stand parts held are = tt
all_wins mode objects n ranks (e ∷ es) known stand parts held are =
    (entry_wins mode objects n ranks e known stand.0 parts.0 held.0 are.0, all_wins mode objects n ranks es known stand.1 parts.1 held.1 are.1)

skipped : (names : List (List ℕ)) (ranks : List (Option ℕ)) (es : List InputSymbol) → Each (λ e. is_entry e ≡ false → winner_of names ranks e ≡ None) es
skipped names ranks [] = tt
skipped names ranks (e ∷ es) = (no_entry_wins names ranks e, skipped names ranks es)

entries_held : (mode : Mode) (objects : List Object) (n : Numbered) → AreNumbers mode objects n → Each (IsHeld n.names) (entries mode objects)
unfolding entries
entries_held mode objects n numbers =
    each_append (IsHeld n.names) (made_from 0 (made mode)) (filter is_entry (flat_map (symbols_of objects) objects)) (held_made n.names 0 (made mode) numbers.made_held)
    (each_filter (IsHeld n.names) is_entry (flat_map (symbols_of objects) objects) (held_objects n.names objects objects numbers.symbols_held))

entries_are : (mode : Mode) (objects : List Object) → Each (λ e. is_entry e ≡ true) (entries mode objects)
unfolding entries
entries_are mode objects =
    each_append (λ e. is_entry e ≡ true) (made_from 0 (made mode)) (filter is_entry (flat_map (symbols_of objects) objects)) (made_are_entries 0 (made mode))
    (filter_is is_entry (flat_map (symbols_of objects) objects))

split_wins : (mode : Mode) (names : List (List ℕ)) (ranks : List (Option ℕ)) (objects : List Object) → winners_in mode names ranks objects ≡ filter_map (winner_of names ranks) (entries mode objects)
unfolding entries
split_wins mode names ranks objects =
    let all = flat_map (symbols_of objects) objects in
    let g = winner_of names ranks in
    ap (λ l. filter_map g (made_from 0 (made mode)) ++ l)
    (rows_flat (filter_map g) objects objects (filter_map-append g) refl ∙ sym (kept_only g is_entry all (skipped names ranks all)))
    ∙ sym (filter_map-append g (made_from 0 (made mode)) (filter is_entry all))

pub winners_told : (mode : Mode) (objects : List Object) (n : Numbered) (ranks : List (Option ℕ)) → IsRanked mode objects n ranks
    → winners_in mode n.names ranks objects ≡ map (told_winner n.names) (winners_of (entries mode objects))
unfolding winners_of
winners_told mode objects n ranks known =
    split_wins mode n.names ranks objects
    ∙ kept_map (winner_of n.names ranks) (is_winner (entries mode objects)) (told_winner n.names) (entries mode objects)
    (all_wins mode objects n ranks (entries mode objects) known (entries_stand mode objects) (entries_have_parts mode objects n known.numbers known.rise) (entries_held mode objects n known.numbers) (entries_are mode objects))

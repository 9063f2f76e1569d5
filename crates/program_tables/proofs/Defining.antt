-- Symbols of objects as definitions and as winners.
use Rattle.std.proofs.Common.{◌≡◌, ℕ, zero, suc, ◌^◌, ◌<◌, Bool, true, false, ◌∙◌, List, [], ◌∷◌, refl, ap, sym, subst, arith, Option, Some, None, length, get_or}
use Rattle.std.specs.Prelude.{slice_get, map, if◌then◌else◌, option_map, option_and_then, unwrap_or, is_some, IsSome}
use Rattle.std.proofs.lemmas.Option.{same_Some, slice_get_within, get_or_from_slice_get, slice_get-map}
use Rattle.link_program.specs.wl_base.Choice.{given}
use Rattle.link_program.specs.wl_base.Names.{number_of}
use Rattle.link_program.specs.linking_section.declared.symbol.Symbol.{Symbol}
use Rattle.link_program.specs.linking_section.Flags.{is_weak}
use Rattle.link_program.specs.symbol_race.Ranks.{rank_of}
use Rattle.link_program.specs.object_file.declared.object.Object.{Object}
use Rattle.link_program.specs.made_symbols.declared.mode.Mode.{Mode}
use Rattle.link_program.specs.made_symbols.Made.{MadeSymbol, made, made_at}
use Rattle.link_program.specs.link_names.Numbered.{Numbered, AreNumbers}
use Rattle.link_program.specs.name_rules.Entries.{InputSymbol, entry_in, made_entry}
use Rattle.link_program.specs.name_rules.Meanings.{entry_rank}
use Rattle.link_program.specs.name_entries.View.{InputsRise, entry_at, entry_number}
use Rattle.link_program.specs.name_entries.Shown.{Shows, AreShown}
use Rattle.link_program.specs.name_entries.declared.entry.EntryRef.{EntryRef}
use Rattle.link_program.proofs.name_entries_lemmas.Rows.{entry_of, no_entry}
use Rattle.link_program.specs.declared.symbol.Definition.{Definition}
use Rattle.link_program.specs.Told.{told_definition}
use Rattle.program_tables.specs.Objects.{symbol_of}
use Rattle.program_tables.specs.Leads.{definition_of, no_definition}
use Rattle.program_tables.specs.Winners.{is_rank, winner_by, winner_of}
use Rattle.program_tables.proofs.There.{symbol_found}

-- ---- where an entry is

pub not_none : {A : Type 0} (o : Option A) → o ≡ None → IsSome o → ⊥
not_none o none some = let x : false ≡ true = sym (ap is_some none) ∙ some in cc

pub within_objects : (objects : List Object) (object place : ℕ) → IsSome (entry_at objects object place) → object < length objects
within_objects objects object place there = by (slice_get objects object) refl
  where
    by : (o : Option Object) → slice_get objects object ≡ o → object < length objects
    by None none = absurd (not_none (entry_at objects object place) (no_entry objects object place none) there)
    by (Some o) at = slice_get_within objects object o at

pub an_entry : {A : Type 0} (o : Option A) → IsSome o → (e : A) × (o ≡ Some e)
an_entry None some = absurd (let x : false ≡ true = some in cc)
an_entry (Some e) some = (e, refl)

-- An entry of an object, by the places.
pub record IsEntry (objects : List Object) (object place : ℕ) (o : Object) (e : InputSymbol) : Type 0 where
  pub symbol : Symbol
  pub at : slice_get o.symbols place ≡ Some symbol
  pub is : e ≡ entry_in objects o place symbol

pub entry_is : (objects : List Object) (object place : ℕ) (o : Object) (e : InputSymbol) → slice_get objects object ≡ Some o → entry_at objects object place ≡ Some e → IsEntry objects object place o e
entry_is objects object place o e at there = by (slice_get o.symbols place) refl
  where
    by : (s : Option Symbol) → slice_get o.symbols place ≡ s → IsEntry objects object place o e
    by None none =
        let found = entry_of objects object place o at ∙ ap (option_map (entry_in objects o place)) none in
        absurd (let x : None ≡ Some e = sym found ∙ there in cc)
    by (Some s) is =
        let found = entry_of objects object place o at ∙ ap (option_map (entry_in objects o place)) is in
        record { symbol = s; at = is; is = same_Some e (entry_in objects o place s) (sym there ∙ found) }

pub object_at : (objects : List Object) (object place : ℕ) (e : InputSymbol) → entry_at objects object place ≡ Some e → (o : Object) × (slice_get objects object ≡ Some o)
object_at objects object place e there =
    let within = within_objects objects object place (ap is_some there) in
    by (slice_get objects object) refl within
  where
    by : (o : Option Object) → slice_get objects object ≡ o → object < length objects → (x : Object) × (slice_get objects object ≡ Some x)
    by None none lt = absurd (let x : None ≡ Some e = sym (no_entry objects object place none) ∙ there in cc)
    by (Some o) at lt = (o, at)

pub placed_at : (objects : List Object) (object place : ℕ) (e : InputSymbol) → entry_at objects object place ≡ Some e → e.place ≡ place
placed_at objects object place e there =
    let (o, at) = object_at objects object place e there in
    let is = entry_is objects object place o e at there in
    ap (λ (x : InputSymbol). x.place) is.is

pub symbol_within : (objects : List Object) (object place : ℕ) (o : Object) (e : InputSymbol) → slice_get objects object ≡ Some o → entry_at objects object place ≡ Some e → place < length o.symbols
symbol_within objects object place o e at there = let is = entry_is objects object place o e at there in slice_get_within o.symbols place is.symbol is.at

small : (weak : Bool) → (if weak then 1 else 0) < 3
small true = omega arith
small false = omega arith

input_below : (last : ℕ) (objects : List Object) (i : ℕ) (o : Object) → InputsRise last objects → slice_get objects i ≡ Some o → o.input < 2 ^ 20
input_below last [] i o rise at = let lt = slice_get_within [] i o at in absurd (omega arith)
input_below last (x ∷ xs) zero o rise at = subst (λ (y : Object). y.input < 2 ^ 20) (get_or_from_slice_get (x ∷ xs) zero o o at) rise.1
input_below last (x ∷ xs) (suc i) o rise at = input_below x.input xs i o rise.2 at

pub small_class : (objects : List Object) (object place : ℕ) (e : InputSymbol) → entry_at objects object place ≡ Some e → e.class < 3
small_class objects object place e there =
    let (o, at) = object_at objects object place e there in
    let is = entry_is objects object place o e at there in
    subst (λ (x : InputSymbol). x.class < 3) (sym is.is) (small (is_weak is.symbol))

pub small_input : (objects : List Object) (object place : ℕ) (e : InputSymbol) → InputsRise 0 objects → entry_at objects object place ≡ Some e → e.input < 2 ^ 20
small_input objects object place e rise there =
    let (o, at) = object_at objects object place e there in
    let is = entry_is objects object place o e at there in
    subst (λ (x : InputSymbol). x.input < 2 ^ 20) (sym is.is) (input_below 0 objects object o rise at)

-- ---- definitions

pub lead_is : (objects : List Object) (input symbol i : ℕ) (o : Object) (d : Definition) → InputsRise 0 objects → slice_get objects i ≡ Some o → o.input ≡ input → IsSome (entry_at objects i symbol)
    → ((e : InputSymbol) → entry_at objects i symbol ≡ Some e → d ≡ told_definition e) → d ≡ definition_of objects input symbol
lead_is objects input symbol i o d rise at is some told =
    let (e, there) = an_entry (entry_at objects i symbol) some in
    told e there
    ∙ ap (λ x. unwrap_or (option_map told_definition x) no_definition) (sym (ap (λ n. symbol_of objects n symbol) (sym is) ∙ symbol_found objects i symbol o e rise at there))

-- ---- lent entries

pub shown_entry : (names : List (List ℕ)) (r : EntryRef) (o : Option InputSymbol) → AreShown names (Some r) o → (e : InputSymbol) × (o ≡ Some e) × Shows names r e
shown_entry names r None shown = absurd shown
shown_entry names r (Some e) shown = (e, refl, shown)

pub shown_as : (names : List (List ℕ)) (r : EntryRef) (o : Option InputSymbol) (e : InputSymbol) → AreShown names (Some r) o → o ≡ Some e → Shows names r e
shown_as names r o e shown is = subst (AreShown names (Some r)) is shown

pub shown_definition : (names : List (List ℕ)) (objects : List Object) (object place : ℕ) (r : EntryRef) → AreShown names (Some r) (entry_at objects object place)
    → (e : InputSymbol) → entry_at objects object place ≡ Some e
    → record { input = r.input; place = place; kind = r.symbol.kind; index = r.index; offset = r.symbol.offset } ≡ told_definition e
shown_definition names objects object place r shown e there =
    let shows = shown_as names r (entry_at objects object place) e shown there in
    ap (λ n. record { input = n; place = place; kind = r.symbol.kind; index = r.index; offset = r.symbol.offset }) shows.input
    ∙ ap (λ (s : Symbol). record { input = e.input; place = place; kind = s.kind; index = r.index; offset = s.offset }) shows.symbol
    ∙ ap (λ n. record { input = e.input; place = place; kind = e.symbol.kind; index = n; offset = e.symbol.offset }) shows.index
    ∙ ap (λ n. record { input = e.input; place = n; kind = e.symbol.kind; index = e.index; offset = e.symbol.offset }) (sym (placed_at objects object place e there))

-- ---- winners

pub wins_is : (names : List (List ℕ)) (ranks : List (Option ℕ)) (e : InputSymbol) (name rank : ℕ) (best : Option ℕ) (won : Bool) → entry_number names e ≡ Some name → rank ≡ entry_rank e
    → best ≡ get_or ranks name None → won ≡ is_rank rank best → winner_of names ranks e ≡ given won (record { definition = told_definition e; name = name; flags = e.symbol.flags })
wins_is names ranks e name rank best won number rank_is best_is won_is =
    ap (option_and_then (winner_by ranks e)) number
    ∙ ap (λ b. given b (record { definition = told_definition e; name = name; flags = e.symbol.flags }))
    (ap (λ n. is_rank n (get_or ranks name None)) (sym rank_is) ∙ ap (is_rank rank) (sym best_is) ∙ sym won_is)

pub lent_wins : (names : List (List ℕ)) (ranks : List (Option ℕ)) (objects : List Object) (object place : ℕ) (r : EntryRef) (name rank : ℕ) (best : Option ℕ) (won : Bool)
    → AreShown names (Some r) (entry_at objects object place) → r.number ≡ Some name → rank ≡ rank_of r.class r.input place → best ≡ get_or ranks name None → won ≡ is_rank rank best
    → (e : InputSymbol) → entry_at objects object place ≡ Some e → winner_of names ranks e ≡ given won (record { definition = told_definition e; name = name; flags = e.symbol.flags })
lent_wins names ranks objects object place r name rank best won shown number rank_is best_is won_is e there =
    let shows = shown_as names r (entry_at objects object place) e shown there in
    let place_is = placed_at objects object place e there in
    wins_is names ranks e name rank best won (sym shows.number ∙ number)
    (rank_is ∙ ap (λ c. rank_of c r.input place) shows.class ∙ ap (λ i. rank_of e.class i place) shows.input ∙ ap (rank_of e.class e.input) (sym place_is)) best_is won_is

made_numbers : (names : List (List ℕ)) (numbers : List ℕ) (ms : List MadeSymbol) (k name : ℕ) (d : MadeSymbol) → map Some numbers ≡ map (λ (m : MadeSymbol). number_of names m.name) ms
    → slice_get numbers k ≡ Some name → number_of names (get_or ms k d).name ≡ Some name
made_numbers names numbers ms k name d same at =
    let left : slice_get (map Some numbers) k ≡ Some (Some name) = slice_get-map Some numbers k ∙ ap (option_map Some) at in
    let right : option_map (λ (m : MadeSymbol). number_of names m.name) (slice_get ms k) ≡ Some (Some name) =
    sym (slice_get-map (λ (m : MadeSymbol). number_of names m.name) ms k) ∙ ap (λ l. slice_get l k) (sym same) ∙ left in
    by (slice_get ms k) refl right
  where
    by : (m : Option MadeSymbol) → slice_get ms k ≡ m → option_map (λ (m : MadeSymbol). number_of names m.name) m ≡ Some (Some name) → number_of names (get_or ms k d).name ≡ Some name
    by None at_m is = absurd cc
    by (Some m) at_m is =
        ap (λ (x : MadeSymbol). number_of names x.name) (get_or_from_slice_get ms k m d at_m) ∙ same_Some (number_of names m.name) (Some name) is

pub made_number : (mode : Mode) (objects : List Object) (n : Numbered) (k name : ℕ) → AreNumbers mode objects n → slice_get n.made k ≡ Some name
    → entry_number n.names (made_entry k (made_at mode k)) ≡ Some name
made_number mode objects n k name numbers at = made_numbers n.names n.made (made mode) k name _ numbers.made at

-- What one symbol means, from what is known of names.
use Rattle.std.proofs.Common.{◌≡◌, ℕ, ◌<◌, ◌≤◌, replicate, Bool, true, false, not, nat_lt, ◌&&◌, ◌||◌, ◌∙◌, List, [], ◌∷◌, ◌++◌, refl, ap, sym, subst, arith, Option, Some, None, length, length-append, get_or, set, inl, inr, get_or-set_same, get_or-set_other}
use Rattle.std.specs.Prelude.{if◌then◌else◌, option_map, option_and_then, unwrap_or, slice_get, is_some, IsSome}
use Rattle.std.specs.List.{list_any, cons_option}
use Rattle.std.proofs.lemmas.Bool.{cases_eq, ltb-true, ltb-false}
use Rattle.std.proofs.lemmas.List.{length-set, get_or_append_left, get_or-replicate, get_or_past, length-replicate}
use Rattle.std.proofs.lemmas.List.Folds.{list_any_at}
use Rattle.std.proofs.lemmas.Option.{slice_get_within, get_or_from_slice_get, slice_get-get_or}
use Rattle.name_entries.specs.wl_base.Choice.{distinct_onto, given, has_name}
use Rattle.name_entries.specs.linking_section.declared.symbol.SymbolKind.TheVariants.{Function, Datum, GlobalVar}
use Rattle.name_entries.specs.linking_section.Flags.{is_weak}
use Rattle.name_entries.specs.object_columns.declared.symbols.SymbolRef.{SymbolRef}
use Rattle.name_uses.specs.declared.found.NameUses.{NameUses}
use Rattle.name_uses.specs.Flags.{not_used}
use Rattle.symbol_race.specs.Ranks.{IsParts}
use Rattle.name_entries.specs.object_columns.Seen.{symbol_seen}
use Rattle.name_entries.specs.object_file.declared.object.Object.{Object}
use Rattle.name_entries.specs.made_symbols.declared.mode.Mode.TheVariants.{Plain, Shared}
use Rattle.name_entries.specs.made_symbols.declared.mode.Mode.{Mode}
use Rattle.name_entries.specs.name_rules.declared.meaning.Meaning.{Meaning as Told}
use Rattle.name_entries.specs.name_rules.declared.meaning.Meaning.TheVariants.{Here, Import, Null, Nothing}
use Rattle.name_entries.specs.name_rules.Entries.{InputSymbol, ImportKey, is_kind, name_of, named, entries, same_import}
use Rattle.name_entries.specs.name_rules.Meanings.{Meaning, here, imported, null, nothing, Uses, uses_of, winner, entry_rank, references, least_import, may_be_null, is_called, is_address, cell_of, where_given, own_meaning}
use Rattle.name_entries.specs.declared.entry.EntryRef.{EntryRef}
use Rattle.name_entries.specs.View.{entry_at}
use Rattle.name_entries.specs.Shown.{Shows, AreShown}
use Rattle.name_meanings.specs.declared.columns.At.{At}
use Rattle.name_meanings.specs.declared.columns.Column.{Column}
use Rattle.name_meanings.specs.declared.naming.Known.{Known}
use Rattle.name_meanings.specs.declared.naming.Found.{Found}
use Rattle.name_meanings.specs.Columns.{or_else, import_at, StandsOn, IsColumn, empty_column}
use Rattle.name_meanings.specs.Kept.{with_import, cell_key}
use Rattle.name_meanings.specs.Means.{Means, import_meant}
use Rattle.name_meanings.specs.Known.{IsKnown, meant, may_stand, may_by, may_told, last_rule, lacked, UsesTold, name_import, AreFound, AreCells, IsCell, FoundBy, Finds, IsNumbered}
use Rattle.name_meanings.proofs.SameImport.{import_itself}
use Rattle.name_entries.proofs.Numbers.{name_at}
use Rattle.name_meanings.proofs.ByNumber.{references_are}
use Rattle.name_meanings.proofs.Noted.{number_below}
use Rattle.name_meanings.proofs.Ruled.{decided, explicit_import_of, ruled, unruled, by_import, by_none, source_stands, key_of_source, no_source, own_source}
use Rattle.name_meanings.proofs.Placed.{winner_has_parts, entry_is_placed, unnumbered_is_none, numbered_is_entry}

-- ---- imports grow

get_append : (xs ys : List ImportKey) (n : ℕ) (key : ImportKey) → slice_get xs n ≡ Some key → slice_get (xs ++ ys) n ≡ Some key
get_append xs ys n key at =
    let within = slice_get_within xs n key at in
    let longer : n < length (xs ++ ys) = omega (arith, length-append xs ys) in
    slice_get-get_or (xs ++ ys) n key longer ∙ ap Some (get_or_append_left xs ys key n within ∙ get_or_from_slice_get xs n key key at)

get_held : (imports : List ImportKey) (x : ImportKey) (held : Bool) (n : ℕ) (key : ImportKey) → slice_get imports n ≡ Some key → slice_get (if held then imports else imports ++ x ∷ []) n ≡ Some key
get_held imports x true n key at = at
get_held imports x false n key at = get_append imports (x ∷ []) n key at

pub get_onto : (imports more : List ImportKey) (n : ℕ) (key : ImportKey) → slice_get imports n ≡ Some key → slice_get (distinct_onto same_import imports more) n ≡ Some key
get_onto imports [] n key at = at
get_onto imports (x ∷ more) n key at = get_onto (with_import imports x) more n key (get_held imports x (list_any (same_import x) imports) n key at)

any_at : (imports : List ImportKey) (n : ℕ) (key : ImportKey) → slice_get imports n ≡ Some key → list_any (same_import key) imports ≡ true
any_at imports n key at =
    list_any_at (same_import key) imports n key (slice_get_within imports n key at) (ap (same_import key) (get_or_from_slice_get imports n key key at) ∙ import_itself key)

pub held_stays : (imports : List ImportKey) (n : ℕ) (key : ImportKey) → slice_get imports n ≡ Some key → imports ≡ with_import imports key
held_stays imports n key at = ap (λ held. if held then imports else imports ++ key ∷ []) (sym (any_at imports n key at))

-- ---- what was found stays, where imports grow

abbrev Grows : List ImportKey → List ImportKey → Type 0
Grows old new = (n : ℕ) (key : ImportKey) → slice_get old n ≡ Some key → slice_get new n ≡ Some key

grows_by : (old new : List ImportKey) (key : ImportKey) → new ≡ with_import old key → Grows old new
grows_by old new key is n other at = subst (λ l. slice_get l n ≡ Some other) (sym is) (get_onto old (key ∷ []) n other at)

pub cells_stay : (function : Bool) (names : List (List ℕ)) (old new : List ImportKey) (numbers : List (Option ℕ)) → Grows old new → AreCells function names old numbers → AreCells function names new numbers
cells_stay function names old new numbers grows cells i n is = let c = cells i n is in (c.0, c.1, grows n (cell_key function c.0) c.2)

pub own_still : (objects : List Object) (columns : List Column) (old new : List ImportKey) (numbers : List (Option ℕ)) → Grows old new → AreFound objects columns old numbers → AreFound objects columns new numbers
own_still objects columns old new numbers grows found = record {
  count = found.count;
  each = λ i n is. (let f = found.each i n is in (f.0, f.1, grows n f.0 f.2));
}

-- ---- the cell of a name

pub cell_held : (function : Bool) (names : List (List ℕ)) (imports : List ImportKey) (numbers : List (Option ℕ)) (name number : ℕ) → AreCells function names imports numbers
    → get_or numbers name None ≡ Some number → IsCell function names name number imports imports numbers
cell_held function names imports numbers name number cells is =
    let (other, named_so, held) = cells name number is in
    let same : other ≡ get_or names name [] = sym (get_or_from_slice_get names name other [] named_so) in
    let place = held ∙ ap (λ n. Some (cell_key function n)) same in
    record { at = place; imports = held_stays imports number (cell_key function (get_or names name [])) place; cells = cells }

cells_set : (function : Bool) (names : List (List ℕ)) (old new : List ImportKey) (numbers : List (Option ℕ)) (name number : ℕ) (own : List ℕ) → AreCells function names old numbers → Grows old new
    → name < length numbers → slice_get names name ≡ Some own → slice_get new number ≡ Some (cell_key function own) → AreCells function names new (set numbers name (Some number))
cells_set function names old new numbers name number own cells grows within named_so place i n is = elim (cases_eq i name) [
  | inl same ↦
      (let here : Some number ≡ Some n = sym (get_or-set_same numbers name (Some number) None within) ∙ ap (λ j. get_or (set numbers name (Some number)) j None) (sym same) ∙ is in
      (own, ap (slice_get names) same ∙ named_so, ap (slice_get new) (ap (λ o. unwrap_or o n) (sym here)) ∙ place))
  | inr other ↦
      (let before = cells i n (sym (get_or-set_other numbers name i (Some number) None other) ∙ is) in
      (before.0, before.1, grows n (cell_key function before.0) before.2))
]

cells_put : (function : Bool) (names : List (List ℕ)) (old new : List ImportKey) (numbers : List (Option ℕ)) (name number : ℕ) (own : List ℕ) (within : Bool) → nat_lt name (length numbers) ≡ within
    → AreCells function names old numbers → Grows old new → slice_get names name ≡ Some own → slice_get new number ≡ Some (cell_key function own)
    → AreCells function names new (if within then set numbers name (Some number) else numbers)
cells_put function names old new numbers name number own true is cells grows named_so place =
    cells_set function names old new numbers name number own cells grows (ltb-true name (length numbers) is) named_so place
cells_put function names old new numbers name number own false is cells grows named_so place = cells_stay function names old new numbers grows cells

pub cell_added : (function : Bool) (names : List (List ℕ)) (old new : List ImportKey) (numbers now : List (Option ℕ)) (name number : ℕ) (own : List ℕ) (key : ImportKey) → AreCells function names old numbers
    → slice_get names name ≡ Some own → key ≡ cell_key function own → new ≡ with_import old key → slice_get new number ≡ Some key
    → now ≡ (if nat_lt name (length numbers) then set numbers name (Some number) else numbers) → IsCell function names name number old new now
cell_added function names old new numbers now name number own key cells named_so is added place put =
    let here : own ≡ get_or names name [] = sym (get_or_from_slice_get names name own [] named_so) in
    let as_key : key ≡ cell_key function (get_or names name []) = is ∙ ap (cell_key function) here in
    record {
      at = place ∙ ap Some as_key;
      imports = added ∙ ap (with_import old) as_key;
      cells = subst (AreCells function names new) (sym put)
          (cells_put function names old new numbers name number own (nat_lt name (length numbers)) refl cells (grows_by old new key added) named_so (place ∙ ap Some is));
    }

pub function_numbered : (k : Known) (old new : Found) (name number : ℕ) → FoundBy k old
    → IsCell true k.entries.names.now.names name number old.imports new.imports new.function_cells.items → new.numbers.items ≡ old.numbers.items → new.data_cells.items ≡ old.data_cells.items
    → IsNumbered k number (cell_key true (get_or k.entries.names.now.names name [])) old new
function_numbered k old new name number found cell own same =
    let names = k.entries.names.now.names in
    let grows = grows_by old.imports new.imports (cell_key true (get_or names name [])) cell.imports in
    record {
      at = cell.at;
      imports = cell.imports;
      found = record {
        own = subst (AreFound k.entries.objects.now k.columns.now new.imports) (sym own) (own_still k.entries.objects.now k.columns.now old.imports new.imports old.numbers.items grows found.own);
        functions = cell.cells;
        of_data = subst (AreCells false names new.imports) (sym same) (cells_stay false names old.imports new.imports old.data_cells.items grows found.of_data);
      };
    }

pub datum_numbered : (k : Known) (old new : Found) (name number : ℕ) → FoundBy k old
    → IsCell false k.entries.names.now.names name number old.imports new.imports new.data_cells.items → new.numbers.items ≡ old.numbers.items → new.function_cells.items ≡ old.function_cells.items
    → IsNumbered k number (cell_key false (get_or k.entries.names.now.names name [])) old new
datum_numbered k old new name number found cell own functions =
    let names = k.entries.names.now.names in
    let grows = grows_by old.imports new.imports (cell_key false (get_or names name [])) cell.imports in
    record {
      at = cell.at;
      imports = cell.imports;
      found = record {
        own = subst (AreFound k.entries.objects.now k.columns.now new.imports) (sym own) (own_still k.entries.objects.now k.columns.now old.imports new.imports old.numbers.items grows found.own);
        functions = subst (AreCells true names new.imports) (sym functions) (cells_stay true names old.imports new.imports old.function_cells.items grows found.functions);
        of_data = cell.cells;
      };
    }

-- ---- the number of an import

same_item : {X : Type 0} (xs : List X) (i : ℕ) (d e : X) → i < length xs → get_or xs i d ≡ get_or xs i e
same_item xs i d e within = ap (λ o. unwrap_or o d) (sym (slice_get-get_or xs i d within) ∙ slice_get-get_or xs i e within)

pub cached : (k : Known) (f : Found) (name number : ℕ) (at : At) (item : Option ℕ) → FoundBy k f → name < length k.columns.now → item ≡ get_or f.numbers.items name item → item ≡ Some number
    → name_import k.entries.objects.now (get_or k.columns.now name empty_column) ≡ import_at k.entries.objects.now at
    → (key : ImportKey) → import_at k.entries.objects.now at ≡ Some key → IsNumbered k number key f f
cached k f name number at item found below is held_is own key stands =
    let within : name < length f.numbers.items = subst (λ n. name < n) (sym found.own.count) below in
    let (other, import, held) = found.own.each name number (same_item f.numbers.items name None item within ∙ sym is ∙ held_is) in
    let same : Some other ≡ Some key = sym import ∙ own ∙ stands in
    let place = held ∙ same in
    record { at = place; imports = held_stays f.imports number key place; found = found }

new_each : (objects : List Object) (columns : List Column) (old new : List ImportKey) (numbers : List (Option ℕ)) (name number : ℕ) (key : ImportKey)
    → AreFound objects columns old numbers → name < length numbers → ((n : ℕ) (other : ImportKey) → slice_get old n ≡ Some other → slice_get new n ≡ Some other)
    → name_import objects (get_or columns name empty_column) ≡ Some key → slice_get new number ≡ Some key → (i n : ℕ)
    → get_or (set numbers name (Some number)) i None ≡ Some n
    → (other : ImportKey) × (name_import objects (get_or columns i empty_column) ≡ Some other) × (slice_get new n ≡ Some other)
new_each objects columns old new numbers name number key found within grows import at i n is = elim (cases_eq i name) [
  | inl same ↦
      (let here : Some number ≡ Some n = sym (get_or-set_same numbers name (Some number) None within) ∙ ap (λ j. get_or (set numbers name (Some number)) j None) (sym same) ∙ is in
      (key, ap (λ j. name_import objects (get_or columns j empty_column)) same ∙ import, ap (slice_get new) (ap (λ o. unwrap_or o n) (sym here)) ∙ at))
  | inr other ↦
      (let before = found.each i n (sym (get_or-set_other numbers name i (Some number) None other) ∙ is) in
      (before.0, before.1, grows n before.0 before.2))
]

pub numbered_new : (k : Known) (old new : Found) (name number : ℕ) (at : At) (kept : ImportKey) → FoundBy k old → name < length k.columns.now
    → name_import k.entries.objects.now (get_or k.columns.now name empty_column) ≡ import_at k.entries.objects.now at
    → import_at k.entries.objects.now at ≡ Some kept → new.imports ≡ with_import old.imports kept → slice_get new.imports number ≡ Some kept
    → new.numbers.items ≡ set old.numbers.items name (Some number) → new.function_cells.items ≡ old.function_cells.items → new.data_cells.items ≡ old.data_cells.items
    → (key : ImportKey) → import_at k.entries.objects.now at ≡ Some key → IsNumbered k number key old new
numbered_new k old new name number at kept found below own stands added place written functions same_data key is =
    let same : kept ≡ key = ap (λ o. unwrap_or o kept) (sym stands ∙ is) in
    let names = k.entries.names.now.names in
    let within : name < length old.numbers.items = subst (λ n. name < n) (sym found.own.count) below in
    let grows = λ (n : ℕ) (other : ImportKey) (here : slice_get old.imports n ≡ Some other). subst (λ l. slice_get l n ≡ Some other) (sym added) (get_onto old.imports (kept ∷ []) n other here) in
    record {
      at = place ∙ ap Some same;
      imports = added ∙ ap (with_import old.imports) same;
      found = record {
        own = record {
          count = ap length written ∙ length-set old.numbers.items name (Some number) ∙ found.own.count;
          each = λ i n there. new_each k.entries.objects.now k.columns.now old.imports new.imports old.numbers.items name number kept found.own within grows (own ∙ stands) place i n
              (ap (λ l. get_or l i None) (sym written) ∙ there);
        };
        functions = subst (AreCells true names new.imports) (sym functions) (cells_stay true names old.imports new.imports old.function_cells.items grows found.functions);
        of_data = subst (AreCells false names new.imports) (sym same_data) (cells_stay false names old.imports new.imports old.data_cells.items grows found.of_data);
      };
    }

-- ---- what changes nothing

finds_same : (k : Known) (f : Found) (told : Told) (m : Meaning) → FoundBy k f → Means f.imports told m → import_meant m ≡ None → Finds k told m f f
finds_same k f told m found means none = record {
  means = means;
  imports = ap (λ o. distinct_onto same_import f.imports (cons_option o [])) (sym none);
  found = found;
}

-- ---- a symbol that is no entry

own_means : (imports : List ImportKey) (e : InputSymbol) (input place : ℕ) (defines : Bool) → e.input ≡ input → e.place ≡ place → 0 < input
    → Means imports (if defines then Here input place else Nothing) (if defines then here e else nothing)
own_means imports e input place true input_is place_is some = (input_is, place_is, some)
own_means imports e input place false input_is place_is some = tt

own_none : (e : InputSymbol) (defines : Bool) → import_meant (if defines then here e else nothing) ≡ None
own_none e true = refl
own_none e false = refl

pub finds_itself : (k : Known) (f : Found) (object place : ℕ) (r : EntryRef) (told : Told) → IsKnown k → FoundBy k f
    → AreShown k.entries.names.now.names (Some r) (entry_at k.entries.objects.now object place) → r.number ≡ None
    → told ≡ (if r.defines then Here r.input r.place else Nothing)
    → (e : InputSymbol) → entry_at k.entries.objects.now object place ≡ Some e → Finds k told (meant k e) f f
finds_itself k f object place r told known found shown none is e at =
    let s : Shows k.entries.names.now.names r e = subst (AreShown k.entries.names.now.names (Some r)) at shown in
    let numbers = known.fits.numbers in
    let no_entry = unnumbered_is_none k.mode k.entries.objects.now k.entries.names.now object place e numbers at (sym s.number ∙ none) in
    let means_own : meant k e ≡ own_meaning e = unruled k.mode (uses_of k.mode k.entries.objects.now) k.allow_undefined (entries k.mode k.entries.objects.now) e no_entry in
    let placed = entry_is_placed k.entries.objects.now k.mode k.entries.names.now object place e numbers known.fits.objects.inputs at in
    let some : 0 < r.input = subst (λ n. 0 < n) (sym s.input) placed.1 in
    let told_is : told ≡ (if e.defines then Here r.input r.place else Nothing) = is ∙ ap (λ b. if b then Here r.input r.place else Nothing) s.defines in
    let means : Means f.imports (if e.defines then Here r.input r.place else Nothing) (own_meaning e) = own_means f.imports e r.input r.place e.defines (sym s.input) (sym s.place) some in
    finds_same k f told (meant k e) found
    (subst (λ m. Means f.imports told m) (sym means_own) (subst (λ t. Means f.imports t (own_meaning e)) (sym told_is) means))
    (ap import_meant means_own ∙ own_none e e.defines)

-- ---- an entry

pub shown_entry : (names : List (List ℕ)) (r : EntryRef) (o : Option InputSymbol) → AreShown names (Some r) o → (e : InputSymbol) × (o ≡ Some e) × Shows names r e
shown_entry names r None shown = absurd shown
shown_entry names r (Some e) shown = (e, refl, shown)

pub won : (w : Option InputSymbol) (rank : ℕ) → option_map entry_rank w ≡ Some rank → (d : InputSymbol) × (w ≡ Some d) × (rank ≡ entry_rank d)
won None rank is = absurd cc
won (Some d) rank is = (d, refl, ap (λ o. unwrap_or o rank) (sym is))

pub not_won : (w : Option InputSymbol) → option_map entry_rank w ≡ None → w ≡ None
not_won None is = refl
not_won (Some d) is = absurd cc

abbrev all_of : Known → List InputSymbol
all_of k = entries k.mode k.entries.objects.now

abbrev used : Known → Uses
used k = uses_of k.mode k.entries.objects.now

pub finds_definition : (k : Known) (f : Found) (object place name rank : ℕ) (r : EntryRef) (told : Told) → IsKnown k → FoundBy k f
    → AreShown k.entries.names.now.names (Some r) (entry_at k.entries.objects.now object place) → r.number ≡ Some name
    → get_or k.winners.now name None ≡ Some rank
    → ((d : InputSymbol) (imports : List ImportKey) → IsParts d.class d.input d.place → rank ≡ entry_rank d → Means imports told (here d))
    → (e : InputSymbol) → entry_at k.entries.objects.now object place ≡ Some e → Finds k told (meant k e) f f
finds_definition k f object place name rank r told known found shown number wins means e at =
    let s : Shows k.entries.names.now.names r e = subst (AreShown k.entries.names.now.names (Some r)) at shown in
    let numbered = numbered_is_entry k.entries.names.now.names e name (sym s.number ∙ number) in
    let rule = ruled k.mode (used k) k.allow_undefined (all_of k) e numbered.0 in
    let named_at = name_at k.entries.names.now.names (name_of e) name numbered.1 in
    let (d, is, ranked) = won (winner (all_of k) (name_of e)) rank (sym (known.winners name (name_of e) named_at) ∙ wins) in
    let parts = winner_has_parts k.mode k.entries.objects.now k.entries.names.now (name_of e) d known.fits.numbers known.fits.objects.inputs is in
    let means_d : meant k e ≡ here d = rule ∙ ap (λ w. decided w (explicit_import_of (named (all_of k) (name_of e))) (may_stand k.mode (used k) k.allow_undefined (named (all_of k) (name_of e)) e)
    (least_import (references (named (all_of k) (name_of e)))) (last_rule k.mode (used k) e)) is in
    finds_same k f told (meant k e) found (subst (λ m. Means f.imports told m) (sym means_d) (means d f.imports parts ranked)) (ap import_meant means_d)

-- what decides of an entry that no definition wins
record Undefined (k : Known) (c : Column) (e : InputSymbol) : Type 0 where
  column : IsColumn k.entries.objects.now (references (named (all_of k) (name_of e))) c
  rule : meant k e ≡ decided None (explicit_import_of (named (all_of k) (name_of e))) (may_stand k.mode (used k) k.allow_undefined (named (all_of k) (name_of e)) e)
      (least_import (references (named (all_of k) (name_of e)))) (last_rule k.mode (used k) e)

undefined : (k : Known) (object place name : ℕ) (r : EntryRef) → IsKnown k
    → AreShown k.entries.names.now.names (Some r) (entry_at k.entries.objects.now object place) → r.number ≡ Some name → get_or k.winners.now name None ≡ None
    → (e : InputSymbol) → entry_at k.entries.objects.now object place ≡ Some e → Undefined k (get_or k.columns.now name empty_column) e
undefined k object place name r known shown number loses e at =
    let s : Shows k.entries.names.now.names r e = subst (AreShown k.entries.names.now.names (Some r)) at shown in
    let numbered = numbered_is_entry k.entries.names.now.names e name (sym s.number ∙ number) in
    let named_at = name_at k.entries.names.now.names (name_of e) name numbered.1 in
    let none = not_won (winner (all_of k) (name_of e)) (sym (known.winners name (name_of e) named_at) ∙ loses) in
    let below = number_below k.entries.names.now.names (name_of e) name numbered.1 in
    let refs = references_are k.mode k.entries.names.now.names k.entries.objects.now name (name_of e) known.fits.numbers.differ named_at in
    record {
      column = subst (λ es. IsColumn k.entries.objects.now es (get_or k.columns.now name empty_column)) refs (known.columns.each name below);
      rule = ruled k.mode (used k) k.allow_undefined (all_of k) e numbered.0
          ∙ ap (λ w. decided w (explicit_import_of (named (all_of k) (name_of e))) (may_stand k.mode (used k) k.allow_undefined (named (all_of k) (name_of e)) e)
          (least_import (references (named (all_of k) (name_of e)))) (last_rule k.mode (used k) e)) none;
    }

-- What is answered of the symbol on whose import an entry stands.
pub record SourceIs (k : Known) (c : Column) (uses : NameUses) (r : EntryRef) (o : Option At) : Type 0 where
  pub may : Bool
  pub tells : (e : InputSymbol) → e.symbol ≡ symbol_seen r.symbol → may ≡ may_told k c uses e
  pub is : o ≡ or_else c.explicit (where_given may c.least)

-- the import of an entry that no definition wins, if it means one
abbrev sought : Known → InputSymbol → Option ImportKey
sought k e = or_else (explicit_import_of (named (all_of k) (name_of e))) (where_given (may_stand k.mode (used k) k.allow_undefined (named (all_of k) (name_of e)) e) (least_import (references (named (all_of k) (name_of e)))))

may_is : (m : Mode) (uses : Uses) (allow strong called : Bool) (es : List InputSymbol) (e : InputSymbol) → strong ≡ list_any (λ r. not (is_weak r.symbol)) (references es) → called ≡ has_name uses.called (name_of e)
    → may_by m allow strong called e ≡ may_stand m uses allow es e
may_is Plain uses allow strong called es e by_column by_uses = ap (λ b. allow && ((is_kind Function e || is_kind GlobalVar e) && b)) by_column
may_is Shared uses allow strong called es e by_column by_uses = ap (λ b. (is_kind Function e && b) || is_kind GlobalVar e) by_uses

pub entry_named : (k : Known) (object place name : ℕ) (r : EntryRef)
    → AreShown k.entries.names.now.names (Some r) (entry_at k.entries.objects.now object place) → r.number ≡ Some name
    → (e : InputSymbol) → entry_at k.entries.objects.now object place ≡ Some e → slice_get k.entries.names.now.names name ≡ Some (name_of e)
entry_named k object place name r shown number e at =
    let s : Shows k.entries.names.now.names r e = subst (AreShown k.entries.names.now.names (Some r)) at shown in
    let numbered = numbered_is_entry k.entries.names.now.names e name (sym s.number ∙ number) in
    name_at k.entries.names.now.names (name_of e) name numbered.1

pub uses_told : (k : Known) (name : ℕ) (uses : NameUses) (e : InputSymbol) → IsKnown k → uses ≡ get_or k.uses.now name not_used
    → slice_get k.entries.names.now.names name ≡ Some (name_of e) → UsesTold k uses e
uses_told k name uses e known same at = record {
  called = ap (λ (u : NameUses). u.called) same ∙ known.uses.called name (name_of e) at;
  addressed = ap (λ (u : NameUses). u.addressed) same ∙ known.uses.addressed name (name_of e) at;
}

source_is : (k : Known) (c : Column) (uses : NameUses) (r : EntryRef) (e : InputSymbol) (o : Option At) → Undefined k c e → UsesTold k uses e → e.symbol ≡ symbol_seen r.symbol
    → SourceIs k c uses r o → StandsOn k.entries.objects.now o (sought k e)
source_is k c uses r e o u told symbol source =
    let es = named (all_of k) (name_of e) in
    let right : source.may ≡ may_stand k.mode (used k) k.allow_undefined es e =
    source.tells e symbol ∙ may_is k.mode (used k) k.allow_undefined c.strong uses.called es e u.column.strong told.called in
    ap (option_map (import_at k.entries.objects.now)) (source.is ∙ ap (λ b. or_else c.explicit (where_given b c.least)) right)
    ∙ source_stands k.entries.objects.now c.explicit c.least (explicit_import_of es) (least_import (references es)) (may_stand k.mode (used k) k.allow_undefined es e) u.column.explicit u.column.least

-- the symbol on whose import the entry stands
pub source_stands_on : (k : Known) (object place name : ℕ) (r : EntryRef) (uses : NameUses) (at : At) → IsKnown k
    → AreShown k.entries.names.now.names (Some r) (entry_at k.entries.objects.now object place) → r.number ≡ Some name → get_or k.winners.now name None ≡ None
    → uses ≡ get_or k.uses.now name not_used → SourceIs k (get_or k.columns.now name empty_column) uses r (Some at)
    → (e : InputSymbol) → entry_at k.entries.objects.now object place ≡ Some e → (key : ImportKey) × (meant k e ≡ imported key) × (import_at k.entries.objects.now at ≡ Some key)
source_stands_on k object place name r uses at known shown number loses same is e there =
    let s : Shows k.entries.names.now.names r e = subst (AreShown k.entries.names.now.names (Some r)) there shown in
    let c = get_or k.columns.now name empty_column in
    let u = undefined k object place name r known shown number loses e there in
    let told = uses_told k name uses e known same (entry_named k object place name r shown number e there) in
    let (key, sought_is, stands) = key_of_source (import_at k.entries.objects.now at) (sought k e) (source_is k c uses r e (Some at) u told (sym s.symbol) is) in (
      key,
      u.rule ∙ by_import (explicit_import_of (named (all_of k) (name_of e))) (may_stand k.mode (used k) k.allow_undefined (named (all_of k) (name_of e)) e)
          (least_import (references (named (all_of k) (name_of e)))) (last_rule k.mode (used k) e) key sought_is,
      stands,
    )

pub source_has_import : (k : Known) (object place name : ℕ) (r : EntryRef) (uses : NameUses) (at : At) → IsKnown k
    → AreShown k.entries.names.now.names (Some r) (entry_at k.entries.objects.now object place) → r.number ≡ Some name → get_or k.winners.now name None ≡ None
    → uses ≡ get_or k.uses.now name not_used → SourceIs k (get_or k.columns.now name empty_column) uses r (Some at) → IsSome (import_at k.entries.objects.now at)
source_has_import k object place name r uses at known shown number loses same is =
    let (e, there, s) = shown_entry k.entries.names.now.names r (entry_at k.entries.objects.now object place) shown in
    let found = source_stands_on k object place name r uses at known shown number loses same is e there in
    ap is_some found.2

pub source_is_own : (k : Known) (name : ℕ) (r : EntryRef) (uses : NameUses) (at : At) → SourceIs k (get_or k.columns.now name empty_column) uses r (Some at)
    → name_import k.entries.objects.now (get_or k.columns.now name empty_column) ≡ import_at k.entries.objects.now at
source_is_own k name r uses at source =
    let c = get_or k.columns.now name empty_column in
    ap (option_and_then (import_at k.entries.objects.now)) (own_source c.explicit c.least source.may at (sym source.is))

pub finds_import : (k : Known) (old new : Found) (object place name number : ℕ) (r : EntryRef) (uses : NameUses) (at : At) → IsKnown k
    → AreShown k.entries.names.now.names (Some r) (entry_at k.entries.objects.now object place) → r.number ≡ Some name → get_or k.winners.now name None ≡ None
    → uses ≡ get_or k.uses.now name not_used → SourceIs k (get_or k.columns.now name empty_column) uses r (Some at)
    → ((key : ImportKey) → import_at k.entries.objects.now at ≡ Some key → IsNumbered k number key old new)
    → (e : InputSymbol) → entry_at k.entries.objects.now object place ≡ Some e → Finds k (Import number) (meant k e) old new
finds_import k old new object place name number r uses at known shown loses_number loses same is numbered e there =
    let (key, means, stands) = source_stands_on k object place name r uses at known shown loses_number loses same is e there in
    let found = numbered key stands in
    subst (λ m. Finds k (Import number) m old new) (sym means) (record { means = found.at; imports = found.imports; found = found.found })

-- where it stands on none
pub finds_lacking : (k : Known) (old new : Found) (object place name : ℕ) (r : EntryRef) (uses : NameUses) (told : Told) → IsKnown k
    → AreShown k.entries.names.now.names (Some r) (entry_at k.entries.objects.now object place) → r.number ≡ Some name → get_or k.winners.now name None ≡ None
    → uses ≡ get_or k.uses.now name not_used → SourceIs k (get_or k.columns.now name empty_column) uses r None
    → ((e : InputSymbol) → e.symbol ≡ symbol_seen r.symbol → slice_get k.entries.names.now.names name ≡ Some (name_of e) → UsesTold k uses e → Finds k told (lacked k e) old new)
    → (e : InputSymbol) → entry_at k.entries.objects.now object place ≡ Some e → Finds k told (meant k e) old new
finds_lacking k old new object place name r uses told known shown number loses same is lacks e there =
    let s : Shows k.entries.names.now.names r e = subst (AreShown k.entries.names.now.names (Some r)) there shown in
    let c = get_or k.columns.now name empty_column in
    let u = undefined k object place name r known shown number loses e there in
    let named_so = entry_named k object place name r shown number e there in
    let used_so = uses_told k name uses e known same named_so in
    let none = no_source k.entries.objects.now (sought k e) (source_is k c uses r e None u used_so (sym s.symbol) is) in
    let means : meant k e ≡ lacked k e = u.rule ∙ by_none (explicit_import_of (named (all_of k) (name_of e))) (may_stand k.mode (used k) k.allow_undefined (named (all_of k) (name_of e)) e)
    (least_import (references (named (all_of k) (name_of e)))) (last_rule k.mode (used k) e) none in
    subst (λ m. Finds k told m old new) (sym means) (lacks e (sym s.symbol) named_so used_so)

-- ---- what an entry lacks

given_else : (b : Bool) (m : Meaning) → unwrap_or (given b m) nothing ≡ (if b then m else nothing)
given_else true m = refl
given_else false m = refl

absent_means : (imports : List ImportKey) (none : Bool) → Means imports (if none then Null else Nothing) (if none then null else nothing)
absent_means imports true = tt
absent_means imports false = tt

absent_none : (none : Bool) → import_meant (if none then null else nothing) ≡ None
absent_none true = refl
absent_none false = refl

-- in a plain output
pub finds_absent : (k : Known) (f : Found) (symbol : SymbolRef) (told : Told) → k.mode ≡ Plain → FoundBy k f
    → ((e : InputSymbol) → e.symbol ≡ symbol_seen symbol → told ≡ (if may_be_null e then Null else Nothing))
    → (e : InputSymbol) → e.symbol ≡ symbol_seen symbol → Finds k told (lacked k e) f f
finds_absent k f symbol told plain found absent e is =
    let means : lacked k e ≡ (if may_be_null e then null else nothing) =
    ap (λ m. unwrap_or (last_rule m (uses_of m k.entries.objects.now) e) nothing) plain ∙ given_else (may_be_null e) null in
    finds_same k f told (lacked k e) found
    (subst (λ m. Means f.imports told m) (sym means) (subst (λ t. Means f.imports t (if may_be_null e then null else nothing)) (sym (absent e is)) (absent_means f.imports (may_be_null e))))
    (ap import_meant means ∙ absent_none (may_be_null e))

-- in a shared one
foreign_is : (k : Known) (uses : NameUses) (e : InputSymbol) (b : Bool) → k.mode ≡ Shared → UsesTold k uses e → b ≡ (is_kind Datum e || (is_kind Function e && uses.addressed && not uses.called))
    → lacked k e ≡ (if b then imported (cell_of e) else nothing)
foreign_is k uses e b shared told is =
    let objects = k.entries.objects.now in
    let called : uses.called ≡ has_name (uses_of Shared objects).called (name_of e) = told.called ∙ ap (λ m. has_name (uses_of m objects).called (name_of e)) shared in
    let addressed : uses.addressed ≡ has_name (uses_of Shared objects).addressed (name_of e) = told.addressed ∙ ap (λ m. has_name (uses_of m objects).addressed (name_of e)) shared in
    let same : b ≡ is_address (uses_of Shared objects) e = is ∙ (λ i. is_kind Datum e || (is_kind Function e && addressed i && not (called i))) in
    ap (λ m. unwrap_or (last_rule m (uses_of m objects) e) nothing) shared ∙ given_else (is_address (uses_of Shared objects) e) (imported (cell_of e))
    ∙ ap (λ b. if b then imported (cell_of e) else nothing) (sym same)

pub finds_nothing : (k : Known) (f : Found) (uses : NameUses) (symbol : SymbolRef) (b : Bool) → k.mode ≡ Shared → FoundBy k f → b ≡ false
    → ((e : InputSymbol) → e.symbol ≡ symbol_seen symbol → b ≡ (is_kind Datum e || (is_kind Function e && uses.addressed && not uses.called)))
    → (e : InputSymbol) → e.symbol ≡ symbol_seen symbol → UsesTold k uses e → Finds k Nothing (lacked k e) f f
finds_nothing k f uses symbol b shared found none address e is told =
    let means : lacked k e ≡ nothing = foreign_is k uses e b shared told (address e is) ∙ ap (λ b. if b then imported (cell_of e) else nothing) none in
    finds_same k f Nothing (lacked k e) found (subst (λ m. Means f.imports Nothing m) (sym means) tt) (ap import_meant means)

pub finds_cell : (k : Known) (old new : Found) (uses : NameUses) (symbol : SymbolRef) (name number : ℕ) (b function : Bool) → k.mode ≡ Shared → b ≡ true
    → ((e : InputSymbol) → e.symbol ≡ symbol_seen symbol → b ≡ (is_kind Datum e || (is_kind Function e && uses.addressed && not uses.called)))
    → ((e : InputSymbol) → e.symbol ≡ symbol_seen symbol → function ≡ is_kind Function e)
    → IsNumbered k number (cell_key function (get_or k.entries.names.now.names name [])) old new
    → (e : InputSymbol) → e.symbol ≡ symbol_seen symbol → slice_get k.entries.names.now.names name ≡ Some (name_of e) → UsesTold k uses e → Finds k (Import number) (lacked k e) old new
finds_cell k old new uses symbol name number b function shared some address kind found e is at told =
    let means : lacked k e ≡ imported (cell_of e) = foreign_is k uses e b shared told (address e is) ∙ ap (λ b. if b then imported (cell_of e) else nothing) some in
    let key : cell_key function (get_or k.entries.names.now.names name []) ≡ cell_of e =
    (λ i. cell_key (kind e is i) (get_or_from_slice_get k.entries.names.now.names name (name_of e) [] at i)) in
    subst (λ m. Finds k (Import number) m old new) (sym means)
    (record { means = found.at ∙ ap Some key; imports = found.imports ∙ ap (with_import old.imports) key; found = found.found })

-- ---- nothing found

abbrev no_number : Option ℕ
no_number = None

not_numbered : (count i : ℕ) (within : Bool) → nat_lt i count ≡ within → get_or (replicate count no_number) i no_number ≡ no_number
not_numbered count i true is = get_or-replicate count i no_number no_number (ltb-true i count is)
not_numbered count i false is =
    let counted = length-replicate count no_number in
    let past : count ≤ i = ltb-false i count is in
    get_or_past (replicate count no_number) i no_number (omega (arith, counted, past))

no_place : (numbers : List (Option ℕ)) (count i n : ℕ) → numbers ≡ replicate count no_number → get_or numbers i None ≡ Some n → ⊥
no_place numbers count i n same is =
    let wrong : no_number ≡ Some n = sym (ap (λ xs. get_or xs i no_number) same ∙ not_numbered count i (nat_lt i count) refl) ∙ is in
    cc

pub none_found : (k : Known) (f : Found) (names cells : ℕ) → names ≡ length k.columns.now → f.numbers.items ≡ replicate names no_number → f.function_cells.items ≡ replicate cells no_number
    → f.data_cells.items ≡ replicate cells no_number → FoundBy k f
none_found k f names cells counted numbers functions of_data = record {
  own = record {
    count = ap length numbers ∙ length-replicate names no_number ∙ counted;
    each = λ i n is. absurd (no_place f.numbers.items names i n numbers is);
  };
  functions = λ i n is. absurd (no_place f.function_cells.items cells i n functions is);
  of_data = λ i n is. absurd (no_place f.data_cells.items cells i n of_data is);
}

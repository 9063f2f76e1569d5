-- What is known of names by their numbers is what the definition says of them.
use Rattle.std.proofs.Common.{◌≡◌, ℕ, ◌+◌, ◌<◌, ◌==◌, Bool, true, false, not, ◌&&◌, List, [], ◌∷◌, map, filter, flat_map, find, fold, length, slice_get, get_or, replicate, Option, Some, None, option_map, option_and_then, unwrap_or, refl, sym, ap, ◌∙◌}
use Rattle.std.specs.Prelude.{if◌then◌else◌, cond, bytes_eq, is_some}
use Rattle.std.specs.Option.{option_or}
use Rattle.std.specs.List.{list_any, AllByRecursion, IsDistinct}
use Rattle.std.proofs.lemmas.List.Folds.{find-append}
use Rattle.std.proofs.lemmas.Option.{slice_get_within}
use Rattle.link_program.specs.wl_base.Names.{number_of}
use Rattle.link_program.specs.wl_base.Choice.{first_some}
use Rattle.link_program.specs.linking_section.Flags.{is_weak, is_explicit}
use Rattle.link_program.specs.object_file.declared.object.Object.{Object}
use Rattle.link_program.specs.made_symbols.declared.mode.Mode.{Mode}
use Rattle.link_program.specs.made_symbols.Made.{MadeSymbol, made}
use Rattle.link_program.specs.name_rules.Entries.{InputSymbol, ImportKey, is_entry, is_named, name_of, named, symbols_of, entries, made_from}
use Rattle.link_program.specs.name_rules.Meanings.{references, least_import}
use Rattle.link_program.specs.name_entries.View.{entry_number, is_number}
use Rattle.link_program.specs.name_meanings.Columns.{is_reference_of}
use Rattle.link_program.proofs.name_entries_lemmas.Numbers.{number_is}
use Rattle.link_program.proofs.name_meanings_lemmas.ByNumber.{references_are}
use Rattle.link_program.specs.declared.symbol.Winner.{Winner}
use Rattle.link_program.specs.Told.{told_winner, name_number}
use Rattle.partial_symbols.specs.declared.facts.Fact.{Fact}
use Rattle.partial_symbols.specs.declared.facts.Spot.{Spot}
use Rattle.partial_symbols.specs.declared.columns.Column.{Column}
use Rattle.partial_symbols.specs.Facts.{facts_of, at_of, spot_of}
use Rattle.partial_symbols.specs.Columns.{empty_column, with, noted, won, winner_number, winner_spot, refers, stands_on_import}
use Rattle.partial_symbols.specs.Known.{entry_spot, import_there}
use Rattle.partial_symbols.proofs.Lists.{found_told, any_told, all_agree, all_from, find_filter, any_filter, find_agree, any_agree, find_none, some_kept, and_true, and_assoc, map_twice}
use Rattle.partial_symbols.proofs.Cells.{firsts_of, flags_of}
use Rattle.partial_symbols.proofs.Held.{HeldOf, numbered}
use Rattle.partial_symbols.proofs.Placed.{Placed, placed_of, fact_at, entry_of, facts_are, entries_are, all_there, StandsThere, entry_is}

abbrev fact_number : Fact → Option ℕ
fact_number f = f.number

abbrev one_more : Fact → Column → Column
one_more f c = with c f

-- ---- winners

module _ (names : List (List ℕ)) (differ : IsDistinct bytes_eq names) (n : ℕ) (name : List ℕ) (at : slice_get names n ≡ Some name) where
  below : n < length names
  below = slice_get_within names n name at

  winner_test : (e : InputSymbol) → HeldOf names e → (is_number n (winner_number (told_winner names e)) && true) ≡ (not (e.input == 0) && is_named name e)
  winner_test e held = by (e.input == 0)
    where
      k : (m : ℕ) × (number_of names (name_of e) ≡ Some m)
      k = numbered names (name_of e) held

      own : is_number n (Some (name_number names e)) ≡ is_named name e
      own =
          ap (λ o. is_number n (Some (unwrap_or o 0))) k.1
          ∙ (ap (is_number n) (sym k.1) ∙ number_is names (name_of e) name n (is_named name e) differ at refl)

      by : (b : Bool) → (is_number n (if b then None else Some (name_number names e)) && true) ≡ (not b && is_named name e)
      by true = refl
      by false = and_true (is_number n (Some (name_number names e))) ∙ own

  pub winner_seen : (ws : List InputSymbol) → AllByRecursion (HeldOf names) ws
      → get_or (fold won (replicate (length names) None) (map (told_winner names) ws)) n None ≡ option_map entry_spot (find (λ (w : InputSymbol). not (w.input == 0) && is_named name w) ws)
  winner_seen ws held =
      firsts_of None winner_number (λ (w : Winner) (c : Option Spot). option_or c (Some (winner_spot w))) (λ (c : Option Spot). c) (λ (w : Winner). true) winner_spot (λ w c. refl) (length names) (map (told_winner names) ws) n refl below
      ∙ found_told (told_winner names) (λ (w : Winner). is_number n (winner_number w) && true) (λ (w : InputSymbol). not (w.input == 0) && is_named name w) winner_spot entry_spot (λ e. refl) ws
      (all_from (HeldOf names) _ winner_test ws held)

-- ---- entries

module _ (mode : Mode) (objects : List Object) (names : List (List ℕ)) (differ : IsDistinct bytes_eq names) (n : ℕ) (name : List ℕ) (at : slice_get names n ≡ Some name) where
  abbrev all : List InputSymbol
  all = flat_map (symbols_of objects) objects

  abbrev facts : List Fact
  facts = facts_of names objects

  abbrev placed : List Placed
  placed = placed_of objects

  abbrev columns : List Column
  columns = fold noted (replicate (length names) empty_column) facts

  abbrev column : Column
  column = get_or columns n empty_column

  is_below : n < length names
  is_below = slice_get_within names n name at

  abbrev refs_here : List InputSymbol
  refs_here = references (named (entries mode objects) name)

  are_refs : filter (is_reference_of names n) all ≡ refs_here
  are_refs = references_are mode names objects n name differ at

  -- a question to the symbols that the passes look at
  any_of : (test : Fact → Bool) (told : InputSymbol → Bool) → ((s : Placed) → test (fact_at names s) ≡ told s.entry) → list_any test facts ≡ list_any told all
  any_of test told same =
      ap (list_any test) (facts_are names objects)
      ∙ (any_told (fact_at names) test (λ (s : Placed). told s.entry) placed (all_agree _ same placed)
      ∙ (sym (any_told entry_of told (λ (s : Placed). told s.entry) placed (all_agree _ (λ s. refl) placed)) ∙ ap (list_any told) (entries_are objects)))

  found_of : {X : Type 0} (test : Fact → Bool) (told : InputSymbol → Bool) (v : Fact → X) (w : InputSymbol → X) → ((s : Placed) → test (fact_at names s) ≡ told s.entry) → ((s : Placed) → v (fact_at names s) ≡ w s.entry)
      → option_map v (find test facts) ≡ option_map w (find told all)
  found_of {X} test told v w same shown =
      ap (λ fs. option_map v (find test fs)) (facts_are names objects)
      ∙ (found_told (fact_at names) test (λ (s : Placed). told s.entry) v (λ (s : Placed). w s.entry) shown placed (all_agree _ same placed)
      ∙ (sym (found_told entry_of told (λ (s : Placed). told s.entry) w (λ (s : Placed). w s.entry) (λ s. refl) placed (all_agree _ (λ s. refl) placed)) ∙ ap (λ es. option_map w (find told es)) (entries_are objects)))

  -- the least entry
  none_made : (place : ℕ) (ms : List MadeSymbol) → AllByRecursion (λ (e : InputSymbol). (not (e.input == 0) && is_named name e) ≡ false) (made_from place ms)
  none_made place [] = tt
  none_made place (m ∷ ms) = (refl, none_made (place + 1) ms)

  least_is : AllByRecursion (λ (e : InputSymbol). (e.input == 0) ≡ false) all → find (λ (e : InputSymbol). is_entry e && is_named name e) all ≡ find (λ (e : InputSymbol). not (e.input == 0) && is_named name e) (entries mode objects)
  unfolding entries
  least_is inputs =
      let q : InputSymbol → Bool = λ e. not (e.input == 0) && is_named name e in
      find_agree (λ (e : InputSymbol). is_entry e && is_named name e) (λ (e : InputSymbol). is_entry e && q e) all (all_from _ _ (λ e is. ap (λ b. is_entry e && (not b && is_named name e)) (sym is)) all inputs)
      ∙ (sym (find_filter q is_entry all)
      ∙ sym (find-append q (made_from 0 (made mode)) (filter is_entry all) ∙ ap (λ o. option_or o (find q (filter is_entry all))) (find_none q (made_from 0 (made mode)) (none_made 0 (made mode)))))

  pub least_seen : AllByRecursion (λ (e : InputSymbol). (e.input == 0) ≡ false) all → column.least ≡ option_map entry_spot (find (λ (e : InputSymbol). not (e.input == 0) && is_named name e) (entries mode objects))
  least_seen inputs =
      firsts_of empty_column fact_number one_more (λ (c : Column). c.least) (λ (f : Fact). true) spot_of (λ f c. refl) (length names) facts n refl is_below
      ∙ (found_of (λ (f : Fact). is_number n f.number && true) (λ (e : InputSymbol). is_entry e && is_named name e) spot_of entry_spot (λ s. and_true (is_number n (entry_number names s.entry)) ∙ entry_is names name n differ at s.entry) (λ s. refl)
      ∙ ap (option_map entry_spot) (least_is inputs))

  -- its references
  pub referenced_seen : column.referenced ≡ not (length refs_here == 0)
  referenced_seen =
      flags_of empty_column fact_number one_more (λ (c : Column). c.referenced) refers (λ f c. refl) (length names) facts n refl is_below
      ∙ (any_of (λ (f : Fact). is_number n f.number && refers f) (is_reference_of names n) (λ s. refl)
      ∙ (some_kept (is_reference_of names n) all ∙ ap (λ es. not (length es == 0)) are_refs))

  any_ref : (q : InputSymbol → Bool) → list_any (λ (e : InputSymbol). is_number n (entry_number names e) && (not e.defines && q e)) all ≡ list_any q refs_here
  any_ref q =
      any_agree (λ (e : InputSymbol). is_number n (entry_number names e) && (not e.defines && q e)) (λ (e : InputSymbol). is_reference_of names n e && q e) all
      (all_agree _ (λ e. and_assoc (is_number n (entry_number names e)) (not e.defines) (q e)) all)
      ∙ (sym (any_filter q (is_reference_of names n) all) ∙ ap (list_any q) are_refs)

  pub strong_seen : column.strong ≡ list_any (λ (r : InputSymbol). not (is_weak r.symbol)) refs_here
  strong_seen =
      flags_of empty_column fact_number one_more (λ (c : Column). c.strong) (λ (f : Fact). refers f && not f.weak) (λ f c. refl) (length names) facts n refl is_below
      ∙ (any_of (λ (f : Fact). is_number n f.number && (refers f && not f.weak)) (λ (e : InputSymbol). is_number n (entry_number names e) && (not e.defines && not (is_weak e.symbol))) (λ s. refl)
      ∙ any_ref (λ (r : InputSymbol). not (is_weak r.symbol)))

  pub explicit_seen : column.explicit ≡ list_any (λ (r : InputSymbol). is_explicit r.symbol) refs_here
  explicit_seen =
      flags_of empty_column fact_number one_more (λ (c : Column). c.explicit) (λ (f : Fact). refers f && f.explicit) (λ f c. refl) (length names) facts n refl is_below
      ∙ (any_of (λ (f : Fact). is_number n f.number && (refers f && f.explicit)) (λ (e : InputSymbol). is_number n (entry_number names e) && (not e.defines && is_explicit e.symbol)) (λ s. refl)
      ∙ any_ref (λ (r : InputSymbol). is_explicit r.symbol))

  -- their imports
  import_at_place : (test : Fact → Bool) (told : InputSymbol → Bool) → ((s : Placed) → test (fact_at names s) ≡ told s.entry)
      → option_map (import_there objects) (option_map at_of (find test facts)) ≡ option_map (λ (e : InputSymbol). e.import) (find told all)
  import_at_place test told same =
      ap (λ fs. option_map (import_there objects) (option_map at_of (find test fs))) (facts_are names objects)
      ∙ (map_twice (import_there objects) at_of (find test (map (fact_at names) placed))
      ∙ (by_place placed (all_there objects)
      ∙ (sym (found_told entry_of told (λ (s : Placed). told s.entry) (λ (e : InputSymbol). e.import) (λ (s : Placed). s.entry.import) (λ s. refl) placed (all_agree _ (λ s. refl) placed)) ∙ ap (λ es. option_map (λ (e : InputSymbol). e.import) (find told es)) (entries_are objects))))
    where
      by_place : (ss : List Placed) → AllByRecursion (StandsThere objects) ss
          → option_map (λ (f : Fact). import_there objects (at_of f)) (find test (map (fact_at names) ss)) ≡ option_map (λ (s : Placed). s.entry.import) (find (λ (s : Placed). told s.entry) ss)
      by_place [] there = refl
      by_place (s ∷ ss) there = by (test (fact_at names s)) (told s.entry) (same s) (by_place ss there.1)
        where
          by : (a b : Bool) → a ≡ b → option_map (λ (f : Fact). import_there objects (at_of f)) (find test (map (fact_at names) ss)) ≡ option_map (λ (s : Placed). s.entry.import) (find (λ (s : Placed). told s.entry) ss)
              → option_map (λ (f : Fact). import_there objects (at_of f)) (cond a (Some (fact_at names s)) (find test (map (fact_at names) ss))) ≡ option_map (λ (s : Placed). s.entry.import) (cond b (Some s) (find (λ (s : Placed). told s.entry) ss))
          by true true is rest = ap (λ (o : Option InputSymbol). Some (option_and_then (λ e. e.import) o)) there.0
          by false false is rest = rest
          by true false is rest = absurd cc
          by false true is rest = absurd cc

  least_found : (es : List InputSymbol) → option_map (λ (e : InputSymbol). e.import) (find (λ (e : InputSymbol). is_some e.import) es) ≡ option_map Some (least_import es)
  least_found [] = refl
  least_found (e ∷ es) = by_import e.import refl (least_found es)
    where
      by_import : (o : Option ImportKey) → e.import ≡ o → option_map (λ (e : InputSymbol). e.import) (find (λ (e : InputSymbol). is_some e.import) es) ≡ option_map Some (least_import es)
          → option_map (λ (e : InputSymbol). e.import) (cond (is_some e.import) (Some e) (find (λ (e : InputSymbol). is_some e.import) es)) ≡ option_map Some (first_some (e.import ∷ map (λ e. e.import) es))
      by_import (Some k) is rest =
          ap (λ (o : Option ImportKey). option_map (λ (e : InputSymbol). e.import) (cond (is_some o) (Some e) (find (λ (e : InputSymbol). is_some e.import) es))) is
          ∙ (ap (λ (o : Option ImportKey). Some o) is ∙ sym (ap (λ o. option_map Some (first_some (o ∷ map (λ (e : InputSymbol). e.import) es))) is))
      by_import None is rest =
          ap (λ (o : Option ImportKey). option_map (λ (e : InputSymbol). e.import) (cond (is_some o) (Some e) (find (λ (e : InputSymbol). is_some e.import) es))) is
          ∙ (rest ∙ sym (ap (λ o. option_map Some (first_some (o ∷ map (λ (e : InputSymbol). e.import) es))) is))

  first_ref : (q : InputSymbol → Bool) → find (λ (e : InputSymbol). is_number n (entry_number names e) && (not e.defines && q e)) all ≡ find q refs_here
  first_ref q =
      find_agree (λ (e : InputSymbol). is_number n (entry_number names e) && (not e.defines && q e)) (λ (e : InputSymbol). is_reference_of names n e && q e) all
      (all_agree _ (λ e. and_assoc (is_number n (entry_number names e)) (not e.defines) (q e)) all)
      ∙ (sym (find_filter q (is_reference_of names n) all) ∙ ap (find q) are_refs)

  and_turned : (a b : Bool) → (a && b) ≡ (b && a)
  and_turned true true = refl
  and_turned true false = refl
  and_turned false true = refl
  and_turned false false = refl

  pub import_seen : option_map (import_there objects) column.import ≡ option_map Some (least_import refs_here)
  import_seen =
      ap (option_map (import_there objects)) (firsts_of empty_column fact_number one_more (λ (c : Column). c.import) stands_on_import at_of (λ f c. refl) (length names) facts n refl is_below)
      ∙ (import_at_place (λ (f : Fact). is_number n f.number && stands_on_import f) (λ (e : InputSymbol). is_number n (entry_number names e) && (not e.defines && is_some e.import)) (λ s. refl)
      ∙ (ap (option_map (λ (e : InputSymbol). e.import)) (first_ref (λ (e : InputSymbol). is_some e.import)) ∙ least_found refs_here))

  pub explicit_import_seen : option_map (import_there objects) column.explicit_import ≡ option_map Some (least_import (filter (λ (r : InputSymbol). is_explicit r.symbol) refs_here))
  explicit_import_seen =
      let explicit : InputSymbol → Bool = λ r. is_explicit r.symbol in
      let imported : InputSymbol → Bool = λ e. is_some e.import in
      ap (option_map (import_there objects)) (firsts_of empty_column fact_number one_more (λ (c : Column). c.explicit_import) (λ (f : Fact). stands_on_import f && f.explicit) at_of (λ f c. refl) (length names) facts n refl is_below)
      ∙ (import_at_place (λ (f : Fact). is_number n f.number && (stands_on_import f && f.explicit)) (λ (e : InputSymbol). is_number n (entry_number names e) && (not e.defines && (explicit e && imported e)))
      (λ s. ap (λ b. is_number n (entry_number names s.entry) && b) (sym (and_assoc (not s.entry.defines) (imported s.entry) (explicit s.entry)) ∙ ap (λ b. not s.entry.defines && b) (and_turned (imported s.entry) (explicit s.entry))))
      ∙ (ap (option_map (λ (e : InputSymbol). e.import)) (first_ref (λ (e : InputSymbol). explicit e && imported e) ∙ sym (find_filter imported explicit refs_here)) ∙ least_found (filter explicit refs_here)))

-- The names of a program are those that are numbered.
use Rattle.std.proofs.Common.{◌≡◌, ℕ, ◌+◌, ◌≤◌, ◌<◌, ◌^◌, ◌∙◌, List, [], ◌∷◌, ◌++◌, length, map, refl, sym, ap, subst, arith, Option, Some, None, Bool, true, false, cond, append_assoc, lt-ltb, le-ltb}
use Rattle.std.specs.Prelude.{filter, flat_map, bytes_eq, nat_lt}
use Rattle.std.proofs.lemmas.List.{map-append}
use Rattle.std.proofs.lemmas.List.Elements.{filter-append}
use Rattle.loose_calls.specs.link_program.wl_base.Choice.{given, distinct}
use Rattle.loose_calls.specs.link_program.wl_base.declared.fault.Fault.{Fault}
use Rattle.loose_calls.specs.link_program.wl_base.declared.fault.Fault.TheVariants.{TooManyNames}
use Rattle.loose_calls.specs.link_program.linking_section.declared.symbol.Symbol.{Symbol}
use Rattle.loose_calls.specs.link_program.object_file.declared.object.Object.{Object}
use Rattle.loose_calls.specs.link_program.made_symbols.declared.mode.Mode.{Mode}
use Rattle.loose_calls.specs.link_program.made_symbols.Made.{made, MadeSymbol}
use Rattle.loose_calls.specs.link_program.name_rules.Entries.{InputSymbol, entries, entries_from, entry_in, made_from, made_entry, symbols_of, is_entry, name_of}
use Rattle.loose_calls.specs.link_program.link_names.Numbered.{different_names, is_entry_symbol, symbol_name, entry_names, group_names}
use Rattle.loose_calls.specs.link_program.link_names.Numbered as numbered
use Rattle.loose_calls.specs.link_program.link_rules.Program.{Program}
use Rattle.loose_calls.specs.link_program.link_rules.LinkOf.{all_names, asked_names, too_many_names}

made_names : (place : ℕ) (ms : List MadeSymbol) → map name_of (made_from place ms) ≡ map (λ (m : MadeSymbol). m.name) ms
made_names place [] = refl
made_names place (m ∷ ms) = ap (λ (ns : List (List ℕ)). m.name ∷ ns) (made_names (place + 1) ms)

names_in : (objects : List Object) (o : Object) (place : ℕ) (ss : List Symbol)
    → map name_of (filter is_entry (entries_from objects o place ss)) ≡ map symbol_name (filter is_entry_symbol ss)
names_in objects o place [] = refl
names_in objects o place (s ∷ ss) = by_test (is_entry_symbol s) (names_in objects o (place + 1) ss)
  where
    by_test : (test : Bool) → map name_of (filter is_entry (entries_from objects o (place + 1) ss)) ≡ map symbol_name (filter is_entry_symbol ss)
        → map name_of (cond test (entry_in objects o place s ∷ filter is_entry (entries_from objects o (place + 1) ss)) (filter is_entry (entries_from objects o (place + 1) ss)))
        ≡ map symbol_name (cond test (s ∷ filter is_entry_symbol ss) (filter is_entry_symbol ss))
    by_test true rest = ap (λ (ns : List (List ℕ)). symbol_name s ∷ ns) rest
    by_test false rest = rest

names_of_all : (objects os : List Object) → map name_of (filter is_entry (flat_map (symbols_of objects) os)) ≡ flat_map entry_names os
names_of_all objects [] = refl
names_of_all objects (o ∷ os) =
    ap (map name_of) (filter-append is_entry (symbols_of objects o) (flat_map (symbols_of objects) os))
    ∙ map-append name_of (filter is_entry (symbols_of objects o)) (filter is_entry (flat_map (symbols_of objects) os))
    ∙ (λ i. names_in objects o 0 o.symbols i ++ names_of_all objects os i)

names_of_entries : (mode : Mode) (objects : List Object) → map name_of (entries mode objects) ≡ map (λ (m : MadeSymbol). m.name) (made mode) ++ flat_map entry_names objects
unfolding entries
names_of_entries mode objects =
    map-append name_of (made_from 0 (made mode)) (filter is_entry (flat_map (symbols_of objects) objects))
    ∙ (λ i. made_names 0 (made mode) i ++ names_of_all objects objects i)

-- behind them stand the groups and the words
spelled : (names groups asked others : List (List ℕ)) → names ++ groups ++ asked ++ others ≡ names ++ groups ++ (asked ++ others)
spelled names groups asked others = append_assoc (names ++ groups) asked others

pub different_are : (mode : Mode) (p : Program) → p.entries ≡ entries mode p.objects
    → distinct bytes_eq (all_names p) ≡ different_names mode (asked_names p.plan ++ p.plan.exports_if) p.objects
different_are mode p is =
    ap (distinct bytes_eq)
    ((λ i. map name_of (is i) ++ flat_map group_names p.objects ++ asked_names p.plan ++ p.plan.exports_if)
    ∙ (λ i. names_of_entries mode p.objects i ++ flat_map group_names p.objects ++ asked_names p.plan ++ p.plan.exports_if)
    ∙ spelled (map (λ (m : MadeSymbol). m.name) (made mode) ++ flat_map entry_names p.objects) (flat_map group_names p.objects) (asked_names p.plan) p.plan.exports_if)

-- ---- whether they are too many

module _ (mode : Mode) (p : Program) (is : p.entries ≡ entries mode p.objects) where
  pub few : length (different_names mode (asked_names p.plan ++ p.plan.exports_if) p.objects) ≤ 2 ^ 24 → too_many_names p ≡ None
  unfolding too_many_names
  few h =
      ap (λ (ns : List (List ℕ)). given (nat_lt (2 ^ 24) (length ns)) TooManyNames) (different_are mode p is)
      ∙ ap (λ b. given b TooManyNames) (le-ltb (2 ^ 24) (length (different_names mode (asked_names p.plan ++ p.plan.exports_if) p.objects)) h)

  pub many : 2 ^ 24 < length (different_names mode (asked_names p.plan ++ p.plan.exports_if) p.objects) → too_many_names p ≡ Some TooManyNames
  unfolding too_many_names
  many h =
      ap (λ (ns : List (List ℕ)). given (nat_lt (2 ^ 24) (length ns)) TooManyNames) (different_are mode p is)
      ∙ ap (λ b. given b TooManyNames) (lt-ltb (2 ^ 24) (length (different_names mode (asked_names p.plan ++ p.plan.exports_if) p.objects)) h)

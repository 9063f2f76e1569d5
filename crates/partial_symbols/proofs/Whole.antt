-- What the passes find over the tables of a program is what the definition says.
use Rattle.std.proofs.Common.{◌≡◌, ℕ, ◌==◌, not, ◌&&◌, ◌||◌, List, [], ◌∷◌, ◌++◌, map, filter, flat_map, find, fold, length, get_or, replicate, slice_get, position, Some, None, option_map, refl, sym, ap, subst, ◌∙◌}
use Rattle.std.specs.List.{list_any, AllByRecursion}
use Rattle.link_program.specs.linking_section.Flags.{is_weak, is_explicit}
use Rattle.link_program.specs.object_file.declared.object.Object.{Object}
use Rattle.link_program.specs.made_symbols.declared.mode.Mode.TheVariants.{Plain}
use Rattle.link_program.specs.name_rules.Entries.{InputSymbol, is_entry, is_named, same_entry, named, symbols_of, entries}
use Rattle.link_program.specs.name_rules.Meanings.{Resolved, references, least_import, resolve, resolved_in, uses_of}
use Rattle.link_program.specs.link_rules.Program.{Program, winners_of}
use Rattle.link_program.specs.link_rules.Marks.{all_symbols}
use Rattle.link_program.specs.declared.program.Program.{Program as Data}
use Rattle.link_program.specs.Program.{IsProgramOf}
use Rattle.partial_rules.specs.Partial as partial
use Rattle.partial_symbols.specs.Facts.{facts_of}
use Rattle.partial_symbols.specs.Columns.{won}
use Rattle.partial_symbols.specs.Standing.{Sight, all_stood}
use Rattle.partial_symbols.specs.Sights.{sight_of}
use Rattle.partial_symbols.specs.Known.{entry_spot, IsSight, AreStanding}
use Rattle.partial_symbols.proofs.Lists.{all_from}
use Rattle.partial_symbols.proofs.Held.{HeldOf, HeldWhere, entries_held, winners_held, held_objects}
use Rattle.partial_symbols.proofs.Placed.{Placed, placed_of, fact_at, entry_of, facts_are, entries_are, all_placed, all_there, all_of_objects}
use Rattle.partial_symbols.proofs.Sighted.{winner_seen, least_seen, referenced_seen, strong_seen, explicit_seen, import_seen, explicit_import_seen}
use Rattle.partial_symbols.proofs.Flagged.{flag_seen}
use Rattle.partial_symbols.proofs.Stands.{stands_seen}
use Rattle.partial_symbols.proofs.Numbered.{StandAlike, Differ, all_differ, count_is, symbols_are, of_symbols_are, of_names_are}

module _ (d : Data) (p : Program) (is : IsProgramOf Plain d p) where
  abbrev names : List (List ℕ)
  names = d.names.now.names

  all_held : AllByRecursion (HeldOf names) p.winners
  all_held =
      subst (AllByRecursion (HeldOf names)) (sym (is.winners_are ∙ ap winners_of is.entries))
      (winners_held names (entries Plain p.objects) (entries_held names Plain p.objects is.numbers.made_held is.numbers.symbols_held))

  is_sight : IsSight p names (sight_of d.tables.now names p.objects)
  is_sight = record {
    winner = λ n name at. ap (λ ws. get_or (fold won (replicate (length names) None) ws) n None) is.tables.winners ∙ winner_seen names is.numbers.differ n name at p.winners all_held;
    least = λ n name at. least_seen Plain p.objects names is.numbers.differ n name at (all_of_objects p.objects is.rise)
        ∙ ap (λ es. option_map entry_spot (find (λ (e : InputSymbol). not (e.input == 0) && is_named name e) es)) (sym is.entries);
    referenced = λ n name at.
        let a = referenced_seen Plain p.objects names is.numbers.differ n name at ∙ ap (λ es. not (length (references (named es name)) == 0)) (sym is.entries) in
        let b = flag_seen p names is.numbers.differ n name at d.tables.now.symbols d.tables.now.types d.resolution.now.imports d.tables.now.named p.parts is.tables.named in
        λ i. a i || b i;
    strong = λ n name at. strong_seen Plain p.objects names is.numbers.differ n name at ∙ ap (λ es. list_any (λ (r : InputSymbol). not (is_weak r.symbol)) (references (named es name))) (sym is.entries);
    explicit = λ n name at. explicit_seen Plain p.objects names is.numbers.differ n name at ∙ ap (λ es. list_any (λ (r : InputSymbol). is_explicit r.symbol) (references (named es name))) (sym is.entries);
    import = λ n name at. import_seen Plain p.objects names is.numbers.differ n name at ∙ ap (λ es. option_map Some (least_import (references (named es name)))) (sym is.entries);
    explicit_import = λ n name at. explicit_import_seen Plain p.objects names is.numbers.differ n name at
        ∙ ap (λ es. option_map Some (least_import (filter (λ (r : InputSymbol). is_explicit r.symbol) (references (named es name))))) (sym is.entries);
  }

  -- What is known of names.
  pub sight_is : IsSight p names (sight_of d.tables.now names d.objects.now)
  sight_is = subst (λ os. IsSight p names (sight_of d.tables.now names os)) (sym is.objects) is_sight

  -- ---- the symbols

  by_object : (os : List Object) → flat_map (λ (r : Resolved). r.symbols) (map (resolved_in Plain (uses_of Plain p.objects) p.plan.allow_undefined p.entries p.objects) os) ≡ flat_map (symbols_of p.objects) os
  by_object [] = refl
  by_object (o ∷ os) = ap (λ es. symbols_of p.objects o ++ es) (by_object os)

  pub symbols_all : all_symbols p ≡ flat_map (symbols_of p.objects) p.objects
  unfolding resolve
  symbols_all = ap (flat_map (λ (r : Resolved). r.symbols)) is.resolved ∙ by_object p.objects

  abbrev placed : List Placed
  placed = placed_of p.objects

  entries_all : map entry_of placed ≡ all_symbols p
  entries_all = entries_are p.objects ∙ sym symbols_all

  module _ (v : Sight) (seen : IsSight p names v) where
    alike : AllByRecursion (StandAlike p names v) placed
    alike =
        all_from (λ (s : Placed). HeldWhere names s.entry) (StandAlike p names v) (λ s held. stands_seen p names v seen s.object s.entry held) placed
        (all_placed (HeldWhere names) p.objects (held_objects names p.objects p.objects is.numbers.symbols_held))

    by_facts : AreStanding p names (all_stood v (length names) (map (fact_at names) placed))
    by_facts = record {
      count = count_is p names v (length names) placed ∙ ap length entries_all;
      symbols = symbols_are p names v (length names) placed (all_there p.objects) alike ∙ ap (λ es. map Some (filter (partial.stands p) es)) entries_all;
      of_names = λ n name at. of_names_are p names v is.numbers.differ n name at placed alike
          ∙ ap (λ es. position (λ (x : InputSymbol). is_entry x && is_named name x) (filter (partial.stands p) es)) entries_all;
      of_symbols = λ k e at.
          of_symbols_are p names v (length names) placed alike (subst Differ (sym (entries_are p.objects)) (all_differ p.objects is.rise)) k e (ap (λ es. slice_get es k) entries_all ∙ at)
          ∙ ap (λ es. position (same_entry e) (filter (partial.stands p) es)) entries_all;
    }

    -- The symbols that stand in the object.
    pub standing_is : AreStanding p names (all_stood v (length names) (facts_of names d.objects.now))
    standing_is =
        subst (λ os. AreStanding p names (all_stood v (length names) (facts_of names os))) (sym is.objects)
        (subst (λ fs. AreStanding p names (all_stood v (length names) fs)) (sym (facts_are names p.objects)) by_facts)

-- The data tell what is exported as the definition has it.
use Rattle.std.proofs.Common.{◌≡◌, ℕ, ◌<◌, ◌==◌, Bool, true, false, not, ◌&&◌, ◌||◌, cond, List, [], ◌++◌, length, get_or, map, filter, find, Option, Some, None, unwrap_or, refl, sym, ap, ◌∙◌, subst, All, Contains, option_and_then, option_map}
use Rattle.std.proofs.lemmas.List.Elements.{All-contains, All-map}
use Rattle.std.proofs.lemmas.Option.{get_or_from_slice_get}
use Rattle.link_program.specs.wl_base.Choice.{has_name}
use Rattle.link_program.specs.wl_base.Names.{number_of}
use Rattle.link_program.specs.linking_section.Flags.{has_bit}
use Rattle.link_program.specs.linking_section.declared.symbol.SymbolKind.TheVariants.{Function}
use Rattle.link_program.specs.object_file.declared.object.Object.{Object}
use Rattle.link_program.specs.made_symbols.declared.mode.Mode.{Mode}
use Rattle.link_program.specs.made_symbols.declared.mode.Mode.TheVariants.{Plain}
use Rattle.link_program.specs.name_rules.Entries.{InputSymbol, name_of, is_kind}
use Rattle.link_program.specs.name_rules.Meanings.{Resolved, resolve, resolved_in, uses_of}
use Rattle.link_program.specs.link_rules.Program.{Program, winners_of}
use Rattle.link_program.specs.link_rules.ModeOf.{mode_of}
use Rattle.link_program.specs.link_rules.Marks.{by_mode, is_exported_by, exported, demanded, export_name, written_name, resolved_at, repeated_export, first_repeat}
use Rattle.link_program.specs.declared.program.Program.{Program as Data}
use Rattle.link_program.specs.declared.symbol.Winner.{Winner}
use Rattle.link_program.specs.Told.{told_winner, name_number}
use Rattle.link_program.specs.Program.{IsProgramOf, IsProgram}
use Rattle.link_marks.specs.Asked.{IsAsked}
use Rattle.link_marks.specs.Seen.{is_export}
use Rattle.link_marks.specs.Names.{exported_as, name_seen, given_seen, memory_given, IsWinner}
use Rattle.link_marks.proofs.Mapped.{map_same, map-map, filter-map, filter_same, find-map}
use Rattle.link_marks.proofs.Columns.{name_at, number_within}
use Rattle.link_marks.proofs.Held.{HeldOf, numbered, entries_held, winners_held}

-- ---- numbers of names

number_is : (names : List (List ℕ)) (e : InputSymbol) (n : ℕ) → number_of names (name_of e) ≡ Some n → name_number names e ≡ n
number_is names e n is = ap (λ o. unwrap_or o 0) is

pub winner_names_held : (mode : Mode) (d : Data) (p : Program) → IsProgramOf mode d p → All (HeldOf d.names.now.names) p.winners
winner_names_held mode d p is = subst (All (HeldOf d.names.now.names)) (sym (is.winners_are ∙ ap winners_of is.entries)) (winners_held d.names.now.names _ (entries_held mode p.objects d.names.now is.numbers))

-- the number of a winner's name is below the count
pub number_held : (names : List (List ℕ)) (e : InputSymbol) → HeldOf names e → name_number names e < length names
number_held names e held = let n = numbered names (name_of e) held in subst (λ k. k < length names) (sym (number_is names e n.0 n.1)) (number_within names (name_of e) n.0 n.1)

pub winner_number : (names : List (List ℕ)) (winners : List InputSymbol) (w : Winner) → All (HeldOf names) winners → IsWinner names winners w → w.name < length names
winner_number names winners w all is =
    let e = is.0 in
    subst (λ (v : Winner). v.name < length names) (sym is.2) (number_held names e (All-contains (HeldOf names) winners e all is.1))

pub numbers_held : (names : List (List ℕ)) (winners es : List InputSymbol) (ws : List Winner) → All (HeldOf names) winners → All (Contains winners) es → ws ≡ map (told_winner names) es
    → All (λ (w : Winner). w.name < length names) ws
numbers_held names winners es ws held among told =
    subst (All (λ (w : Winner). w.name < length names)) (sym told)
    (All-map (λ (w : Winner). w.name < length names) (told_winner names) es (λ k d below. number_held names (get_or es k d) (All-contains (HeldOf names) winners (get_or es k d) held (among k d below))))

-- ---- exports

pub one_export : (names : List (List ℕ)) (asked : List Bool) (plan : _) (e : InputSymbol) → IsAsked names (demanded plan ++ plan.exports_if) asked → HeldOf names e
    → is_export asked plan.export_dynamic (told_winner names e) ≡ is_exported_by plan e
one_export names asked plan e is held =
    let n = numbered names (name_of e) held in
    let here : get_or asked (name_number names e) false ≡ has_name (demanded plan ++ plan.exports_if) (name_of e) = ap (λ k. get_or asked k false) (number_is names e n.0 n.1) ∙ is (name_of e) n.0 n.1 in
    ap (λ b. b || (not (e.input == 0) && (has_bit 0x20 e.symbol.flags || (plan.export_dynamic && not (has_bit 0x04 e.symbol.flags))))) here

pub exports_are : (d : Data) (p : Program) (asked : List Bool) → IsProgram d p → IsAsked d.names.now.names (demanded d.plan.now ++ d.plan.now.exports_if) asked
    → filter (is_export asked d.plan.now.export_dynamic) d.tables.now.winners ≡ map (told_winner d.names.now.names) (exported Plain p)
unfolding exported
exports_are d p asked is are =
    let names = d.names.now.names in
    let held = winner_names_held (mode_of p.plan) d p is in
    let asked_is : IsAsked names (demanded p.plan ++ p.plan.exports_if) asked = subst (λ plan. IsAsked names (demanded plan ++ plan.exports_if) asked) is.plan are in
    ap (filter (is_export asked d.plan.now.export_dynamic)) is.tables.winners
    ∙ ap (λ plan. filter (is_export asked plan.export_dynamic) (map (told_winner names) p.winners)) is.plan
    ∙ filter-map (is_export asked p.plan.export_dynamic) (told_winner names) p.winners
    ∙ ap (map (told_winner names)) (filter_same (λ e. is_export asked p.plan.export_dynamic (told_winner names e)) (is_exported_by p.plan) p.winners
    (λ k e below. one_export names asked p.plan (get_or p.winners k e) asked_is (held k e below)))

-- ---- names of exports

module _ (mode : Mode) (allow : Bool) (all : List InputSymbol) (objects : List Object) where
  pub resolved_is : (input : ℕ) → resolved_at (resolve mode allow all objects) input ≡ option_map (resolved_in mode (uses_of mode objects) allow all objects) (find (λ (o : Object). o.input == input) objects)
  unfolding resolve
  resolved_is input = find-map (λ (r : Resolved). r.object.input == input) (resolved_in mode (uses_of mode objects) allow all objects) objects

  own_is : (e : InputSymbol) (o : Option Object)
      → option_and_then (exported_as e.index) o ≡ option_and_then (λ r. written_name r e) (option_map (resolved_in mode (uses_of mode objects) allow all objects) o)
  own_is e None = refl
  own_is e (Some o) = refl

pub name_is : (mode : Mode) (d : Data) (p : Program) → IsProgramOf mode d p → (e : InputSymbol) → HeldOf d.names.now.names e → name_seen d.objects.now d.names.now.names (told_winner d.names.now.names e) ≡ export_name p e
name_is mode d p is e held =
    let names = d.names.now.names in
    let n = numbered names (name_of e) held in
    let named : get_or names (name_number names e) [] ≡ name_of e = ap (λ k. get_or names k []) (number_is names e n.0 n.1) ∙ get_or_from_slice_get names n.0 (name_of e) [] (name_at names (name_of e) n.0 n.1) in
    let own : option_and_then (exported_as e.index) (find (λ (o : Object). o.input == e.input) p.objects) ≡ option_and_then (λ r. written_name r e) (resolved_at p.resolved e.input) =
    own_is mode p.plan.allow_undefined p.entries p.objects e (find (λ (o : Object). o.input == e.input) p.objects)
    ∙ ap (option_and_then (λ r. written_name r e)) (sym (ap (λ rs. resolved_at rs e.input) is.resolved ∙ resolved_is mode p.plan.allow_undefined p.entries p.objects e.input)) in
    ap (λ os. name_seen os names (told_winner names e)) is.objects ∙ by (is_kind Function e) own named
  where
    by : (b : Bool) → option_and_then (exported_as e.index) (find (λ (o : Object). o.input == e.input) p.objects) ≡ option_and_then (λ r. written_name r e) (resolved_at p.resolved e.input)
        → get_or d.names.now.names (name_number d.names.now.names e) [] ≡ name_of e
        → unwrap_or (cond b (option_and_then (exported_as e.index) (find (λ (o : Object). o.input == e.input) p.objects)) None) (get_or d.names.now.names (name_number d.names.now.names e) [])
        ≡ cond b (unwrap_or (option_and_then (λ r. written_name r e) (resolved_at p.resolved e.input)) (name_of e)) (name_of e)
    by true own named = λ i. unwrap_or (own i) (named i)
    by false own named = named

-- ---- a name that is given twice

given_is : (d : Data) (p : Program) → IsProgram d p → (es : List InputSymbol) → All (Contains p.winners) es
    → map (given_seen d.objects.now d.names.now.names) (map (told_winner d.names.now.names) es) ≡ map (λ e. record { name = export_name p e; input = e.input }) es
given_is d p is es among =
    let names = d.names.now.names in
    map-map (given_seen d.objects.now names) (told_winner names) es
    ∙ map_same (λ e. given_seen d.objects.now names (told_winner names e)) (λ e. record { name = export_name p e; input = e.input }) es
    (λ k e below. let x = get_or es k e in let h = name_is (mode_of p.plan) d p is x (All-contains (HeldOf names) p.winners x (winner_names_held (mode_of p.plan) d p is) (among k e below)) in λ i. record { name = h i; input = x.input })

pub repeats_are : (d : Data) (p : Program) (es : List InputSymbol) (ws : List Winner) → IsProgram d p → All (Contains p.winners) es → ws ≡ map (told_winner d.names.now.names) es
    → first_repeat [] (memory_given (by_mode (mode_of d.plan.now) d.plan.now.import_memory true) ++ map (given_seen d.objects.now d.names.now.names) ws) ≡ repeated_export (mode_of p.plan) p es
unfolding repeated_export
repeats_are d p es ws is among told =
    ap (λ l. first_repeat [] (memory_given (by_mode (mode_of d.plan.now) d.plan.now.import_memory true) ++ map (given_seen d.objects.now d.names.now.names) l)) told
    ∙ ap (λ l. first_repeat [] (memory_given (by_mode (mode_of d.plan.now) d.plan.now.import_memory true) ++ l)) (given_is d p is es among)
    ∙ ap (λ plan. first_repeat [] (memory_given (by_mode (mode_of plan) plan.import_memory true) ++ map (λ e. record { name = export_name p e; input = e.input }) es)) is.plan

-- The whole: what the data tell is what the definition says.
use Rattle.std.proofs.Common.{◌≡◌, ℕ, suc, ◌+◌, ◌<◌, ◌^◌, ◌==◌, Bool, true, false, not, ◌&&◌, ◌||◌, List, [], ◌∷◌, ◌++◌, map, length, length-append, refl, sym, ap, ◌∙◌, arith, Option, Some, None, All}
use Rattle.std.specs.Prelude.{flat_map, is_some, IsSome}
use Rattle.std.specs.List.{list_any}
use Rattle.std.proofs.lemmas.List.{length-map}
use Rattle.link_marks.specs.link_program.wl_base.Choice.{given}
use Rattle.link_marks.specs.link_program.wl_base.Names.{number_of}
use Rattle.link_marks.specs.link_program.wl_base.declared.fault.Fault.{Fault}
use Rattle.link_marks.specs.link_program.wl_base.declared.fault.Fault.TheVariants.{Uncalled}
use Rattle.link_marks.specs.link_program.object_file.declared.object.Object.{Object}
use Rattle.link_marks.specs.link_program.made_symbols.declared.mode.Mode.TheVariants.{Plain}
use Rattle.link_plan.specs.declared.plan.Plan.{Plan}
use Rattle.link_marks.specs.link_program.name_rules.Entries.{InputSymbol, symbols_of, entries, name_of, is_named}
use Rattle.link_marks.specs.link_program.name_rules.Meanings.{Meaning, Resolved, meaning, no_uses, resolve, resolved_in}
use Rattle.link_marks.specs.link_program.name_entries.View.{rows_of, is_number}
use Rattle.link_marks.specs.link_program.link_rules.Program as rules
use Rattle.link_marks.specs.link_program.link_rules.Marks.{demanded, ctors_name, names_ctors, loses_inits, loses_exits}
use Rattle.link_marks.specs.link_program.wl_base.Choice.{has_name}
use Rattle.link_marks.specs.link_program.link_names.Numbered.{Held}
use Rattle.link_marks.specs.link_program.declared.program.Program.{Program}
use Rattle.link_marks.specs.link_program.Told.{told_all, told_symbols, told_variant}
use Rattle.link_marks.specs.link_program.Program.{IsProgramOf}
use Rattle.link_marks.specs.Alive.{IsLive}
use Rattle.link_marks.specs.declared.live.Live.{Live}
use Rattle.link_marks.proofs.link_program_lemmas.name_entries_lemmas.Few.{few}
use Rattle.link_marks.proofs.Winning.{winner_names_held}
use Rattle.lost_ctors.specs.declared.alive.Alive.{Alive}
use Rattle.lost_ctors.specs.Alive.{AreAlive}
use Rattle.lost_ctors.specs.Inits.{objects_lost}
use Rattle.lost_ctors.specs.Exits.{exits_lost}
use Rattle.lost_ctors.proofs.LostInits.{all_lost}
use Rattle.lost_ctors.proofs.AtExit.{exits_are}
use Rattle.lost_ctors.proofs.Naming.{entries_name}

abbrev judged : Bool → Bool → Bool → Bool → Option Fault
judged like ctors inits exits = given (like && not ctors && (inits || exits)) Uncalled

-- own words, or something names the function
pub not_judged : (like ctors inits exits : Bool) → (not like || ctors) ≡ true → judged like ctors inits exits ≡ None
not_judged true true inits exits is = refl
not_judged true false inits exits is = absurd cc
not_judged false true inits exits is = refl
not_judged false false inits exits is = refl

pub is_judged : (like ctors inits exits : Bool) → (not like || ctors) ≡ false → (b : Bool) → (inits || exits) ≡ b → judged like ctors inits exits ≡ given b Uncalled
is_judged true false inits exits is b lost = ap (λ b. given b Uncalled) lost
is_judged true true inits exits is b lost = absurd cc
is_judged false true inits exits is b lost = absurd cc
is_judged false false inits exits is b lost = absurd cc

module _ (d : Program) (p : rules.Program) (is : IsProgramOf Plain d p) where
  abbrev resolved_of : Object → Resolved
  resolved_of o = resolved_in Plain no_uses p.plan.allow_undefined (entries Plain p.objects) p.objects o

  resolved_are : p.resolved ≡ map resolved_of p.objects
  unfolding resolve
  resolved_are = is.resolved ∙ ap (λ es. resolve Plain p.plan.allow_undefined es p.objects) is.entries

  told : d.tables.now.symbols ≡ told_symbols d.names.now.names d.resolution.now.imports (map resolved_of p.objects) ++ map (told_variant d.names.now.names d.resolution.now.imports) p.variants
  told = is.tables.symbols ∙ ap (λ rs. told_symbols d.names.now.names d.resolution.now.imports rs ++ map (told_variant d.names.now.names d.resolution.now.imports) p.variants) resolved_are

  row_length : (m : InputSymbol → Meaning) (es : List InputSymbol) → length (told_all d.names.now.names d.resolution.now.imports es (map m es)) ≡ length es
  row_length m [] = refl
  row_length m (e ∷ es) = ap suc (row_length m es)

  rows_length : (os : List Object) → length (told_symbols d.names.now.names d.resolution.now.imports (map resolved_of os)) ≡ length (flat_map (λ row. row) (map (symbols_of p.objects) os))
  rows_length [] = refl
  rows_length (o ∷ os) =
      let here = told_all d.names.now.names d.resolution.now.imports (symbols_of p.objects o) (resolved_of o).meanings in
      let rest = told_symbols d.names.now.names d.resolution.now.imports (map resolved_of os) in
      let a = length-append here rest in
      let b = row_length (λ e. meaning Plain no_uses p.plan.allow_undefined (entries Plain p.objects) e) (symbols_of p.objects o) in
      let c = rows_length os in
      let e = length-append (symbols_of p.objects o) (flat_map (λ row. row) (map (symbols_of p.objects) os)) in
      omega (arith, a, b, c, e)

  -- the symbols of all objects are few
  pub few_rows : length (flat_map (λ row. row) (rows_of p.objects)) < 2 ^ 32
  few_rows =
      let whole = ap (λ l. length l) told in
      let both = length-append (told_symbols d.names.now.names d.resolution.now.imports (map resolved_of p.objects)) (map (told_variant d.names.now.names d.resolution.now.imports) p.variants) in
      let rows = rows_length p.objects in
      let few = is.tables.few_symbols in
      omega (arith, whole, both, rows, few)

  module _ (l : Live) (parts : List rules.Part) (live : IsLive p l parts) (alive : List Alive) (column : AreAlive d.tables.now l.numbers alive) where
    pub inits_are : objects_lost d.tables.now p.objects alive ≡ list_any (loses_inits parts) p.resolved
    inits_are =
        all_lost d.names.now.names d.resolution.now.imports d.tables.now p is.tables p.plan.allow_undefined p.objects l.numbers parts live.are.are alive column
        (map (told_variant d.names.now.names d.resolution.now.imports) p.variants) told
        ∙ ap (list_any (loses_inits parts)) (sym resolved_are)

    pub ends_are : All (λ e. Held d.names.now.names (name_of e)) p.winners → exits_lost d.names.now.names d.tables.now.winners d.tables.now.chunks alive l.numbers ≡ loses_exits p parts
    ends_are held = exits_are d.names.now.names d.resolution.now.imports d.tables.now p is.tables l.numbers parts live.are.are alive column held

  -- what names the function, where its name has this number
  pub ctors_are : (number : ℕ) → number_of d.names.now.names ctors_name ≡ Some number
      → (has_name (demanded p.plan) ctors_name || list_any (λ row. list_any (is_number number) row) d.names.now.symbols) ≡ names_ctors p
  ctors_are number at =
      ap (λ b. has_name (demanded p.plan) ctors_name || b)
      (sym (ap (list_any (λ e. not (e.input == 0) && is_named ctors_name e)) is.entries ∙ entries_name d.names.now.names ctors_name number at p.objects d.names.now is.numbers.symbols is.rise))

  words_are : has_name (demanded d.plan.now) ctors_name ≡ has_name (demanded p.plan) ctors_name
  words_are = ap (λ (plan : Plan). has_name (demanded plan) ctors_name) is.plan

  -- the words name it
  pub by_words : has_name (demanded d.plan.now) ctors_name ≡ true → true ≡ names_ctors p
  by_words named = sym (ap (λ b. b || list_any (λ e. not (e.input == 0) && is_named ctors_name e) p.entries) (sym words_are ∙ named))

  -- the words don't, and its name has this number
  pub by_objects : has_name (demanded d.plan.now) ctors_name ≡ false → (number : ℕ) → number_of d.names.now.names ctors_name ≡ Some number
      → list_any (λ row. list_any (is_number number) row) d.names.now.symbols ≡ names_ctors p
  by_objects named number at = ap (λ b. b || list_any (λ row. list_any (is_number number) row) d.names.now.symbols) (sym (sym words_are ∙ named)) ∙ ctors_are number at

  -- its name is held, since the linker makes it
  ctors_held : IsSome (number_of d.names.now.names ctors_name)
  ctors_held = is.numbers.made_held 0 [] (omega arith)

  pub never_missing : number_of d.names.now.names ctors_name ≡ None → false ≡ names_ctors p
  never_missing none = absurd (let e : false ≡ true = sym (ap is_some none) ∙ ctors_held in cc)

  -- the objects are few, and each has a row of numbers
  pub few_objects : length d.objects.now < 2 ^ 32
  few_objects = let h = few 0 p.objects (omega arith) is.rise in let same = ap (λ (os : List Object). length os) is.objects in omega (arith, h, same)

  pub rows_counted : length d.objects.now ≡ length d.names.now.symbols
  rows_counted = ap (λ (os : List Object). length os) is.objects ∙ sym (ap (λ (rows : List (List (Option ℕ))). length rows) is.numbers.symbols ∙ length-map p.objects _)

  -- the names of winners are held
  pub winners_held : All (λ e. Held d.names.now.names (name_of e)) p.winners
  winners_held = winner_names_held Plain d p is

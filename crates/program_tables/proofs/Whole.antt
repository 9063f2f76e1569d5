-- All parts, from the parts of each object.
use Rattle.std.proofs.Common.{◌≡◌, ℕ, zero, suc, ◌+◌, ◌-◌, ◌<◌, ◌≤◌, Bool, true, false, ◌∙◌, List, [], ◌∷◌, ◌++◌, refl, ap, sym, subst, arith, Option, Some, None, length, get_or, take}
use Rattle.std.specs.Prelude.{◌==◌, ◌&&◌, nat_le, slice_get, map, flat_map, option_map, if◌then◌else◌}
use Rattle.std.specs.List.{AllZip}
use Rattle.std.proofs.lemmas.Grind.{flat_map-append}
use Rattle.std.proofs.lemmas.List.{length-map, map-append, append-nil, take_all}
use Rattle.std.proofs.lemmas.Option.{same_Some, slice_get_within, slice_get-map}
use Rattle.link_program.specs.wasm_types.declared.function.FuncType.{FuncType}
use Rattle.link_program.specs.linking_section.declared.symbol.Symbol.{Symbol as SymbolOf}
use Rattle.link_program.specs.linking_section.declared.symbol.SymbolKind.TheVariants.{Function}
use Rattle.link_program.specs.object_file.declared.object.Object.{Object}
use Rattle.link_program.specs.object_file.Spaces.{function_imports}
use Rattle.link_program.specs.made_symbols.Made.{MadeSymbol, made, call_ctors}
use Rattle.link_program.specs.name_rules.Entries.{InputSymbol, symbols_of, entries, entries_from}
use Rattle.link_program.specs.name_rules.Meanings.{Meaning, Resolved, resolve}
use Rattle.link_program.specs.name_entries.View.{InputsRise, rows_of}
use Rattle.link_program.specs.name_entries.Parts.{AreParts}
use Rattle.link_program.specs.name_entries.declared.parts.ObjectParts.{ObjectParts}
use Rattle.link_program.proofs.name_entries_lemmas.Found.{counted}
use Rattle.link_program.specs.round_rules.Rounds.{Candidate}
use Rattle.link_program.specs.link_rules.Program as rules
use Rattle.link_program.specs.link_rules.Program.{is_mismatch, variant, parts_in, parts_of, init_calls, init_calls_in, insert_call, by_priority, made_part, made_parts_from, made_kind, option_onto, a_symbol, linker_made, no_source}
use Rattle.link_program.specs.declared.named.Named.{Named}
use Rattle.link_program.specs.declared.part.Content.TheVariants as contents
use Rattle.link_program.specs.Loaded.{home_of}
use Rattle.link_program.specs.Told.{told_symbol, told_variant}
use Rattle.link_program.specs.declared.symbol.Symbol.{Symbol}
use Rattle.program_tables.specs.declared.symbols.Sources.{Sources}
use Rattle.program_tables.specs.declared.inits.InitCall.{InitCall}
use Rattle.program_tables.specs.declared.view.Lookups.{Lookups}
use Rattle.program_tables.specs.Symbols.{symbols_of as all_symbols, symbol_of as source_symbol, starts}
use Rattle.program_tables.specs.Types.{AreTyped}
use Rattle.program_tables.specs.Views.{View, view_at}
use Rattle.program_tables.specs.Rows.{Row, made_rows, rows_of_view, rows_upto, all_rows}
use Rattle.program_tables.specs.declared.loose.Loose.{Loose}
use Rattle.program_tables.specs.Loose.{IsLoose, IsCalled, loosens, all_symbols as input_symbols}
use Rattle.program_tables.specs.Inits.{insert_by, by_key, priority_of, named_of, calls_in, calls_of, calls_upto, call_names}
use Rattle.program_tables.proofs.Lists.{at_take, front, behind, in_rows, zip_append}
use Rattle.program_tables.proofs.Steps.{item_at, flat_length}
use Rattle.program_tables.proofs.There.{above}
use Rattle.program_tables.proofs.Answered.{meant, resolved_of, IsMeant, symbol_answered}
use Rattle.program_tables.proofs.Typed.{Numbered, type_is, source_is}
use Rattle.program_tables.proofs.Rows.{IsView, IsNamedBy, ShowsNamed, ShowsPart, ShowsCall, rows_shown, calls_shown}

-- ---- views

-- What is looked up is that of the objects.
pub record AreLookups (s : Sources) (types : List FuncType) (all : List Candidate) (like allow : Bool) (lo : Loose) (l : Lookups) : Type 0 where
  pub entries : l.entries ≡ s.entries
  pub rise : InputsRise 0 s.entries.objects.now
  pub meant : IsMeant s.mode s.entries.objects.now allow s.resolution.now
  pub parts : AreParts s.entries.objects.now s.entries.parts.now
  pub firsts : l.firsts.now ≡ starts 0 (rows_of s.entries.objects.now)
  pub typed : AreTyped types l.types.now s.entries.objects.now
  pub homes : l.homes.now ≡ map home_of all
  pub numbered : Numbered 1 all
  pub loose : IsLoose s.mode like allow s.entries.names.now.names s.resolution.now.imports s.entries.objects.now lo
  pub called : l.called.now ≡ lo.called

row_length : (objects : List Object) (o : Object) (k : ℕ) (ss : List SymbolOf) → length (entries_from objects o k ss) ≡ length ss
row_length objects o k [] = refl
row_length objects o k (s ∷ ss) = ap suc (row_length objects o (k + 1) ss)

starts_map : {A B : Type 0} (f : A → B) (at : ℕ) (rows : List (List A)) → starts at (map (map f) rows) ≡ starts at rows
starts_map f at [] = refl
starts_map f at (row ∷ rows) = ap (λ l. at ∷ l) (ap (λ n. starts (at + n) (map (map f) rows)) (length-map row f) ∙ starts_map f (at + length row) rows)

flat_rows : {A B : Type 0} (f : A → B) (rows : List (List A)) → flat_map (λ r. r) (map (map f) rows) ≡ flat_map (λ row. map f row) rows
flat_rows f [] = refl
flat_rows f (row ∷ rows) = ap (λ l. map f row ++ l) (flat_rows f rows)

symbol_at : (s : Sources) (i k : ℕ) (o : Object) (e : InputSymbol) → slice_get s.entries.objects.now i ≡ Some o → slice_get (symbols_of s.entries.objects.now o) k ≡ Some e
    → slice_get (all_symbols s) (get_or (starts 0 (rows_of s.entries.objects.now)) i 0 + k) ≡ Some (source_symbol s e)
symbol_at s i k o e at there =
    let objects = s.entries.objects.now in
    let rows = map (map (source_symbol s)) (rows_of objects) in
    let row : slice_get rows i ≡ Some (map (source_symbol s) (symbols_of objects o)) =
    slice_get-map (map (source_symbol s)) (rows_of objects) i ∙ ap (option_map (map (source_symbol s))) (slice_get-map (symbols_of objects) objects i ∙ ap (option_map (symbols_of objects)) at) in
    let item : slice_get (map (source_symbol s) (symbols_of objects o)) k ≡ Some (source_symbol s e) =
    slice_get-map (source_symbol s) (symbols_of objects o) k ∙ ap (option_map (source_symbol s)) there in
    ap (λ l. slice_get l (get_or (starts 0 (rows_of objects)) i 0 + k)) (sym (flat_rows (source_symbol s) (rows_of objects)))
    ∙ ap (λ l. slice_get (flat_map (λ r. r) rows) (get_or l i 0 + k)) (sym (starts_map (source_symbol s) 0 (rows_of objects)))
    ∙ in_rows rows i k (map (source_symbol s) (symbols_of objects o)) (source_symbol s e) row item

told_there : (s : Sources) (allow : Bool) (i k : ℕ) (o : Object) (e : InputSymbol) (m : Meaning) → InputsRise 0 s.entries.objects.now → IsMeant s.mode s.entries.objects.now allow s.resolution.now
    → slice_get s.entries.objects.now i ≡ Some o → slice_get (symbols_of s.entries.objects.now o) k ≡ Some e
    → slice_get (map (meant s.mode s.entries.objects.now allow) (symbols_of s.entries.objects.now o)) k ≡ Some m
    → slice_get (all_symbols s) (get_or (starts 0 (rows_of s.entries.objects.now)) i 0 + k) ≡ Some (told_symbol s.entries.names.now.names s.resolution.now.imports e m)
told_there s allow i k o e m rise is at there means =
    let objects = s.entries.objects.now in
    let a = symbol_answered s.mode objects allow s.resolution.now i k o e rise is at there in
    let same : meant s.mode objects allow e ≡ m =
    same_Some (meant s.mode objects allow e) m (sym (slice_get-map (meant s.mode objects allow) (symbols_of objects o) k ∙ ap (option_map (meant s.mode objects allow)) there) ∙ means) in
    let symbol : source_symbol s e ≡ told_symbol s.entries.names.now.names s.resolution.now.imports e (meant s.mode objects allow e) = rw (a.at, a.leads.lead) refl in
    symbol_at s i k o e at there ∙ ap Some (symbol ∙ ap (told_symbol s.entries.names.now.names s.resolution.now.imports e) same)

-- what a call names
flat_same : {A B : Type 0} (f : A → List B) (xs : List A) → flat_map (λ r. r) (map f xs) ≡ flat_map f xs
flat_same f [] = refl
flat_same f (x ∷ xs) = ap (λ l. f x ++ l) (flat_same f xs)

many_symbols : (s : Sources) → length (all_symbols s) ≡ length (input_symbols s.entries.objects.now)
many_symbols s = flat_length (source_symbol s) (rows_of s.entries.objects.now) ∙ ap (λ l. length l) (flat_same (symbols_of s.entries.objects.now) s.entries.objects.now)

called_by : (s : Sources) (lo : Loose) (other : Bool) (v : Symbol) (number called : ℕ) → IsCalled other v (length (input_symbols s.entries.objects.now)) lo.symbols number called → IsNamedBy other v (all_symbols s ++ lo.symbols) number called
called_by s lo true v number called is =
    ap (slice_get (all_symbols s ++ lo.symbols)) (is.1 ∙ ap (λ n. n + is.0) (sym (many_symbols s))) ∙ behind (all_symbols s) lo.symbols is.0 ∙ is.2
called_by s lo false v number called is = is

called_there : (s : Sources) (like allow : Bool) (lo : Loose) (i k : ℕ) (o : Object) (e : InputSymbol) (m : Meaning) → IsLoose s.mode like allow s.entries.names.now.names s.resolution.now.imports s.entries.objects.now lo
    → slice_get s.entries.objects.now i ≡ Some o → slice_get (symbols_of s.entries.objects.now o) k ≡ Some e
    → slice_get (map (meant s.mode s.entries.objects.now allow) (symbols_of s.entries.objects.now o)) k ≡ Some m
    → (let n = get_or (starts 0 (rows_of s.entries.objects.now)) i 0 + k in
    IsNamedBy (like && is_mismatch (entries s.mode s.entries.objects.now) e m) (told_variant s.entries.names.now.names s.resolution.now.imports (variant e)) (all_symbols s ++ lo.symbols) n (get_or lo.called n n))
called_there s like allow lo i k o e m loose at there means =
    let objects = s.entries.objects.now in
    let n : ℕ = get_or (starts 0 (rows_of objects)) i 0 + k in
    let v : Symbol = told_variant s.entries.names.now.names s.resolution.now.imports (variant e) in
    let same : meant s.mode objects allow e ≡ m =
    same_Some (meant s.mode objects allow e) m (sym (slice_get-map (meant s.mode objects allow) (symbols_of objects o) k ∙ ap (option_map (meant s.mode objects allow)) there) ∙ means) in
    let row : slice_get (rows_of objects) i ≡ Some (symbols_of objects o) = slice_get-map (symbols_of objects) objects i ∙ ap (option_map (symbols_of objects)) at in
    let flat : slice_get (input_symbols objects) n ≡ Some e = ap (λ l. slice_get l n) (sym (flat_same (symbols_of objects) objects)) ∙ in_rows (rows_of objects) i k (symbols_of objects o) e row there in
    subst (λ m. IsNamedBy (like && is_mismatch (entries s.mode objects) e m) v (all_symbols s ++ lo.symbols) n (get_or lo.called n n)) same
    (called_by s lo (loosens s.mode like allow objects e) v n (get_or lo.called n n) (loose.called n e flat))

-- a view of an object, and what its numbers stand for
pub record ViewOf (s : Sources) (types : List FuncType) (all : List Candidate) (like allow : Bool) (lo : Loose) (l : Lookups) (i : ℕ) (o : Object) : Type 0 where
  pub view : View
  pub at : view_at l i ≡ Some view
  pub is : IsView like (entries s.mode s.entries.objects.now) s.entries.names.now.names s.resolution.now.imports (all_symbols s ++ lo.symbols) types all s.entries.objects.now (resolved_of s.mode s.entries.objects.now allow o) view

part_at : (objects : List Object) (parts : List ObjectParts) (i : ℕ) (o : Object) → AreParts objects parts → slice_get objects i ≡ Some o → (p : ObjectParts) × (slice_get parts i ≡ Some p)
part_at objects parts i o are at =
    let within = slice_get_within objects i o at in
    let many = are.count in
    item_at parts i (omega arith)

view_of : (s : Sources) (types : List FuncType) (all : List Candidate) (like allow : Bool) (lo : Loose) (l : Lookups) (i : ℕ) (o : Object) → AreLookups s types all like allow lo l → slice_get s.entries.objects.now i ≡ Some o
    → ViewOf s types all like allow lo l i o
view_of s types all like allow lo l i o are at =
    let objects = s.entries.objects.now in
    let found = part_at objects s.entries.parts.now i o are.parts at in
    let p = found.0 in
    let each = are.parts.each i o p at found.1 in
    let there : slice_get l.entries.objects.now i ≡ Some o = ap (λ es. slice_get es.objects.now i) are.entries ∙ at in
    let parts_there : slice_get l.entries.parts.now i ≡ Some p = ap (λ es. slice_get es.parts.now i) are.entries ∙ found.1 in
    record {
      view = record { object = o; parts = p; first = get_or l.firsts.now i 0; types = get_or l.types.now i []; home = slice_get l.homes.now (o.input - 1); called = l.called.now };
      at = rw (there, parts_there) refl;
      is = record {
        object = refl;
        row = refl;
        entries = row_length objects o 0 o.symbols;
        meanings = length-map (symbols_of objects o) (meant s.mode objects allow) ∙ row_length objects o 0 o.symbols;
        told = λ k e m at_e at_m.
            front (all_symbols s) lo.symbols (get_or l.firsts.now i 0 + k) (told_symbol s.entries.names.now.names s.resolution.now.imports e m)
            (ap (λ fs. slice_get (all_symbols s) (get_or fs i 0 + k)) are.firsts ∙ told_there s allow i k o e m are.rise are.meant at at_e at_m);
        called = λ k e m at_e at_m.
            subst (λ fs. IsNamedBy (like && is_mismatch (entries s.mode objects) e m) (told_variant s.entries.names.now.names s.resolution.now.imports (variant e)) (all_symbols s ++ lo.symbols) (get_or fs i 0 + k) (get_or l.called.now (get_or fs i 0 + k) (get_or fs i 0 + k))) (sym are.firsts)
            (subst (λ cs. IsNamedBy (like && is_mismatch (entries s.mode objects) e m) (told_variant s.entries.names.now.names s.resolution.now.imports (variant e)) (all_symbols s ++ lo.symbols) (get_or (starts 0 (rows_of objects)) i 0 + k) (get_or cs (get_or (starts 0 (rows_of objects)) i 0 + k) (get_or (starts 0 (rows_of objects)) i 0 + k))) (sym are.called)
            (called_there s like allow lo i k o e m are.loose at at_e at_m));
        typed = λ index. type_is types l.types.now objects i o index are.typed at;
        source = λ span. source_is l.homes.now all o.input span are.homes are.numbered (above 0 objects i o are.rise at);
        parts = each;
        imported = counted o.imports (function_imports o) p.imports.functions (each.imports Function);
      };
    }

-- ---- objects in turn

module _ (s : Sources) (types : List FuncType) (all : List Candidate) (like allow : Bool) (lo : Loose) (l : Lookups) (are : AreLookups s types all like allow lo l) where
  abbrev names_of : List InputSymbol
  names_of = entries s.mode s.entries.objects.now

  abbrev objects_of : List Object
  objects_of = s.entries.objects.now

  abbrev Shows : Row → rules.Part → Type 0
  Shows = ShowsPart like names_of (all_symbols s ++ lo.symbols) types s.entries.names.now.names s.resolution.now.imports

  abbrev Calls : InitCall → rules.InitCall → Type 0
  Calls = ShowsCall like names_of (all_symbols s ++ lo.symbols) types s.entries.names.now.names s.resolution.now.imports

  abbrev first_resolved : ℕ → List Resolved
  first_resolved n = map (resolved_of s.mode objects_of allow) (take n objects_of)

  one_more : (n : ℕ) (o : Object) → slice_get objects_of n ≡ Some o → first_resolved (suc n) ≡ first_resolved n ++ resolved_of s.mode objects_of allow o ∷ []
  one_more n o at =
      ap (λ k. map (resolved_of s.mode objects_of allow) (take k objects_of)) (let e : suc n ≡ n + 1 = omega arith in e)
      ∙ ap (map (resolved_of s.mode objects_of allow)) (at_take objects_of n o at)
      ∙ map-append (resolved_of s.mode objects_of allow) (take n objects_of) (o ∷ [])

  more_flat : {B : Type 0} (f : Resolved → List B) (n : ℕ) (o : Object) → slice_get objects_of n ≡ Some o
      → flat_map f (first_resolved (suc n)) ≡ flat_map f (first_resolved n) ++ f (resolved_of s.mode objects_of allow o)
  more_flat f n o at =
      ap (flat_map f) (one_more n o at) ∙ flat_map-append f (first_resolved n) (resolved_of s.mode objects_of allow o ∷ [])
      ∙ ap (λ x. flat_map f (first_resolved n) ++ x) (append-nil (f (resolved_of s.mode objects_of allow o)))

  object_at : (n : ℕ) → n < length objects_of → (o : Object) × (slice_get objects_of n ≡ Some o)
  object_at n lt = item_at objects_of n lt

  rows_to : (n : ℕ) → n ≤ length objects_of → AllZip Shows (rows_upto l n) (flat_map (parts_in all objects_of) (first_resolved n))
  rows_to zero le = tt
  rows_to (suc n) le =
      let (o, at) = object_at n (omega arith) in
      let v = view_of s types all like allow lo l n o are at in
      let row : AllZip Shows (rows_of_view (view_at l n)) (parts_in all objects_of (resolved_of s.mode objects_of allow o)) =
      subst (λ x. AllZip Shows (rows_of_view x) (parts_in all objects_of (resolved_of s.mode objects_of allow o))) (sym v.at)
      (rows_shown like names_of s.entries.names.now.names s.resolution.now.imports (all_symbols s ++ lo.symbols) types all objects_of (resolved_of s.mode objects_of allow o) v.view v.is) in
      subst (λ x. AllZip Shows (rows_upto l n ++ rows_of_view (view_at l n)) x) (sym (more_flat (parts_in all objects_of) n o at))
      (zip_append Shows (rows_upto l n) (rows_of_view (view_at l n)) (flat_map (parts_in all objects_of) (first_resolved n)) (parts_in all objects_of (resolved_of s.mode objects_of allow o))
      (rows_to n (omega arith)) row)

  calls_to : (n : ℕ) → n ≤ length objects_of → AllZip Calls (calls_upto l n) (flat_map init_calls_in (first_resolved n))
  calls_to zero le = tt
  calls_to (suc n) le =
      let (o, at) = object_at n (omega arith) in
      let v = view_of s types all like allow lo l n o are at in
      let r = resolved_of s.mode objects_of allow o in
      let row : AllZip Calls (calls_of l n) (init_calls_in r) =
      subst (λ x. AllZip Calls (calls_in l.entries.objects.now x) (init_calls_in r)) (sym v.at)
      (subst (λ es. AllZip Calls (calls_in es.objects.now (Some v.view)) (init_calls_in r)) (sym are.entries)
      (calls_shown like names_of s.entries.names.now.names s.resolution.now.imports (all_symbols s ++ lo.symbols) types all objects_of r v.view v.is)) in
      subst (λ x. AllZip Calls (calls_upto l n ++ calls_of l n) x) (sym (more_flat init_calls_in n o at))
      (zip_append Calls (calls_upto l n) (calls_of l n) (flat_map init_calls_in (first_resolved n)) (init_calls_in r) (calls_to n (omega arith)) row)

  all_resolved : first_resolved (length objects_of) ≡ map (resolved_of s.mode objects_of allow) objects_of
  all_resolved = ap (map (resolved_of s.mode objects_of allow)) (take_all (length objects_of) objects_of (omega arith))

  -- ---- the calls in order

  inserted : (kept other : Bool) (c e : InitCall) (d f : rules.InitCall) (cs more : List InitCall) (ds others : List rules.InitCall) → kept ≡ other → Calls c d → Calls e f → AllZip Calls cs ds → AllZip Calls more others
      → AllZip Calls (if kept then c ∷ e ∷ cs else e ∷ more) (if other then d ∷ f ∷ ds else f ∷ others)
  inserted true true c e d f cs more ds others same first second rest put = (first, (second, rest))
  inserted false false c e d f cs more ds others same first second rest put = (second, put)
  inserted true false c e d f cs more ds others same first second rest put = absurd cc
  inserted false true c e d f cs more ds others same first second rest put = absurd cc

  insert_shown : (c : InitCall) (d : rules.InitCall) (cs : List InitCall) (ds : List rules.InitCall) → Calls c d → AllZip Calls cs ds → AllZip Calls (insert_by priority_of c cs) (insert_call d ds)
  insert_shown c d [] [] first all = (first, tt)
  insert_shown c d [] (f ∷ ds) first all = absurd all
  insert_shown c d (e ∷ cs) [] first all = absurd all
  insert_shown c d (e ∷ cs) (f ∷ ds) first all =
      inserted (nat_le c.priority e.priority) (nat_le d.priority f.priority) c e d f cs (insert_by priority_of c cs) ds (insert_call d ds)
      (rw (first.priority, all.0.priority) refl) first all.0 all.1 (insert_shown c d cs ds first all.1)

  sorted_shown : (cs : List InitCall) (ds : List rules.InitCall) → AllZip Calls cs ds → AllZip Calls (by_key priority_of cs) (by_priority ds)
  sorted_shown [] [] all = tt
  sorted_shown [] (d ∷ ds) all = absurd all
  sorted_shown (c ∷ cs) [] all = absurd all
  sorted_shown (c ∷ cs) (d ∷ ds) all = insert_shown c d (by_key priority_of cs) (by_priority ds) all.0 (sorted_shown cs ds all.1)

  abbrev ShowsOne : Named → rules.Named → Type 0
  ShowsOne = ShowsNamed like names_of (all_symbols s ++ lo.symbols) types s.entries.names.now.names s.resolution.now.imports

  names_shown : (cs : List InitCall) (ds : List rules.InitCall) → AllZip Calls cs ds → AllZip ShowsOne (map named_of cs) (map a_symbol (map (λ c. c.ref) ds))
  names_shown [] [] all = tt
  names_shown [] (d ∷ ds) all = absurd all
  names_shown (c ∷ cs) [] all = absurd all
  names_shown (c ∷ cs) (d ∷ ds) all = (all.0.named, names_shown cs ds all.1)

  abbrev resolved_all : List Resolved
  resolved_all = resolve s.mode allow (entries s.mode objects_of) objects_of

  inits_shown : AllZip ShowsOne (call_names l) (map a_symbol (init_calls resolved_all))
  unfolding init_calls resolve
  inits_shown =
      subst (λ es. AllZip ShowsOne (map named_of (by_key priority_of (calls_upto l (length es.objects.now)))) (map a_symbol (init_calls resolved_all))) (sym are.entries)
      (names_shown (by_key priority_of (calls_upto l (length objects_of))) (by_priority (flat_map init_calls_in resolved_all))
      (sorted_shown (calls_upto l (length objects_of)) (flat_map init_calls_in resolved_all)
      (subst (λ rs. AllZip Calls (calls_upto l (length objects_of)) (flat_map init_calls_in rs)) all_resolved (calls_to (length objects_of) (omega arith)))))

  -- ---- the linker's parts

  made_named : (holds : Bool) (xs : List Named) (ys : List rules.Named) → AllZip ShowsOne xs ys → AllZip ShowsOne (if holds then xs else []) (if holds then ys else [])
  made_named true xs ys all = all
  made_named false xs ys all = tt

  made_shown : (calls : List Named) (refs : List rules.Ref) (place : ℕ) (ms : List MadeSymbol) → AllZip ShowsOne calls (map a_symbol refs)
      → AllZip Shows (made_rows calls place ms) (made_parts_from refs place ms)
  made_shown calls refs place [] all = tt
  made_shown calls refs place (m ∷ ms) all = by (made_kind m.kind) (made_shown calls refs (place + 1) ms all)
    where
      by : (kind : Option ℕ) → AllZip Shows (made_rows calls (place + 1) ms) (made_parts_from refs (place + 1) ms)
          → AllZip Shows (option_onto (option_map (λ kind. record {
            part = record { chunk = record { input = 0; kind = kind; index = place }; content = contents.Made; source = no_source };
            named = if (kind == 0) && (place == call_ctors) then calls else [];
          }) kind) (made_rows calls (place + 1) ms))
          (option_onto (option_map (λ kind. record {
            chunk = record { input = 0; kind = kind; index = place };
            content = linker_made m;
            source = no_source;
            named = if (kind == 0) && (place == call_ctors) then map a_symbol refs else [];
          }) kind) (made_parts_from refs (place + 1) ms))
      by None rest = rest
      by (Some kind) rest = (
        record { chunk = refl; content = refl; source = refl; named = made_named ((kind == 0) && (place == call_ctors)) calls (map a_symbol refs) all; typed = tt },
        rest,
      )

  -- ---- all parts

  pub parts_shown : AllZip Shows (all_rows s.mode l) (parts_of s.mode all objects_of resolved_all)
  unfolding parts_of resolve
  parts_shown =
      zip_append Shows (made_rows (call_names l) 0 (made s.mode)) (rows_upto l (length l.entries.objects.now))
      (made_parts_from (init_calls resolved_all) 0 (made s.mode)) (flat_map (parts_in all objects_of) resolved_all)
      (made_shown (call_names l) (init_calls resolved_all) 0 (made s.mode) inits_shown)
      (subst (λ es. AllZip Shows (rows_upto l (length es.objects.now)) (flat_map (parts_in all objects_of) resolved_all)) (sym are.entries)
      (subst (λ rs. AllZip Shows (rows_upto l (length objects_of)) (flat_map (parts_in all objects_of) rs)) all_resolved (rows_to (length objects_of) (omega arith))))

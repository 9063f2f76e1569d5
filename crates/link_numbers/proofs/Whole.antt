-- The numbers that the data give are those of the definition, ws they are told.
use Rattle.std.proofs.Common.{◌≡◌, ℕ, nat_eq, ◌==◌, Bool, true, false, ◌&&◌, List, [], ◌∷◌, ◌++◌, map, filter, filter_map, flat_map, fold, replicate, length, slice_get, get_or, not, cond, Option, Some, None, refl, sym, ap, subst, ◌∙◌, append_assoc}
use Rattle.std.specs.Prelude.{bytes_eq, if◌then◌else◌}
use Rattle.std.specs.List.{list_any, All, cons_option}
use Rattle.std.proofs.lemmas.List.{map-append}
use Rattle.std.proofs.lemmas.List.Sums.{fold-append}
use Rattle.std.proofs.lemmas.List.Elements.{All-append, All-head, All-tail, All-cons, All-map}
use Rattle.std.proofs.lemmas.Option.{slice_get-get_or}
use Rattle.link_keys.specs.link_program.wl_base.Choice.{distinct, distinct_onto, given}
use Rattle.link_keys.specs.link_program.wasm_types.declared.function.FuncType.{FuncType}
use Rattle.link_keys.specs.link_program.object_file.declared.object.Object.{Object}
use Rattle.link_keys.specs.link_program.made_symbols.declared.mode.Mode.{Mode}
use Rattle.link_keys.specs.link_program.made_symbols.declared.mode.Mode.TheVariants.{Plain}
use Rattle.link_keys.specs.link_program.name_rules.Further.{further_imports}
use Rattle.link_keys.specs.link_program.made_symbols.Made.{made}
use Rattle.link_keys.specs.link_program.index_layout.Numbers.{number_by}
use Rattle.link_keys.specs.link_program.name_rules.Entries.{InputSymbol, ImportKey, same_import, name_of, is_named, is_entry, is_kind, made_from, entries, symbols_of}
use Rattle.link_keys.specs.link_program.linking_section.declared.symbol.SymbolKind.TheVariants.{Datum, GlobalVar}
use Rattle.link_keys.specs.link_program.name_rules.Meanings.{Meaning, here, imported, null, nothing, resolve}
use Rattle.link_keys.specs.link_program.link_names.Numbered.{symbol_number, entry_names, group_names, all_names, different_names}
use Rattle.link_keys.specs.link_program.link_rules.Program as rules
use Rattle.link_keys.specs.link_program.link_rules.Program.{Ref, refs, loose_variants}
use Rattle.link_keys.specs.link_program.link_rules.Marks.{refs_of}
use Rattle.link_keys.specs.link_program.link_rules.Keys as keys
use Rattle.link_keys.specs.link_program.link_rules.Keys.{outside, linker_function, stub, own, got, outside_global, linker_global, own_global, exported_datum, same_function, same_got, same_global, is_taken, is_null, meant_global, imports_in_order, import_of, has_import, used_imports, imports_by, is_function_type, is_global_type, function_imports_of, stub_names, made_function_key, own_function_key, functions, callable, slots, used_globals, global_imports_in, made_globals, made_global_key, own_global_key, got_entries, parts_of_kind, ref_got, datum_key, globals, window_types, type_of, types, numbers}
use Rattle.link_keys.specs.link_program.declared.keys.FunctionKey.TheVariants as function_keys
use Rattle.link_keys.specs.link_program.declared.keys.GlobalKey.TheVariants as global_keys
use Rattle.link_keys.specs.link_program.declared.symbol.Winner.{Winner}
use Rattle.link_keys.specs.link_program.declared.program.Tables.{Tables}
use Rattle.link_keys.specs.link_program.Told.{told_winner}
use Rattle.link_keys.specs.link_program.Keys.{told_function, told_got, told_global, same_function_key, same_got_key, same_global_key}
use Rattle.link_keys.specs.link_program.Stand.{PartsStand}
use Rattle.link_keys.specs.link_program.Program.{AreTables, variant_names}
use Rattle.link_keys.specs.link_program.Live.{AllMeant}
use Rattle.link_keys.specs.declared.firsts.At.{At}
use Rattle.link_keys.specs.Codes.{same_code, function_code}
use Rattle.link_keys.specs.LiveRefs.{live_refs, window_numbers}
use Rattle.link_keys.specs.Noted.{Noted, noted_parts, nothing_noted}
use Rattle.link_keys.specs.Lists.{chunk_at, function_imports, global_imports, stubs_listed, own_functions, own_globals, own_function_in, own_global_in, functions_listed, slots_listed, globals_listed, datum_listed}
use Rattle.link_keys.specs.Firsts.{firsts_rows}
use Rattle.link_keys.specs.Types.{StubTypes, kept_type, own_types, stub_type, stub_types, import_types, type_number_in, with_numbered, with_windows, no_types, types_listed}
use Rattle.link_numbers.specs.Knows.{KnowsFunction, KnowsGot, KnowsGlobal}
use Rattle.link_numbers.specs.Laws.{TellsNumbers, KnowsRef}
use Rattle.link_numbers.specs.Numbered.{numbered, IsNumbering}
use Rattle.link_keys.proofs.Any.{any_left, all_map, all_filter, all_filtered, all_each, all_none}
use Rattle.link_keys.proofs.Equals.{OnePlace, one_place, one_place_onto, holds_at, holds_distinct}
use Rattle.link_numbers.proofs.Ordered.{IsNot, one, held, listed}
use Rattle.link_keys.proofs.FirstsTold.{AreFirsts, all_noted as firsts_noted}
use Rattle.link_keys.proofs.Heard.{NotedAre, all_noted}
use Rattle.link_keys.proofs.Imports.{import_equal, import_itself, name_equal, name_itself, both}
use Rattle.link_keys.proofs.ImportsTold.{function_imports_told, global_imports_told}
use Rattle.link_numbers.proofs.KeysTold.{taken_functions, taken_told, read_cells, cells_told, cells_once, made_functions_told, own_functions_told, made_globals_told, own_globals_told, data_told, slots_told, all_taken_known, all_cells_known, ref_function_known, ref_got_known}
use Rattle.link_keys.proofs.Known.{KnownMeaning, KnownRef, all_known, more_known}
use Rattle.link_numbers.proofs.Knows.{tells_function, tells_global}
use Rattle.link_keys.proofs.ToldLists.{number_told}
use Rattle.link_keys.proofs.LiveTold.{told_refs, live_refs_told, windows_told_all, given_told, chunk_is}
use Rattle.link_keys.proofs.StubsTold.{later_names, in_order_of, called, stub_names_are, stubs_told, called_known}
use Rattle.link_keys.proofs.TypesFolded.{folded}
use Rattle.link_numbers.proofs.TypesTold.{import_types_told, made_types, own_types_are, stub_types_told}

-- a list that is mapped twice
pub twice : {A B C : Type 0} (f : B → C) (g : A → B) (h : A → C) → ((x : A) → f (g x) ≡ h x) → (xs : List A) → map f (map g xs) ≡ map h xs
twice f g h each [] = refl
twice f g h each (x ∷ xs) = ap (λ y. y ∷ map f (map g xs)) (each x) ∙ ap (λ ys. h x ∷ ys) (twice f g h each xs)

given_is : {A : Type 0} (b : Bool) (a x : A) → given b a ≡ Some x → (b ≡ true) × (a ≡ x)
given_is true a x e = (refl, cc)
given_is false a x e = absurd cc

not_true : (b : Bool) → not b ≡ true → b ≡ false
not_true true e = absurd cc
not_true false e = refl

pub all_chosen : {A B : Type 0} (P : B → Type 0) (h : A → Option B) → ((a : A) (b : B) → h a ≡ Some b → P b) → (xs : List A) → All P (filter_map h xs)
all_chosen P h each [] = all_none P
all_chosen {A} {B} P h each (x ∷ xs) = by_option (h x) refl (all_chosen P h each xs)
  where
    by_option : (o : Option B) → h x ≡ o → All P (filter_map h xs) → All P (cons_option o (filter_map h xs))
    by_option None is rest = rest
    by_option (Some b) is rest = All-cons P b (filter_map h xs) (each x b is) rest

all_left : {A : Type 0} (P : A → Type 0) (xs ys : List A) → All P (xs ++ ys) → All P xs
all_left P [] ys all = all_none P
all_left P (x ∷ xs) ys all = All-cons P x xs (All-head P x (xs ++ ys) all) (all_left P xs ys (All-tail P x (xs ++ ys) all))

all_right : {A : Type 0} (P : A → Type 0) (xs ys : List A) → All P (xs ++ ys) → All P ys
all_right P [] ys all = all
all_right P (x ∷ xs) ys all = all_right P xs ys (All-tail P x (xs ++ ys) all)

-- of the references of some parts
refs_filtered : (P : Ref → Type 0) (test : rules.Part → Bool) (parts : List rules.Part) → All P (refs_of parts) → All P (refs_of (filter test parts))
refs_filtered P test [] all = all
refs_filtered P test (part ∷ parts) all = by_test (test part) (all_left P (refs part) (refs_of parts) all) (refs_filtered P test parts (all_right P (refs part) (refs_of parts) all))
  where
    by_test : (r : Bool) → All P (refs part) → All P (refs_of (filter test parts)) → All P (refs_of (cond r (part ∷ filter test parts) (filter test parts)))
    by_test true mine rest = All-append P (refs part) (refs_of (filter test parts)) mine rest
    by_test false mine rest = rest

all_seen : {A : Type 0} (P : A → Type 0) (seen : List A) (x : A) (r : Bool) → All P seen → P x → All P (if r then seen else seen ++ x ∷ [])
all_seen P seen x true held px = held
all_seen P seen x false held px = All-append P seen (x ∷ []) held (All-cons P x [] px (all_none P))

all_held : (is : List ImportKey) → All (λ k. list_any (same_import k) is ≡ true) is
all_held is = λ k d below. holds_at same_import import_equal import_itself is k (get_or is k d) (slice_get-get_or is k d below)

-- What is given: the names and imports by number, the tables, the live parts, and what the program is.
pub record Given (mode : Mode) (names words : List (List ℕ)) (imports : List ImportKey) (t : Tables) (symbols : List (List (Option ℕ))) (p : rules.Program) (live : List ℕ) (parts : List rules.Part) : Type 0 where
  pub tables : AreTables names imports t p
  pub from : p.entries ≡ entries mode p.objects
  pub means : p.resolved ≡ resolve mode p.plan.allow_undefined p.entries p.objects
  pub order : names ≡ different_names mode words p.objects ++ variant_names p.variants
  pub apart : All (λ v. list_any (bytes_eq (name_of v)) (different_names mode words p.objects) ≡ false) p.variants
  pub variants : p.variants ≡ loose_variants p.plan.loose_calls p.entries p.resolved
  pub all_imports : imports ≡ keys.all_imports mode p
  pub numbers : symbols ≡ map (λ (o : Object). map (symbol_number names) o.symbols) p.objects
  pub are : map (slice_get p.parts) live ≡ map Some parts
  pub stand : PartsStand p
  pub meant : AllMeant parts

module _ {mode : Mode} {names words : List (List ℕ)} {imports : List ImportKey} {t : Tables} {symbols : List (List (Option ℕ))} {p : rules.Program} {live : List ℕ} {parts : List rules.Part} (g : Given mode names words imports t symbols p live parts) where
  unfoldable pub noted : Noted
  noted = noted_parts t (nothing_noted (length imports) (length names)) live

  -- the names of the linker's symbols are among the first
  made_first : (name : List ℕ) → list_any (bytes_eq name) (map (λ m. m.name) (made mode)) ≡ true → list_any (bytes_eq name) (different_names mode words p.objects) ≡ true
  made_first name is = holds_distinct bytes_eq name_equal name_itself (all_names mode words p.objects) name
      (any_left (bytes_eq name) (map (λ m. m.name) (made mode) ++ flat_map entry_names p.objects ++ flat_map group_names p.objects) words
      (any_left (bytes_eq name) (map (λ m. m.name) (made mode) ++ flat_map entry_names p.objects) (flat_map group_names p.objects)
      (any_left (bytes_eq name) (map (λ m. m.name) (made mode)) (flat_map entry_names p.objects) is)))

  pub known : All (KnownRef mode imports (callable p)) (refs_of parts)
  known =
      subst (λ is. All (KnownRef mode is (callable p)) (refs_of parts)) (sym g.all_imports)
      (all_each (KnownRef mode (imports_in_order p) (callable p)) (KnownRef mode (keys.all_imports mode p) (callable p))
      (λ ref. more_known mode (imports_in_order p) (further_imports mode p.entries p.resolved) (callable p) ref.entry ref.meaning) (refs_of parts)
      (all_known mode p g.from g.means (different_names mode words p.objects) made_first g.variants g.apart live parts g.are g.stand g.meant))

  pub one_import : OnePlace same_import import_equal import_itself imports
  unfolding imports_in_order
  one_import =
      subst (λ is. OnePlace same_import import_equal import_itself is) (sym g.all_imports)
      (one_place_onto same_import import_equal import_itself (imports_in_order p) (further_imports mode p.entries p.resolved)
      (one_place same_import import_equal import_itself (filter_map import_of (flat_map (λ r. r.meanings) p.resolved))))

  abbrev first : List (List ℕ)
  first = map name_of p.entries

  abbrev last : List (List ℕ)
  last = map name_of p.variants

  first_in_order : different_names mode words p.objects ≡ distinct bytes_eq (first ++ later_names words p.objects)
  first_in_order = in_order_of mode words p.objects ∙ ap (λ es. distinct bytes_eq (map name_of es ++ later_names words p.objects)) (sym g.from)

  in_order : names ≡ distinct bytes_eq (first ++ later_names words p.objects) ++ distinct bytes_eq last
  in_order = g.order ∙ ap (λ ns. ns ++ distinct bytes_eq last) first_in_order

  variants_apart : All (IsNot (distinct bytes_eq (first ++ later_names words p.objects))) last
  variants_apart =
      subst (λ ns. All (IsNot ns) last) first_in_order (All-map (IsNot (different_names mode words p.objects)) name_of p.variants g.apart)

  all_named : map name_of (callable p) ≡ first ++ last
  all_named = map-append name_of p.entries p.variants

  pub one_name : OnePlace bytes_eq name_equal name_itself names
  one_name = one names first (later_names words p.objects) last in_order variants_apart

  listed_names : (test : List ℕ → Bool) → ((name : List ℕ) → test name ≡ true → list_any (bytes_eq name) (map name_of (callable p)) ≡ true)
      → distinct bytes_eq (filter test (map name_of (callable p))) ≡ filter test names
  listed_names test known =
      ap (λ ns. distinct bytes_eq (filter test ns)) all_named
      ∙ listed names first (later_names words p.objects) last in_order variants_apart test (λ name is. subst (λ ns. list_any (bytes_eq name) ns ≡ true) all_named (known name is))

  pub refs_told : live_refs t live ≡ told_refs names imports parts
  refs_told = live_refs_told names imports t p g.tables live parts g.are

  pub are_noted : NotedAre (length imports) (length names) (told_refs names imports parts) (window_numbers t live) noted
  unfolding noted
  are_noted = subst (λ rs. NotedAre (length imports) (length names) rs (window_numbers t live) (noted_parts t (nothing_noted (length imports) (length names)) live)) refs_told (all_noted (length imports) (length names) t live)

  pub names_held : (name : List ℕ) → list_any (bytes_eq name) (map name_of (callable p)) ≡ true → list_any (bytes_eq name) names ≡ true
  names_held name is = held names first (later_names words p.objects) last in_order variants_apart name (subst (λ ns. list_any (bytes_eq name) ns ≡ true) all_named is)

  -- ---- functions

  abbrev imported_functions : List ImportKey
  imported_functions = function_imports_of mode p (refs_of parts)

  stub_keys : List (List ℕ)
  stub_keys = filter (called (refs_of parts)) names

  stubs_are : stub_names p (refs_of parts) ≡ stub_keys
  unfolding stub_keys
  stubs_are = stub_names_are mode names imports (callable p) one_name names_held listed_names (refs_of parts) known

  stub_numbers : stubs_listed noted.stubs (length names) ≡ map (number_by bytes_eq names) stub_keys
  unfolding stub_keys
  stub_numbers = stubs_told mode names imports (callable p) one_name names_held listed_names parts known noted.stubs are_noted.stubs

  made_are : own_functions true t live ≡ map (told_function names imports) (filter_map made_function_key parts)
  made_are =
      given_told names imports t p g.tables (λ n. own_function_in true (chunk_at t n)) (λ part. own_function_in true part.chunk) (λ n part at. ap (own_function_in true) (chunk_is names imports t p g.tables n part at)) live parts g.are
      ∙ made_functions_told names imports parts

  own_are : own_functions false t live ≡ map (told_function names imports) (filter_map own_function_key parts)
  own_are =
      given_told names imports t p g.tables (λ n. own_function_in false (chunk_at t n)) (λ part. own_function_in false part.chunk) (λ n part at. ap (own_function_in false) (chunk_is names imports t p g.tables n part at)) live parts g.are
      ∙ own_functions_told names imports parts

  four : {A B : Type 0} (f : A → B) (ws bs cs ds : List A) → map f ws ++ map f bs ++ map f cs ++ map f ds ≡ map f (ws ++ (bs ++ cs ++ ds))
  four f ws bs cs ds =
      append_assoc (map f ws ++ map f bs) (map f cs) (map f ds)
      ∙ append_assoc (map f ws) (map f bs) (map f cs ++ map f ds)
      ∙ ap (λ xs. map f ws ++ (map f bs ++ xs)) (sym (map-append f cs ds))
      ∙ ap (λ xs. map f ws ++ xs) (sym (map-append f bs (cs ++ ds)))
      ∙ sym (map-append f ws (bs ++ (cs ++ ds)))
      ∙ ap (λ xs. map f (ws ++ xs)) (sym (append_assoc bs cs ds))

  -- ---- what is known of functions

  all_kept : All (λ k. list_any (same_import k) imports ≡ true) (keys.all_imports mode p)
  all_kept = subst (λ is. All (λ k. list_any (same_import k) imports ≡ true) is) g.all_imports (all_held imports)

  kept_held : All (λ k. list_any (same_import k) imports ≡ true) imported_functions
  kept_held = all_filtered (λ k. list_any (same_import k) imports ≡ true) (λ k. is_function_type k.type && has_import (used_imports (filter (imports_by mode) (refs_of parts))) k) (keys.all_imports mode p) all_kept

  pub used_held : All (λ k. list_any (same_import k) imports ≡ true) (used_globals mode p (refs_of parts))
  used_held = all_filtered (λ k. list_any (same_import k) imports ≡ true) (λ k. is_global_type k.type && has_import (used_imports (filter (imports_by mode) (refs_of parts))) k) (keys.all_imports mode p) all_kept

  abbrev Stub : List ℕ → Type 0
  Stub name = (list_any (bytes_eq name) names ≡ true) × (list_any (is_named name) (made_from 0 (made mode)) ≡ false)

  stubs_known : All Stub stub_keys
  unfolding stub_keys
  stubs_known =
      all_filter Stub (called (refs_of parts))
      (λ name is. let k = called_known mode names imports (callable p) one_name names_held listed_names (refs_of parts) known name is in (names_held name k.0, k.1)) names

  abbrev pub K : keys.FunctionKey → Type 0
  K f = KnowsFunction names imports f

  made_known : (part : rules.Part) (f : keys.FunctionKey) → made_function_key part ≡ Some f → K f
  made_known part f is = let e = given_is ((part.chunk.input == 0) && (part.chunk.kind == 0)) (linker_function part.chunk.index) f is in subst (λ f. K f) e.1 tt

  own_known : (part : rules.Part) (f : keys.FunctionKey) → own_function_key part ≡ Some f → K f
  own_known part f is =
      let e = given_is (not (part.chunk.input == 0) && (part.chunk.kind == 0)) (own part.chunk.input part.chunk.index) f is in
      let some = (both (not (part.chunk.input == 0)) (part.chunk.kind == 0) e.0).0 in
      subst (λ f. K f) e.1 (not_true (part.chunk.input == 0) some)

  pub functions_known : All K (functions mode p parts)
  unfolding functions
  functions_known =
      All-append K (map outside imported_functions) (filter_map made_function_key parts ++ map stub (stub_names p (refs_of parts)) ++ filter_map own_function_key parts)
      (all_map K outside imported_functions kept_held)
      (All-append K (filter_map made_function_key parts ++ map stub (stub_names p (refs_of parts))) (filter_map own_function_key parts)
      (All-append K (filter_map made_function_key parts) (map stub (stub_names p (refs_of parts)))
      (all_chosen K made_function_key made_known parts)
      (all_map K stub (stub_names p (refs_of parts)) (subst (λ ns. All (λ n. list_any (bytes_eq n) names ≡ true) ns) (sym stubs_are) (all_each Stub (λ n. list_any (bytes_eq n) names ≡ true) (λ n k. k.0) stub_keys stubs_known))))
      (all_chosen K own_function_key own_known parts))

  -- ---- types

  column : List (Option At)
  column = firsts_rows 0 (replicate (length names) None) symbols

  column_is : AreFirsts names p.objects (flat_map (symbols_of p.objects) p.objects) column
  unfolding column
  column_is = subst (λ rows. AreFirsts names p.objects (flat_map (symbols_of p.objects) p.objects) (firsts_rows 0 (replicate (length names) None) rows)) (sym g.numbers)
      (firsts_noted names one_name p.objects)

  abbrev T : keys.FunctionKey → FuncType
  T f = type_of p parts f

  abbrev stub_lists : StubTypes
  stub_lists = record { objects = p.objects; firsts = column; types = t.types; variants = t.variants }

  folds : {A B : Type 0} (f : B → A → B) (a : B) (ws bs cs ds : List A) → fold f a (ws ++ bs ++ cs ++ ds) ≡ fold f (fold f (fold f (fold f a ws) bs) cs) ds
  folds f a ws bs cs ds =
      fold-append f a (ws ++ bs ++ cs) ds
      ∙ ap (λ x. fold f x ds) (fold-append f a (ws ++ bs) cs)
      ∙ ap (λ x. fold f (fold f x cs) ds) (fold-append f a ws bs)

  abbrev all_of : List FuncType
  all_of = types p parts (functions mode p parts)

  -- What is noted of references, as far as functions and types go by it: the imported functions are those of the definition, and stubs and
  -- windows are as they were noted.
  pub record Lists (m : Noted) : Type 0 where
    pub imported : function_imports imports m.imports ≡ map (number_by same_import imports) (function_imports_of mode p (refs_of parts))
    pub stubs : m.stubs ≡ (noted_parts t (nothing_noted (length imports) (length names)) live).stubs
    pub windows : m.windows ≡ (noted_parts t (nothing_noted (length imports) (length names)) live).windows

  module _ {m : Noted} (l : Lists m) where
    stubs_listed_are : stubs_listed m.stubs (length names) ≡ map (number_by bytes_eq names) stub_keys
    unfolding noted
    stubs_listed_are = ap (λ fs. stubs_listed fs (length names)) l.stubs ∙ stub_numbers

    outside_told : map function_keys.Import (function_imports imports m.imports) ≡ map (told_function names imports) (map outside imported_functions)
    outside_told =
        ap (map function_keys.Import) l.imported
        ∙ twice function_keys.Import (number_by same_import imports) (λ k. function_keys.Import (number_by same_import imports k)) (λ k. refl) imported_functions
        ∙ sym (twice (told_function names imports) outside (λ k. function_keys.Import (number_by same_import imports k)) (λ k. refl) imported_functions)

    stub_told : map function_keys.Stub (stubs_listed m.stubs (length names)) ≡ map (told_function names imports) (map stub (stub_names p (refs_of parts)))
    stub_told =
        ap (map function_keys.Stub) stubs_listed_are
        ∙ twice function_keys.Stub (number_by bytes_eq names) (λ n. function_keys.Stub (number_by bytes_eq names n)) (λ n. refl) stub_keys
        ∙ sym (twice (told_function names imports) stub (λ n. function_keys.Stub (number_by bytes_eq names n)) (λ n. refl) stub_keys)
        ∙ ap (λ ns. map (told_function names imports) (map stub ns)) (sym stubs_are)

    -- The functions.
    pub functions_are : functions_listed imports (length names) t live m ≡ map (told_function names imports) (functions mode p parts)
    unfolding functions
    functions_are =
        ap (λ xs. xs ++ own_functions true t live ++ map function_keys.Stub (stubs_listed m.stubs (length names)) ++ own_functions false t live) outside_told
        ∙ ap (λ xs. map (told_function names imports) (map outside imported_functions) ++ xs ++ map function_keys.Stub (stubs_listed m.stubs (length names)) ++ own_functions false t live) made_are
        ∙ ap (λ xs. map (told_function names imports) (map outside imported_functions) ++ map (told_function names imports) (filter_map made_function_key parts) ++ xs ++ own_functions false t live) stub_told
        ∙ ap (λ xs. map (told_function names imports) (map outside imported_functions) ++ map (told_function names imports) (filter_map made_function_key parts) ++ map (told_function names imports) (map stub (stub_names p (refs_of parts))) ++ xs) own_are
        ∙ four (told_function names imports) (map outside imported_functions) (filter_map made_function_key parts) (map stub (stub_names p (refs_of parts))) (filter_map own_function_key parts)

    import_types_are : import_types imports m.imports ≡ map T (map outside imported_functions)
    import_types_are =
        ap (map (λ i. kept_type (slice_get imports i))) l.imported
        ∙ import_types_told p parts imports imported_functions kept_held

    stub_types_are : stub_types stub_lists m.stubs (length names) ≡ map T (map stub (stub_names p (refs_of parts)))
    stub_types_are =
        ap (map (stub_type stub_lists (length names))) stubs_listed_are
        ∙ stub_types_told mode names p parts g.from column column_is (first ++ later_names words p.objects) in_order variants_apart (λ name is. any_left (bytes_eq name) first (later_names words p.objects) is) t.types t.variants g.tables.variants stub_keys stubs_known
        ∙ ap (λ ns. map T (map stub ns)) (sym stubs_are)

    all_types : List FuncType
    all_types = import_types imports m.imports ++ own_types true t live ++ stub_types stub_lists m.stubs (length names) ++ own_types false t live

    all_types_are : all_types ≡ map T (functions mode p parts)
    unfolding all_types functions
    all_types_are =
        let ws = map outside imported_functions in
        let bs = filter_map made_function_key parts in
        let cs = map stub (stub_names p (refs_of parts)) in
        let ds = filter_map own_function_key parts in
        ap (λ xs. xs ++ own_types true t live ++ stub_types stub_lists m.stubs (length names) ++ own_types false t live) import_types_are
        ∙ ap (λ xs. map T ws ++ xs ++ stub_types stub_lists m.stubs (length names) ++ own_types false t live) (made_types p g.tables.differ live parts g.are names imports t g.tables)
        ∙ ap (λ xs. map T ws ++ map T bs ++ xs ++ own_types false t live) stub_types_are
        ∙ ap (λ xs. map T ws ++ map T bs ++ map T cs ++ xs) (own_types_are p g.tables.differ live parts g.are names imports t g.tables)
        ∙ four T ws bs cs ds

    windows_noted : m.windows ≡ distinct nat_eq (window_numbers t live)
    unfolding noted
    windows_noted = l.windows ∙ are_noted.windows

    pub types_are : types_listed imports (length names) t p.objects (firsts_rows 0 (replicate (length names) None) symbols) live m
        ≡ record { table = all_of; numbers = map (λ f. type_number_in all_of (type_of p parts f)) (functions mode p parts) }
    unfolding types column all_types
    types_are =
        ap (λ x. with_windows t.types x m.windows) (sym (folds with_numbered no_types (import_types imports m.imports) (own_types true t live) (stub_types stub_lists m.stubs (length names)) (own_types false t live)))
        ∙ ap (λ x. with_windows t.types (fold with_numbered no_types x) m.windows) all_types_are
        ∙ ap (with_windows t.types (fold with_numbered no_types (map T (functions mode p parts)))) windows_noted
        ∙ folded (map T (functions mode p parts)) t.types (window_numbers t live) (window_types parts) (windows_told_all names imports t p g.tables live parts g.are)
        ∙ ap (λ ns. record { table = all_of; numbers = ns }) (twice (type_number_in all_of) T (λ f. type_number_in all_of (type_of p parts f)) (λ f. refl) (functions mode p parts))

  -- ---- globals that both modes have

  pub own_globals_are : own_globals false t live ≡ map (told_global imports) (filter_map own_global_key parts)
  own_globals_are =
      given_told names imports t p g.tables (λ n. own_global_in false (chunk_at t n)) (λ part. own_global_in false part.chunk) (λ n part at. ap (own_global_in false) (chunk_is names imports t p g.tables n part at)) live parts g.are
      ∙ own_globals_told names imports parts

  pub code_known : All (KnownRef mode imports (callable p)) (refs_of (parts_of_kind 0 parts))
  code_known = refs_filtered (KnownRef mode imports (callable p)) (λ part. part.chunk.kind == 0) parts known

  pub cells_noted : noted.cells ≡ map (told_got imports) (distinct same_got (read_cells names imports (refs_of (parts_of_kind 0 parts))))
  cells_noted =
      are_noted.cells ∙ ap (distinct same_got_key) (cells_told names imports parts)
      ∙ cells_once names imports (read_cells names imports (refs_of (parts_of_kind 0 parts))) (all_cells_known names imports mode (callable p) names_held (refs_of (parts_of_kind 0 parts)) code_known)

  -- ---- what is known of globals

  pub all_once : {A : Type 0} (P : A → Type 0) (same : A → A → Bool) (seen xs : List A) → All P seen → All P xs → All P (distinct_onto same seen xs)
  all_once P same seen [] held all = held
  all_once P same seen (x ∷ xs) held all = all_once P same (if list_any (same x) seen then seen else seen ++ x ∷ []) xs (all_seen P seen x (list_any (same x) seen) held (All-head P x xs all)) (All-tail P x xs all)

  abbrev pub G : keys.GlobalKey → Type 0
  G k = KnowsGlobal imports k

  pub made_global_known : (part : rules.Part) (k : keys.GlobalKey) → made_global_key part ≡ Some k → G k
  made_global_known part k is = let e = given_is ((part.chunk.input == 0) && (part.chunk.kind == 2)) (linker_global part.chunk.index) k is in subst (λ k. G k) e.1 tt

  pub own_global_known : (part : rules.Part) (k : keys.GlobalKey) → own_global_key part ≡ Some k → G k
  own_global_known part k is =
      let e = given_is (not (part.chunk.input == 0) && (part.chunk.kind == 2)) (own_global part.chunk.input part.chunk.index) k is in
      let some = (both (not (part.chunk.input == 0)) (part.chunk.kind == 2) e.0).0 in
      subst (λ k. G k) e.1 (not_true (part.chunk.input == 0) some)

  pub datum_known : (e : InputSymbol) (k : keys.GlobalKey) → datum_key e ≡ Some k → G k
  datum_known e k is = let x = given_is (is_kind Datum e) (exported_datum e) k is in subst (λ k. G k) x.1 tt

  pub null_entry : (ref : Ref) (m : Meaning) → KnownMeaning mode imports (callable p) ref.entry m → is_null m ≡ true → is_entry ref.entry ≡ true
  null_entry ref (here e) k is = absurd cc
  null_entry ref (imported i) k is = absurd cc
  null_entry ref null k is = k.entry
  null_entry ref nothing k is = absurd cc

-- ---- a plain output

module _ {names words : List (List ℕ)} {imports : List ImportKey} {t : Tables} {symbols : List (List (Option ℕ))} {p : rules.Program} {live : List ℕ} {parts : List rules.Part} (g : Given Plain names words imports t symbols p live parts) where
  used_are : global_imports imports (noted g).imports ≡ map (number_by same_import imports) (used_globals Plain p (refs_of parts))
  used_are =
      global_imports_told Plain names imports (one_import g) (callable p) parts (known g) (noted g).imports (are_noted g).imports
      ∙ ap (λ is. map (number_by same_import imports) (filter (λ k. is_global_type k.type && has_import (used_imports (filter (imports_by Plain) (refs_of parts))) k) is)) g.all_imports

  lists : Lists g (noted g)
  unfolding noted
  lists = record {
    imported = function_imports_told Plain names imports (one_import g) (callable p) parts (known g) (noted g).imports (are_noted g).imports
        ∙ ap (λ is. map (number_by same_import imports) (filter (λ k. is_function_type k.type && has_import (used_imports (filter (imports_by Plain) (refs_of parts))) k) is)) g.all_imports;
    stubs = refl;
    windows = refl;
  }

  -- ---- slots

  pub slots_are : slots_listed (noted g).taken (functions_listed imports (length names) t live (noted g)) ≡ map (told_function names imports) (slots Plain parts (functions Plain p parts))
  unfolding slots
  slots_are =
      ap (slots_listed (noted g).taken) (functions_are g lists)
      ∙ slots_told names imports (noted g).taken (taken_functions names imports (refs_of parts)) (functions Plain p parts)
      ((are_noted g).taken ∙ ap (λ ks. distinct same_code (map function_code ks)) (taken_told names imports Plain (callable p) parts (known g)))
      (all_taken_known names imports Plain (callable p) (names_held g) (refs_of parts) (known g)) (functions_known g)

  -- ---- globals

  outside_globals_told : map global_keys.Import (global_imports imports (noted g).imports) ≡ map (told_global imports) (map outside_global (global_imports_in Plain p parts))
  outside_globals_told =
      ap (map global_keys.Import) used_are
      ∙ twice global_keys.Import (number_by same_import imports) (λ k. global_keys.Import (number_by same_import imports k)) (λ k. refl) (used_globals Plain p (refs_of parts))
      ∙ sym (twice (told_global imports) outside_global (λ k. global_keys.Import (number_by same_import imports k)) (λ k. refl) (used_globals Plain p (refs_of parts)))

  made_globals_are : own_globals true t live ≡ map (told_global imports) (made_globals Plain parts)
  made_globals_are =
      given_told names imports t p g.tables (λ n. own_global_in true (chunk_at t n)) (λ part. own_global_in true part.chunk) (λ n part at. ap (own_global_in true) (chunk_is names imports t p g.tables n part at)) live parts g.are
      ∙ made_globals_told names imports parts

  cells_are : map global_keys.Got (noted g).cells ≡ map (told_global imports) (map got (got_entries Plain parts))
  cells_are =
      ap (map global_keys.Got) (cells_noted g)
      ∙ twice global_keys.Got (told_got imports) (λ c. global_keys.Got (told_got imports c)) (λ c. refl) (got_entries Plain parts)
      ∙ sym (twice (told_global imports) got (λ c. global_keys.Got (told_got imports c)) (λ c. refl) (got_entries Plain parts))

  pub globals_are : (exports : List Winner) (es : List InputSymbol) → exports ≡ map (told_winner names) es
      → globals_listed imports t live exports (noted g) ≡ map (told_global imports) (globals Plain p parts es)
  unfolding globals
  globals_are exports es told =
      let F = told_global imports in
      let ws = map outside_global (global_imports_in Plain p parts) in
      let bs = made_globals Plain parts in
      let cs = filter_map own_global_key parts in
      let ds = map got (got_entries Plain parts) in
      let fs = filter_map datum_key es in
      let data_are : filter_map datum_listed exports ≡ map F fs = ap (filter_map datum_listed) told ∙ data_told names imports es in
      ap (λ xs. xs ++ own_globals true t live ++ own_globals false t live ++ map global_keys.Got (noted g).cells ++ filter_map datum_listed exports) outside_globals_told
      ∙ ap (λ xs. map F ws ++ xs ++ own_globals false t live ++ map global_keys.Got (noted g).cells ++ filter_map datum_listed exports) made_globals_are
      ∙ ap (λ xs. map F ws ++ map F bs ++ xs ++ map global_keys.Got (noted g).cells ++ filter_map datum_listed exports) (own_globals_are g)
      ∙ ap (λ xs. map F ws ++ map F bs ++ map F cs ++ xs ++ filter_map datum_listed exports) cells_are
      ∙ ap (λ xs. map F ws ++ map F bs ++ map F cs ++ map F ds ++ xs) data_are
      ∙ ap (λ xs. xs ++ map F fs) (four g F ws bs cs ds)
      ∙ sym (map-append F (ws ++ (bs ++ cs ++ ds)) fs)
      ∙ ap (map F) (append_assoc ws (bs ++ cs ++ ds) fs)

  -- ---- all

  pub numbering_is : (exports : List Winner) (es : List InputSymbol) → exports ≡ map (told_winner names) es
      → IsNumbering names imports t.types p parts (numbered imports (length names) t p.objects symbols exports live) (numbers Plain p parts es)
  unfolding noted
  numbering_is exports es told =
      let y = types_are g lists in
      record {
        functions = functions_are g lists;
        slots = slots_are;
        first_slot = refl;
        globals = globals_are exports es told;
        types = ap (λ x. x.table) y;
        function_types = ap (λ x. x.numbers) y;
        type_numbers = ap (λ x. map (type_number_in x.table) t.types) y;
      }

  -- ---- the laws

  globals_known : (es : List InputSymbol) → All (G g) (globals Plain p parts es)
  unfolding globals
  globals_known es =
      All-append (G g) (map outside_global (global_imports_in Plain p parts)) (made_globals Plain parts ++ filter_map own_global_key parts ++ map got (got_entries Plain parts) ++ filter_map datum_key es)
      (all_map (G g) outside_global (global_imports_in Plain p parts) (used_held g))
      (All-append (G g) (made_globals Plain parts ++ filter_map own_global_key parts ++ map got (got_entries Plain parts)) (filter_map datum_key es)
      (All-append (G g) (made_globals Plain parts ++ filter_map own_global_key parts) (map got (got_entries Plain parts))
      (All-append (G g) (made_globals Plain parts) (filter_map own_global_key parts)
      (all_chosen (G g) made_global_key (made_global_known g) parts)
      (all_chosen (G g) own_global_key (own_global_known g) parts))
      (all_map (G g) got (got_entries Plain parts) (all_once g (KnowsGot imports) same_got [] (read_cells names imports (refs_of (parts_of_kind 0 parts))) (all_none (KnowsGot imports)) (all_cells_known names imports Plain (callable p) (names_held g) (refs_of (parts_of_kind 0 parts)) (code_known g)))))
      (all_chosen (G g) datum_key (datum_known g) es))

  slots_known : All (K g) (slots Plain parts (functions Plain p parts))
  unfolding slots
  slots_known = all_filtered (K g) (is_taken (taken_functions names imports (refs_of parts))) (functions Plain p parts) (functions_known g)

  pub tells_numbers : (es : List InputSymbol) → TellsNumbers names imports (numbers Plain p parts es)
  tells_numbers es = record {
    functions = λ f kf. number_told (told_function names imports) same_function same_function_key (KnowsFunction names imports) (tells_function names imports) f (functions Plain p parts) kf (functions_known g);
    slots = λ f kf. number_told (told_function names imports) same_function same_function_key (KnowsFunction names imports) (tells_function names imports) f (slots Plain parts (functions Plain p parts)) kf slots_known;
    globals = λ k kk. number_told (told_global imports) same_global same_global_key (KnowsGlobal imports) (tells_global imports) k (globals Plain p parts es) kk (globals_known es);
  }

  global_of_known : (e : InputSymbol) (r : Bool) → (e.input == 0) ≡ r → G g (if r then linker_global e.place else own_global e.input e.index)
  global_of_known e true is = tt
  global_of_known e false is = is

  meant_global_known : (ref : Ref) (m : Meaning) → KnownMeaning Plain imports (callable p) ref.entry m → KnowsGot imports (ref_got ref) → G g (meant_global Plain ref m)
  meant_global_known ref (here e) k cell = global_of_known e (e.input == 0) refl
  meant_global_known ref (imported i) k cell = k
  meant_global_known ref null k cell = cell
  meant_global_known ref nothing k cell = cell

  ref_global_known : (ref : Ref) (r : Bool) → KnownRef Plain imports (callable p) ref → KnowsGot imports (ref_got ref) → G g (if r then meant_global Plain ref ref.meaning else got (ref_got ref))
  ref_global_known ref true k cell = meant_global_known ref ref.meaning k cell
  ref_global_known ref false k cell = cell

  knows_ref : (ref : Ref) → KnownRef Plain imports (callable p) ref → KnowsRef names imports ref
  knows_ref ref k = record {
    function = ref_function_known names imports Plain (callable p) (names_held g) ref k;
    global = ref_global_known ref (is_kind GlobalVar ref.entry) k (ref_got_known names imports Plain (callable p) (names_held g) ref k);
    named = null_entry g ref ref.meaning k;
  }

  pub knows_refs : All (KnowsRef names imports) (refs_of parts)
  knows_refs = all_each (KnownRef Plain imports (callable p)) (KnowsRef names imports) knows_ref (refs_of parts) (known g)

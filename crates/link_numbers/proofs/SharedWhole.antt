-- The numbers that the data give of a shared output are those of the definition, as they are told.
use Rattle.std.proofs.Common.{◌≡◌, ℕ, get_or, ◌==◌, Bool, true, false, ◌&&◌, ◌||◌, cond, List, [], ◌∷◌, ◌++◌, map, filter, filter_map, fold, replicate, length, Option, Some, None, option_map, refl, sym, ap, subst, ◌∙◌, append_assoc, append-nil}
use Rattle.std.specs.Prelude.{if◌then◌else◌}
use Rattle.std.specs.List.{list_any, All, AllZip}
use Rattle.std.proofs.lemmas.List.{map-append}
use Rattle.std.proofs.lemmas.List.Elements.{All-cons, All-append, filter-append}
use Rattle.link_keys.specs.link_program.wl_base.Choice.{distinct, distinct_onto}
use Rattle.link_keys.specs.link_program.made_symbols.declared.mode.Mode.TheVariants.{Plain, Shared}
use Rattle.link_keys.specs.link_program.index_layout.Numbers.{number_by}
use Rattle.link_keys.specs.link_program.name_rules.Entries.{InputSymbol, ImportKey, same_import, name_of, is_kind}
use Rattle.link_keys.specs.link_program.linking_section.declared.symbol.SymbolKind.TheVariants.{GlobalVar}
use Rattle.link_keys.specs.link_program.name_rules.Meanings.{Meaning, here, imported, null, nothing, cell_of}
use Rattle.link_keys.specs.link_program.name_rules.Further.{is_here, made_imports}
use Rattle.link_keys.specs.link_program.name_meanings.Means.{IsNumberOf}
use Rattle.link_keys.specs.link_program.link_rules.Program as rules
use Rattle.link_keys.specs.link_program.link_rules.Program.{Ref}
use Rattle.link_keys.specs.link_program.link_rules.Marks.{refs_of, reads_cell, is_foreign}
use Rattle.link_keys.specs.link_program.link_rules.Keys as keys
use Rattle.link_keys.specs.link_program.link_rules.Keys.{outside, linker_function, stub, own, got_entry, got_import, got_null, got, outside_global, own_global, same_function, same_got, same_global, linker_key, meant_global, cell_key, is_taken, meant_function, ref_function, ref_got, got_of, has_import, used_imports, imports_by, is_function_type, is_global_type, callable, may_have_slot, takes_slot, slots, functions, foreign_cells, used_globals, global_imports_in, own_global_key, needs_got, got_entries, parts_of_kind, datum_key, globals, type_of, numbers}
use Rattle.link_keys.specs.link_program.declared.keys.GlobalKey.{GlobalKey}
use Rattle.link_keys.specs.link_program.declared.keys.GlobalKey.TheVariants as global_keys
use Rattle.link_keys.specs.link_program.declared.symbol.Winner.{Winner}
use Rattle.link_keys.specs.link_program.declared.program.Tables.{Tables}
use Rattle.link_keys.specs.link_program.Told.{told_winner}
use Rattle.link_keys.specs.link_program.Keys.{told_function, told_got, told_global, same_function_key, same_global_key}
use Rattle.link_keys.specs.Codes.{same_code, function_code}
use Rattle.link_keys.specs.Firsts.{firsts_rows}
use Rattle.link_keys.specs.Noted.{Noted, flagged, noted_parts, nothing_noted}
use Rattle.link_keys.specs.Lists.{global_imports, own_globals, functions_listed, slots_listed, datum_listed}
use Rattle.link_keys.specs.Types.{types_listed, type_number_in}
use Rattle.shared_keys.specs.Called.{flag_parts}
use Rattle.shared_keys.specs.Cells.{OneEach}
use Rattle.shared_keys.specs.Lists.{is_own_function, is_own_cell, own_cells, import_numbers, globals_by, globals_listed}
use Rattle.link_numbers.specs.Knows.{KnowsFunction, KnowsGot, KnowsGlobal}
use Rattle.link_numbers.specs.Laws.{TellsNumbers, KnowsSharedRef}
use Rattle.link_numbers.specs.Numbered.{IsNumbering}
use Rattle.link_numbers.specs.SharedNumbered.{shared_slots}
use Rattle.link_keys.proofs.Any.{any_map, any_filter, any_same, all_each, all_none, all_map, all_filtered}
use Rattle.link_keys.proofs.Equals.{number_is}
use Rattle.link_keys.proofs.Known.{KnownMeaning, KnownRef}
use Rattle.link_keys.proofs.Imports.{import_equal, import_itself}
use Rattle.link_keys.proofs.LiveTold.{told_refs}
use Rattle.link_keys.proofs.ToldLists.{number_told}
use Rattle.shared_keys.proofs.CalledTold.{called, parts_flagged, function_imports_called, global_imports_called}
use Rattle.shared_keys.proofs.GlobalsTold.{AreImports, imports_told, made_told}
use Rattle.link_numbers.proofs.KeysTold.{taken_functions, taken_told, data_told, slots_told, all_taken_known, ref_function_known, ref_got_known}
use Rattle.link_numbers.proofs.Knows.{tells_function, tells_global}
use Rattle.link_numbers.proofs.Whole.{Given, noted, known, one_import, names_held, refs_told, are_noted, K, G, functions_known, used_held, Lists, functions_are, types_are, own_globals_are, cells_noted, all_once, null_entry, own_global_known, datum_known, twice, all_chosen}

-- ---- functions that have slots

abbrev is_defined : keys.FunctionKey → Bool
is_defined (outside k) = false
is_defined (linker_function n) = true
is_defined (stub name) = false
is_defined (own input index) = true

and_none : (b : Bool) → false ≡ (b && false)
and_none true = refl
and_none false = refl

not_outside : (k : ImportKey) (d : InputSymbol) (r : Bool) → same_function (outside k) (if r then linker_function d.place else own d.input d.index) ≡ false
not_outside k d true = refl
not_outside k d false = refl

not_stub : (name : List ℕ) (d : InputSymbol) (r : Bool) → same_function (stub name) (if r then linker_function d.place else own d.input d.index) ≡ false
not_stub name d true = refl
not_stub name d false = refl

-- A defined function is taken in both modes, or in neither; no other is in a shared output.
one_taken : (f : keys.FunctionKey) (name : List ℕ) (m : Meaning) (a : Bool)
    → (is_defined f && ((may_have_slot Plain m && a) && same_function f (meant_function name m))) ≡ ((may_have_slot Shared m && a) && same_function f (meant_function name m))
one_taken (outside k) name (here d) a = and_none a ∙ ap (λ b. a && b) (sym (not_outside k d (d.input == 0)))
one_taken (linker_function n) name (here d) a = refl
one_taken (stub n) name (here d) a = and_none a ∙ ap (λ b. a && b) (sym (not_stub n d (d.input == 0)))
one_taken (own i n) name (here d) a = refl
one_taken (outside k) name (imported j) a = refl
one_taken (linker_function n) name (imported j) a = sym (and_none a)
one_taken (stub n) name (imported j) a = refl
one_taken (own i n) name (imported j) a = sym (and_none a)
one_taken (outside k) name null a = refl
one_taken (linker_function n) name null a = refl
one_taken (stub n) name null a = refl
one_taken (own i n) name null a = refl
one_taken (outside k) name nothing a = refl
one_taken (linker_function n) name nothing a = sym (and_none a)
one_taken (stub n) name nothing a = refl
one_taken (own i n) name nothing a = sym (and_none a)

any_and : {A : Type 0} (d : Bool) (test : A → Bool) (xs : List A) → (d && list_any test xs) ≡ list_any (λ x. d && test x) xs
any_and true test xs = refl
any_and false test [] = refl
any_and false test (x ∷ xs) = any_and false test xs

taken_both : (f : keys.FunctionKey) (rs : List Ref) → (is_defined f && is_taken (map ref_function (filter (takes_slot Plain) rs)) f) ≡ is_taken (map ref_function (filter (takes_slot Shared) rs)) f
taken_both f rs =
    ap (λ b. is_defined f && b) (any_map (same_function f) ref_function (filter (takes_slot Plain) rs) ∙ any_filter (λ ref. same_function f (ref_function ref)) (takes_slot Plain) rs)
    ∙ any_and (is_defined f) (λ ref. takes_slot Plain ref && same_function f (ref_function ref)) rs
    ∙ any_same (λ ref. is_defined f && (takes_slot Plain ref && same_function f (ref_function ref))) (λ ref. takes_slot Shared ref && same_function f (ref_function ref)) rs
    (λ k d below. each (get_or rs k d))
    ∙ sym (any_map (same_function f) ref_function (filter (takes_slot Shared) rs) ∙ any_filter (λ ref. same_function f (ref_function ref)) (takes_slot Shared) rs)
  where
    each : (ref : Ref) → (is_defined f && (takes_slot Plain ref && same_function f (ref_function ref))) ≡ (takes_slot Shared ref && same_function f (ref_function ref))
    each ref = one_taken f (name_of ref.entry) ref.meaning _

filter_twice : {A : Type 0} (p q r : A → Bool) → ((x : A) → (q x && p x) ≡ r x) → (xs : List A) → filter p (filter q xs) ≡ filter r xs
filter_twice p q r each [] = refl
filter_twice {A} p q r each (x ∷ xs) = by (q x) (p x) refl refl (filter_twice p q r each xs) ∙ ap (λ b. cond b (x ∷ filter r xs) (filter r xs)) (each x)
  where
    by : (a b : Bool) → q x ≡ a → p x ≡ b → filter p (filter q xs) ≡ filter r xs → filter p (cond a (x ∷ filter q xs) (filter q xs)) ≡ cond (a && b) (x ∷ filter r xs) (filter r xs)
    by true true ea eb again = ap (λ c. cond c (x ∷ filter p (filter q xs)) (filter p (filter q xs))) eb ∙ ap (λ ys. x ∷ ys) again
    by true false ea eb again = ap (λ c. cond c (x ∷ filter p (filter q xs)) (filter p (filter q xs))) eb ∙ again
    by false b ea eb again = again

rule_slots : (rs : List Ref) (fs : List keys.FunctionKey) → filter (is_taken (map ref_function (filter (takes_slot Plain) rs))) (filter is_defined fs) ≡ filter (is_taken (map ref_function (filter (takes_slot Shared) rs))) fs
rule_slots rs fs = filter_twice (is_taken (map ref_function (filter (takes_slot Plain) rs))) is_defined (is_taken (map ref_function (filter (takes_slot Shared) rs))) (λ f. taken_both f rs) fs

-- ---- lists that are told, filtered

filter_told : {A B : Type 0} (f : A → B) (p : B → Bool) (q : A → Bool) → ((x : A) → p (f x) ≡ q x) → (xs : List A) → filter p (map f xs) ≡ map f (filter q xs)
filter_told f p q each [] = refl
filter_told f p q each (x ∷ xs) =
    ap (λ b. cond b (f x ∷ filter p (map f xs)) (filter p (map f xs))) (each x)
    ∙ ap (λ ys. cond (q x) (f x ∷ ys) ys) (filter_told f p q each xs)
    ∙ by (q x)
  where
    by : (b : Bool) → cond b (f x ∷ map f (filter q xs)) (map f (filter q xs)) ≡ map f (cond b (x ∷ filter q xs) (filter q xs))
    by true = refl
    by false = refl

-- ---- lists without repeats, filtered by what equal items agree in

module _ {A : Type 0} (same : A → A → Bool) (test : A → Bool) (alike : (x y : A) → same x y ≡ true → test x ≡ test y) where
  filter_one : (seen : List A) (x : A) → test x ≡ true → list_any (same x) (filter test seen) ≡ list_any (same x) seen
  filter_one [] x is = refl
  filter_one (y ∷ seen) x is = by_head (test y) refl (filter_one seen x is)
    where
      by_same : (r : Bool) → same x y ≡ r → test y ≡ false → list_any (same x) (filter test seen) ≡ list_any (same x) seen → list_any (same x) (filter test seen) ≡ (r || list_any (same x) seen)
      by_same true s isnt again = absurd (let z : true ≡ false = sym is ∙ alike x y s ∙ isnt in cc)
      by_same false s isnt again = again

      by_head : (r : Bool) → test y ≡ r → list_any (same x) (filter test seen) ≡ list_any (same x) seen → list_any (same x) (cond r (y ∷ filter test seen) (filter test seen)) ≡ (same x y || list_any (same x) seen)
      by_head true e again = ap (λ r. same x y || r) again
      by_head false e again = by_same (same x y) refl e again

  filter_once_onto : (seen xs : List A) → distinct_onto same (filter test seen) (filter test xs) ≡ filter test (distinct_onto same seen xs)
  filter_once_onto seen [] = refl
  filter_once_onto seen (x ∷ xs) = by_test (test x) refl (filter_once_onto (if list_any (same x) seen then seen else seen ++ x ∷ []) xs)
    where
      more : (s : Bool) → (if s then filter test seen else filter test seen ++ filter test (x ∷ [])) ≡ filter test (if s then seen else seen ++ x ∷ [])
      more true = refl
      more false = sym (filter-append test seen (x ∷ []))

      kept : (s : Bool) → test x ≡ false → filter test seen ≡ (if s then filter test seen else filter test seen ++ filter test (x ∷ []))
      kept true is = refl
      kept false is = rw (is, append-nil) refl

      by_test : (r : Bool) → test x ≡ r → distinct_onto same (filter test (if list_any (same x) seen then seen else seen ++ x ∷ [])) (filter test xs) ≡ filter test (distinct_onto same (if list_any (same x) seen then seen else seen ++ x ∷ []) xs)
          → distinct_onto same (filter test seen) (cond r (x ∷ filter test xs) (filter test xs)) ≡ filter test (distinct_onto same (if list_any (same x) seen then seen else seen ++ x ∷ []) xs)
      by_test true is again =
          let one : filter test (x ∷ []) ≡ x ∷ [] = rw is refl in
          ap (λ s. distinct_onto same (if s then filter test seen else filter test seen ++ x ∷ []) (filter test xs)) (filter_one seen x is)
          ∙ ap (λ o. distinct_onto same (if list_any (same x) seen then filter test seen else filter test seen ++ o) (filter test xs)) (sym one)
          ∙ ap (λ s. distinct_onto same s (filter test xs)) (more (list_any (same x) seen))
          ∙ again
      by_test false is again =
          ap (λ s. distinct_onto same s (filter test xs)) (kept (list_any (same x) seen) is ∙ more (list_any (same x) seen))
          ∙ again

  filter_once : (xs : List A) → filter test (distinct same xs) ≡ distinct same (filter test xs)
  filter_once xs = sym (filter_once_onto [] xs)

-- ---- cells

abbrev is_entry_key : keys.GotKey → Bool
is_entry_key (got_entry e) = true
is_entry_key (got_import k) = false
is_entry_key (got_null kind) = false

entry_alike : (x y : keys.GotKey) → same_got x y ≡ true → is_entry_key x ≡ is_entry_key y
entry_alike (got_entry a) (got_entry b) is = refl
entry_alike (got_entry a) (got_import k) is = absurd cc
entry_alike (got_entry a) (got_null n) is = absurd cc
entry_alike (got_import k) (got_entry b) is = absurd cc
entry_alike (got_import k) (got_import j) is = refl
entry_alike (got_import k) (got_null n) is = refl
entry_alike (got_null n) (got_entry b) is = absurd cc
entry_alike (got_null n) (got_import j) is = refl
entry_alike (got_null n) (got_null j) is = refl

entry_here : (kind : ℕ) (m : Meaning) → is_entry_key (got_of kind m) ≡ is_here m
entry_here kind (here e) = refl
entry_here kind (imported k) = refl
entry_here kind null = refl
entry_here kind nothing = refl

read_here : (rs : List Ref) → filter is_entry_key (map ref_got (filter (needs_got Plain) rs)) ≡ map ref_got (filter (needs_got Shared) rs)
read_here [] = refl
read_here (ref ∷ rs) = by (reads_cell ref) (is_here ref.meaning) (entry_here _ ref.meaning) (read_here rs)
  where
    by : (r h : Bool) → is_entry_key (ref_got ref) ≡ h → filter is_entry_key (map ref_got (filter (needs_got Plain) rs)) ≡ map ref_got (filter (needs_got Shared) rs)
        → filter is_entry_key (map ref_got (cond r (ref ∷ filter (needs_got Plain) rs) (filter (needs_got Plain) rs))) ≡ map ref_got (cond (r && h) (ref ∷ filter (needs_got Shared) rs) (filter (needs_got Shared) rs))
    by true true e again =
        ap (λ b. cond b (ref_got ref ∷ filter is_entry_key (map ref_got (filter (needs_got Plain) rs))) (filter is_entry_key (map ref_got (filter (needs_got Plain) rs)))) e ∙ ap (λ ks. ref_got ref ∷ ks) again
    by true false e again =
        ap (λ b. cond b (ref_got ref ∷ filter is_entry_key (map ref_got (filter (needs_got Plain) rs))) (filter is_entry_key (map ref_got (filter (needs_got Plain) rs)))) e ∙ again
    by false h e again = again

-- ---- four lists that are told, behind one another

four : {A B : Type 0} (f : A → B) (ws os cs ds : List A) (w o c d : List B) → w ≡ map f ws → o ≡ map f os → c ≡ map f cs → d ≡ map f ds → w ++ o ++ c ++ d ≡ map f (ws ++ (os ++ cs ++ ds))
four f ws os cs ds w o c d is_w is_o is_c is_d =
    (λ i. is_w i ++ is_o i ++ is_c i ++ is_d i)
    ∙ append_assoc (map f ws ++ map f os) (map f cs) (map f ds)
    ∙ append_assoc (map f ws) (map f os) (map f cs ++ map f ds)
    ∙ ap (λ xs. map f ws ++ (map f os ++ xs)) (sym (map-append f cs ds))
    ∙ ap (λ xs. map f ws ++ xs) (sym (map-append f os (cs ++ ds)))
    ∙ sym (map-append f ws (os ++ (cs ++ ds)))
    ∙ ap (λ xs. map f (ws ++ xs)) (sym (append_assoc os cs ds))

-- ---- the whole

module _ {names words : List (List ℕ)} {imports : List ImportKey} {t : Tables} {symbols : List (List (Option ℕ))} {p : rules.Program} {live : List ℕ} {parts : List rules.Part} (g : Given Shared names words imports t symbols p live parts) where
  abbrev pub marks : Noted
  marks = record (noted_parts t (nothing_noted (length imports) (length names)) live) { imports = flag_parts t (replicate (length imports) false) live }

  flags_are : flag_parts t (replicate (length imports) false) live ≡ fold flagged (replicate (length imports) false) (map called (told_refs names imports parts))
  flags_are = parts_flagged t live (replicate (length imports) false) ∙ ap (λ rs. fold flagged (replicate (length imports) false) (map called rs)) (refs_told g)

  lists : Lists g marks
  lists = record {
    imported = function_imports_called Shared names imports (one_import g) (callable p) parts (known g) (flag_parts t (replicate (length imports) false) live) flags_are
        ∙ ap (λ is. map (number_by same_import imports) (filter (λ k. is_function_type k.type && has_import (used_imports (filter (imports_by Shared) (refs_of parts))) k) is)) g.all_imports;
    stubs = refl;
    windows = refl;
  }

  used_are : global_imports imports (flag_parts t (replicate (length imports) false) live) ≡ map (number_by same_import imports) (used_globals Shared p (refs_of parts))
  used_are =
      global_imports_called Shared names imports (one_import g) (callable p) parts (known g) (flag_parts t (replicate (length imports) false) live) flags_are
      ∙ ap (λ is. map (number_by same_import imports) (filter (λ k. is_global_type k.type && has_import (used_imports (filter (imports_by Shared) (refs_of parts))) k) is)) g.all_imports

  pub one_each : OneEach imports
  one_each = λ i k at. number_is same_import import_equal import_itself imports k i (one_import g i k at)

  -- ---- slots

  own_defined : (f : keys.FunctionKey) → is_own_function (told_function names imports f) ≡ is_defined f
  own_defined (outside k) = refl
  own_defined (linker_function n) = refl
  own_defined (stub name) = refl
  own_defined (own input index) = refl

  pub slots_are : shared_slots marks (functions_listed imports (length names) t live marks) ≡ map (told_function names imports) (slots Shared parts (functions Shared p parts))
  unfolding slots noted
  slots_are =
      ap (λ fs. slots_listed marks.taken (filter is_own_function fs)) (functions_are g lists)
      ∙ ap (slots_listed marks.taken) (filter_told (told_function names imports) is_own_function is_defined own_defined (functions Shared p parts))
      ∙ slots_told names imports marks.taken (taken_functions names imports (refs_of parts)) (filter is_defined (functions Shared p parts))
      ((are_noted g).taken ∙ ap (λ ks. distinct same_code (map function_code ks)) (taken_told names imports Shared (callable p) parts (known g)))
      (all_taken_known names imports Shared (callable p) (names_held g) (refs_of parts) (known g))
      (all_filtered (KnowsFunction names imports) is_defined (functions Shared p parts) (functions_known g))
      ∙ ap (map (told_function names imports)) (rule_slots (refs_of parts) (functions Shared p parts))

  -- ---- globals

  own_entry : (k : keys.GotKey) → is_own_cell (told_got imports k) ≡ is_entry_key k
  own_entry (got_entry e) = refl
  own_entry (got_import k) = refl
  own_entry (got_null kind) = refl

  cells_are : own_cells marks.cells ≡ map (told_global imports) (map got (got_entries Shared parts))
  unfolding noted
  cells_are =
      ap (λ cs. map global_keys.Got (filter is_own_cell cs)) (cells_noted g)
      ∙ ap (map global_keys.Got) (filter_told (told_got imports) is_own_cell is_entry_key own_entry (distinct same_got (map ref_got (filter (needs_got Plain) (refs_of (parts_of_kind 0 parts)))))
      ∙ ap (map (told_got imports)) (filter_once same_got is_entry_key entry_alike (map ref_got (filter (needs_got Plain) (refs_of (parts_of_kind 0 parts))))
      ∙ ap (distinct same_got) (read_here (refs_of (parts_of_kind 0 parts)))))
      ∙ twice global_keys.Got (told_got imports) (λ c. global_keys.Got (told_got imports c)) (λ c. refl) (got_entries Shared parts)
      ∙ sym (twice (told_global imports) got (λ c. global_keys.Got (told_got imports c)) (λ c. refl) (got_entries Shared parts))

  abbrev pub H : ImportKey → Type 0
  H k = list_any (same_import k) imports ≡ true

  module _ (mades : List ℕ) (mades_are : AllZip (IsNumberOf imports) mades (made_imports Shared p.entries)) where
    pub record AreGlobals (es : List InputSymbol) (gs : List GlobalKey) : Type 0 where
      pub are : gs ≡ map (told_global imports) (globals Shared p parts es)
      pub held : All (λ k. list_any (same_import k) imports ≡ true) (global_imports_in Shared p parts)

    pub globals_are : (exports : List Winner) (es : List InputSymbol) → exports ≡ map (told_winner names) es
        → (gs : List GlobalKey) → globals_listed names imports mades t live exports marks ≡ Some gs → AreGlobals es gs
    unfolding globals
    globals_are exports es told gs listed = by (import_numbers names imports mades t live (flag_parts t (replicate (length imports) false) live)) refl listed
      where
        by : (o : Option (List ℕ)) → import_numbers names imports mades t live (flag_parts t (replicate (length imports) false) live) ≡ o
            → option_map (globals_by t live exports (record (noted_parts t (nothing_noted (length imports) (length names)) live) { imports = flag_parts t (replicate (length imports) false) live })) o ≡ Some gs → AreGlobals es gs
        by None is e = absurd cc
        by (Some ns) is e =
            let same : globals_by t live exports marks ns ≡ gs = cc in
            let made_are = made_told imports one_each mades (made_imports Shared p.entries) mades_are in
            let im : AreImports names imports t p g.tables live parts g.are (made_imports Shared p.entries) made_are.1 (used_globals Shared p (refs_of parts)) (used_held g) (flag_parts t (replicate (length imports) false) live) used_are ns =
            imports_told names imports t p g.tables live parts g.are (made_imports Shared p.entries) made_are.1 (used_globals Shared p (refs_of parts)) (used_held g) (flag_parts t (replicate (length imports) false) live) used_are mades made_are.0 ns is in
            let f = told_global imports in
            let ks = global_imports_in Shared p parts in
            let ws = map outside_global ks in
            let os = filter_map own_global_key parts in
            let cs = map got (got_entries Shared parts) in
            let ds = filter_map datum_key es in
            let outside_told : map global_keys.Import ns ≡ map f ws =
            ap (map global_keys.Import) im.told
            ∙ twice global_keys.Import (number_by same_import imports) (λ k. global_keys.Import (number_by same_import imports k)) (λ k. refl) ks
            ∙ sym (twice f outside_global (λ k. global_keys.Import (number_by same_import imports k)) (λ k. refl) ks) in
            let data_are : filter_map datum_listed exports ≡ map f ds = ap (filter_map datum_listed) told ∙ data_told names imports es in
            record {
              are = sym same
                  ∙ four f ws os cs ds (map global_keys.Import ns) (own_globals false t live) (own_cells marks.cells) (filter_map datum_listed exports)
                  outside_told (own_globals_are g) cells_are data_are;
              held = im.held;
            }

  -- ---- all

  pub numbering_is : (es : List InputSymbol) (gs : List GlobalKey) → gs ≡ map (told_global imports) (globals Shared p parts es)
      → IsNumbering names imports t.types p parts (record {
        functions = functions_listed imports (length names) t live marks;
        slots = shared_slots marks (functions_listed imports (length names) t live marks);
        first_slot = 0;
        globals = gs;
        types = (types_listed imports (length names) t p.objects (firsts_rows 0 (replicate (length names) None) symbols) live marks).table;
        function_types = (types_listed imports (length names) t p.objects (firsts_rows 0 (replicate (length names) None) symbols) live marks).numbers;
        type_numbers = map (type_number_in (types_listed imports (length names) t p.objects (firsts_rows 0 (replicate (length names) None) symbols) live marks).table) t.types;
      }) (numbers Shared p parts es)
  numbering_is es gs are =
      let y = types_are g lists in
      record {
        functions = functions_are g lists;
        slots = slots_are;
        first_slot = refl;
        globals = are;
        types = ap (λ x. x.table) y;
        function_types = ap (λ x. x.numbers) y;
        type_numbers = ap (λ x. map (type_number_in x.table) t.types) y;
      }

  -- ---- the laws

  here_known : (rs : List Ref) → All (KnowsGot imports) (map ref_got (filter (needs_got Shared) rs))
  here_known rs = subst (All (KnowsGot imports)) (read_here rs) (entries_known (map ref_got (filter (needs_got Plain) rs)))
    where
      kept : (k : keys.GotKey) (ks : List keys.GotKey) → All (KnowsGot imports) ks → All (KnowsGot imports) (cond (is_entry_key k) (k ∷ ks) ks)
      kept (got_entry e) ks all = All-cons (KnowsGot imports) (got_entry e) ks tt all
      kept (got_import i) ks all = all
      kept (got_null n) ks all = all

      entries_known : (ks : List keys.GotKey) → All (KnowsGot imports) (filter is_entry_key ks)
      entries_known [] = all_none (KnowsGot imports)
      entries_known (k ∷ ks) = kept k (filter is_entry_key ks) (entries_known ks)

  globals_known : (es : List InputSymbol) → All H (global_imports_in Shared p parts) → All (G g) (globals Shared p parts es)
  unfolding globals
  globals_known es held =
      All-append (G g) (map outside_global (global_imports_in Shared p parts)) (filter_map own_global_key parts ++ map got (got_entries Shared parts) ++ filter_map datum_key es)
      (all_map (G g) outside_global (global_imports_in Shared p parts) held)
      (All-append (G g) (filter_map own_global_key parts ++ map got (got_entries Shared parts)) (filter_map datum_key es)
      (All-append (G g) (filter_map own_global_key parts) (map got (got_entries Shared parts))
      (all_chosen (G g) own_global_key (own_global_known g) parts)
      (all_map (G g) got (got_entries Shared parts) (all_once g (KnowsGot imports) same_got [] (map ref_got (filter (needs_got Shared) (refs_of (parts_of_kind 0 parts)))) (all_none (KnowsGot imports)) (here_known (refs_of (parts_of_kind 0 parts))))))
      (all_chosen (G g) datum_key (datum_known g) es))

  slots_known : All (K g) (slots Shared parts (functions Shared p parts))
  unfolding slots
  slots_known = all_filtered (K g) (is_taken (map ref_function (filter (takes_slot Shared) (refs_of parts)))) (functions Shared p parts) (functions_known g)

  pub tells_numbers : (es : List InputSymbol) → All (λ k. list_any (same_import k) imports ≡ true) (global_imports_in Shared p parts) → TellsNumbers names imports (numbers Shared p parts es)
  tells_numbers es held = record {
    functions = λ f kf. number_told (told_function names imports) same_function same_function_key (KnowsFunction names imports) (tells_function names imports) f (functions Shared p parts) kf (functions_known g);
    slots = λ f kf. number_told (told_function names imports) same_function same_function_key (KnowsFunction names imports) (tells_function names imports) f (slots Shared parts (functions Shared p parts)) kf slots_known;
    globals = λ k kk. number_told (told_global imports) same_global same_global_key (KnowsGlobal imports) (tells_global imports) k (globals Shared p parts es) kk (globals_known es held);
  }

  global_of_known : (e : InputSymbol) (r : Bool) → (e.input == 0) ≡ r
      → ((k : ImportKey) → (if r then linker_key Shared e else own_global e.input e.index) ≡ outside_global k → list_any (same_import k) imports ≡ true)
      → KnowsGlobal imports (if r then linker_key Shared e else own_global e.input e.index)
  global_of_known e true is held = held _ refl
  global_of_known e false is held = is

  meant_global_known : (ref : Ref) (m : Meaning) → KnownMeaning Shared imports (callable p) ref.entry m → KnowsGot imports (ref_got ref)
      → ((k : ImportKey) → meant_global Shared ref m ≡ outside_global k → list_any (same_import k) imports ≡ true) → KnowsGlobal imports (meant_global Shared ref m)
  meant_global_known ref (here e) k cell held = global_of_known e (e.input == 0) refl held
  meant_global_known ref (imported i) k cell held = k
  meant_global_known ref null k cell held = cell
  meant_global_known ref nothing k cell held = cell

  cell_known : (ref : Ref) (r : Bool) → KnowsGot imports (ref_got ref)
      → ((k : ImportKey) → (if r then outside_global (cell_of ref.entry) else got (ref_got ref)) ≡ outside_global k → list_any (same_import k) imports ≡ true)
      → KnowsGlobal imports (if r then outside_global (cell_of ref.entry) else got (ref_got ref))
  cell_known ref true cell held = held _ refl
  cell_known ref false cell held = cell

  ref_global_known : (ref : Ref) (r : Bool) → KnownRef Shared imports (callable p) ref → KnowsGot imports (ref_got ref)
      → ((k : ImportKey) → (if r then meant_global Shared ref ref.meaning else cell_key Shared ref) ≡ outside_global k → list_any (same_import k) imports ≡ true)
      → KnowsGlobal imports (if r then meant_global Shared ref ref.meaning else cell_key Shared ref)
  ref_global_known ref true k cell held = meant_global_known ref ref.meaning k cell held
  ref_global_known ref false k cell held = cell_known ref (is_foreign ref) cell held

  knows_ref : (ref : Ref) → KnownRef Shared imports (callable p) ref → KnowsSharedRef names imports ref
  knows_ref ref k = record {
    function = ref_function_known names imports Shared (callable p) (names_held g) ref k;
    imported = λ i is. subst (KnownMeaning Shared imports (callable p) ref.entry) is k;
    global = ref_global_known ref (is_kind GlobalVar ref.entry) k (ref_got_known names imports Shared (callable p) (names_held g) ref k);
    named = null_entry g ref ref.meaning k;
  }

  pub knows_refs : All (KnowsSharedRef names imports) (refs_of parts)
  knows_refs = all_each (KnownRef Shared imports (callable p)) (KnowsSharedRef names imports) knows_ref (refs_of parts) (known g)

-- The names that a link's data tell are those of the definition.
use Rattle.std.proofs.Common.{◌≡◌, ℕ, suc, ◌+◌, ◌-◌, ◌==◌, ◌<◌, ◌&&◌, Bool, true, false, not, List, [], ◌∷◌, ◌++◌, map, fold, filter_map, flat_map, length, drop, get_or, slice_get, position, Option, Some, None, unwrap_or, refl, sym, ap, subst, ◌∙◌, arith, append_assoc}
use Rattle.std.specs.Prelude.{if◌then◌else◌, bytes_eq}
use Rattle.std.specs.List.{list_any, All}
use Rattle.std.proofs.Math.Seq.{drop-append_seam}
use Rattle.std.proofs.lemmas.Bool.{ne_eqb}
use Rattle.std.proofs.lemmas.List.{length-map, get_or-map}
use Rattle.std.proofs.lemmas.List.Elements.{All-head, All-tail}
use Rattle.std.proofs.lemmas.Option.{get_or_from_slice_get}
use Rattle.link_program.specs.wl_base.Choice.{distinct}
use Rattle.link_program.specs.made_symbols.declared.mode.Mode.{Mode}
use Rattle.link_program.specs.made_symbols.Made.{made_at}
use Rattle.link_program.specs.object_file.declared.object.Object.{Object}
use Rattle.link_program.specs.object_file.Spaces.{function_imports}
use Rattle.link_program.specs.linking_section.declared.symbol.Symbol as object_symbols
use Rattle.link_program.specs.linking_section.declared.symbol.SymbolKind.{SymbolKind}
use Rattle.link_program.specs.linking_section.declared.symbol.SymbolKind.TheVariants.{Function, Datum, GlobalVar, Section, Table}
use Rattle.link_program.specs.linking_section.Flags.{kind_code, is_undefined}
use Rattle.link_program.specs.name_rules.Entries.{InputSymbol, ImportKey, same_import, name_of, index_in, entry_in, entries_from, symbols_of}
use Rattle.link_program.specs.name_rules.Meanings.{Meaning, here, imported, null, nothing, Resolved, resolve, resolved_in, uses_of, meaning}
use Rattle.link_program.specs.name_rules.Further.{further_imports}
use Rattle.link_program.specs.name_entries.View.{InputsRise}
use Rattle.link_program.specs.link_plan.declared.plan.Plan.{Plan}
use Rattle.link_program.specs.link_rules.ModeOf.{mode_of}
use Rattle.link_program.specs.link_rules.Program as rules
use Rattle.link_program.specs.link_rules.Keys as keys
use Rattle.link_program.specs.link_rules.Keys.{outside, linker_function, stub, own, same_function, functions, import_of, imports_in_order}
use Rattle.link_program.specs.link_rules.Values as values
use Rattle.link_program.specs.link_rules.Output.{layout}
use Rattle.link_program.specs.declared.symbol.Symbol.{Symbol}
use Rattle.link_program.specs.declared.symbol.Lead.{Lead}
use Rattle.link_program.specs.declared.keys.FunctionKey.{FunctionKey}
use Rattle.link_program.specs.declared.keys.FunctionKey.TheVariants as function_keys
use Rattle.link_program.specs.Told.{told_lead, told_all, told_symbols, told_variant}
use Rattle.link_program.specs.Keys.{told_function, same_function_key}
use Rattle.link_layout.specs.declared.values.Layout.{Layout}
use Rattle.link_layout.specs.Layout.{IsLayoutIn}
use Rattle.link_layout.specs.link_numbers.Knows.{KnowsFunction}
use Rattle.link_layout.proofs.link_numbers_lemmas.Knows.{tells_function}
use Rattle.link_layout.proofs.link_numbers_lemmas.Begun.{given_of}
use Rattle.link_layout.proofs.link_numbers_lemmas.Whole.{functions_known}
use Rattle.link_layout.proofs.link_numbers_lemmas.link_keys_lemmas.Any.{or_right, or_left}
use Rattle.link_layout.proofs.link_numbers_lemmas.link_keys_lemmas.Equals.{stands, holds_distinct, holds_onto}
use Rattle.link_layout.proofs.link_numbers_lemmas.link_keys_lemmas.Imports.{import_equal, import_itself, name_equal, name_itself}
use Rattle.link_layout.proofs.link_numbers_lemmas.link_keys_lemmas.Positions.{position_of_map}
use Rattle.name_section.specs.Names.{name_section}
use Rattle.function_names.specs.Labels.{key_label, stub_label}
use Rattle.function_names.specs.Names.{Offer, function_named, import_named, or_name, offered, number_in, offers_among, offers, function_names}
use Rattle.function_names.specs.Section.{placed_names}
use Rattle.names_out.specs.Told.{key_label_told, import_named_told, function_named_told, number_told, offer_at, offers_told, offers_rows, taking, labels_told, listed_from}
use Rattle.names_out.proofs.Tables.{folded_long, folded_at, listed_is}

-- ---- imports that are meant

abbrev KnowsImport : List ImportKey → ImportKey → Type 0
KnowsImport imports k = list_any (same_import k) imports ≡ true

abbrev KnowsMeaning : List ImportKey → Meaning → Type 0
KnowsMeaning imports (here e) = Unit {0}
KnowsMeaning imports (imported k) = KnowsImport imports k
KnowsMeaning imports null = Unit {0}
KnowsMeaning imports nothing = Unit {0}

-- the imports among these meanings are known
abbrev Known : List ImportKey → List Meaning → Type 0
Known imports ms = (k : ImportKey) → list_any (same_import k) (filter_map import_of ms) ≡ true → KnowsImport imports k

known_first : (imports : List ImportKey) (m : Meaning) (ms : List Meaning) → Known imports (m ∷ ms) → KnowsMeaning imports m
known_first imports (here e) ms all = tt
known_first imports (imported k) ms all = all k (or_left (same_import k k) (list_any (same_import k) (filter_map import_of ms)) (import_itself k))
known_first imports null ms all = tt
known_first imports nothing ms all = tt

known_rest : (imports : List ImportKey) (m : Meaning) (ms : List Meaning) → Known imports (m ∷ ms) → Known imports ms
known_rest imports (here e) ms all = all
known_rest imports (imported j) ms all = λ k any. all k (or_right (same_import k j) (list_any (same_import k) (filter_map import_of ms)) any)
known_rest imports null ms all = all
known_rest imports nothing ms all = all

known_behind : (imports : List ImportKey) (xs ys : List Meaning) → Known imports (xs ++ ys) → Known imports ys
known_behind imports [] ys all = all
known_behind imports (x ∷ xs) ys all = known_behind imports xs ys (known_rest imports x (xs ++ ys) all)

-- ---- names that functions have by themselves

held_name : (names : List (List ℕ)) (name : List ℕ) → list_any (bytes_eq name) names ≡ true → get_or names (unwrap_or (position (bytes_eq name) names) 0) [] ≡ name
held_name names name held =
    let s = stands bytes_eq name_equal name_itself names name held in
    ap (λ o. get_or names (unwrap_or o 0) []) s.found ∙ get_or_from_slice_get names s.at name [] s.there

module _ (names : List (List ℕ)) (imports : List ImportKey) where
  abbrev K : keys.FunctionKey → Type 0
  K f = KnowsFunction names imports f

  label_told : (mode : Mode) (f : keys.FunctionKey) → K f → key_label_told mode names (told_function names imports f) ≡ key_label mode f
  label_told mode (outside k) known = refl
  label_told mode (linker_function n) known = refl
  label_told mode (stub name) known = ap stub_label (held_name names name known)
  label_told mode (own input index) known = ap (λ (b : Bool). if b then (made_at mode index).name else []) known

  labels_are : (mode : Mode) (fs : List keys.FunctionKey) → All K fs → map (key_label_told mode names) (map (told_function names imports) fs) ≡ map (key_label mode) fs
  labels_are mode [] all = refl
  labels_are mode (f ∷ fs) all =
      let first = label_told mode f (All-head K f fs all) in
      let rest = labels_are mode fs (All-tail K f fs all) in
      λ i. first i ∷ rest i

  -- ---- what symbols offer

  module _ (fs : List keys.FunctionKey) (known : All K fs) where
    abbrev told_keys : List FunctionKey
    told_keys = map (told_function names imports) fs

    placed : (f : keys.FunctionKey) → K f → position (same_function_key (told_function names imports f)) told_keys ≡ position (same_function f) fs
    placed f kf =
        position_of_map (told_function names imports) (same_function f) (same_function_key (told_function names imports f)) fs
        (λ k e below. tells_function names imports f (get_or fs k e) kf (known k e below))

    import_is : (m : Meaning) → KnowsMeaning imports m → number_told told_keys (import_named_told (told_lead imports m)) ≡ number_in fs (import_named m)
    import_is (here e) knows = refl
    import_is (imported k) knows = placed (outside k) knows
    import_is null knows = refl
    import_is nothing knows = refl

    module _ (all : List Object) (o : Object) (some : (o.input == 0) ≡ false) where
      by_kind : (s : object_symbols.Symbol) (m : Meaning) → KnowsMeaning imports m → (kind : SymbolKind) (b : Bool)
          → number_told told_keys (if (kind_code kind == kind_code Function) && b then Some (function_keys.Own o.input (s.index - length (function_imports o))) else import_named_told (told_lead imports m))
          ≡ number_in fs (if (kind_code kind == kind_code Function) && b then Some (own o.input (index_in o s kind)) else import_named m)
      by_kind s m knows Function true = placed (own o.input (s.index - length (function_imports o))) some
      by_kind s m knows Function false = import_is m knows
      by_kind s m knows Datum b = import_is m knows
      by_kind s m knows GlobalVar b = import_is m knows
      by_kind s m knows Section b = import_is m knows
      by_kind s m knows Table b = import_is m knows

      offer_is : (place : ℕ) (s : object_symbols.Symbol) (m : Meaning) (lead : Lead) → lead ≡ told_lead imports m → KnowsMeaning imports m
          → ◌≡◌ {A = Offer}
          (record { number = number_told told_keys (function_named_told o.input (length (function_imports o)) s lead); name = unwrap_or s.name [] })
          (record { number = number_in fs (function_named (entry_in all o place s) m); name = name_of (entry_in all o place s) })
      offer_is place s m lead told knows =
          let at = ap (λ l. number_told told_keys (function_named_told o.input (length (function_imports o)) s l)) told ∙ by_kind s m knows s.kind (not (is_undefined s)) in
          λ i. record { number = at i; name = unwrap_or s.name [] }

      entries_offer : (h : InputSymbol → Meaning) (place : ℕ) (ss : List object_symbols.Symbol) (rest : List Symbol) (ms : List Meaning)
          → Known imports (map h (entries_from all o place ss) ++ ms)
          → offers_told told_keys o.input (length (function_imports o)) ss (told_all names imports (entries_from all o place ss) (map h (entries_from all o place ss)) ++ rest)
          ≡ offers_among fs (entries_from all o place ss) (map h (entries_from all o place ss))
      entries_offer h place [] rest ms knows = refl
      entries_offer h place (s ∷ ss) rest ms knows =
          let e = entry_in all o place s in
          let later = map h (entries_from all o (place + 1) ss) ++ ms in
          let first = offer_is place s (h e) (told_lead imports (h e)) refl (known_first imports (h e) later knows) in
          let others = entries_offer h (place + 1) ss rest ms (known_rest imports (h e) later knows) in
          λ i. first i ∷ others i

    -- ---- those of objects

    long : (h : InputSymbol → Meaning) (es : List InputSymbol) → length (told_all names imports es (map h es)) ≡ length es
    long h [] = refl
    long h (e ∷ es) = ap suc (long h es)

    entries_long : (all : List Object) (o : Object) (place : ℕ) (ss : List object_symbols.Symbol) → length (entries_from all o place ss) ≡ length ss
    entries_long all o place [] = refl
    entries_long all o place (s ∷ ss) = ap suc (entries_long all o (place + 1) ss)

    module _ (all : List Object) (h : InputSymbol → Meaning) where
      abbrev told : Object → List Symbol
      told o = told_all names imports (symbols_of all o) (map h (symbols_of all o))

      abbrev meant : Object → List Meaning
      meant o = map h (symbols_of all o)

      object_long : (o : Object) → length (told o) ≡ length o.symbols
      object_long o = long h (symbols_of all o) ∙ entries_long all o 0 o.symbols

      rows_offer : (last : ℕ) (os : List Object) (more : List Symbol) → InputsRise last os → Known imports (flat_map meant os)
          → offers_rows told_keys os (flat_map told os ++ more) ≡ flat_map (λ o. offers_among fs (symbols_of all o) (meant o)) os
      rows_offer last [] more rise knows = refl
      rows_offer last (o ∷ os) more rise knows =
          let rest = flat_map told os ++ more in
          let some : (o.input == 0) ≡ false = ne_eqb o.input 0 (λ z. absurd (omega (arith, rise.0, z))) in
          let seam : flat_map told (o ∷ os) ++ more ≡ told o ++ rest = append_assoc (told o) (flat_map told os) more in
          let others : drop (length o.symbols) (told o ++ rest) ≡ rest = ap (λ n. drop n (told o ++ rest)) (sym (object_long o)) ∙ drop-append_seam (told o) rest in
          let a = entries_offer all o some h 0 o.symbols rest (flat_map meant os) knows in
          let b = ap (offers_rows told_keys os) others ∙ rows_offer o.input os more rise.2 (known_behind imports (meant o) (flat_map meant os) knows) in
          ap (offers_rows told_keys (o ∷ os)) seam ∙ (λ i. a i ++ b i)

-- ---- a layout

module _ (mode : Mode) (p : rules.Program) (parts : List rules.Part) (es : List InputSymbol) (d : Layout) (is : IsLayoutIn mode p parts es d) where
  abbrev the_names : List (List ℕ)
  the_names = d.program.names.now.names

  abbrev the_imports : List ImportKey
  the_imports = d.program.resolution.now.imports

  abbrev fs : List keys.FunctionKey
  fs = functions mode p parts

  all_known : All (λ f. KnowsFunction the_names the_imports f) fs
  all_known = functions_known (given_of d.program p is.live.0 parts is.program is.stand is.live.1 is.meant)

  abbrev h : InputSymbol → Meaning
  h = meaning mode (uses_of mode p.objects) p.plan.allow_undefined p.entries

  abbrev R : Object → Resolved
  R = resolved_in mode (uses_of mode p.objects) p.plan.allow_undefined p.entries p.objects

  by_object : {A : Type 0} (x : Resolved → List A) (os : List Object) → flat_map x (map R os) ≡ flat_map (λ o. x (R o)) os
  by_object x [] = refl
  by_object x (o ∷ os) = ap (λ ys. x (R o) ++ ys) (by_object x os)

  resolved_is : p.resolved ≡ map R p.objects
  unfolding resolve
  resolved_is = is.program.resolved

  abbrev met : List ImportKey
  met = filter_map import_of (flat_map (λ (r : Resolved). r.meanings) p.resolved)

  meant_known : Known the_imports (flat_map (λ (r : Resolved). r.meanings) p.resolved)
  unfolding imports_in_order
  meant_known k any =
      let more = further_imports mode p.entries p.resolved in
      let held = holds_distinct same_import import_equal import_itself met k any in
      subst (λ ks. list_any (same_import k) ks ≡ true) (sym is.program.imports)
      (holds_onto same_import import_equal import_itself k (distinct same_import met) more (or_left (list_any (same_import k) (distinct same_import met)) (list_any (same_import k) more) held))

  objects_known : Known the_imports (flat_map (λ o. map h (symbols_of p.objects o)) p.objects)
  objects_known = subst (Known the_imports) (ap (λ (rs : List Resolved). flat_map (λ (r : Resolved). r.meanings) rs) resolved_is ∙ by_object (λ (r : Resolved). r.meanings) p.objects) meant_known

  symbols_are : d.program.tables.now.symbols ≡ flat_map (λ o. told_all the_names the_imports (symbols_of p.objects o) (map h (symbols_of p.objects o))) p.objects ++ map (told_variant the_names the_imports) p.variants
  symbols_are =
      let more = map (told_variant the_names the_imports) p.variants in
      is.program.tables.symbols
      ∙ (ap (λ (rs : List Resolved). told_symbols the_names the_imports rs ++ more) resolved_is
      ∙ ap (λ xs. xs ++ more) (by_object (λ (r : Resolved). told_all the_names the_imports r.symbols r.meanings) p.objects))

  offers_are : offers_rows d.numbering.now.functions d.program.objects.now d.program.tables.now.symbols ≡ offers p fs
  offers_are =
      (λ i. offers_rows (is.numbering.functions i) (is.program.objects i) (symbols_are i))
      ∙ (rows_offer the_names the_imports fs all_known p.objects h 0 p.objects (map (told_variant the_names the_imports) p.variants) is.program.rise objects_known
      ∙ (sym (by_object (λ (r : Resolved). offers_among fs r.symbols r.meanings) p.objects)
      ∙ ap (λ (rs : List Resolved). flat_map (λ (r : Resolved). offers_among fs r.symbols r.meanings) rs) (sym resolved_is)))

  labels_first : map (key_label_told (mode_of d.program.plan.now) the_names) d.numbering.now.functions ≡ map (key_label mode) fs
  labels_first =
      (λ i. map (key_label_told ((ap mode_of is.program.plan ∙ is.asked) i) the_names) (is.numbering.functions i))
      ∙ labels_are the_names the_imports mode fs all_known

  table_is : labels_told d ≡ fold taking (map (key_label mode) fs) (offers p fs)
  table_is = λ i. fold taking (labels_first i) (offers_are i)

  pub names_told : listed_from 0 (labels_told d) ≡ function_names mode p (layout mode p parts es)
  unfolding function_names layout
  names_told =
      let first = map (key_label mode) fs in
      let count = length-map fs (key_label mode) in
      ap (listed_from 0) table_is
      ∙ listed_is mode (offers p fs) 0 fs (fold taking first (offers p fs)) (folded_long (offers p fs) first ∙ count) (λ j lt.
      let e : j ≡ 0 + j = omega arith in
      folded_at (offers p fs) first j (omega (arith, count, lt)) ∙ ap (λ m. or_name (get_or first j []) (offered m (offers p fs))) e)

  -- ---- the section

  pub section_told : d.program.plan.now.names ≡ true → (labels : List (List ℕ)) → labels ≡ labels_told d → name_section (listed_from 0 labels) ≡ placed_names mode p (layout mode p parts es)
  section_told asked labels told =
      let on : p.plan.names ≡ true = ap (λ (x : Plan). x.names) (sym is.program.plan) ∙ asked in
      ap (λ ls. name_section (listed_from 0 ls)) told
      ∙ (ap name_section names_told
      ∙ ap (λ (b : Bool). if b then name_section (function_names mode p (layout mode p parts es)) else []) (sym on))

pub was_asked : (b : Bool) → not b ≡ false → b ≡ true
was_asked true e = refl
was_asked false e = absurd cc

-- Where the bodies of functions begin, as the data tell it.
use Rattle.std.proofs.Common.{◌≡◌, ℕ, suc, ◌+◌, ◌-◌, ◌==◌, ◌<◌, Bool, true, false, not, ◌&&◌, cond, List, [], ◌∷◌, ◌++◌, map, filter, filter_map, length, position, Option, Some, None, option_map, refl, sym, ap, subst, ◌∙◌, arith}
use Rattle.std.specs.Prelude.{if◌then◌else◌, slice_index_or}
use Rattle.std.specs.List.{All, cons_option}
use Rattle.std.proofs.lemmas.Bool.{ne_eqb}
use Rattle.std.proofs.lemmas.List.{length-map}
use Rattle.std.proofs.lemmas.List.Elements.{All-append, All-cons, All-head, All-tail}
use Rattle.std.proofs.lemmas.List.Quantifiers.{position-Some}
use Rattle.link_program.specs.wl_base.Choice.{given}
use Rattle.link_program.specs.wl_base.declared.span.Span.{Span}
use Rattle.link_program.specs.made_symbols.declared.mode.Mode.{Mode}
use Rattle.link_program.specs.object_file.declared.object.Object.{Object}
use Rattle.link_program.specs.object_file.Spaces.{function_imports}
use Rattle.link_program.specs.linking_section.declared.symbol.Symbol.{Symbol}
use Rattle.link_program.specs.linking_section.declared.symbol.SymbolKind.{SymbolKind}
use Rattle.link_program.specs.linking_section.declared.symbol.SymbolKind.TheVariants.{Function, Datum, GlobalVar, Section, Table}
use Rattle.link_program.specs.linking_section.Flags.{kind_code, is_undefined}
use Rattle.link_program.specs.name_rules.Entries.{InputSymbol, ImportKey, index_in, entries_from, symbols_of}
use Rattle.link_program.specs.name_rules.Meanings.{Resolved, resolve, resolved_in, uses_of}
use Rattle.link_program.specs.name_entries.View.{InputsRise}
use Rattle.link_program.specs.reloc_apply.declared.window.Window.{Window}
use Rattle.link_program.specs.reloc_apply.declared.window.Patch.{Patch}
use Rattle.link_program.specs.reloc_apply.Windows.{patch_of}
use Rattle.link_program.specs.image_emit.Bytes.{Tree, tree_of, source_bytes}
use Rattle.link_program.specs.image_emit.Filled.{AllLieIn}
use Rattle.link_program.specs.image_emit.Pieces.{code_place, source_places, sources}
use Rattle.link_program.specs.link_rules.Program as rules
use Rattle.link_program.specs.link_rules.Marks.{refs_of}
use Rattle.link_program.specs.link_rules.Keys as keys
use Rattle.link_program.specs.link_rules.Keys.{outside, linker_function, stub, own, same_function, functions, function_imports_of, defined_functions, made_function_key, own_function_key, stub_names}
use Rattle.link_program.specs.link_rules.Values as values
use Rattle.link_program.specs.link_rules.Output as output
use Rattle.link_program.specs.link_rules.Output.{layout, image, source_windows, held}
use Rattle.link_program.specs.declared.keys.FunctionKey.{FunctionKey}
use Rattle.link_program.specs.declared.keys.FunctionKey.TheVariants as function_keys
use Rattle.link_program.specs.Keys.{told_function, same_function_key}
use Rattle.link_program.specs.Live.{AreLive}
use Rattle.link_output.proofs.Apart.{all_lie}
use Rattle.link_output.proofs.Sources.{held_windows_stand}
use Rattle.link_layout.specs.declared.values.Layout.{Layout}
use Rattle.link_layout.specs.Layout.{IsLayoutIn}
use Rattle.link_layout.specs.link_numbers.Numbered.{is_import}
use Rattle.link_layout.proofs.link_numbers_lemmas.link_keys_lemmas.Positions.{position_next}
use Rattle.link_debug.specs.Places.{place_in, place_of, tree, function_place, body_place}
use Rattle.debug_places.specs.Bodies as seen
use Rattle.debug_places.specs.Bodies.{Code, place_by, body_at, body_of, body_row}
use Rattle.debug_places.proofs.Keys.{function_placed}
use Rattle.debug_places.proofs.Trees.{code_filled, place_filled}

-- ---- functions behind the imports

module _ (names : List (List ℕ)) (imports : List ImportKey) (mode : Mode) (p : rules.Program) (parts : List rules.Part) (es : List InputSymbol) (l : values.Layout) where
  abbrev Inner : keys.FunctionKey → Type 0
  Inner f = output.is_import mode p parts es l f ≡ false

  made_inner : (xs : List rules.Part) → All Inner (filter_map made_function_key xs)
  made_inner [] = λ k d below. absurd (omega arith)
  made_inner (x ∷ xs) = by_test ((x.chunk.input == 0) && (x.chunk.kind == 0)) (made_inner xs)
    where
      by_test : (r : Bool) → All Inner (filter_map made_function_key xs) → All Inner (cons_option (given r (linker_function x.chunk.index)) (filter_map made_function_key xs))
      by_test true all = All-cons Inner (linker_function x.chunk.index) (filter_map made_function_key xs) refl all
      by_test false all = all

  own_inner : (xs : List rules.Part) → All Inner (filter_map own_function_key xs)
  own_inner [] = λ k d below. absurd (omega arith)
  own_inner (x ∷ xs) = by_test (not (x.chunk.input == 0) && (x.chunk.kind == 0)) (own_inner xs)
    where
      by_test : (r : Bool) → All Inner (filter_map own_function_key xs) → All Inner (cons_option (given r (own x.chunk.input x.chunk.index)) (filter_map own_function_key xs))
      by_test true all = All-cons Inner (own x.chunk.input x.chunk.index) (filter_map own_function_key xs) refl all
      by_test false all = all

  stubs_inner : (xs : List (List ℕ)) → All Inner (map stub xs)
  stubs_inner [] = λ k d below. absurd (omega arith)
  stubs_inner (x ∷ xs) = All-cons Inner (stub x) (map stub xs) refl (stubs_inner xs)

  all_inner : All Inner (defined_functions p parts)
  all_inner =
      let made = filter_map made_function_key parts in
      let stubs = map stub (stub_names p (refs_of parts)) in
      let owns = filter_map own_function_key parts in
      All-append Inner (made ++ stubs) owns (All-append Inner made stubs (made_inner parts) (stubs_inner (stub_names p (refs_of parts)))) (own_inner parts)

  import_told : (f : keys.FunctionKey) → is_import (told_function names imports f) ≡ output.is_import mode p parts es l f
  import_told (outside k) = refl
  import_told (linker_function n) = refl
  import_told (stub name) = refl
  import_told (own input index) = refl

  none_counted : (fs : List keys.FunctionKey) → All Inner fs → filter is_import (map (told_function names imports) fs) ≡ []
  none_counted [] all = refl
  none_counted (f ∷ fs) all =
      let rest = filter is_import (map (told_function names imports) fs) in
      ap (λ r. cond r (told_function names imports f ∷ rest) rest) (import_told f ∙ All-head Inner f fs all)
      ∙ none_counted fs (All-tail Inner f fs all)

  counted : (ks : List ImportKey) (fs : List keys.FunctionKey) → All Inner fs → length (filter is_import (map (told_function names imports) (map outside ks ++ fs))) ≡ length ks
  counted [] fs all = ap (λ (xs : List FunctionKey). length xs) (none_counted fs all)
  counted (k ∷ ks) fs all = ap suc (counted ks fs all)

  all_kept : (fs : List keys.FunctionKey) → All Inner fs → filter (λ f. not (output.is_import mode p parts es l f)) fs ≡ fs
  all_kept [] all = refl
  all_kept (f ∷ fs) all =
      let rest = filter (λ f. not (output.is_import mode p parts es l f)) fs in
      ap (λ r. cond (not r) (f ∷ rest) rest) (All-head Inner f fs all) ∙ ap (λ r. f ∷ r) (all_kept fs (All-tail Inner f fs all))

  kept_behind : (ks : List ImportKey) (fs : List keys.FunctionKey) → All Inner fs → filter (λ f. not (output.is_import mode p parts es l f)) (map outside ks ++ fs) ≡ fs
  kept_behind [] fs all = all_kept fs all
  kept_behind (k ∷ ks) fs all = kept_behind ks fs all

-- the place of a function behind the imports
behind : (i x : ℕ) (ks : List ImportKey) (fs : List keys.FunctionKey) → position (same_function (own i x)) (map outside ks ++ fs) ≡ option_map (λ n. length ks + n) (position (same_function (own i x)) fs)
behind i x [] fs = as_is (position (same_function (own i x)) fs)
  where
    as_is : (o : Option ℕ) → o ≡ option_map (λ n. 0 + n) o
    as_is None = refl
    as_is (Some n) = let e : n ≡ 0 + n = omega arith in λ i. Some (e i)
behind i x (k ∷ ks) fs = position_next (same_function (own i x)) (outside k) (map outside ks ++ fs) refl ∙ (ap (option_map suc) (behind i x ks fs) ∙ twice (position (same_function (own i x)) fs))
  where
    twice : (o : Option ℕ) → option_map suc (option_map (λ n. length ks + n) o) ≡ option_map (λ n. length (k ∷ ks) + n) o
    twice None = refl
    twice (Some n) = let e : suc (length ks + n) ≡ length (k ∷ ks) + n = omega arith in λ i. Some (e i)

-- ---- the bodies of a layout

module _ (mode : Mode) (p : rules.Program) (parts : List rules.Part) (es : List InputSymbol) (d : Layout) (is : IsLayoutIn mode p parts es d) (live : List ℕ) (are : AreLive p live parts) where
  abbrev names : List (List ℕ)
  names = d.program.names.now.names

  abbrev imports : List ImportKey
  imports = d.program.resolution.now.imports

  abbrev l : values.Layout
  l = layout mode p parts es

  abbrev outer : List ImportKey
  outer = function_imports_of mode p (refs_of parts)

  abbrev inner : List keys.FunctionKey
  inner = defined_functions p parts

  abbrev bare : Tree
  bare = tree_of p.files (image mode p parts es l)

  defined_is : output.defined mode p parts es l ≡ inner
  unfolding layout functions
  defined_is = kept_behind names imports mode p parts es l outer inner (all_inner names imports mode p parts es l)

  pub imported_is : length (filter is_import d.numbering.now.functions) ≡ length outer
  unfolding functions
  imported_is = ap (λ (fs : List FunctionKey). length (filter is_import fs)) is.numbering.functions ∙ counted names imports mode p parts es l outer inner (all_inner names imports mode p parts es l)

  count_bodies : length bare.bodies ≡ length inner
  unfolding image
  count_bodies =
      length-map (map (output.body_of mode p parts es l) (output.defined mode p parts es l)) (source_bytes p.files)
      ∙ (length-map (output.defined mode p parts es l) (output.body_of mode p parts es l) ∙ ap (λ (fs : List keys.FunctionKey). length fs) defined_is)

  abbrev wss : List (List Window)
  wss = held mode (source_windows mode p parts es l)

  abbrev pss : List (List Patch)
  pss = map (map patch_of) wss

  lie : AllLieIn pss (sources bare)
  lie = all_lie bare wss (held_windows_stand mode p live parts es is.stand are)

  own_placed : (i x : ℕ) → (i == 0) ≡ false → position (same_function_key (function_keys.Own i x)) d.numbering.now.functions ≡ option_map (λ n. length outer + n) (position (same_function (own i x)) inner)
  unfolding functions
  own_placed i x some = function_placed mode p parts es d is (own i x) some ∙ behind i x outer inner

  module _ (places : List ℕ) (payload : Option Span) (at : places ≡ source_places bare) (code : payload ≡ code_place bare) where
    abbrev c : Code
    c = record { functions = d.numbering.now.functions; imported = length (filter is_import d.numbering.now.functions); places = places; payload = payload }

    place_told : (n : ℕ) → n < length inner → slice_index_or places (length outer + n - c.imported) 0 ≡ slice_index_or (source_places (tree mode p parts es l)) n 0
    place_told n lt =
        let number : length outer + n - c.imported ≡ n = omega (arith, imported_is) in
        ap (λ k. slice_index_or places k 0) number
        ∙ (ap (λ (ps : List ℕ). slice_index_or ps n 0) at ∙ sym (place_filled pss bare lie n (subst (λ m. n < m) (sym count_bodies) lt)))

    by_code : (n : ℕ) → n < length inner → (o : Option Span) → seen.place_in c (length outer + n) o ≡ place_in (tree mode p parts es l) n o
    by_code n lt None = refl
    by_code n lt (Some s) = ap (λ v. Some (v - s.start)) (place_told n lt)

    by_place : (i x : ℕ) (o : Option ℕ) → position (same_function (own i x)) inner ≡ o → place_by c (option_map (λ n. length outer + n) o) ≡ place_of (tree mode p parts es l) o
    by_place i x None found = refl
    by_place i x (Some n) found =
        let within = (position-Some (same_function (own i x)) inner n (stub []) found).0 in
        ap (seen.place_in c (length outer + n)) (code ∙ sym (code_filled pss bare lie)) ∙ by_code n within (code_place (tree mode p parts es l))

    -- the body of the function that an object defines
    body_told : (i x : ℕ) → (i == 0) ≡ false → body_at c i x ≡ function_place mode p parts es l (own i x)
    body_told i x some =
        let o = position (same_function (own i x)) inner in
        ap (place_by c) (own_placed i x some)
        ∙ (by_place i x o refl ∙ ap (λ (fs : List keys.FunctionKey). place_of (tree mode p parts es l) (position (same_function (own i x)) fs)) (sym defined_is))

    by_kind : (o : Object) (some : (o.input == 0) ≡ false) (s : Symbol) (kind : SymbolKind) (b : Bool)
        → (if (kind_code kind == kind_code Function) && b then body_at c o.input (s.index - length (function_imports o)) else None)
        ≡ (if (kind_code kind == kind_code Function) && b then function_place mode p parts es l (own o.input (index_in o s kind)) else None)
    by_kind o some s Function b = ap (λ z. if b then z else None) (body_told o.input (s.index - length (function_imports o)) some)
    by_kind o some s Datum b = refl
    by_kind o some s GlobalVar b = refl
    by_kind o some s Section b = refl
    by_kind o some s Table b = refl

    entries_told : (all : List Object) (o : Object) → (o.input == 0) ≡ false → (place : ℕ) (ss : List Symbol)
        → map (body_of c o.input (length (function_imports o))) ss ≡ map (body_place mode p parts es l) (entries_from all o place ss)
    entries_told all o some place [] = refl
    entries_told all o some place (s ∷ ss) =
        let h = by_kind o some s s.kind (not (is_undefined s)) in
        let t = entries_told all o some (place + 1) ss in
        λ i. h i ∷ t i

    rows_told : (resolved_of : Object → Resolved) → (all : List Object) → ((o : Object) → (resolved_of o).symbols ≡ symbols_of all o) → (last : ℕ) (os : List Object) → InputsRise last os
        → map (body_row c) os ≡ map (λ (r : Resolved). map (body_place mode p parts es l) r.symbols) (map resolved_of os)
    rows_told resolved_of all each last [] rise = refl
    rows_told resolved_of all each last (o ∷ os) rise =
        let some : (o.input == 0) ≡ false = ne_eqb o.input 0 (λ z. absurd (omega (arith, rise.0, z))) in
        let h = entries_told all o some 0 o.symbols ∙ ap (map (body_place mode p parts es l)) (sym (each o)) in
        let t = rows_told resolved_of all each o.input os rise.2 in
        λ i. h i ∷ t i

    pub bodies_told : map (body_row c) p.objects ≡ map (λ (r : Resolved). map (body_place mode p parts es l) r.symbols) p.resolved
    unfolding resolve
    bodies_told =
        rows_told (resolved_in mode (uses_of mode p.objects) p.plan.allow_undefined p.entries p.objects) p.objects (λ o. refl) 0 p.objects is.program.rise
        ∙ ap (map (λ (r : Resolved). map (body_place mode p parts es l) r.symbols)) (sym is.program.resolved)

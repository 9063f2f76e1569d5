-- Where the things are that symbols mean, as the data tell it.
use Rattle.std.proofs.Common.{◌≡◌, ℕ, suc, ◌+◌, ◌==◌, Bool, true, false, ◌&&◌, cond, List, [], ◌∷◌, ◌++◌, map, filter_map, flat_map, length, take, drop, slice_get, position, Option, Some, None, option_map, refl, sym, ap, subst, ◌∙◌, append_assoc, eqb-true}
use Rattle.std.specs.Prelude.{◌||◌, if◌then◌else◌, slice_index_or}
use Rattle.std.specs.List.{list_any, cons_option}
use Rattle.std.proofs.Math.Seq.{drop-append_seam, take-append_seam}
use Rattle.std.proofs.lemmas.Bool.{and_parts}
use Rattle.std.proofs.lemmas.Option.{slice_get-map}
use Rattle.link_program.specs.wl_base.Choice.{distinct, distinct_onto}
use Rattle.link_program.specs.made_symbols.declared.mode.Mode.{Mode}
use Rattle.link_program.specs.made_symbols.declared.mode.Mode.TheVariants.{Plain, Shared}
use Rattle.link_program.specs.object_file.declared.object.Object.{Object}
use Rattle.link_program.specs.linking_section.declared.symbol.Symbol as object_symbols
use Rattle.link_program.specs.linking_section.declared.symbol.SymbolKind.TheVariants.{Function, Datum, GlobalVar}
use Rattle.link_program.specs.linking_section.Flags.{kind_code}
use Rattle.link_program.specs.mark_bits.declared.chunk.Chunk.{Chunk}
use Rattle.link_program.specs.name_rules.Entries.{InputSymbol, ImportKey, is_kind, same_import, entries_from, symbols_of}
use Rattle.link_program.specs.name_rules.Meanings.{Meaning, here, imported, null, nothing, Resolved, resolve, resolved_in, uses_of, meaning}
use Rattle.link_program.specs.name_rules.Further.{further_imports}
use Rattle.link_program.specs.link_rules.Program as rules
use Rattle.link_program.specs.link_rules.Program.{same_chunk, chunk_at}
use Rattle.link_program.specs.link_rules.Marks.{by_mode}
use Rattle.link_program.specs.link_rules.ModeOf.{mode_of}
use Rattle.link_program.specs.link_rules.Keys as keys
use Rattle.link_program.specs.link_rules.Keys.{outside, linker_global, own_global, outside_global, import_of, imports_in_order, global_of}
use Rattle.link_program.specs.link_rules.Values as values
use Rattle.link_program.specs.link_rules.Values.{segments, made_data}
use Rattle.link_program.specs.link_rules.Output.{layout}
use Rattle.link_program.specs.declared.symbol.Symbol.{Symbol}
use Rattle.link_program.specs.declared.symbol.Lead.{Lead}
use Rattle.link_program.specs.declared.keys.GlobalKey.TheVariants as global_keys
use Rattle.link_program.specs.Told.{told_definition, told_lead, told_all, told_symbols, told_variant}
use Rattle.link_program.specs.Keys.{told_global}
use Rattle.link_program.specs.Look.{chunk_number}
use Rattle.link_program.specs.Meant.{function_of}
use Rattle.link_program.specs.Live.{AreLive}
use Rattle.link_layout.specs.declared.values.Layout.{Layout}
use Rattle.link_layout.specs.Layout.{looked, IsLayoutIn}
use Rattle.link_layout.specs.Placed.{chunks_of}
use Rattle.link_layout.specs.Seen.{address_of, column_at}
use Rattle.link_layout.specs.link_numbers.Numbered.{Numbered}
use Rattle.link_layout.proofs.KeysTold.{function_told, function_known}
use Rattle.link_layout.proofs.Linkers.{LinkersOwn, MeansLinkers, symbol_means}
use Rattle.link_layout.proofs.Parts.{among_by_number}
use Rattle.link_layout.proofs.Told.{IsTold}
use Rattle.link_layout.proofs.Windows.{none_there, place_of_chunk, address_told}
use Rattle.link_layout.proofs.link_numbers_lemmas.link_keys_lemmas.Any.{or_right, or_left}
use Rattle.link_layout.proofs.link_numbers_lemmas.link_keys_lemmas.Equals.{holds_distinct, holds_onto}
use Rattle.link_layout.proofs.link_numbers_lemmas.link_keys_lemmas.Imports.{import_equal, import_itself}
use Rattle.link_debug.specs.Places.{slot_place, global_place, is_placed, address_place, meant_slot, meant_global}
use Rattle.found_numbers.specs.Found.{slot_among}
use Rattle.debug_places.specs.Found.{AreMarked, AreMade}
use Rattle.debug_places.specs.Seen.{Sight, sight_of, segment_address, address_at, address_meant, slot_meant, global_among, linkers_global, global_here, global_meant, row_by, rows_by}
use Rattle.debug_places.proofs.Keys.{IsMeant, slot_placed, global_placed}
use Rattle.debug_places.proofs.Linkers.{shared_here}

-- ---- rows by objects

abbrev pub Each : (Meaning → Type 0) → List Meaning → Type 0
Each P [] = Unit {0}
Each P (m ∷ ms) = P m × Each P ms

each_left : (P : Meaning → Type 0) (xs ys : List Meaning) → Each P (xs ++ ys) → Each P xs
each_left P [] ys all = tt
each_left P (x ∷ xs) ys all = (all.0, each_left P xs ys all.1)

each_right : (P : Meaning → Type 0) (xs ys : List Meaning) → Each P (xs ++ ys) → Each P ys
each_right P [] ys all = all
each_right P (x ∷ xs) ys all = each_right P xs ys all.1

each_joined : (P : Meaning → Type 0) (xs ys : List Meaning) → Each P xs → Each P ys → Each P (xs ++ ys)
each_joined P [] ys first rest = rest
each_joined P (x ∷ xs) ys first rest = (first.0, each_joined P xs ys first.1 rest)

-- an import that is meant is one of these
abbrev pub KnowsMeaning : List ImportKey → Meaning → Type 0
KnowsMeaning imports (here e) = Unit {0}
KnowsMeaning imports (imported k) = list_any (same_import k) imports ≡ true
KnowsMeaning imports null = Unit {0}
KnowsMeaning imports nothing = Unit {0}

-- What is known of a meaning: of an import that it is one of these, and of a symbol of the linker which one it is.
pub record Knows (mode : Mode) (imports : List ImportKey) (m : Meaning) : Type 0 where
  pub meant : KnowsMeaning imports m
  pub linkers : MeansLinkers mode m

know_both : (mode : Mode) (imports : List ImportKey) (ms : List Meaning) → Each (KnowsMeaning imports) ms → Each (MeansLinkers mode) ms → Each (Knows mode imports) ms
know_both mode imports [] meant linkers = tt
know_both mode imports (m ∷ ms) meant linkers = (record { meant = meant.0; linkers = linkers.0 }, know_both mode imports ms meant.1 linkers.1)

-- an import that a meaning has is among all
any_import : (k : ImportKey) (before after : List Meaning) → list_any (same_import k) (filter_map import_of (before ++ imported k ∷ after)) ≡ true
any_import k [] after = or_left (same_import k k) (list_any (same_import k) (filter_map import_of after)) (import_itself k)
any_import k (m ∷ before) after = by_import (import_of m) (any_import k before after)
  where
    by_import : (o : Option ImportKey) → list_any (same_import k) (filter_map import_of (before ++ imported k ∷ after)) ≡ true
        → list_any (same_import k) (cons_option o (filter_map import_of (before ++ imported k ∷ after))) ≡ true
    by_import None again = again
    by_import (Some j) again = or_right (same_import k j) (list_any (same_import k) (filter_map import_of (before ++ imported k ∷ after))) again

-- the imports that are meant, and more behind them
abbrev all_with : List ImportKey → List Meaning → List ImportKey
all_with more ms = distinct_onto same_import (distinct same_import (filter_map import_of ms)) more

all_know : (imports more : List ImportKey) (before ms : List Meaning) → imports ≡ all_with more (before ++ ms) → Each (KnowsMeaning imports) ms
all_know imports more before [] is = tt
all_know imports more before (m ∷ ms) is = (one m is, all_know imports more (before ++ m ∷ []) ms (is ∙ ap (all_with more) (sym (append_assoc before (m ∷ []) ms))))
  where
    one : (m : Meaning) → imports ≡ all_with more (before ++ m ∷ ms) → KnowsMeaning imports m
    one (here e) is = tt
    one (imported k) is =
        let met = filter_map import_of (before ++ imported k ∷ ms) in
        let held = holds_distinct same_import import_equal import_itself met k (any_import k before ms) in
        subst (λ ks. list_any (same_import k) ks ≡ true) (sym is)
        (holds_onto same_import import_equal import_itself k (distinct same_import met) more (or_left (list_any (same_import k) (distinct same_import met)) (list_any (same_import k) more) held))
    one null is = tt
    one nothing is = tt

module _ (names : List (List ℕ)) (imports : List ImportKey) (P : Meaning → Type 0) (f : Lead → Option ℕ) (g : Meaning → Option ℕ) (each : (m : Meaning) → P m → f (told_lead imports m) ≡ g m) where
  row_told : (h : InputSymbol → Meaning) (es : List InputSymbol) → Each P (map h es) → row_by f (told_all names imports es (map h es)) ≡ map g (map h es)
  row_told h [] all = refl
  row_told h (e ∷ es) all = let a = each (h e) all.0 in let b = row_told h es all.1 in λ i. a i ∷ b i

  long : (h : InputSymbol → Meaning) (es : List InputSymbol) → length (told_all names imports es (map h es)) ≡ length es
  long h [] = refl
  long h (e ∷ es) = ap suc (long h es)

  entries_long : (all : List Object) (o : Object) (place : ℕ) (ss : List object_symbols.Symbol) → length (entries_from all o place ss) ≡ length ss
  entries_long all o place [] = refl
  entries_long all o place (s ∷ ss) = ap suc (entries_long all o (place + 1) ss)

  module _ (all : List Object) (h : InputSymbol → Meaning) where
    abbrev told : Object → List Symbol
    told o = told_all names imports (symbols_of all o) (map h (symbols_of all o))

    object_long : (o : Object) → length (told o) ≡ length o.symbols
    object_long o = long h (symbols_of all o) ∙ entries_long all o 0 o.symbols

    rows_told : (os : List Object) (more : List Symbol) → Each P (flat_map (λ o. map h (symbols_of all o)) os)
        → rows_by f os (flat_map told os ++ more) ≡ map (λ o. map g (map h (symbols_of all o))) os
    rows_told [] more know = refl
    rows_told (o ∷ os) more know =
        let rest = flat_map told os ++ more in
        let ms = map h (symbols_of all o) in
        let know_rest = flat_map (λ o. map h (symbols_of all o)) os in
        let seam : flat_map told (o ∷ os) ++ more ≡ told o ++ rest = append_assoc (told o) (flat_map told os) more in
        let first : take (length o.symbols) (told o ++ rest) ≡ told o = ap (λ n. take n (told o ++ rest)) (sym (object_long o)) ∙ take-append_seam (told o) rest in
        let others : drop (length o.symbols) (told o ++ rest) ≡ rest = ap (λ n. drop n (told o ++ rest)) (sym (object_long o)) ∙ drop-append_seam (told o) rest in
        let a = ap (row_by f) first ∙ row_told h (symbols_of all o) (each_left P ms know_rest know) in
        let b = ap (rows_by f os) others ∙ rows_told os more (each_right P ms know_rest know) in
        ap (rows_by f (o ∷ os)) seam ∙ (λ i. a i ∷ b i)

-- ---- the globals that are defined

-- the number of a global in an output of a mode
abbrev in_output : Mode → Sight → InputSymbol → Option ℕ
in_output mode k e = if e.input == 0 then linkers_global k mode e.place else global_among k.numbers (global_keys.Own e.input e.index)

plain_told : (imports : List ImportKey) (e : InputSymbol) (n : Numbered) (r : Bool) → (if r then global_among n (global_keys.Own 0 e.place) else global_among n (global_keys.Own e.input e.index))
    ≡ global_among n (told_global imports (if r then linker_global e.place else own_global e.input e.index))
plain_told imports e n true = refl
plain_told imports e n false = refl

plain_meant : (imports : List ImportKey) (e : InputSymbol) (r : Bool) → (e.input == 0) ≡ r → IsMeant imports (if r then linker_global e.place else own_global e.input e.index)
plain_meant imports e true at = tt
plain_meant imports e false at = at

here_told : (mode : Mode) (p : rules.Program) (parts : List rules.Part) (es : List InputSymbol) (d : Layout) (is : IsLayoutIn mode p parts es d) (made : List ℕ) (flags : List Bool) (e : InputSymbol) → LinkersOwn mode e → is_kind GlobalVar e ≡ true
    → in_output mode (sight_of d made flags) e ≡ global_place (layout mode p parts es) (global_of mode e)
here_told Plain p parts es d is made flags e own kind =
    let imports = d.program.resolution.now.imports in
    plain_told imports e d.numbering.now (e.input == 0) ∙ global_placed Plain p parts es d is (global_of Plain e) (plain_meant imports e (e.input == 0) refl)
here_told Shared p parts es d is made flags e own kind = shared_here p parts es d is e own kind

-- ---- a layout

module _ (mode : Mode) (p : rules.Program) (parts : List rules.Part) (es : List InputSymbol) (d : Layout) (is : IsLayoutIn mode p parts es d) where
  abbrev names : List (List ℕ)
  names = d.program.names.now.names

  abbrev imports : List ImportKey
  imports = d.program.resolution.now.imports

  abbrev l : values.Layout
  l = layout mode p parts es

  -- ---- slots and globals

  by_function : (e : InputSymbol) (r : Bool) → (if r then slot_among d.numbering.now (function_of (told_definition e)) else None) ≡ (if r then slot_place l (keys.function_of e) else None)
  by_function e true = ap (slot_among d.numbering.now) (function_told names imports e) ∙ slot_placed mode p parts es d is (keys.function_of e) (function_known names imports e)
  by_function e false = refl

  slot_each : (m : Meaning) → Knows mode imports m → slot_meant d.numbering.now (told_lead imports m) ≡ meant_slot l m
  slot_each (here e) knows = by_function e (kind_code e.symbol.kind == kind_code Function)
  slot_each (imported k) knows = slot_placed mode p parts es d is (outside k) knows.meant
  slot_each null knows = refl
  slot_each nothing knows = refl

  by_global : (made : List ℕ) (flags : List Bool) (e : InputSymbol) → LinkersOwn mode e → (r : Bool) → is_kind GlobalVar e ≡ r
      → (if r then global_here (sight_of d made flags) (told_definition e) else None) ≡ (if r then global_place l (global_of mode e) else None)
  by_global made flags e own true kind =
      ap (λ m. in_output m (sight_of d made flags) e) (ap mode_of is.program.plan ∙ is.asked)
      ∙ here_told mode p parts es d is made flags e own kind
  by_global made flags e own false kind = refl

  global_each : (made : List ℕ) (flags : List Bool) (m : Meaning) → Knows mode imports m → global_meant (sight_of d made flags) (told_lead imports m) ≡ meant_global mode l m
  global_each made flags (here e) knows = by_global made flags e knows.linkers (is_kind GlobalVar e) refl
  global_each made flags (imported k) knows = global_placed mode p parts es d is (outside_global k) knows.meant
  global_each made flags null knows = refl
  global_each made flags nothing knows = refl

  -- ---- addresses

  module _ (live : List ℕ) (are : AreLive p live parts) (told : IsTold mode p parts es d) (made : List ℕ) (is_made : AreMade mode made d.placed.now.places) (flags : List Bool) (marked : AreMarked flags live) where
    abbrev k : Sight
    k = sight_of d made flags

    chunks_are : d.program.tables.now.chunks ≡ chunks_of p.parts
    chunks_are = is.program.tables.chunks

    -- segments among the parts
    only_segments : (c : Chunk) → c.kind ≡ 1 → (xs : List rules.Part) → list_any (same_chunk c) (chunks_of xs) ≡ list_any (same_chunk c) (chunks_of (segments xs))
    only_segments c kind [] = refl
    only_segments c kind (x ∷ xs) = by_test (x.chunk.kind == 1) refl (only_segments c kind xs)
      where
        other : (x.chunk.kind == 1) ≡ false → (b : Bool) → same_chunk c x.chunk ≡ b → b ≡ false
        other isnt false at = refl
        other isnt true at =
            let q = and_parts ((c.input == x.chunk.input) && (c.kind == x.chunk.kind)) (c.index == x.chunk.index) at in
            let same : c.kind ≡ x.chunk.kind = eqb-true c.kind x.chunk.kind (and_parts (c.input == x.chunk.input) (c.kind == x.chunk.kind) q.0).1 in
            let yes : (x.chunk.kind == 1) ≡ true = ap (λ n. n == 1) (sym same ∙ kind) in
            absurd (let z : true ≡ false = sym yes ∙ isnt in cc)

        by_test : (r : Bool) → (x.chunk.kind == 1) ≡ r → list_any (same_chunk c) (chunks_of xs) ≡ list_any (same_chunk c) (chunks_of (segments xs))
            → (same_chunk c x.chunk || list_any (same_chunk c) (chunks_of xs)) ≡ list_any (same_chunk c) (chunks_of (cond r (x ∷ segments xs) (segments xs)))
        by_test true at again = ap (λ b. same_chunk c x.chunk || b) again
        by_test false at again = ap (λ b. b || list_any (same_chunk c) (chunks_of xs)) (other at (same_chunk c x.chunk) refl) ∙ again

    none_live : (c : Chunk) → position (same_chunk c) (chunks_of p.parts) ≡ None → (ns : List ℕ) (xs : List rules.Part) → map (slice_get p.parts) ns ≡ map Some xs → list_any (same_chunk c) (chunks_of xs) ≡ false
    none_live c none [] [] at = refl
    none_live c none [] (x ∷ xs) at = absurd cc
    none_live c none (n ∷ ns) [] at = absurd cc
    none_live c none (n ∷ ns) (x ∷ xs) at =
        let there : slice_get p.parts n ≡ Some x = cc in
        let rest : map (slice_get p.parts) ns ≡ map Some xs = cc in
        let chunk : slice_get (chunks_of p.parts) n ≡ Some x.chunk = slice_get-map (λ (y : rules.Part). y.chunk) p.parts n ∙ ap (option_map (λ (y : rules.Part). y.chunk)) there in
        ap (λ b. b || list_any (same_chunk c) (chunks_of xs)) (none_there (same_chunk c) (chunks_of p.parts) none n x.chunk chunk)
        ∙ none_live c none ns xs rest

    -- the address of a segment's datum
    by_number : (c : Chunk) → c.kind ≡ 1 → (offset a : ℕ) (o : Option ℕ) → chunk_number d.program.tables.now.chunks c ≡ o → column_at d.placed.now o + offset ≡ a
        → segment_address k offset o ≡ (if list_any (same_chunk c) (chunks_of (segments parts)) then Some a else None)
    by_number c kind offset a None at is_a =
        ap (λ b. if b then Some a else None)
        (sym (sym (only_segments c kind parts) ∙ none_live c (ap (position (same_chunk c)) (sym chunks_are) ∙ at) live parts are.are))
    by_number c kind offset a (Some n) at is_a =
        let w = place_of_chunk p.parts c n (ap (position (same_chunk c)) (sym chunks_are) ∙ at) in
        let flag : slice_index_or flags n false ≡ list_any (same_chunk c) (chunks_of (segments parts)) =
        marked n
        ∙ (among_by_number p.parts is.program.tables.differ n w.0 w.1 live parts are.are
        ∙ (ap (λ x. list_any (same_chunk x) (chunks_of parts)) (sym w.2) ∙ only_segments c kind parts)) in
        ap (λ b. if b then Some (slice_index_or d.placed.now.addresses n 0 + offset) else None) flag
        ∙ ap (λ v. if list_any (same_chunk c) (chunks_of (segments parts)) then Some v else None) is_a

    by_input : (e : InputSymbol) (a : ℕ) (r : Bool) → (if r then slice_index_or (by_mode (looked d).mode (made_data d.placed.now.places) []) e.place 0 else column_at d.placed.now (chunk_number d.program.tables.now.chunks (chunk_at e.input 1 e.index)) + e.symbol.offset) ≡ a
        → (if r then Some (slice_index_or made e.place 0) else segment_address k e.symbol.offset (chunk_number d.program.tables.now.chunks (chunk_at e.input 1 e.index)))
        ≡ (if (r || list_any (same_chunk (chunk_at e.input 1 e.index)) (chunks_of (segments parts))) then Some a else None)
    by_input e a true at =
        let plain = ap (λ m. slice_index_or (by_mode m (made_data d.placed.now.places) []) e.place 0) (sym told.asked) in
        ap Some (is_made e.place ∙ (plain ∙ at))
    by_input e a false at = by_number (chunk_at e.input 1 e.index) refl e.symbol.offset a (chunk_number d.program.tables.now.chunks (chunk_at e.input 1 e.index)) refl at

    by_datum : (e : InputSymbol) (r : Bool) → (if r then address_at k (told_definition e) else None) ≡ (if r && is_placed l e then Some (values.address_of mode l e) else None)
    unfolding layout
    by_datum e true = by_input e (values.address_of mode l e) (e.input == 0) (address_told mode p parts es d told e)
    by_datum e false = refl

    address_each : (m : Meaning) → Knows mode imports m → address_meant k (told_lead imports m) ≡ address_place mode l m
    address_each (here e) knows = by_datum e (kind_code e.symbol.kind == kind_code Datum)
    address_each (imported i) knows = refl
    address_each null knows = refl
    address_each nothing knows = refl

  -- ---- all rows

  module _ (f : Lead → Option ℕ) (g : Meaning → Option ℕ) (each : (m : Meaning) → Knows mode imports m → f (told_lead imports m) ≡ g m) where
    abbrev h : InputSymbol → Meaning
    h = meaning mode (uses_of mode p.objects) p.plan.allow_undefined p.entries

    abbrev R : Object → Resolved
    R = resolved_in mode (uses_of mode p.objects) p.plan.allow_undefined p.entries p.objects

    by_object : {A : Type 0} (x : Resolved → List A) (os : List Object) → flat_map x (map R os) ≡ flat_map (λ o. x (R o)) os
    by_object x [] = refl
    by_object x (o ∷ os) = ap (λ ys. x (R o) ++ ys) (by_object x os)

    map_object : {B : Type 0} (x : Resolved → B) (os : List Object) → map x (map R os) ≡ map (λ o. x (R o)) os
    map_object x [] = refl
    map_object x (o ∷ os) = ap (λ ys. x (R o) ∷ ys) (map_object x os)

    resolved_is : p.resolved ≡ map R p.objects
    unfolding resolve
    resolved_is = is.program.resolved

    meant : Each (KnowsMeaning imports) (flat_map (λ o. map h (symbols_of p.objects o)) p.objects)
    unfolding imports_in_order
    meant =
        let more = further_imports mode p.entries p.resolved in
        all_know imports more [] (flat_map (λ o. map h (symbols_of p.objects o)) p.objects)
        (is.program.imports
        ∙ (ap (λ (rs : List Resolved). all_with more (flat_map (λ (r : Resolved). r.meanings) rs)) resolved_is
        ∙ ap (all_with more) (by_object (λ (r : Resolved). r.meanings) p.objects)))

    means : (i : ℕ) (o : Object) → slice_get p.objects i ≡ Some o → (s : ℕ) (e : InputSymbol) → slice_get (symbols_of p.objects o) s ≡ Some e → MeansLinkers mode (h e)
    unfolding resolve
    means i o at s e there =
        let row : slice_get (map R p.objects) i ≡ Some (R o) = slice_get-map R p.objects i ∙ ap (option_map R) at in
        let meaning_there : slice_get (map h (symbols_of p.objects o)) s ≡ Some (h e) = slice_get-map h (symbols_of p.objects o) s ∙ ap (option_map h) there in
        symbol_means mode p.plan.allow_undefined p.objects p.entries is.program.entries is.program.rise e (h e) (i, s, R o, row, there, meaning_there)

    each_symbol : (es : List InputSymbol) → ((s : ℕ) (e : InputSymbol) → slice_get es s ≡ Some e → MeansLinkers mode (h e)) → Each (MeansLinkers mode) (map h es)
    each_symbol [] all = tt
    each_symbol (e ∷ es) all = (all 0 e refl, each_symbol es (λ s x there. all (suc s) x there))

    each_object : (os : List Object) → ((i : ℕ) (o : Object) → slice_get os i ≡ Some o → Each (MeansLinkers mode) (map h (symbols_of p.objects o)))
        → Each (MeansLinkers mode) (flat_map (λ o. map h (symbols_of p.objects o)) os)
    each_object [] all = tt
    each_object (o ∷ os) all =
        each_joined (MeansLinkers mode) (map h (symbols_of p.objects o)) (flat_map (λ o. map h (symbols_of p.objects o)) os) (all 0 o refl) (each_object os (λ i x at. all (suc i) x at))

    know : Each (Knows mode imports) (flat_map (λ o. map h (symbols_of p.objects o)) p.objects)
    know = know_both mode imports (flat_map (λ o. map h (symbols_of p.objects o)) p.objects) meant (each_object p.objects (λ i o at. each_symbol (symbols_of p.objects o) (means i o at)))

    pub rows_are : rows_by f p.objects d.program.tables.now.symbols ≡ map (λ (r : Resolved). map g r.meanings) p.resolved
    rows_are =
        let more = map (told_variant names imports) p.variants in
        ap (rows_by f p.objects)
        (is.program.tables.symbols
        ∙ (ap (λ (rs : List Resolved). told_symbols names imports rs ++ more) resolved_is
        ∙ ap (λ xs. xs ++ more) (by_object (λ (r : Resolved). told_all names imports r.symbols r.meanings) p.objects)))
        ∙ (rows_told names imports (Knows mode imports) f g each p.objects h p.objects more know
        ∙ (sym (map_object (λ (r : Resolved). map g r.meanings) p.objects) ∙ ap (map (λ (r : Resolved). map g r.meanings)) (sym resolved_is)))

  pub slots_told : rows_by (slot_meant d.numbering.now) p.objects d.program.tables.now.symbols ≡ map (λ (r : Resolved). map (meant_slot l) r.meanings) p.resolved
  slots_told = rows_are (slot_meant d.numbering.now) (meant_slot l) slot_each

  pub globals_told : (made : List ℕ) (flags : List Bool) → rows_by (global_meant (sight_of d made flags)) p.objects d.program.tables.now.symbols ≡ map (λ (r : Resolved). map (meant_global mode l) r.meanings) p.resolved
  globals_told made flags = rows_are (global_meant (sight_of d made flags)) (meant_global mode l) (global_each made flags)

  pub addresses_told : (live : List ℕ) → AreLive p live parts → IsTold mode p parts es d → (made : List ℕ) → AreMade mode made d.placed.now.places → (flags : List Bool) → AreMarked flags live
      → rows_by (address_meant (sight_of d made flags)) p.objects d.program.tables.now.symbols
      ≡ map (λ (r : Resolved). map (address_place mode l) r.meanings) p.resolved
  addresses_told live are told made is_made flags marked =
      rows_are (address_meant (sight_of d made flags)) (address_place mode l)
      (address_each live are told made is_made flags marked)

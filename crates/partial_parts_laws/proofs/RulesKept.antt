-- Rules of objects that the parts of a program's relocatable object keep: what is counted, indexes, symbols, names and segment infos.
use Rattle.std.proofs.Common.{◌≡◌, ℕ, suc, zero, ◌+◌, ◌-◌, ◌<◌, ◌≤◌, ◌==◌, Bool, true, false, not, ◌&&◌, ◌||◌, List, [], ◌∷◌, ◌++◌, map, length, inl, inr, ⊎_elim, refl, sym, ap, ◌∙◌, subst, arith}
use Rattle.std.specs.Prelude.{nat_lt, nat_le, Option, Some, None, option_map, unwrap_or, filter_map, flat_map, slice_get, bytes_eq, is_some, All, if◌then◌else◌}
use Rattle.std.specs.List.{list_any, list_all, AllByRecursion, cons_option}
use Rattle.std.proofs.lemmas.Bool.{and_parts, and_from, eq-eqb, or_left, or_right, lt-ltb, le-ltb}
use Rattle.std.proofs.lemmas.Bool.Decides.{nat_tests}
use Rattle.std.proofs.lemmas.List.{length-map}
use Rattle.std.proofs.lemmas.Option.{slice_get-map, slice_get_cases}
use Rattle.list_places.specs.Has.{Has, Apart}
use Rattle.list_places.proofs.Lists.{by_test, all_has, at_has, below, has_any, has_at, has_filter, filter_has, has_left, has_map, has_pick, has_right, map_has, placed, some_is, stands as stands_at}
use Rattle.object_rules.specs.declared.spaces.Counts.{Counts}
use Rattle.object_rules.specs.Differ.{all_differ}
use Rattle.object_rules.specs.Spaces.{imports_of, counts_of}
use Rattle.object_rules.specs.Indexes.{are_counted, are_in_range, import_in_range, export_in_range, segment_in_range}
use Rattle.object_rules.specs.Symbols.{stands as is_there, lies_in, symbol_stands, symbols_stand, is_section, is_seen, name_of as name_by, seen_name, names_differ}
use Rattle.object_rules.specs.Metadata.{infos_stand}
use Rattle.object_rules.specs.Windows.{is_covered}
use Rattle.object_rules.specs.object_parts.declared.parts.Parts.{Parts}
use Rattle.name_rules.specs.object_file.wasm_types.declared.function.FuncType.{FuncType}
use Rattle.name_rules.specs.object_file.wasm_types.declared.import.Import.{Import}
use Rattle.name_rules.specs.object_file.wasm_types.Same.{same_type}
use Rattle.name_rules.specs.object_file.wasm_types.SameLaws.{same_type_is}
use Rattle.name_rules.specs.object_file.wasm_module.declared.parts.Export.{Export}
use Rattle.name_rules.specs.object_file.linking_section.declared.segment.SegmentInfo.{SegmentInfo}
use Rattle.name_rules.specs.object_file.linking_section.declared.symbol.Symbol.{Symbol}
use Rattle.name_rules.specs.object_file.linking_section.declared.symbol.SymbolKind.{SymbolKind}
use Rattle.name_rules.specs.object_file.linking_section.declared.symbol.SymbolKind.TheVariants.{Function, Datum, GlobalVar, Section, Table}
use Rattle.name_rules.specs.object_file.linking_section.declared.member_kinds.TheConstants as members
use Rattle.name_rules.specs.object_file.linking_section.Flags.{kind_code, is_local, is_weak, is_explicit, is_undefined, is_local_definition}
use Rattle.name_rules.specs.object_file.object_columns.declared.segments.SegmentDef.{SegmentDef}
use Rattle.name_rules.specs.object_file.declared.object.Object.{Object}
use Rattle.name_rules.specs.object_file.Spaces.{function_imports, global_imports, table_imports}
use Rattle.object_file.specs.Sound.{Sound, NamesInRange, EndsIn, function_count, global_count}
use Rattle.object_file.specs.Objects.{object_from}
use Rattle.name_rules.specs.Entries.{InputSymbol, SymbolType, of_function, of_global, untyped, is_entry, is_kind, name_of, in_kept_part, index_in, entry_in, is_kept, same_entry}
use Rattle.image_emit.specs.Bytes.{file_part}
use Rattle.reloc_apply.specs.declared.window.Patch.{Patch}
use Rattle.reloc_apply.specs.Apart.{AreApart, LiesIn, size_of}
use Rattle.reloc_apply.proofs.Apart.{apart_le}
use Rattle.reloc_apply.proofs.Over.{filled_long}
use Rattle.link_rules.specs.Program.{Program, Part, chunk_at, is_that, span_of}
use Rattle.link_rules.specs.Keys.{content_type, function_type_of, window_types}
use Rattle.link_rules.specs.Values.{part_bytes}
use Rattle.partial_rules.specs.Relocatable.{Relocatable, Windowed, segment, relocatable_bytes}
use Rattle.partial_rules.specs.Partial.{is_none, object_winner, least_in_object, is_referenced, name_references, stands_for_name, standing, is_open, open_of, open_index, defined_index, open_import, has_import, importing, open_symbol, symbol_for, import_kind, import_for, import_types, imports, kept, place_of, function_number, types, type_number, windowed, empty_window, content_info, exported_name, export_for, relocatable}
use Rattle.partial_rules.specs.WellFormed.{Coded}
use Rattle.partial_rules.specs.Sections.{data_end, sections_told}
use Rattle.partial_rules.specs.ReadAs.{shown, linking_for, told_from, data_part, bodies_told, parts_told}
use Rattle.partial_laws.specs.Names.{IsOf}
use Rattle.partial_laws.proofs.Flags.{open_undefined}
use Rattle.partial_laws.proofs.Loading.{rise_above}
use Rattle.partial_laws.proofs.Regions.{entries_follow, entries_turned}
use Rattle.partial_laws.proofs.Same.{name_equal}
use Rattle.partial_parts_laws.specs.Linked.{Linked, program}
use Rattle.partial_parts_laws.specs.ReadBack.{TreeRead, AreLinked}
use Rattle.partial_parts_laws.specs.SymbolsBack.{AreNamed}
use Rattle.partial_parts_laws.specs.RulesKept.{FirstRules}
use Rattle.partial_parts_laws.proofs.Inside.{merged_has}
use Rattle.partial_parts_laws.proofs.Zips.{zip_length}
use Rattle.partial_parts_laws.proofs.Once.{parts_apart}
use Rattle.partial_parts_laws.proofs.Parts.{make_function, make_segment, make_global, files_are}
use Rattle.partial_parts_laws.proofs.Exported.{placed_at}
use Rattle.partial_parts_laws.proofs.Imported.{TypeFor, standing_typed, open_type, function_count as function_count_is, global_count as global_count_is}
use Rattle.partial_parts_laws.proofs.KeptParts.{of_segment, of_global as global_from, function_there, segment_there, global_there, segment_whole}
use Rattle.partial_parts_laws.proofs.ReadTree.{trees_are_read}
use Rattle.partial_parts_laws.proofs.StandingSymbols.{of_objects, origin, range, standing_in, apart, closed_defines, closed_defined, no_section, import_at}
use Rattle.partial_parts_laws.proofs.SymbolsBack.{by_open, comes}

no_true : false ≡ true → ⊥
no_true e = absurd cc

not_true : (b : Bool) → not b ≡ true → b ≡ false
not_true true e = absurd cc
not_true false e = refl

-- ---- lists

pub all_from : {A : Type 0} (t : A → Bool) (xs : List A) → ((x : A) → Has xs x → t x ≡ true) → list_all t xs ≡ true
all_from t [] each = refl
all_from t (x ∷ xs) each = and_from (t x) (list_all t xs) (each x (inl refl)) (all_from t xs (λ y h. each y (inr h)))

five : (a b c d e : Bool) → a ≡ true → b ≡ true → c ≡ true → d ≡ true → e ≡ true → (a && b && c && d && e) ≡ true
five a b c d e ha hb hc hd he = and_from (a && b && c && d) e (and_from (a && b && c) d (and_from (a && b) c (and_from a b ha hb) hc) hd) he

-- what is told of one that stands at a place
told_at : {A B : Type 0} (tell : List ℕ → B → A) (item : B → List ℕ) (ys : List B) (k : ℕ) (y : B) → slice_get ys k ≡ Some y → (rest : List ℕ) × (slice_get (told_from tell item ys) k ≡ Some (tell rest y))
told_at tell item [] k y is = absurd cc
told_at tell item (z ∷ ys) zero y is = (flat_map item ys, ap (λ (w : _). Some (tell (flat_map item ys) w)) (some_is z y is))
told_at tell item (z ∷ ys) (suc k) y is = told_at tell item ys k y is

told_long : {A B : Type 0} (tell : List ℕ → B → A) (item : B → List ℕ) (ys : List B) → length (told_from tell item ys) ≡ length ys
told_long tell item [] = refl
told_long tell item (y ∷ ys) = ap suc (told_long tell item ys)

told_all : {A B : Type 0} (t : A → Bool) (tell : List ℕ → B → A) (item : B → List ℕ) (ys : List B) → ((rest : List ℕ) (y : B) → t (tell rest y) ≡ true) → list_all t (told_from tell item ys) ≡ true
told_all t tell item [] each = refl
told_all t tell item (y ∷ ys) each = and_from (t (tell (flat_map item ys) y)) (list_all t (told_from tell item ys)) (each (flat_map item ys) y) (told_all t tell item ys each)

picks_of_map : {A B C : Type 0} (f : B → Option C) (h : A → B) (xs : List A) → filter_map f (map h xs) ≡ filter_map (λ x. f (h x)) xs
picks_of_map f h [] = refl
picks_of_map f h (x ∷ xs) = ap (cons_option (f (h x))) (picks_of_map f h xs)

bodies_covered : (end : ℕ) (cs : List Coded) → list_all (λ b. is_covered b.windows) (bodies_told end cs) ≡ true
bodies_covered end [] = refl
bodies_covered end (c ∷ cs) = bodies_covered end cs

bodies_long : (end : ℕ) (cs : List Coded) → length (bodies_told end cs) ≡ length cs
bodies_long end [] = refl
bodies_long end (c ∷ cs) = ap suc (bodies_long end cs)

-- keys of items that are told apart
keys_differ : {A : Type 0} (same : A → A → Bool) (key : A → Option (List ℕ)) (xs : List A) → Apart same xs
    → ((x y : A) (u v : List ℕ) → Has xs x → Has xs y → key x ≡ Some u → key y ≡ Some v → bytes_eq u v ≡ true → same x y ≡ true) → all_differ bytes_eq (filter_map key xs) ≡ true
keys_differ same key [] differ tells = refl
keys_differ {A} same key (x ∷ xs) differ tells = choose (key x) refl (keys_differ same key xs differ.1 (λ a b u v ha hb. tells a b u v (inr ha) (inr hb)))
  where
    choose : (o : Option (List ℕ)) → key x ≡ o → all_differ bytes_eq (filter_map key xs) ≡ true → all_differ bytes_eq (cons_option o (filter_map key xs)) ≡ true
    choose None e rest = rest
    choose (Some u) e rest =
        and_from (not (list_any (bytes_eq u) (filter_map key xs))) (all_differ bytes_eq (filter_map key xs))
        (by_test (list_any (bytes_eq u) (filter_map key xs))
        (λ t. let v = has_any (bytes_eq u) (filter_map key xs) t in let y = has_pick key xs v.0 v.1 in absurd (differ.0 y.0 y.1 (tells x y.0 u v.0 (inl refl) (inr y.1) e y.2 v.2)))
        (λ f. ap not f)) rest

-- ---- one symbol

open_there : (s : Symbol) (imports all : ℕ) → s.index < imports → imports ≤ all → is_undefined s ≡ true → is_there s imports all ≡ true
open_there s imports all low le undefined =
    and_from (nat_lt s.index all) (if nat_lt s.index imports then is_undefined s else not (is_undefined s)) (lt-ltb s.index all (omega (arith, low, le)))
    (ap (λ (b : Bool). if b then is_undefined s else not (is_undefined s)) (lt-ltb s.index imports low) ∙ undefined)

closed_there : (s : Symbol) (imports all : ℕ) → imports ≤ s.index → s.index < all → is_undefined s ≡ false → is_there s imports all ≡ true
closed_there s imports all le low defined =
    and_from (nat_lt s.index all) (if nat_lt s.index imports then is_undefined s else not (is_undefined s)) (lt-ltb s.index all low)
    (ap (λ (b : Bool). if b then is_undefined s else not (is_undefined s)) (le-ltb s.index imports le) ∙ ap not defined)

within : (at end : ℕ) (ps : List Patch) → AreApart at end ps → AllByRecursion (LiesIn end) ps
within at end [] h = tt
within at end (x ∷ ps) h = (apart_le (x.place + size_of x.form) end ps h.1, within (x.place + size_of x.form) end ps h.1)

-- an export of a function
exported_as : (o : Option (List ℕ)) (n : ℕ) (e : Export) → option_map (λ name. record { name = name; kind = 0; index = n }) o ≡ Some e → (e.kind ≡ 0) × (e.index ≡ n)
exported_as None n e is = absurd cc
exported_as (Some name) n e is = let same = some_is (record { name = name; kind = 0; index = n }) e is in (ap (λ (x : Export). x.kind) (sym same), ap (λ (x : Export). x.index) (sym same))

module _ (l : Linked) (objects : List Object) (is : AreLinked l objects) (names : All AreNamed objects) (codes : List Coded)
    (bodies : (relocatable (program l objects)).bodies ≡ map {A = Coded} {B = Windowed} (λ c. c.windowed) codes) where
  abbrev p : Program
  p = program l objects

  abbrev r : Relocatable
  r = relocatable p

  abbrev parts : Parts
  parts = parts_told r codes

  abbrev pub counts : Counts
  counts = counts_of (sections_told r) parts

  of : IsOf p objects
  of = of_objects l objects is names

  above : All (λ (y : Object). 0 < y.input) objects
  above = rise_above 0 objects is.rise

  -- ---- how many there are

  pub imported_functions : counts.imported_functions ≡ length (open_of p Function)
  unfolding relocatable
  imported_functions = function_count_is p objects of is.no_clash

  imported_globals : counts.imported_globals ≡ length (open_of p GlobalVar)
  unfolding relocatable
  imported_globals = global_count_is p objects of is.no_clash

  pub functions_long : length r.functions ≡ length (kept p 0)
  unfolding relocatable
  functions_long = length-map (kept p 0) (λ part. type_number p (content_type part.content))

  pub functions_are : counts.functions ≡ length (open_of p Function) + length (kept p 0)
  functions_are = omega (arith, imported_functions, functions_long)

  pub tree : TreeRead p (object_from 0 (sections_told r) parts)
  tree = trees_are_read 0 p codes (λ part has. global_from l objects is.strict above part has) bodies

  globals_long : length parts.globals ≡ length (kept p 2)
  unfolding object_from
  globals_long = zip_length _ (kept p 2) parts.globals tree.globals

  globals_are : counts.globals ≡ length (open_of p GlobalVar) + length (kept p 2)
  globals_are = omega (arith, imported_globals, globals_long)

  pub segments_are : r.segments ≡ map (λ part. windowed p part) (kept p 1)
  unfolding relocatable
  segments_are = refl

  pub segments_long : length parts.segments ≡ length (kept p 1)
  segments_long = told_long (data_part (data_end (length (relocatable_bytes r)) r)) segment r.segments ∙ (ap (λ ws. length ws) segments_are ∙ length-map (kept p 1) (λ part. windowed p part))

  as_many : length codes ≡ length (kept p 0)
  unfolding relocatable
  as_many = sym (length-map codes (λ (c : Coded). c.windowed)) ∙ (sym (ap (λ ws. length ws) bodies) ∙ length-map (kept p 0) (λ part. windowed p part))

  counted : are_counted parts ≡ true
  counted = and_from (length r.functions == length parts.bodies) true (eq-eqb (length r.functions) (length parts.bodies) (functions_long ∙ (sym as_many ∙ sym (bodies_long _ codes)))) refl

  -- ---- indexes

  pub type_low : (t : FuncType) → Has (types p) t → type_number p t < length (types p)
  type_low t has =
      let found = placed (same_type t) (types p) t has ((same_type_is t t).1 refl) in
      let at = stands_at (same_type t) (types p) found.0 found.1 in
      let low : found.0 < length (types p) = below (types p) found.0 at.item at.there in
      omega (arith, ap (λ (o : Option ℕ). unwrap_or o 0) found.1, low)

  import_type_has : (t : FuncType) → Has (import_types p) t → Has (types p) t
  import_type_has t has =
      merged_has (import_types p ++ map (λ part. content_type part.content) (kept p 0) ++ window_types (kept p 0)) t
      (has_left (import_types p ++ map (λ part. content_type part.content) (kept p 0)) (window_types (kept p 0)) t (has_left (import_types p) (map (λ part. content_type part.content) (kept p 0)) t has))

  pub function_type_has : (part : Part) → Has (kept p 0) part → Has (types p) (content_type part.content)
  function_type_has part has =
      merged_has (import_types p ++ map (λ part. content_type part.content) (kept p 0) ++ window_types (kept p 0)) (content_type part.content)
      (has_left (import_types p ++ map (λ part. content_type part.content) (kept p 0)) (window_types (kept p 0)) (content_type part.content)
      (has_right (import_types p) (map (λ part. content_type part.content) (kept p 0)) (content_type part.content) (map_has (λ (x : Part). content_type x.content) (kept p 0) part has)))

  pub types_long : counts.types ≡ length (types p)
  unfolding relocatable
  types_long = refl

  import_low : (e : InputSymbol) → Has (importing p) e → import_in_range counts (import_for p (open_import p e)).kind ≡ true
  import_low e has =
      let f = has_filter (λ y. is_open p y && has_import p y y.symbol.kind) (standing p) e has in
      let opened = (and_parts (is_open p e) (has_import p e e.symbol.kind) f.1).0 in
      let typed : TypeFor e.symbol.kind (open_import p e).type = subst (TypeFor e.symbol.kind) (sym (open_type p objects of is.no_clash e f.0 opened)) (standing_typed p objects of is.no_clash e f.0).typed in
      by_type (open_import p e).type refl typed f.0 opened
    where
      is_function : (k : SymbolKind) (t : FuncType) → TypeFor k (of_function t) → k ≡ Function
      is_function Function t h = refl
      is_function Datum t h = absurd h
      is_function GlobalVar t h = absurd h
      is_function Section t h = absurd h
      is_function Table t h = absurd h

      by_type : (t : SymbolType) → (open_import p e).type ≡ t → TypeFor e.symbol.kind t → Has (standing p) e → is_open p e ≡ true → import_in_range counts (import_kind p t) ≡ true
      by_type (of_function t) same typed there opened =
          let mine : Has (open_of p Function) e = filter_has (λ y. is_open p y && is_kind Function y) (standing p) e there (and_from (is_open p e) (is_kind Function e) opened (ap (λ k. kind_code k == kind_code Function) (is_function e.symbol.kind t typed))) in
          let has_type : Has (import_types p) t = subst (Has (import_types p)) (ap function_type_of same) (map_has (λ y. function_type_of (open_import p y).type) (open_of p Function) e mine) in
          lt-ltb (type_number p t) counts.types (omega (arith, type_low t (import_type_has t has_type), types_long))
      by_type (of_global g) same typed there opened = refl
      by_type untyped same typed there opened = refl

  pub imports_low : list_all (λ (i : Import). import_in_range counts i.kind) (imports p) ≡ true
  imports_low =
      all_from (λ (i : Import). import_in_range counts i.kind) (map (λ e. import_for p (open_import p e)) (importing p))
      (λ i has. let m = has_map (λ e. import_for p (open_import p e)) (importing p) i has in subst (λ (j : Import). import_in_range counts j.kind ≡ true) m.2 (import_low m.0 m.1))

  pub functions_low : list_all (λ t. nat_lt t counts.types) (map (λ part. type_number p (content_type part.content)) (kept p 0)) ≡ true
  functions_low =
      all_from (λ t. nat_lt t counts.types) (map (λ part. type_number p (content_type part.content)) (kept p 0))
      (λ t has. let m = has_map (λ (part : Part). type_number p (content_type part.content)) (kept p 0) t has in
      lt-ltb t counts.types (omega (arith, m.2, type_low (content_type m.0.content) (function_type_has m.0 m.1), types_long)))

  pub place_low : (k : ℕ) (part : Part) → Has (kept p k) part → place_of p k part.chunk < length (kept p k)
  place_low k part has =
      let at = at_has (kept p k) part has in
      omega (arith, placed_at p (parts_apart l objects is.rise is.strict) k at.0 part at.1, below (kept p k) at.0 part at.1)

  exports_low : list_all (export_in_range counts) (filter_map (λ part. export_for p part) (kept p 0)) ≡ true
  exports_low =
      all_from (export_in_range counts) (filter_map (λ part. export_for p part) (kept p 0))
      (λ e has.
      let m = has_pick (λ part. export_for p part) (kept p 0) e has in
      let told = exported_as (exported_name p m.0.chunk) (function_number p m.0.chunk) e m.2 in
      ap (λ k. if k == 0 then nat_lt e.index counts.functions else (if k == 1 then nat_lt e.index counts.tables else (if k == 2 then e.index == 0 else nat_lt e.index counts.globals))) told.0
      ∙ lt-ltb e.index counts.functions (omega (arith, told.1, place_low 0 m.0 m.1, functions_are)))

  in_range : are_in_range counts parts ≡ true
  unfolding relocatable
  in_range = five _ _ _ _ _ imports_low functions_low exports_low refl (told_all segment_in_range (data_part (data_end (length (relocatable_bytes r)) r)) segment r.segments (λ rest w. refl))

  -- ---- symbols

  abbrev pub Stands : Symbol → SymbolKind → Type 0
  Stands s k = symbol_stands counts parts.segments s k ≡ true

  open_stands : (x : InputSymbol) → Has (standing p) x → is_open p x ≡ true → Stands (shown (open_symbol p x)) (open_symbol p x).kind
  unfolding relocatable
  open_stands x has opened = by_kind x.symbol.kind refl
    where
      undefined : is_undefined (open_symbol p x) ≡ true
      undefined = open_undefined x.symbol.flags (list_all (λ (y : InputSymbol). is_weak y.symbol) (name_references p (name_of x))) (list_any (λ (y : InputSymbol). is_explicit y.symbol) (name_references p (name_of x)))

      low : (k : SymbolKind) → x.symbol.kind ≡ k → (k ≡ Datum → ⊥) → (k ≡ Section → ⊥) → open_index p x k < length (imports_of k (imports p))
      low k kind datum section = let at = import_at l objects is names x has opened k kind datum section in below (imports_of k (imports p)) (open_index p x k) at.import at.there

      by_kind : (k : SymbolKind) → x.symbol.kind ≡ k → Stands (shown (record (open_symbol p x) { index = open_index p x k })) k
      by_kind Function kind = open_there (shown (record (open_symbol p x) { index = open_index p x Function })) counts.imported_functions counts.functions (low Function kind (λ e. not_datum e) (λ e. not_section e)) (omega arith) undefined
        where
          not_datum : Function ≡ Datum → ⊥
          not_datum e = absurd cc

          not_section : Function ≡ Section → ⊥
          not_section e = absurd cc
      by_kind Datum kind = or_left (is_undefined (open_symbol p x)) (lies_in (shown (record (open_symbol p x) { index = 0 })) (slice_get parts.segments 0)) undefined
      by_kind GlobalVar kind = open_there (shown (record (open_symbol p x) { index = open_index p x GlobalVar })) counts.imported_globals counts.globals (low GlobalVar kind (λ e. not_datum e) (λ e. not_section e)) (omega arith) undefined
        where
          not_datum : GlobalVar ≡ Datum → ⊥
          not_datum e = absurd cc

          not_section : GlobalVar ≡ Section → ⊥
          not_section e = absurd cc
      by_kind Section kind = absurd (no_section l objects is names x has kind)
      by_kind Table kind = open_there (shown (record (open_symbol p x) { index = 0 })) counts.tables counts.tables (low Table kind (λ e. not_datum e) (λ e. not_section e)) (omega arith) undefined
        where
          not_datum : Table ≡ Datum → ⊥
          not_datum e = absurd cc

          not_section : Table ≡ Section → ⊥
          not_section e = absurd cc

  -- a datum that a kept segment has
  datum_lies : (ob : Object) → Has objects ob → (s : Symbol) (g : SegmentDef) → slice_get ob.segments s.index ≡ Some g → is_kept objects ob members.DATA s.index ≡ true → s.offset + s.size ≤ g.span.len
      → (index : ℕ) → index ≡ place_of p 1 (chunk_at ob.input 1 s.index) → lies_in s (slice_get parts.segments index) ≡ true
  datum_lies ob ho s g at keeps ends index placed_so =
      let part : Part = make_segment l objects ob s.index g in
      let has = segment_there l objects is.strict above ob ho s.index g at keeps in
      let k = at_has (kept p 1) part has in
      let place : place_of p 1 (chunk_at ob.input 1 s.index) ≡ k.0 = placed_at p (parts_apart l objects is.rise is.strict) 1 k.0 part k.1 in
      let there : slice_get r.segments k.0 ≡ Some (windowed p part) = ap (λ ws. slice_get ws k.0) segments_are ∙ (slice_get-map (λ x. windowed p x) (kept p 1) k.0 ∙ ap (option_map (λ x. windowed p x)) k.1) in
      let told = told_at (data_part (data_end (length (relocatable_bytes r)) r)) segment r.segments k.0 (windowed p part) there in
      let whole = segment_whole l objects is.strict above is.sound is.lie part has in
      let emptied : length (windowed p part).bytes ≡ length (part_bytes p part) = filled_long (map empty_window part.named) (part_bytes p part) (within 0 (length (part_bytes p part)) (map empty_window part.named) whole.windows) in
      let long : length (part_bytes p part) ≡ g.span.len = ap (λ fs. length (file_part fs (span_of l.all ob.input g.span))) (files_are l objects) ∙ is.lie.segments ob ho g (has_at ob.segments s.index g at) in
      let fits : s.offset + s.size ≤ length (windowed p part).bytes = omega (arith, ends, emptied, long) in
      ap (λ n. lies_in s (slice_get parts.segments n)) (placed_so ∙ place) ∙ (ap (lies_in s) told.1 ∙ grind (arith, nat_tests, fits))

  closed_stand : (ob : Object) → Has objects ob → (place : ℕ) (s : Symbol) (k : SymbolKind) → NamesInRange ob s k → (not (is_undefined s) && in_kept_part objects ob s k) ≡ true → (k ≡ Section → ⊥)
      → Stands (shown (record s { index = defined_index p (record (entry_in objects ob place s) { index = index_in ob s k }) k })) k
  closed_stand ob ho place s Function named defines section =
      let d = and_parts (not (is_undefined s)) (is_kept objects ob members.FUNCTION s.index) defines in
      let defined : is_undefined s ≡ false = not_true (is_undefined s) d.0 in
      let behind : length (function_imports ob) ≤ s.index = grind (arith, nat_tests, named.1, defined) in
      let low : s.index < function_count ob = named.0 in
      let n : ℕ = s.index - length (function_imports ob) in
      let small : n < length ob.functions = omega (arith, behind, low) in
      let again : n + length (function_imports ob) ≡ s.index = omega (arith, behind) in
      let index : ℕ = length (open_of p Function) + place_of p 0 (chunk_at ob.input 0 n) in
      ⊎_elim (λ f. closed_there (shown (record s { index = index })) counts.imported_functions counts.functions (omega (arith, imported_functions))
      (omega (arith, functions_are, place_low 0 (make_function l objects ob n f.0) (function_there l objects is.strict above ob ho n f.0 f.2 (ap (is_kept objects ob members.FUNCTION) again ∙ d.1)))) defined)
      (λ past. absurd (omega (arith, small, past.0))) (slice_get_cases ob.functions n).1
  closed_stand ob ho place s Datum named defines section =
      let d = and_parts (not (is_undefined s)) (is_kept objects ob members.DATA s.index) defines in
      let told = named (not_true (is_undefined s) d.0) in
      let index : ℕ = place_of p 1 (chunk_at ob.input 1 s.index) in
      or_right (is_undefined s) (lies_in (shown (record s { index = index })) (slice_get parts.segments index))
      (⊎_elim (λ g. datum_lies ob ho s g.0 g.2 d.1 (subst (EndsIn s) g.2 told.1) index refl) (λ past. absurd (omega (arith, told.0, past.0))) (slice_get_cases ob.segments s.index).1)
  closed_stand ob ho place s GlobalVar named defines section =
      let d = and_parts (not (is_undefined s)) true defines in
      let defined : is_undefined s ≡ false = not_true (is_undefined s) d.0 in
      let behind : length (global_imports ob) ≤ s.index = grind (arith, nat_tests, named.1, defined) in
      let low : s.index < global_count ob = named.0 in
      let n : ℕ = s.index - length (global_imports ob) in
      let small : n < length ob.globals = omega (arith, behind, low) in
      let index : ℕ = length (open_of p GlobalVar) + place_of p 2 (chunk_at ob.input 2 n) in
      ⊎_elim (λ g. closed_there (shown (record s { index = index })) counts.imported_globals counts.globals (omega (arith, imported_globals))
      (omega (arith, globals_are, place_low 2 (make_global l objects ob n g.0) (global_there l objects is.strict above ob ho n g.0 g.2))) defined)
      (λ past. absurd (omega (arith, small, past.0))) (slice_get_cases ob.globals n).1
  closed_stand ob ho place s Section named defines section = absurd (section refl)
  closed_stand ob ho place s Table named defines section =
      let d = and_parts (not (is_undefined s)) true defines in
      absurd (no_true (sym (not_true (is_undefined s) d.0) ∙ (named.1 ∙ lt-ltb s.index (length (table_imports ob)) named.0)))

  closed_stands : (x : InputSymbol) → Has (standing p) x → is_open p x ≡ false → Stands (shown (record x.symbol { index = defined_index p x x.symbol.kind })) x.symbol.kind
  closed_stands x has closed =
      let it = origin l objects is names x (standing_in l objects is names x has).0 in
      let defines : (not (is_undefined it.symbol) && in_kept_part objects it.object it.symbol it.symbol.kind) ≡ true = ap (λ (y : InputSymbol). y.defines) it.made ∙ closed_defines l objects is names x has closed in
      subst (λ (y : InputSymbol). Stands (shown (record y.symbol { index = defined_index p y y.symbol.kind })) y.symbol.kind) it.made
      (closed_stand it.object it.there it.place it.symbol it.symbol.kind (range l objects is names it.object it.there it.symbol it.one_of) defines
      (λ e. no_section l objects is names x has (sym (ap (λ (y : InputSymbol). y.symbol.kind) it.made) ∙ e)))

  abbrev pub symbols : List Symbol
  symbols = map shown (map (λ x. symbol_for p x) (standing p))

  pub stands_back : (x : InputSymbol) → Has (standing p) x → Stands (shown (symbol_for p x)) (symbol_for p x).kind
  stands_back x has = by_open l objects is names (λ y. Stands (shown y) y.kind) x (open_stands x has) (closed_stands x has)

  symbols_there : symbols_stand counts parts symbols ≡ true
  symbols_there =
      all_from (λ (s : Symbol). symbol_stands counts parts.segments s s.kind) symbols
      (λ s has.
      let m = has_map shown (map (λ x. symbol_for p x) (standing p)) s has in
      let n = has_map (λ x. symbol_for p x) (standing p) m.0 m.1 in
      subst (λ (y : Symbol). Stands y y.kind) m.2 (subst (λ (y : Symbol). Stands (shown y) y.kind) n.2 (stands_back n.0 n.1)))

  -- ---- names

  entered : (x : InputSymbol) → Has (standing p) x → is_entry x ≡ true → stands_for_name p x (object_winner p (name_of x)) ≡ true
  entered x has entry = ap (λ (b : Bool). if b then stands_for_name p x (object_winner p (name_of x)) else (x.defines && not (is_kind Section x))) (sym entry) ∙ (standing_in l objects is names x has).1

  same_as : (x y : InputSymbol) (o : Option InputSymbol) → is_that x o ≡ true → is_that y o ≡ true → same_entry x y ≡ true
  same_as x y None hx hy = absurd (no_true hx)
  same_as x y (Some w) hx hy = entries_follow x w y hx (entries_turned w y ∙ hy)

  one_entry : (x y : InputSymbol) → Has (standing p) x → Has (standing p) y → is_entry x ≡ true → is_entry y ≡ true → name_of x ≡ name_of y → same_entry x y ≡ true
  one_entry x y hx hy ex ey name = by_winner (object_winner p (name_of y)) (ap (λ n. stands_for_name p x (object_winner p n)) (sym name) ∙ entered x hx ex) (entered y hy ey)
    where
      by_winner : (o : Option InputSymbol) → stands_for_name p x o ≡ true → stands_for_name p y o ≡ true → same_entry x y ≡ true
      by_winner (Some w) tx ty = entries_follow x w y tx (entries_turned w y ∙ ty)
      by_winner None tx ty =
          let a = and_parts (is_that x (least_in_object p (name_of x))) (is_referenced p (name_of x)) tx in
          let b = and_parts (is_that y (least_in_object p (name_of y))) (is_referenced p (name_of y)) ty in
          same_as x y (least_in_object p (name_of y)) (ap (λ n. is_that x (least_in_object p n)) (sym name) ∙ a.0) b.0

  given_name : (b : Bool) (o : Option (List ℕ)) (u : List ℕ) → (if b then o else None) ≡ Some u → (b ≡ true) × (o ≡ Some u)
  given_name true o u e = (refl, e)
  given_name false o u e = absurd cc

  abbrev seen : InputSymbol → Option (List ℕ)
  seen x = seen_name (imports p) (shown (symbol_for p x))

  seen_entry : (x : InputSymbol) → Has (standing p) x → (u : List ℕ) → seen x ≡ Some u → (is_entry x ≡ true) × (name_of x ≡ u)
  seen_entry x has u e =
      let g = given_name (is_seen (shown (symbol_for p x))) (name_by (imports p) (shown (symbol_for p x))) u e in
      let own : (symbol_for p x).name ≡ Some u = ap (λ (s : Symbol). s.name) (sym (comes l objects is names x has)) ∙ g.1 in
      by_open l objects is names (λ s. is_seen (shown s) ≡ true → s.name ≡ Some u → (is_entry x ≡ true) × (name_of x ≡ u)) x
      (λ opened t n. ((and_parts (is_entry x) (is_none (object_winner p (name_of x))) opened).0, some_is (name_of x) u n))
      (λ closed t n.
      let defined = closed_defined l objects is names x has closed in
      let both = and_parts (not (is_section x.symbol.kind)) (is_undefined x.symbol || not (is_local x.symbol)) t in
      let outside : not (is_local x.symbol) ≡ true = ap (λ (b : Bool). b || not (is_local x.symbol)) (sym defined) ∙ both.1 in (
        and_from (is_some x.symbol.name) (not (is_local_definition x.symbol)) (ap (λ (o : Option (List ℕ)). is_some o) n) (ap (λ (b : Bool). not (b && not (is_undefined x.symbol))) (not_true (is_local x.symbol) outside)),
        ap (λ (o : Option (List ℕ)). unwrap_or o []) n,
      ))
      g.0 own

  names_apart : names_differ (imports p) symbols ≡ true
  names_apart =
      ap (all_differ bytes_eq) (picks_of_map (seen_name (imports p)) shown (map (λ x. symbol_for p x) (standing p)) ∙ picks_of_map (λ s. seen_name (imports p) (shown s)) (λ x. symbol_for p x) (standing p))
      ∙ keys_differ same_entry seen (standing p) (apart l objects is names)
      (λ x y u v hx hy ex ey same.
      let a = seen_entry x hx u ex in
      let b = seen_entry y hy v ey in
      one_entry x y hx hy a.0 b.0 (a.1 ∙ (name_equal u v same ∙ sym b.1)))

  -- ---- segment infos

  abbrev infos : List SegmentInfo
  infos = map (λ part. content_info p part.content) (kept p 1)

  infos_there : infos_stand counts infos ≡ true
  infos_there =
      and_from (nat_le (length infos) counts.segments) (list_all (λ (i : SegmentInfo). nat_le i.align 31) infos)
      (let few : length infos ≤ counts.segments = omega (arith, length-map (kept p 1) (λ part. content_info p part.content), segments_long) in grind (arith, nat_tests, few))
      (all_from (λ (i : SegmentInfo). nat_le i.align 31) infos
      (λ i has.
      let m = has_map (λ (part : Part). content_info p part.content) (kept p 1) i has in
      let o = of_segment l objects is.strict above m.0 m.1 in
      let so = all_has (λ (y : Object). (size : ℕ) × Sound size y) objects is.sound o.object o.there in
      let sound : Sound so.0 o.object = so.1 in
      let low : o.definition.info.align ≤ 31 = all_has (λ (g : SegmentDef). g.info.align ≤ 31) o.object.segments sound.alignments o.definition (has_at o.object.segments o.place o.definition o.at) in
      let same : o.definition.info ≡ i = ap (λ (x : Part). content_info p x.content) o.is ∙ m.2 in
      subst (λ (j : SegmentInfo). nat_le j.align 31 ≡ true) same (grind (arith, nat_tests, low))))

  -- ---- all

  pub first_rules : FirstRules (sections_told r) (relocatable_bytes r) parts (linking_for r)
  unfolding relocatable
  first_rules = record {
    counted = counted;
    in_range = in_range;
    symbols = symbols_there;
    names = names_apart;
    infos = infos_there;
    covered = bodies_covered _ codes;
  }

-- The types that are added one after another are those of the definition.
use Rattle.std.proofs.Common.{◌≡◌, ℕ, zero, suc, ◌+◌, Bool, true, false, ◌&&◌, ◌==◌, cond, List, [], ◌∷◌, ◌++◌, map, filter, filter_map, flat_map, fold, slice_get, get_or, Option, Some, None, option_map, option_and_then, unwrap_or, refl, sym, ap, ◌∙◌}
use Rattle.std.specs.Prelude.{codes}
use Rattle.std.specs.List.{cons_option}
use Rattle.std.proofs.lemmas.Option.{slice_get-map, same_Some, none-some, get_or_from_slice_get}
use Rattle.type_merge.proofs.Numbers.{in_turn}
use Rattle.partial_imports.specs.link_program.wl_base.Choice.{first_some}
use Rattle.partial_imports.specs.link_program.wasm_types.declared.function.FuncType.{FuncType}
use Rattle.partial_imports.specs.link_program.wasm_types.declared.import.Import.{Import}
use Rattle.partial_imports.specs.link_program.linking_section.Flags.{is_explicit, kind_code}
use Rattle.partial_imports.specs.link_program.linking_section.declared.symbol.Symbol.{Symbol}
use Rattle.partial_imports.specs.link_program.linking_section.declared.symbol.SymbolKind.{SymbolKind}
use Rattle.partial_imports.specs.link_program.linking_section.declared.symbol.SymbolKind.TheVariants.{Function, Datum, GlobalVar, Section, Table}
use Rattle.partial_imports.specs.link_program.object_file.declared.object.Object.{Object}
use Rattle.partial_imports.specs.link_program.object_file.Spaces.{no_type}
use Rattle.partial_imports.specs.link_program.name_rules.Entries.{InputSymbol, ImportKey, is_kind, name_of, symbols_of, entries_from, entry_in, import_in, type_in, key_of}
use Rattle.partial_imports.specs.link_program.name_rules.Meanings.{least_import}
use Rattle.partial_imports.specs.link_program.name_entries.View.{rows_of}
use Rattle.partial_imports.specs.link_program.type_merge.Types.{with_type}
use Rattle.partial_imports.specs.link_program.link_rules.Program as rules
use Rattle.partial_imports.specs.link_program.link_rules.Program.{Program, Part, function, segment, global, linker_made, a_symbol, a_type, named_type, types_named}
use Rattle.partial_imports.specs.link_program.link_rules.Keys.{function_type_of, content_type, window_types as defined_types}
use Rattle.partial_imports.specs.link_program.declared.program.Program.{Program as Data}
use Rattle.partial_imports.specs.link_program.declared.program.Tables.{Tables}
use Rattle.partial_imports.specs.link_program.declared.named.Named.{Named}
use Rattle.partial_imports.specs.link_program.declared.named.Named.TheVariants as names
use Rattle.partial_imports.specs.link_program.declared.part.Content.{Content}
use Rattle.partial_imports.specs.link_program.declared.part.Content.TheVariants as contents
use Rattle.partial_imports.specs.link_program.declared.part.Part.{Part as Told}
use Rattle.partial_imports.specs.link_program.Look.{no_part, row_at}
use Rattle.partial_imports.specs.link_program.Seen.{SeenNamed, seen_symbol, seen_type, seen_named, told_named, SeenContent, a_function, a_segment, a_global, the_linkers, SeenPart, seen_part, told_part, seen_content, told_content}
use Rattle.partial_imports.specs.link_program.made_symbols.declared.mode.Mode.TheVariants.{Plain}
use Rattle.partial_imports.specs.link_program.Program.{IsProgramOf}
use Rattle.partial_imports.specs.partial_rules.Partial as partial
use Rattle.partial_imports.specs.partial_symbols.declared.facts.At.{At}
use Rattle.partial_imports.specs.partial_symbols.Known.{symbol_there, import_there}
use Rattle.partial_imports.specs.declared.opens.Open.{Open}
use Rattle.partial_imports.specs.Opens.{SeenOpen, open_seen, told_open}
use Rattle.partial_types.specs.Added.{type_at, content_type_at, symbol_type, type_there, if_function, open_type, function_type, window_type, window_types, with_option, with_open, with_function, with_row}

-- ---- steps that may add nothing

fold_append : {A C : Type 0} (g : C → A → C) (c : C) (xs ys : List A) → fold g c (xs ++ ys) ≡ fold g (fold g c xs) ys
fold_append g c [] ys = refl
fold_append g c (x ∷ xs) ys = fold_append g (g c x) xs ys

some_added : {A : Type 0} (f : A → Option FuncType) (types : List FuncType) (xs : List A) → fold (λ ts x. with_option ts (f x)) types xs ≡ fold with_type types (filter_map f xs)
some_added f types [] = refl
some_added f types (x ∷ xs) = by (f x) (λ ts. some_added f ts xs)
  where
    by : (o : Option FuncType) → ((ts : List FuncType) → fold (λ ts x. with_option ts (f x)) ts xs ≡ fold with_type ts (filter_map f xs)) → fold (λ ts x. with_option ts (f x)) (with_option types o) xs ≡ fold with_type types (cons_option o (filter_map f xs))
    by None again = again types
    by (Some t) again = again (with_type types t)

functions_added : (t : Tables) (types : List FuncType) (ns : List ℕ) → fold (with_function t) types ns ≡ fold with_type types (map (function_type t) ns)
functions_added t types [] = refl
functions_added t types (n ∷ ns) = functions_added t (with_type types (function_type t n)) ns

rows_added : (t : Tables) (types : List FuncType) (ns : List ℕ) → fold (with_row t) types ns ≡ fold with_type types (flat_map (window_types t) ns)
rows_added t types [] = refl
rows_added t types (n ∷ ns) =
    ap (λ ts. fold (with_row t) ts ns) (some_added (window_type t.types) types (row_at t n))
    ∙ (rows_added t (fold with_type types (window_types t n)) ns
    ∙ sym (fold_append with_type types (window_types t n) (flat_map (window_types t) ns)))

-- ---- the types of parts

content_seen : (types : List FuncType) (c : Content) (d : rules.Content) → seen_content types c ≡ told_content d → content_type_at types c ≡ content_type d
content_seen types c d same = by_seen c ∙ (ap type_seen same ∙ by_told d)
  where
    type_seen : SeenContent → FuncType
    type_seen (a_function t) = t
    type_seen (a_segment align flags) = no_type
    type_seen (a_global g v) = no_type
    type_seen the_linkers = no_type

    by_seen : (c : Content) → content_type_at types c ≡ type_seen (seen_content types c)
    by_seen (contents.Function number) = refl
    by_seen (contents.Segment align flags) = refl
    by_seen (contents.Global kind value) = refl
    by_seen contents.Made = refl

    by_told : (d : rules.Content) → type_seen (told_content d) ≡ content_type d
    by_told (function t) = refl
    by_told (segment info) = refl
    by_told (global g) = refl
    by_told (linker_made m) = refl

seen_windows : SeenNamed → Option FuncType
seen_windows (seen_symbol r) = None
seen_windows (seen_type place t) = Some t

-- ---- the type of an import is that of the symbol that stands on it

key_type : (objects : List Object) (o : Object) (p : ℕ) (ss : List Symbol) (i : ℕ) (x : InputSymbol) (k : ImportKey) → slice_get (entries_from objects o p ss) i ≡ Some x → x.import ≡ Some k → k.type ≡ x.type
key_type objects o p [] i x k at is = absurd (none-some x at)
key_type objects o p (s ∷ ss) zero x k at is =
    by (import_in o s s.kind) (ap (λ (y : InputSymbol). y.import) (same_Some (entry_in objects o p s) x at) ∙ is) ∙ ap (λ (y : InputSymbol). y.type) (same_Some (entry_in objects o p s) x at)
  where
    by : (i : Option Import) → option_map (key_of (type_in o s s.kind)) i ≡ Some k → k.type ≡ type_in o s s.kind
    by None e = absurd (none-some k e)
    by (Some i) e = sym (ap (λ (y : ImportKey). y.type) (same_Some (key_of (type_in o s s.kind) i) k e))
key_type objects o p (s ∷ ss) (suc i) x k at is = key_type objects o (p + 1) ss i x k at is

pub typed_key : (objects : List Object) (at : At) (k : ImportKey) → import_there objects at ≡ Some k → k.type ≡ symbol_type (symbol_there objects at)
typed_key objects at k is = by_symbol (symbol_there objects at) refl is
  where
    by_object : (o : Option Object) → slice_get objects at.object ≡ o → (x : InputSymbol) → slice_get (get_or (rows_of objects) at.object []) at.place ≡ Some x → x.import ≡ Some k → k.type ≡ x.type
    by_object None none x there e = absurd (none-some x (sym (ap (λ row. slice_get row at.place) (no_row (rows_of objects) at.object (slice_get-map (symbols_of objects) objects at.object ∙ ap (option_map (symbols_of objects)) none))) ∙ there))
      where
        no_row : (rows : List (List InputSymbol)) (i : ℕ) → slice_get rows i ≡ None → get_or rows i [] ≡ []
        no_row [] i none = refl
        no_row (r ∷ rows) zero none = absurd (none-some r (sym none))
        no_row (r ∷ rows) (suc i) none = no_row rows i none
    by_object (Some o) found x there e =
        let row : get_or (rows_of objects) at.object [] ≡ symbols_of objects o = get_or_from_slice_get (rows_of objects) at.object (symbols_of objects o) [] (slice_get-map (symbols_of objects) objects at.object ∙ ap (option_map (symbols_of objects)) found) in
        key_type objects o 0 o.symbols at.place x k (ap (λ r. slice_get r at.place) (sym row) ∙ there) e

    by_symbol : (x : Option InputSymbol) → symbol_there objects at ≡ x → option_and_then (λ (e : InputSymbol). e.import) (symbol_there objects at) ≡ Some k → k.type ≡ symbol_type (symbol_there objects at)
    by_symbol None none e = absurd (none-some k (sym (ap (option_and_then (λ (e : InputSymbol). e.import)) none) ∙ e))
    by_symbol (Some x) there e =
        by_object (slice_get objects at.object) refl x there (sym (ap (option_and_then (λ (e : InputSymbol). e.import)) there) ∙ e)
        ∙ sym (ap symbol_type there)

type_of_key : (objects : List Object) (at : At) (k : ImportKey) → import_there objects at ≡ Some k → function_type_of k.type ≡ type_there objects at
type_of_key objects at k is = ap function_type_of (typed_key objects at k is)

module _ (d : Data) (p : Program) (is : IsProgramOf Plain d p) where
  abbrev t : Tables
  t = d.tables.now

  -- ---- kept functions

  function_told : (n : ℕ) (part : Part) → slice_get p.parts n ≡ Some part → function_type t n ≡ content_type part.content
  function_told n part at = by (slice_get t.parts n) refl
    where
      mapped : slice_get (map (seen_part t.types) t.parts) n ≡ Some (told_part part)
      mapped = ap (λ xs. slice_get xs n) is.tables.parts ∙ (slice_get-map told_part p.parts n ∙ ap (option_map told_part) at)

      by : (x : Option Told) → slice_get t.parts n ≡ x → content_type_at t.types (get_or t.parts n no_part).content ≡ content_type part.content
      by None none = absurd (none-some (told_part part) (sym (slice_get-map (seen_part t.types) t.parts n ∙ ap (option_map (seen_part t.types)) none) ∙ mapped))
      by (Some x) there =
          let same : seen_part t.types x ≡ told_part part = same_Some (seen_part t.types x) (told_part part) (sym (slice_get-map (seen_part t.types) t.parts n ∙ ap (option_map (seen_part t.types)) there) ∙ mapped) in
          ap (λ (y : Told). content_type_at t.types y.content) (get_or_from_slice_get t.parts n x no_part there)
          ∙ content_seen t.types x.content part.content (ap (λ (s : SeenPart). s.content) same)

  functions_told : (ns : List ℕ) (parts : List Part) → map (slice_get p.parts) ns ≡ map Some parts → map (function_type t) ns ≡ map (λ (part : Part). content_type part.content) parts
  functions_told [] [] same = refl
  functions_told [] (part ∷ parts) same = absurd cc
  functions_told (n ∷ ns) [] same = absurd cc
  functions_told (n ∷ ns) (part ∷ parts) same =
      let at : slice_get p.parts n ≡ Some part = cc in
      let others : map (slice_get p.parts) ns ≡ map Some parts = cc in
      let h = function_told n part at in
      let r = functions_told ns parts others in
      λ i. h i ∷ r i

  -- ---- their windows

  row_types : (row : List Named) → filter_map (window_type t.types) row ≡ filter_map seen_windows (map (seen_named t.symbols t.types) row)
  unfolding seen_windows
  row_types [] = refl
  row_types (names.Symbol kind place addend symbol ∷ row) = row_types row
  row_types (names.Type place number ∷ row) = ap (λ ts. type_at t.types number ∷ ts) (row_types row)

  told_types : (ns : List rules.Named) → filter_map seen_windows (map (told_named d.names.now.names d.resolution.now.imports) ns) ≡ filter_map named_type ns
  unfolding seen_windows
  told_types [] = refl
  told_types (a_symbol ref ∷ ns) = told_types ns
  told_types (a_type w ∷ ns) = ap (λ ts. w.type ∷ ts) (told_types ns)

  windows_told : (n : ℕ) (part : Part) → slice_get p.parts n ≡ Some part → window_types t n ≡ types_named part
  windows_told n part at = by (slice_get t.named n) refl
    where
      told : Part → List SeenNamed
      told part = map (told_named d.names.now.names d.resolution.now.imports) part.named

      mapped : slice_get (map (map (seen_named t.symbols t.types)) t.named) n ≡ Some (told part)
      mapped = ap (λ xs. slice_get xs n) is.tables.named ∙ (slice_get-map told p.parts n ∙ ap (option_map told) at)

      by : (x : Option (List Named)) → slice_get t.named n ≡ x → filter_map (window_type t.types) (get_or t.named n []) ≡ filter_map named_type part.named
      by None none = absurd (none-some (told part) (sym (slice_get-map (map (seen_named t.symbols t.types)) t.named n ∙ ap (option_map (map (seen_named t.symbols t.types))) none) ∙ mapped))
      by (Some row) there =
          let same : map (seen_named t.symbols t.types) row ≡ told part = same_Some (map (seen_named t.symbols t.types) row) (told part) (sym (slice_get-map (map (seen_named t.symbols t.types)) t.named n ∙ ap (option_map (map (seen_named t.symbols t.types))) there) ∙ mapped) in
          ap (filter_map (window_type t.types)) (get_or_from_slice_get t.named n row [] there)
          ∙ (row_types row ∙ (ap (filter_map seen_windows) same ∙ told_types part.named))

  rows_told : (ns : List ℕ) (parts : List Part) → map (slice_get p.parts) ns ≡ map Some parts → flat_map (window_types t) ns ≡ flat_map types_named parts
  rows_told [] [] same = refl
  rows_told [] (part ∷ parts) same = absurd cc
  rows_told (n ∷ ns) [] same = absurd cc
  rows_told (n ∷ ns) (part ∷ parts) same =
      let at : slice_get p.parts n ≡ Some part = cc in
      let others : map (slice_get p.parts) ns ≡ map Some parts = cc in
      let h = windows_told n part at in
      let r = rows_told ns parts others in
      λ i. h i ++ r i

  -- ---- imports

  import_type : (e : InputSymbol) (o : Open) → open_seen p.objects o ≡ told_open p e → type_there p.objects (unwrap_or o.import o.at) ≡ function_type_of (partial.open_import p e).type
  import_type e o same = by o.import (first_some firsts) refl refl (ap (λ (s : SeenOpen). s.import) same)
    where
      firsts : List (Option ImportKey)
      firsts = least_import (filter (λ (r : InputSymbol). is_explicit r.symbol) (partial.name_references p (name_of e))) ∷ least_import (partial.name_references p (name_of e)) ∷ []

      otherwise : ImportKey
      otherwise = record { module_name = codes "env"; field = name_of e; type = e.type }

      there : symbol_there p.objects o.at ≡ Some e
      there = ap (λ (s : SeenOpen). s.symbol) same

      by : (at : Option At) (k : Option ImportKey) → o.import ≡ at → first_some firsts ≡ k → option_map (import_there p.objects) o.import ≡ option_map Some (first_some firsts)
          → type_there p.objects (unwrap_or o.import o.at) ≡ function_type_of (partial.open_import p e).type
      by None None a b seen =
          ap (λ x. type_there p.objects (unwrap_or x o.at)) a
          ∙ (ap (λ x. function_type_of (symbol_type x)) there ∙ sym (ap (λ x. function_type_of (unwrap_or {T = ImportKey} x otherwise).type) b))
      by None (Some k) a b seen = absurd (none-some (Some k) (sym (ap (option_map (import_there p.objects)) a) ∙ (seen ∙ ap (option_map Some) b)))
      by (Some at) None a b seen = absurd (none-some (import_there p.objects at) (sym (sym (ap (option_map (import_there p.objects)) a) ∙ (seen ∙ ap (option_map Some) b))))
      by (Some at) (Some k) a b seen =
          let key : import_there p.objects at ≡ Some k = same_Some (import_there p.objects at) (Some k) (sym (ap (option_map (import_there p.objects)) a) ∙ (seen ∙ ap (option_map Some) b)) in
          ap (λ x. type_there p.objects (unwrap_or x o.at)) a
          ∙ (sym (type_of_key p.objects at k key) ∙ sym (ap (λ x. function_type_of (unwrap_or {T = ImportKey} x otherwise).type) b))

  imports_told : (opens : List Open) (es : List InputSymbol) → map (open_seen p.objects) opens ≡ map (told_open p) (filter (partial.is_open p) es)
      → filter_map (open_type p.objects) opens ≡ map (λ (e : InputSymbol). function_type_of (partial.open_import p e).type) (filter (λ (e : InputSymbol). partial.is_open p e && is_kind Function e) es)
  imports_told opens [] same = none opens same
    where
      none : (opens : List Open) → map (open_seen p.objects) opens ≡ [] → filter_map (open_type p.objects) opens ≡ []
      none [] same = refl
      none (o ∷ opens) same = absurd cc
  imports_told opens (e ∷ es) same = by (partial.is_open p e) refl opens same (λ os. imports_told os es)
    where
      rest : List InputSymbol
      rest = filter (λ (e : InputSymbol). partial.is_open p e && is_kind Function e) es

      Again : Type 0
      Again = (os : List Open) → map (open_seen p.objects) os ≡ map (told_open p) (filter (partial.is_open p) es) → filter_map (open_type p.objects) os ≡ map (λ (e : InputSymbol). function_type_of (partial.open_import p e).type) rest

      by_kind : (kind : SymbolKind) (f g : FuncType) (fs : List FuncType) → f ≡ g → fs ≡ map (λ (e : InputSymbol). function_type_of (partial.open_import p e).type) rest
          → cons_option (if_function kind f) fs ≡ cond (kind_code kind == 0) (g ∷ map (λ (e : InputSymbol). function_type_of (partial.open_import p e).type) rest) (map (λ (e : InputSymbol). function_type_of (partial.open_import p e).type) rest)
      by_kind Function f g fs a b = λ i. a i ∷ b i
      by_kind Datum f g fs a b = b
      by_kind GlobalVar f g fs a b = b
      by_kind Section f g fs a b = b
      by_kind Table f g fs a b = b

      pulled : (b : Bool) → cond b (function_type_of (partial.open_import p e).type ∷ map (λ (e : InputSymbol). function_type_of (partial.open_import p e).type) rest) (map (λ (e : InputSymbol). function_type_of (partial.open_import p e).type) rest)
          ≡ map (λ (e : InputSymbol). function_type_of (partial.open_import p e).type) (cond b (e ∷ rest) rest)
      pulled true = refl
      pulled false = refl

      by : (b : Bool) → partial.is_open p e ≡ b → (os : List Open) → map (open_seen p.objects) os ≡ map (told_open p) (cond b (e ∷ filter (partial.is_open p) es) (filter (partial.is_open p) es)) → Again
          → filter_map (open_type p.objects) os ≡ map (λ (e : InputSymbol). function_type_of (partial.open_import p e).type) (cond (b && is_kind Function e) (e ∷ rest) rest)
      by false closed os same again = again os same
      by true is_open [] same again = absurd cc
      by true is_open (o ∷ os) same again =
          let here : open_seen p.objects o ≡ told_open p e = cc in
          let others : map (open_seen p.objects) os ≡ map (told_open p) (filter (partial.is_open p) es) = cc in
          ap (λ k. cons_option (if_function k (type_there p.objects (unwrap_or o.import o.at))) (filter_map (open_type p.objects) os)) (ap (λ (s : SeenOpen). s.kind) here)
          ∙ (by_kind e.symbol.kind (type_there p.objects (unwrap_or o.import o.at)) (function_type_of (partial.open_import p e).type) (filter_map (open_type p.objects) os) (import_type e o here) (again os others)
          ∙ pulled (is_kind Function e))

  -- ---- all of them

  pub types_are : (opens : List Open) (functions : List ℕ) → map (open_seen p.objects) opens ≡ map (told_open p) (filter (partial.is_open p) (partial.standing p)) → map (slice_get p.parts) functions ≡ map Some (partial.kept p 0)
      → fold (with_row t) (fold (with_function t) (fold (with_open d.objects.now) [] opens) functions) functions ≡ partial.types p
  types_are opens functions seen kept =
      let a = imports_told opens (partial.standing p) seen in
      let b = functions_told functions (partial.kept p 0) kept in
      let c = rows_told functions (partial.kept p 0) kept in
      ap (λ os. fold (with_row t) (fold (with_function t) (fold (with_open os) [] opens) functions) functions) is.objects
      ∙ (ap (λ ts. fold (with_row t) (fold (with_function t) ts functions) functions) (some_added (open_type p.objects) [] opens ∙ ap (fold with_type []) a)
      ∙ (ap (λ ts. fold (with_row t) ts functions) (functions_added t (fold with_type [] (partial.import_types p)) functions ∙ ap (fold with_type (fold with_type [] (partial.import_types p))) b)
      ∙ (rows_added t (fold with_type (fold with_type [] (partial.import_types p)) (map (λ (part : Part). content_type part.content) (partial.kept p 0))) functions
      ∙ (ap (fold with_type (fold with_type (fold with_type [] (partial.import_types p)) (map (λ (part : Part). content_type part.content) (partial.kept p 0)))) c
      ∙ (ap (λ ts. fold with_type ts (defined_types (partial.kept p 0))) (sym (fold_append with_type [] (partial.import_types p) (map (λ (part : Part). content_type part.content) (partial.kept p 0))))
      ∙ (sym (fold_append with_type [] (partial.import_types p ++ map (λ (part : Part). content_type part.content) (partial.kept p 0)) (defined_types (partial.kept p 0)))
      ∙ in_turn [] (partial.import_types p ++ map (λ (part : Part). content_type part.content) (partial.kept p 0) ++ defined_types (partial.kept p 0))))))))

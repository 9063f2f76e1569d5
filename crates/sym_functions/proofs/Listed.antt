-- The keys of all functions and cells of a program are told by those that the data list.
use Rattle.std.proofs.Common.{◌≡◌, ℕ, ◌==◌, nat_eq, Bool, true, false, not, ◌&&◌, List, [], ◌∷◌, ◌++◌, map, filter, filter_map, flat_map, fold, length, slice_get, get_or, Option, Some, None, option_map, refl, sym, ap, subst, ◌∙◌}
use Rattle.std.specs.Prelude.{if◌then◌else◌, bytes_eq}
use Rattle.std.specs.List.{list_any, All, cons_option}
use Rattle.std.proofs.lemmas.List.{map-append}
use Rattle.std.proofs.lemmas.List.Elements.{All-head, All-tail, All-cons, All-append, filter_map-append}
use Rattle.std.proofs.lemmas.Option.{slice_get-get_or}
use Rattle.link_program.specs.wl_base.Names.{number_of}
use Rattle.link_program.specs.wl_base.Choice.{distinct, distinct_onto, given}
use Rattle.link_program.specs.wasm_types.declared.function.FuncType.{FuncType}
use Rattle.link_program.specs.linking_section.declared.symbol.SymbolKind.TheVariants.{Function}
use Rattle.link_program.specs.mark_bits.declared.chunk.Chunk.{Chunk}
use Rattle.link_program.specs.index_layout.Numbers.{number_by}
use Rattle.link_program.specs.name_rules.Entries.{InputSymbol, ImportKey, same_import, is_kind, name_of, is_entry, is_named, made_from}
use Rattle.link_program.specs.made_symbols.declared.mode.Mode.TheVariants.{Plain}
use Rattle.link_program.specs.made_symbols.Made.{made}
use Rattle.link_program.specs.name_rules.Meanings.{Meaning, here, imported, null, nothing}
use Rattle.link_program.specs.name_entries.View.{entry_number}
use Rattle.link_program.specs.link_rules.Program as rules
use Rattle.link_program.specs.link_rules.Program.{Ref, refs, named_ref, a_symbol, a_type}
use Rattle.link_program.specs.link_rules.Marks.{refs_of}
use Rattle.link_program.specs.link_rules.Keys as keys
use Rattle.link_program.specs.link_rules.Keys.{outside, stub, outside_global, is_function_type, is_global_type, imports_in_order, made_function_key, own_function_key, made_global_key, own_global_key, is_null, linker_function, own, linker_global, own_global}
use Rattle.link_program.specs.declared.symbol.Symbol.{Symbol}
use Rattle.link_program.specs.declared.named.Named.{Named}
use Rattle.link_program.specs.declared.named.Named.TheVariants as items
use Rattle.link_program.specs.declared.part.Part.{Part}
use Rattle.link_program.specs.declared.keys.FunctionKey.{FunctionKey}
use Rattle.link_program.specs.declared.keys.FunctionKey.TheVariants as functions
use Rattle.link_program.specs.declared.keys.GlobalKey.{GlobalKey}
use Rattle.link_program.specs.declared.keys.GlobalKey.TheVariants as globals
use Rattle.link_program.specs.declared.program.Tables.{Tables}
use Rattle.link_program.specs.Told.{told_symbol, told_lead}
use Rattle.link_program.specs.Seen.{SeenNamed, SeenPart, seen_symbol, seen_type, seen_named, told_named, seen_part, told_part}
use Rattle.link_program.specs.Keys.{told_function, told_global}
use Rattle.link_program.specs.Program.{AreTables}
use Rattle.link_keys.specs.Noted.{where_so, is_null_lead}
use Rattle.link_keys.specs.Lists.{numbers_below, is_function_import, is_global_import, own_function_in, own_global_in}
use Rattle.link_keys.proofs.Any.{all_each, all_none, all_map, all_filtered}
use Rattle.link_keys.proofs.Equals.{OnePlace, stands, holds_at, same_numbers, number_is, passes, numbers_passing}
use Rattle.link_keys.proofs.Heard.{onto_append}
use Rattle.link_keys.proofs.Imports.{import_equal, import_itself, name_equal, name_itself, both}
use Rattle.link_keys.proofs.ImportsTold.{below_same}
use Rattle.link_keys.proofs.ToldLists.{distinct_told}
use Rattle.link_numbers.specs.Knows.{KnowsFunction, KnowsGlobal}
use Rattle.link_numbers.proofs.KeysTold.{made_functions_told, own_functions_told, made_globals_told, own_globals_told}
use Rattle.link_worlds.specs.Names as rules_names
use Rattle.link_worlds.specs.Names.{all_functions, all_cells}
use Rattle.sym_parts.specs.Keys.{null_name, null_named, with_name, with_null, with_nulls, nulls_of, own_function, own_global as part_global, imported_functions, imported_globals, functions_of, cells_of}
use Rattle.sym_functions.proofs.Known.{KnownMeaning, KnownRef}

-- What is known of the name of a null function: it has a number, and the linker has none of that name.
abbrev pub StubName : List (List ℕ) → List ℕ → Type 0
StubName names name = (list_any (bytes_eq name) names ≡ true) × (list_any (is_named name) (made_from 0 (made Plain)) ≡ false)

-- ---- lists

-- a list that is mapped twice
pub twice : {A B C : Type 0} (f : B → C) (g : A → B) (h : A → C) → ((x : A) → f (g x) ≡ h x) → (xs : List A) → map f (map g xs) ≡ map h xs
twice f g h each [] = refl
twice f g h each (x ∷ xs) = ap (λ y. y ∷ map f (map g xs)) (each x) ∙ ap (λ ys. h x ∷ ys) (twice f g h each xs)

-- what is chosen of a list that is mapped
pub through : {A B X : Type 0} (f : A → B) (g : B → Option X) (xs : List A) → filter_map g (map f xs) ≡ filter_map (λ x. g (f x)) xs
through f g [] = refl
through f g (x ∷ xs) = ap (λ rest. cons_option (g (f x)) rest) (through f g xs)

given_is : {A : Type 0} (b : Bool) (a x : A) → given b a ≡ Some x → (b ≡ true) × (a ≡ x)
given_is true a x e = (refl, cc)
given_is false a x e = absurd cc

not_true : (b : Bool) → not b ≡ true → b ≡ false
not_true true e = absurd cc
not_true false e = refl

all_chosen : {A B : Type 0} (P : B → Type 0) (h : A → Option B) → ((a : A) (b : B) → h a ≡ Some b → P b) → (xs : List A) → All P (filter_map h xs)
all_chosen P h each [] = all_none P
all_chosen {A} {B} P h each (x ∷ xs) = by_option (h x) refl (all_chosen P h each xs)
  where
    by_option : (o : Option B) → h x ≡ o → All P (filter_map h xs) → All P (cons_option o (filter_map h xs))
    by_option None is rest = rest
    by_option (Some b) is rest = All-cons P b (filter_map h xs) (each x b is) rest

four : {A B : Type 0} (f : A → B) (ws bs cs ds : List A) → map f ws ++ map f bs ++ map f cs ++ map f ds ≡ map f (ws ++ bs ++ cs ++ ds)
four f ws bs cs ds =
    ap (λ xs. xs ++ map f cs ++ map f ds) (sym (map-append f ws bs))
    ∙ ap (λ xs. xs ++ map f ds) (sym (map-append f (ws ++ bs) cs))
    ∙ sym (map-append f (ws ++ bs ++ cs) ds)

three : {A B : Type 0} (f : A → B) (ws bs cs : List A) → map f ws ++ map f bs ++ map f cs ≡ map f (ws ++ bs ++ cs)
three f ws bs cs = ap (λ xs. xs ++ map f cs) (sym (map-append f ws bs)) ∙ sym (map-append f (ws ++ bs) cs)

-- ---- names once, in the order in which rows have them

rows_once : (symbols : List Symbol) (held : List ℕ) (row : List Named) → with_nulls symbols held row ≡ distinct_onto nat_eq held (filter_map (null_named symbols) row)
rows_once symbols held [] = refl
rows_once symbols held (x ∷ row) = rows_once symbols (with_null symbols held x) row ∙ by_name (null_named symbols x)
  where
    by_name : (o : Option ℕ) → distinct_onto nat_eq (with_name held o) (filter_map (null_named symbols) row) ≡ distinct_onto nat_eq held (cons_option o (filter_map (null_named symbols) row))
    by_name None = refl
    by_name (Some n) = refl

all_once : (symbols : List Symbol) (held : List ℕ) (rows : List (List Named)) → fold (with_nulls symbols) held rows ≡ distinct_onto nat_eq held (flat_map (filter_map (null_named symbols)) rows)
all_once symbols held [] = refl
all_once symbols held (row ∷ rows) =
    all_once symbols (with_nulls symbols held row) rows
    ∙ ap (λ h. distinct_onto nat_eq h (flat_map (filter_map (null_named symbols)) rows)) (rows_once symbols held row)
    ∙ sym (onto_append nat_eq held (filter_map (null_named symbols) row) (flat_map (filter_map (null_named symbols)) rows))

-- what an item that is seen names
abbrev null_seen : SeenNamed → Option ℕ
null_seen (seen_symbol r) = null_name r.symbol
null_seen (seen_type place t) = None

null_shown : (symbols : List Symbol) (types : List FuncType) (x : Named) → null_named symbols x ≡ null_seen (seen_named symbols types x)
null_shown symbols types (items.Symbol kind place addend symbol) = refl
null_shown symbols types (items.Type place number) = refl

row_shown : (symbols : List Symbol) (types : List FuncType) (row : List Named) → filter_map (null_named symbols) row ≡ filter_map null_seen (map (seen_named symbols types) row)
row_shown symbols types [] = refl
row_shown symbols types (x ∷ row) = ap (λ o. cons_option o (filter_map (null_named symbols) row)) (null_shown symbols types x) ∙ ap (λ rest. cons_option (null_seen (seen_named symbols types x)) rest) (row_shown symbols types row)

module _ (names : List (List ℕ)) (imports : List ImportKey) where
  -- the number of the name of a null function, by its reference
  abbrev null_told : Ref → Option ℕ
  null_told ref = null_name (told_symbol names imports ref.entry ref.meaning)

  row_told : (ns : List rules.Named) → filter_map null_seen (map (told_named names imports) ns) ≡ filter_map null_told (filter_map named_ref ns)
  row_told [] = refl
  row_told (a_symbol ref ∷ ns) = ap (λ rest. cons_option (null_told ref) rest) (row_told ns)
  row_told (a_type w ∷ ns) = row_told ns

  rows_told : (symbols : List Symbol) (types : List FuncType) (rows : List (List Named)) (parts : List rules.Part)
      → map (map (seen_named symbols types)) rows ≡ map (λ part. map (told_named names imports) part.named) parts
      → flat_map (filter_map (null_named symbols)) rows ≡ filter_map null_told (refs_of parts)
  rows_told symbols types [] [] e = refl
  rows_told symbols types [] (part ∷ parts) e = absurd cc
  rows_told symbols types (row ∷ rows) [] e = absurd cc
  rows_told symbols types (row ∷ rows) (part ∷ parts) e =
      let first : map (seen_named symbols types) row ≡ map (told_named names imports) part.named = cc in
      let rest : map (map (seen_named symbols types)) rows ≡ map (λ part. map (told_named names imports) part.named) parts = cc in
      ap (λ xs. xs ++ flat_map (filter_map (null_named symbols)) rows) (row_shown symbols types row ∙ ap (filter_map null_seen) first ∙ row_told part.named)
      ∙ ap (λ xs. filter_map null_told (refs part) ++ xs) (rows_told symbols types rows parts rest)
      ∙ sym (filter_map-append null_told (refs part) (refs_of parts))

  -- ---- names and their numbers

  module _ (all : List InputSymbol) (held : (name : List ℕ) → list_any (bytes_eq name) (map name_of all) ≡ true → list_any (bytes_eq name) names ≡ true) where
    abbrev number : List ℕ → ℕ
    number name = number_by bytes_eq names name

    pub name_told : (e : InputSymbol) → is_entry e ≡ true → list_any (bytes_eq (name_of e)) names ≡ true → entry_number names e ≡ Some (number (name_of e))
    name_told e entry there =
        let s = stands bytes_eq name_equal name_itself names (name_of e) there in
        ap (λ r. if r then number_of names (name_of e) else None) entry ∙ s.found ∙ ap Some (sym (number_is bytes_eq name_equal name_itself names (name_of e) s.at s.found))

    null_by : (e : InputSymbol) (m : Meaning) → KnownMeaning imports all e m → (r : Bool)
        → where_so (is_null_lead (told_lead imports m) && r) (entry_number names e) ≡ option_map number (given (is_null m && r) (name_of e))
    null_by e (here d) known r = refl
    null_by e (imported k) known r = refl
    null_by e null known true = name_told e known.entry (held (name_of e) known.named)
    null_by e null known false = refl
    null_by e nothing known r = refl

    null_is : (ref : Ref) → KnownRef imports all ref → null_told ref ≡ option_map number (rules_names.null_name ref)
    null_is ref known = null_by ref.entry ref.meaning known (is_kind Function ref.entry)

    -- what is held of a null function's name
    null_held : (ref : Ref) (name : List ℕ) → KnownRef imports all ref → rules_names.null_name ref ≡ Some name → StubName names name
    null_held ref name known is =
        let e = given_is (is_null ref.meaning && is_kind Function ref.entry) (name_of ref.entry) name is in
        subst (StubName names) e.1 (by_meaning ref.meaning known (both (is_null ref.meaning) (is_kind Function ref.entry) e.0).0)
      where
        by_meaning : (m : Meaning) → KnownMeaning imports all ref.entry m → is_null m ≡ true → StubName names (name_of ref.entry)
        by_meaning (here d) k is = absurd cc
        by_meaning (imported j) k is = absurd cc
        by_meaning null k is = (held (name_of ref.entry) k.named, k.unmade)
        by_meaning nothing k is = absurd cc

    nulls_told : (refs : List Ref) → All (KnownRef imports all) refs → filter_map null_told refs ≡ map number (filter_map rules_names.null_name refs)
    nulls_told [] known = refl
    nulls_told (ref ∷ refs) known =
        ap (λ o. cons_option o (filter_map null_told refs)) (null_is ref (All-head (KnownRef imports all) ref refs known))
        ∙ ap (λ rest. cons_option (option_map number (rules_names.null_name ref)) rest) (nulls_told refs (All-tail (KnownRef imports all) ref refs known))
        ∙ by_option (rules_names.null_name ref)
      where
        by_option : (o : Option (List ℕ)) → cons_option (option_map number o) (map number (filter_map rules_names.null_name refs)) ≡ map number (cons_option o (filter_map rules_names.null_name refs))
        by_option None = refl
        by_option (Some name) = refl

    nulls_held : (refs : List Ref) → All (KnownRef imports all) refs → All (StubName names) (filter_map rules_names.null_name refs)
    nulls_held [] known = all_none (StubName names)
    nulls_held (ref ∷ refs) known = by_option (rules_names.null_name ref) refl (nulls_held refs (All-tail (KnownRef imports all) ref refs known))
      where
        by_option : (o : Option (List ℕ)) → rules_names.null_name ref ≡ o → All (StubName names) (filter_map rules_names.null_name refs) → All (StubName names) (cons_option o (filter_map rules_names.null_name refs))
        by_option None is rest = rest
        by_option (Some name) is rest = All-cons (StubName names) name (filter_map rules_names.null_name refs) (null_held ref name (All-head (KnownRef imports all) ref refs known) is) rest

    -- ---- the lists

    module _ (t : Tables) (p : rules.Program) (are : AreTables names imports t p) (all_imports : imports ≡ imports_in_order p) (one : OnePlace same_import import_equal import_itself imports)
        (known : All (KnownRef imports all) (refs_of p.parts)) where
      abbrev pub stub_names : List (List ℕ)
      stub_names = distinct bytes_eq (filter_map rules_names.null_name (refs_of p.parts))

      nulls_are : nulls_of t ≡ map number stub_names
      nulls_are =
          all_once t.symbols [] t.named
          ∙ ap (distinct_onto nat_eq []) (rows_told t.symbols t.types t.named p.parts are.named ∙ nulls_told (refs_of p.parts) known)
          ∙ distinct_told number bytes_eq nat_eq (λ name. list_any (bytes_eq name) names ≡ true) (λ a b ka kb. same_numbers bytes_eq name_equal name_itself names a b ka kb)
          (filter_map rules_names.null_name (refs_of p.parts))
          (all_each (StubName names) (λ name. list_any (bytes_eq name) names ≡ true) (λ name k. k.0) (filter_map rules_names.null_name (refs_of p.parts)) (nulls_held (refs_of p.parts) known))

      -- what the chunks of parts give
      chunks_give : {X : Type 0} (h : Chunk → Option X) → filter_map (λ (part : Part). h part.chunk) t.parts ≡ filter_map (λ (part : rules.Part). h part.chunk) p.parts
      chunks_give h =
          sym (through (seen_part t.types) (λ (s : SeenPart). h s.chunk) t.parts)
          ∙ ap (filter_map (λ (s : SeenPart). h s.chunk)) are.parts
          ∙ through told_part (λ (s : SeenPart). h s.chunk) p.parts

      -- imports of a type
      numbers_of : (test : ImportKey → Bool) (told : Option ImportKey → Bool) → told None ≡ false → ((k : ImportKey) → told (Some k) ≡ test k)
          → numbers_below (λ i. told (slice_get imports i)) (length imports) ≡ map (number_by same_import imports) (filter test imports)
      numbers_of test told none some =
          below_same (λ i. told (slice_get imports i)) (λ i. passes same_import import_equal import_itself test (slice_get imports i)) (length imports) (λ i below. at (slice_get imports i))
          ∙ sym (numbers_passing same_import import_equal import_itself imports one test)
        where
          at : (o : Option ImportKey) → told o ≡ passes same_import import_equal import_itself test o
          at None = none
          at (Some k) = some k

      outside_told : map functions.Import (imported_functions imports) ≡ map (told_function names imports) (map outside (filter (λ k. is_function_type k.type) (imports_in_order p)))
      outside_told =
          ap (map functions.Import) (numbers_of (λ k. is_function_type k.type) is_function_import refl (λ k. refl))
          ∙ twice functions.Import (number_by same_import imports) (λ k. functions.Import (number_by same_import imports k)) (λ k. refl) (filter (λ k. is_function_type k.type) imports)
          ∙ sym (twice (told_function names imports) outside (λ k. functions.Import (number_by same_import imports k)) (λ k. refl) (filter (λ k. is_function_type k.type) imports))
          ∙ ap (λ is. map (told_function names imports) (map outside (filter (λ k. is_function_type k.type) is))) all_imports

      outside_globals_told : map globals.Import (imported_globals imports) ≡ map (told_global imports) (map outside_global (filter (λ k. is_global_type k.type) (imports_in_order p)))
      outside_globals_told =
          ap (map globals.Import) (numbers_of (λ k. is_global_type k.type) is_global_import refl (λ k. refl))
          ∙ twice globals.Import (number_by same_import imports) (λ k. globals.Import (number_by same_import imports k)) (λ k. refl) (filter (λ k. is_global_type k.type) imports)
          ∙ sym (twice (told_global imports) outside_global (λ k. globals.Import (number_by same_import imports k)) (λ k. refl) (filter (λ k. is_global_type k.type) imports))
          ∙ ap (λ is. map (told_global imports) (map outside_global (filter (λ k. is_global_type k.type) is))) all_imports

      stubs_told : map functions.Stub (nulls_of t) ≡ map (told_function names imports) (map stub stub_names)
      stubs_told =
          ap (map functions.Stub) nulls_are
          ∙ twice functions.Stub number (λ n. functions.Stub (number n)) (λ n. refl) stub_names
          ∙ sym (twice (told_function names imports) stub (λ n. functions.Stub (number n)) (λ n. refl) stub_names)

      made_told : filter_map (own_function true) t.parts ≡ map (told_function names imports) (filter_map made_function_key p.parts)
      made_told = chunks_give (own_function_in true) ∙ made_functions_told names imports p.parts

      own_told : filter_map (own_function false) t.parts ≡ map (told_function names imports) (filter_map own_function_key p.parts)
      own_told = chunks_give (own_function_in false) ∙ own_functions_told names imports p.parts

      made_cells_told : filter_map (part_global true) t.parts ≡ map (told_global imports) (filter_map made_global_key p.parts)
      made_cells_told = chunks_give (own_global_in true) ∙ made_globals_told names imports p.parts

      own_cells_told : filter_map (part_global false) t.parts ≡ map (told_global imports) (filter_map own_global_key p.parts)
      own_cells_told = chunks_give (own_global_in false) ∙ own_globals_told names imports p.parts

      -- All functions.
      pub functions_are : functions_of imports t ≡ map (told_function names imports) (all_functions p)
      functions_are =
          ap (λ xs. xs ++ filter_map (own_function true) t.parts ++ map functions.Stub (nulls_of t) ++ filter_map (own_function false) t.parts) outside_told
          ∙ ap (λ xs. map (told_function names imports) (map outside (filter (λ k. is_function_type k.type) (imports_in_order p))) ++ xs ++ map functions.Stub (nulls_of t) ++ filter_map (own_function false) t.parts) made_told
          ∙ ap (λ xs. map (told_function names imports) (map outside (filter (λ k. is_function_type k.type) (imports_in_order p))) ++ map (told_function names imports) (filter_map made_function_key p.parts) ++ xs ++ filter_map (own_function false) t.parts) stubs_told
          ∙ ap (λ xs. map (told_function names imports) (map outside (filter (λ k. is_function_type k.type) (imports_in_order p))) ++ map (told_function names imports) (filter_map made_function_key p.parts) ++ map (told_function names imports) (map stub stub_names) ++ xs) own_told
          ∙ four (told_function names imports) (map outside (filter (λ k. is_function_type k.type) (imports_in_order p))) (filter_map made_function_key p.parts) (map stub stub_names) (filter_map own_function_key p.parts)

      -- All cells.
      pub cells_are : cells_of imports t ≡ map (told_global imports) (all_cells p)
      cells_are =
          ap (λ xs. xs ++ filter_map (part_global true) t.parts ++ filter_map (part_global false) t.parts) outside_globals_told
          ∙ ap (λ xs. map (told_global imports) (map outside_global (filter (λ k. is_global_type k.type) (imports_in_order p))) ++ xs ++ filter_map (part_global false) t.parts) made_cells_told
          ∙ ap (λ xs. map (told_global imports) (map outside_global (filter (λ k. is_global_type k.type) (imports_in_order p))) ++ map (told_global imports) (filter_map made_global_key p.parts) ++ xs) own_cells_told
          ∙ three (told_global imports) (map outside_global (filter (λ k. is_global_type k.type) (imports_in_order p))) (filter_map made_global_key p.parts) (filter_map own_global_key p.parts)

      -- ---- what is known of them

      abbrev K : keys.FunctionKey → Type 0
      K f = KnowsFunction names imports f

      abbrev G : keys.GlobalKey → Type 0
      G g = KnowsGlobal imports g

      held_imports : All (λ k. list_any (same_import k) imports ≡ true) (imports_in_order p)
      held_imports = subst (λ is. All (λ k. list_any (same_import k) imports ≡ true) is) all_imports (λ k d below. holds_at same_import import_equal import_itself imports k (get_or imports k d) (slice_get-get_or imports k d below))

      made_known : (part : rules.Part) (f : keys.FunctionKey) → made_function_key part ≡ Some f → K f
      made_known part f is = let e = given_is ((part.chunk.input == 0) && (part.chunk.kind == 0)) (linker_function part.chunk.index) f is in subst (λ f. K f) e.1 tt

      own_known : (part : rules.Part) (f : keys.FunctionKey) → own_function_key part ≡ Some f → K f
      own_known part f is =
          let e = given_is (not (part.chunk.input == 0) && (part.chunk.kind == 0)) (own part.chunk.input part.chunk.index) f is in
          subst (λ f. K f) e.1 (not_true (part.chunk.input == 0) (both (not (part.chunk.input == 0)) (part.chunk.kind == 0) e.0).0)

      made_cell_known : (part : rules.Part) (g : keys.GlobalKey) → made_global_key part ≡ Some g → G g
      made_cell_known part g is = let e = given_is ((part.chunk.input == 0) && (part.chunk.kind == 2)) (linker_global part.chunk.index) g is in subst (λ g. G g) e.1 tt

      own_cell_known : (part : rules.Part) (g : keys.GlobalKey) → own_global_key part ≡ Some g → G g
      own_cell_known part g is =
          let e = given_is (not (part.chunk.input == 0) && (part.chunk.kind == 2)) (own_global part.chunk.input part.chunk.index) g is in
          subst (λ g. G g) e.1 (not_true (part.chunk.input == 0) (both (not (part.chunk.input == 0)) (part.chunk.kind == 2) e.0).0)

      once_held : (seen xs : List (List ℕ)) → All (StubName names) seen → All (StubName names) xs → All (StubName names) (distinct_onto bytes_eq seen xs)
      once_held seen [] hs hx = hs
      once_held seen (x ∷ xs) hs hx = once_held (if list_any (bytes_eq x) seen then seen else seen ++ x ∷ []) xs (by_seen (list_any (bytes_eq x) seen)) (All-tail (StubName names) x xs hx)
        where
          by_seen : (r : Bool) → All (StubName names) (if r then seen else seen ++ x ∷ [])
          by_seen true = hs
          by_seen false = All-append (StubName names) seen (x ∷ []) hs (All-cons (StubName names) x [] (All-head (StubName names) x xs hx) (all_none (StubName names)))

      pub stubs_known : All (StubName names) stub_names
      stubs_known = once_held [] (filter_map rules_names.null_name (refs_of p.parts)) (all_none (StubName names)) (nulls_held (refs_of p.parts) known)

      pub functions_known : All K (all_functions p)
      functions_known =
          let outs = map outside (filter (λ k. is_function_type k.type) (imports_in_order p)) in
          let made = filter_map made_function_key p.parts in
          let stubs = map stub stub_names in
          let owns = filter_map own_function_key p.parts in
          All-append K (outs ++ made ++ stubs) owns
          (All-append K (outs ++ made) stubs
          (All-append K outs made
          (all_map K outside (filter (λ k. is_function_type k.type) (imports_in_order p)) (all_filtered (λ k. list_any (same_import k) imports ≡ true) (λ k. is_function_type k.type) (imports_in_order p) held_imports))
          (all_chosen K made_function_key made_known p.parts))
          (all_map K stub stub_names (all_each (StubName names) (λ name. list_any (bytes_eq name) names ≡ true) (λ name k. k.0) stub_names stubs_known)))
          (all_chosen K own_function_key own_known p.parts)

      pub cells_known : All G (all_cells p)
      cells_known =
          let outs = map outside_global (filter (λ k. is_global_type k.type) (imports_in_order p)) in
          let made = filter_map made_global_key p.parts in
          let owns = filter_map own_global_key p.parts in
          All-append G (outs ++ made) owns
          (All-append G outs made
          (all_map G outside_global (filter (λ k. is_global_type k.type) (imports_in_order p)) (all_filtered (λ k. list_any (same_import k) imports ≡ true) (λ k. is_global_type k.type) (imports_in_order p) held_imports))
          (all_chosen G made_global_key made_cell_known p.parts))
          (all_chosen G own_global_key own_cell_known p.parts)

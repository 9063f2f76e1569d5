-- What the output's module imports, by kind.
use Rattle.std.proofs.Common.{◌≡◌, ℕ, List, [], ◌∷◌, ◌++◌, Option, Some, None, Bool, true, false, refl, sym, ap, ◌∙◌, inl, inr, arith}
use Rattle.std.specs.Prelude.{◌&&◌, filter_map, slice_get, unwrap_or, cond, bytes_eq}
use Rattle.std.specs.List.{cons_option}
use Rattle.std.proofs.lemmas.List.{append_assoc, append-nil}
use Rattle.std.proofs.lemmas.List.Elements.{filter_map-append}
use Rattle.std.proofs.lemmas.Bool.{and_parts, and_from}
use Rattle.list_places.specs.Has.{Has, Apart}
use Rattle.list_places.proofs.Lists.{has_pick, placed, stands, apart_place, has_at}
use Rattle.wasm_types.specs.declared.value.ValType.TheVariants as types
use Rattle.wasm_types.specs.declared.table.GlobalType.{GlobalType}
use Rattle.wasm_types.specs.declared.table.Limits.{Limits}
use Rattle.wasm_types.specs.declared.import.Import.{Import}
use Rattle.wasm_types.specs.Same.{same_global_type}
use Rattle.run_rules.specs.Modules.{GlobalImport, same_cell, imported_global, imported_table, imported_memory, imported_globals, imported_tables, imported_memories, cell_at, cell_of}
use Rattle.made_symbols.specs.declared.mode.Mode.TheVariants.{Plain}
use Rattle.name_rules.specs.Entries.{InputSymbol, ImportKey, SymbolType, of_function, of_global, untyped}
use Rattle.link_rules.specs.Program.{Program, Part}
use Rattle.link_rules.specs.Keys.{FunctionKey, GlobalKey, outside, linker_function, stub, own, outside_global, linker_global, own_global, got, exported_datum, is_function_type, is_global_type}
use Rattle.link_rules.specs.Values.{Layout}
use Rattle.link_rules.specs.Output.{import_for, function_import, global_import, memory_import, imports, memory}
use Rattle.link_worlds.proofs.Keys.{bytes_equal, global_type_equal, bytes_itself, global_type_itself}

-- what each gives nothing of
pub none_of : {A B : Type 0} (f : A → Option B) (xs : List A) → ((x : A) → Has xs x → f x ≡ None) → filter_map f xs ≡ []
none_of f [] h = refl
none_of f (x ∷ xs) h = ap (λ o. cons_option o (filter_map f xs)) (h x (inl refl)) ∙ none_of f xs (λ y m. h y (inr m))

pub agree_of : {A B : Type 0} (f g : A → Option B) (xs : List A) → ((x : A) → Has xs x → f x ≡ g x) → filter_map f xs ≡ filter_map g xs
agree_of f g [] h = refl
agree_of f g (x ∷ xs) h = ap (λ o. cons_option o (filter_map f xs)) (h x (inl refl)) ∙ ap (λ ys. cons_option (g x) ys) (agree_of f g xs (λ y m. h y (inr m)))

module _ (p : Program) (parts : List Part) (exports : List InputSymbol) (l : Layout) where
  abbrev memories : List Import
  memories = cond p.plan.import_memory (memory_import Plain p parts exports l) []

  abbrev functions_in : List Import
  functions_in = filter_map (function_import Plain p parts exports l) l.numbers.functions

  abbrev globals_in : List Import
  globals_in = filter_map (global_import Plain p parts exports l) l.numbers.globals

  -- what a filter picks of the imports
  pub picked_imports : {B : Type 0} (f : Import → Option B)
      → filter_map f (imports Plain p parts exports l) ≡ filter_map f memories ++ (filter_map f functions_in ++ filter_map f globals_in)
  picked_imports f =
      filter_map-append f (memories ++ [] ++ functions_in) globals_in
      ∙ ap (λ xs. xs ++ filter_map f globals_in) (filter_map-append f (memories ++ []) functions_in ∙ ap (λ ys. filter_map f ys ++ filter_map f functions_in) (append-nil memories))
      ∙ append_assoc (filter_map f memories) (filter_map f functions_in) (filter_map f globals_in)

  -- an import that is made for a key
  function_of_key : (x : Import) → Has functions_in x → (k : ImportKey) × (x ≡ import_for Plain p parts exports l k) × Has l.numbers.functions (outside k)
  function_of_key x h = let r = has_pick (function_import Plain p parts exports l) l.numbers.functions x h in by_key r.0 r.1 r.2
    where
      by_key : (k : FunctionKey) → Has l.numbers.functions k → function_import Plain p parts exports l k ≡ Some x → (k : ImportKey) × (x ≡ import_for Plain p parts exports l k) × Has l.numbers.functions (outside k)
      by_key (outside k) m e = (k, grind arith, m)
      by_key (linker_function n) m e = absurd (grind arith)
      by_key (stub name) m e = absurd (grind arith)
      by_key (own i x) m e = absurd (grind arith)

  global_of_key : (x : Import) → Has globals_in x → (k : ImportKey) × (x ≡ import_for Plain p parts exports l k) × Has l.numbers.globals (outside_global k)
  global_of_key x h = let r = has_pick (global_import Plain p parts exports l) l.numbers.globals x h in by_key r.0 r.1 r.2
    where
      by_key : (k : GlobalKey) → Has l.numbers.globals k → global_import Plain p parts exports l k ≡ Some x → (k : ImportKey) × (x ≡ import_for Plain p parts exports l k) × Has l.numbers.globals (outside_global k)
      by_key (outside_global k) m e = (k, grind arith, m)
      by_key (linker_global n) m e = absurd (grind arith)
      by_key (own_global i x) m e = absurd (grind arith)
      by_key (got g) m e = absurd (grind arith)
      by_key (exported_datum d) m e = absurd (grind arith)

  no_table : (t : SymbolType) (place field : List ℕ) → imported_table (import_for Plain p parts exports l (record { module_name = place; field = field; type = t })).kind ≡ None
  no_table (of_function t) place field = refl
  no_table (of_global g) place field = refl
  no_table untyped place field = refl

  no_memory : (t : SymbolType) (place field : List ℕ) → imported_memory (import_for Plain p parts exports l (record { module_name = place; field = field; type = t })).kind ≡ None
  no_memory (of_function t) place field = refl
  no_memory (of_global g) place field = refl
  no_memory untyped place field = refl

  -- no table is imported
  pub tables_none : imported_tables (imports Plain p parts exports l) ≡ []
  tables_none =
      picked_imports (λ x. imported_table x.kind)
      ∙ ap (λ xs. xs ++ (filter_map (λ (x : Import). imported_table x.kind) functions_in ++ filter_map (λ (x : Import). imported_table x.kind) globals_in)) (of_memory p.plan.import_memory)
      ∙ ap (λ xs. xs ++ filter_map (λ (x : Import). imported_table x.kind) globals_in)
      (none_of (λ (x : Import). imported_table x.kind) functions_in (λ x h. let k = function_of_key x h in ap (λ (y : Import). imported_table y.kind) k.1 ∙ no_table k.0.type k.0.module_name k.0.field))
      ∙ none_of (λ (x : Import). imported_table x.kind) globals_in (λ x h. let k = global_of_key x h in ap (λ (y : Import). imported_table y.kind) k.1 ∙ no_table k.0.type k.0.module_name k.0.field)
    where
      of_memory : (b : Bool) → filter_map (λ (x : Import). imported_table x.kind) (cond b (memory_import Plain p parts exports l) []) ≡ []
      of_memory true = refl
      of_memory false = refl

  -- the memory, where it is imported
  pub memories_are : imported_memories (imports Plain p parts exports l) ≡ cond p.plan.import_memory (memory Plain p parts exports l ∷ []) []
  memories_are =
      picked_imports (λ x. imported_memory x.kind)
      ∙ ap (λ xs. xs ++ (filter_map (λ (x : Import). imported_memory x.kind) functions_in ++ filter_map (λ (x : Import). imported_memory x.kind) globals_in)) (of_memory p.plan.import_memory)
      ∙ ap (λ xs. m ++ (xs ++ filter_map (λ (x : Import). imported_memory x.kind) globals_in))
      (none_of (λ (x : Import). imported_memory x.kind) functions_in (λ x h. let k = function_of_key x h in ap (λ (y : Import). imported_memory y.kind) k.1 ∙ no_memory k.0.type k.0.module_name k.0.field))
      ∙ ap (λ xs. m ++ xs)
      (none_of (λ (x : Import). imported_memory x.kind) globals_in (λ x h. let k = global_of_key x h in ap (λ (y : Import). imported_memory y.kind) k.1 ∙ no_memory k.0.type k.0.module_name k.0.field))
      ∙ append-nil m
    where
      m : List Limits
      m = cond p.plan.import_memory (memory Plain p parts exports l ∷ []) []

      of_memory : (b : Bool) → filter_map (λ (x : Import). imported_memory x.kind) (cond b (memory_import Plain p parts exports l) []) ≡ cond b (memory Plain p parts exports l ∷ []) []
      of_memory true = refl
      of_memory false = refl

  -- an imported global, as a cell
  abbrev pub global_type_of : SymbolType → GlobalType
  global_type_of (of_function t) = record { kind = types.I32; var = false }
  global_type_of (of_global g) = g
  global_type_of untyped = record { kind = types.I32; var = false }

  abbrev pub cell_import : ImportKey → GlobalImport
  cell_import k = record { from = k.module_name; field = k.field; kind = global_type_of k.type }

  abbrev pub imported_key : GlobalKey → Option GlobalImport
  imported_key (outside_global k) = Some (cell_import k)
  imported_key (linker_global n) = None
  imported_key (own_global i x) = None
  imported_key (got g) = None
  imported_key (exported_datum e) = None

  function_no_global : (t : SymbolType) (place field : List ℕ) → is_function_type t ≡ true
      → imported_global (import_for Plain p parts exports l (record { module_name = place; field = field; type = t })) (import_for Plain p parts exports l (record { module_name = place; field = field; type = t })).kind ≡ None
  function_no_global (of_function t) place field h = refl
  function_no_global (of_global g) place field h = absurd (grind arith)
  function_no_global untyped place field h = absurd (grind arith)

  global_is : (t : SymbolType) (place field : List ℕ) → is_global_type t ≡ true
      → imported_global (import_for Plain p parts exports l (record { module_name = place; field = field; type = t })) (import_for Plain p parts exports l (record { module_name = place; field = field; type = t })).kind
      ≡ Some (cell_import (record { module_name = place; field = field; type = t }))
  global_is (of_function t) place field h = absurd (grind arith)
  global_is (of_global g) place field h = refl
  global_is untyped place field h = absurd (grind arith)

  module _ (functions_typed : (k : ImportKey) → Has l.numbers.functions (outside k) → is_function_type k.type ≡ true)
      (globals_typed : (k : ImportKey) → Has l.numbers.globals (outside_global k) → is_global_type k.type ≡ true) where
    globals_by : (gs : List GlobalKey) → ((k : GlobalKey) → Has gs k → Has l.numbers.globals k)
        → filter_map (λ (x : Import). imported_global x x.kind) (filter_map (global_import Plain p parts exports l) gs) ≡ filter_map imported_key gs
    globals_by [] f = refl
    globals_by (outside_global k ∷ gs) f =
        ap (λ o. cons_option o (filter_map (λ (x : Import). imported_global x x.kind) (filter_map (global_import Plain p parts exports l) gs))) (global_is k.type k.module_name k.field (globals_typed k (f (outside_global k) (inl refl))))
        ∙ ap (λ xs. cell_import k ∷ xs) (globals_by gs (λ j h. f j (inr h)))
    globals_by (linker_global n ∷ gs) f = globals_by gs (λ j h. f j (inr h))
    globals_by (own_global i x ∷ gs) f = globals_by gs (λ j h. f j (inr h))
    globals_by (got g ∷ gs) f = globals_by gs (λ j h. f j (inr h))
    globals_by (exported_datum e ∷ gs) f = globals_by gs (λ j h. f j (inr h))

    -- the imported globals are those of the keys
    pub globals_are : imported_globals (imports Plain p parts exports l) ≡ filter_map imported_key l.numbers.globals
    globals_are =
        picked_imports (λ x. imported_global x x.kind)
        ∙ ap (λ xs. xs ++ (filter_map (λ (x : Import). imported_global x x.kind) functions_in ++ filter_map (λ (x : Import). imported_global x x.kind) globals_in)) (of_memory p.plan.import_memory)
        ∙ ap (λ xs. xs ++ filter_map (λ (x : Import). imported_global x x.kind) globals_in)
        (none_of (λ (x : Import). imported_global x x.kind) functions_in (λ x h. let k = function_of_key x h in ap (λ (y : Import). imported_global y y.kind) k.1 ∙ function_no_global k.0.type k.0.module_name k.0.field (functions_typed k.0 k.2)))
        ∙ globals_by l.numbers.globals (λ k h. h)
      where
        of_memory : (b : Bool) → filter_map (λ (x : Import). imported_global x x.kind) (cond b (memory_import Plain p parts exports l) []) ≡ []
        of_memory true = refl
        of_memory false = refl

-- ---- each imported global is its own cell

cell_same : (a b : GlobalImport) → same_cell a b ≡ true → (bytes_eq a.from b.from ≡ true) × (bytes_eq a.field b.field ≡ true) × (same_global_type a.kind b.kind ≡ true)
cell_same a b h =
    let r = and_parts (bytes_eq a.from b.from && bytes_eq a.field b.field) (same_global_type a.kind b.kind) h in
    let q = and_parts (bytes_eq a.from b.from) (bytes_eq a.field b.field) r.0 in
    (q.0, q.1, r.1)

cell_turned : (a b : GlobalImport) → same_cell a b ≡ true → same_cell b a ≡ true
cell_turned a b h =
    let r = cell_same a b h in
    let x = bytes_equal a.from b.from r.0 in
    let y = bytes_equal a.field b.field r.1 in
    let z = global_type_equal a.kind b.kind r.2 in
    and_from (bytes_eq b.from a.from && bytes_eq b.field a.field) (same_global_type b.kind a.kind)
    (and_from (bytes_eq b.from a.from) (bytes_eq b.field a.field) (ap (bytes_eq b.from) x ∙ bytes_itself b.from) (ap (bytes_eq b.field) y ∙ bytes_itself b.field))
    (ap (same_global_type b.kind) z ∙ global_type_itself b.kind)

cell_itself : (a : GlobalImport) → same_cell a a ≡ true
cell_itself a =
    and_from (bytes_eq a.from a.from && bytes_eq a.field a.field) (same_global_type a.kind a.kind)
    (and_from (bytes_eq a.from a.from) (bytes_eq a.field a.field) (bytes_itself a.from) (bytes_itself a.field)) (global_type_itself a.kind)

pub straight : (imports : List GlobalImport) → Apart same_cell imports → (n : ℕ) → cell_of imports n ≡ n
straight imports a n = by_import (slice_get imports n) refl
  where
    by_import : (o : Option GlobalImport) → slice_get imports n ≡ o → cell_at imports n o ≡ n
    by_import None e = refl
    by_import (Some k) e =
        let m = placed (same_cell k) imports k (has_at imports n k e) (cell_itself k) in
        let s = stands (same_cell k) imports m.0 m.1 in
        let z : n ≡ m.0 = apart_place same_cell cell_turned imports a n m.0 k s.item e s.there s.passes in
        ap (λ o. unwrap_or o n) m.1 ∙ sym z

-- What is read of the symbols of a program's relocatable object: those that stand in the program, with their names, types and imports.
use Rattle.std.proofs.Common.{◌≡◌, ℕ, suc, zero, ◌+◌, ◌-◌, ◌<◌, ◌≤◌, ◌==◌, Bool, true, false, not, ◌&&◌, ◌||◌, List, [], ◌∷◌, ◌++◌, map, filter, length, inl, inr, ⊎_elim, refl, sym, ap, ◌∙◌, subst, arith, cond}
use Rattle.std.specs.Prelude.{Option, Some, None, option_map, filter_map, slice_get, slice_index_or, All, if◌then◌else◌}
use Rattle.std.specs.List.{list_any, list_all, cons_option}
use Rattle.std.proofs.lemmas.Bool.{and_parts, and_from, eqb-true, eq-eqb, lt-ltb, or_right}
use Rattle.std.proofs.lemmas.Bool.Decides.{nat_tests}
use Rattle.std.proofs.lemmas.Option.{slice_get-map, slice_get_cases, slice_get_past, get_or_from_slice_get}
use Rattle.list_places.specs.Has.{Has}
use Rattle.list_places.proofs.Lists.{at_has, has_filter, filter_has, has_left, map_has, apart_filter}
use Rattle.object_rules.specs.Spaces.{is_of, imports_of}
use Rattle.object_rules.specs.Symbols.{field_of, import_name, own_or}
use Rattle.name_rules.specs.object_file.wasm_types.declared.function.FuncType.{FuncType}
use Rattle.name_rules.specs.object_file.wasm_types.declared.table.GlobalType.{GlobalType}
use Rattle.name_rules.specs.object_file.wasm_types.declared.value.ValType.TheVariants.{I32}
use Rattle.name_rules.specs.object_file.wasm_types.declared.import.Import.{Import}
use Rattle.name_rules.specs.object_file.wasm_types.declared.import.ImportKind.{ImportKind}
use Rattle.name_rules.specs.object_file.wasm_types.declared.import.ImportKind.TheVariants as kinds
use Rattle.name_rules.specs.object_file.linking_section.declared.symbol.Symbol.{Symbol}
use Rattle.name_rules.specs.object_file.linking_section.declared.symbol.SymbolKind.{SymbolKind}
use Rattle.name_rules.specs.object_file.linking_section.declared.symbol.SymbolKind.TheVariants.{Function, Datum, GlobalVar, Section, Table}
use Rattle.name_rules.specs.object_file.linking_section.declared.member_kinds.TheConstants as members
use Rattle.name_rules.specs.object_file.linking_section.Flags.{kind_code, has_bit, is_named, is_weak, is_explicit, is_undefined}
use Rattle.name_rules.specs.object_file.object_parts.declared.parts.GlobalDef.{GlobalDef}
use Rattle.name_rules.specs.object_file.object_columns.declared.functions.FunctionDef.{FunctionDef}
use Rattle.name_rules.specs.object_file.declared.object.Object.{Object}
use Rattle.name_rules.specs.object_file.Spaces.{no_type, written_type, imported_type, imported_global, defined_type, function_types, global_types, function_imports, global_imports, table_imports}
use Rattle.object_file.specs.Sound.{NamesInRange, function_count, global_count}
use Rattle.object_file.specs.Objects.{with_name}
use Rattle.name_rules.specs.Entries.{InputSymbol, ImportKey, SymbolType, of_function, of_global, untyped, is_kind, name_of, type_in, import_in, index_in, key_of, in_kept_part, entry_in, is_kept, same_entry}
use Rattle.index_layout.specs.Numbers.{number_by}
use Rattle.link_rules.specs.Program.{Program, Part, chunk_at, global}
use Rattle.link_rules.specs.Keys.{content_type, function_type_of, window_types}
use Rattle.name_rules.specs.object_file.wasm_module.declared.parts.ModuleGlobal.{ModuleGlobal}
use Rattle.link_rules.specs.Output.{content_global}
use Rattle.partial_rules.specs.Partial.{name_references, standing, is_open, open_of, open_index, defined_index, open_import, open_symbol, symbol_for, import_kind, import_for, import_types, imports, kept, place_of, types, type_number}
use Rattle.partial_rules.specs.ReadAs.{shown_name, shown}
use Rattle.partial_laws.specs.Names.{IsOf}
use Rattle.partial_laws.proofs.Flags.{open_undefined, open_explicit}
use Rattle.partial_laws.proofs.Loading.{rise_above}
use Rattle.partial_parts_laws.specs.Linked.{Linked, program}
use Rattle.partial_parts_laws.specs.ReadBack.{TreeRead, AreLinked}
use Rattle.partial_parts_laws.specs.SymbolsBack.{has_own_name, AreNamed}
use Rattle.partial_parts_laws.proofs.Referred.{kinds_equal}
use Rattle.partial_parts_laws.proofs.Inside.{merged_has, type_found}
use Rattle.partial_parts_laws.proofs.Zips.{zip_map}
use Rattle.partial_parts_laws.proofs.Once.{parts_apart}
use Rattle.partial_parts_laws.proofs.Exported.{placed_at}
use Rattle.partial_parts_laws.proofs.Parts.{make_function, make_global}
use Rattle.partial_parts_laws.proofs.KeptParts.{function_there, global_there}
use Rattle.partial_parts_laws.proofs.Imported.{TypeFor, standing_typed, open_type, functions_imported, globals_imported, function_count as function_count_is, global_count as global_count_is}
use Rattle.partial_parts_laws.proofs.StandingSymbols.{of_objects, Origin, origin, range, standing_in, apart, closed_defines, closed_defined, no_section, some_name, open_named, numbered_there, import_at}

no_true : false ≡ true → ⊥
no_true e = absurd cc

not_true : (b : Bool) → not b ≡ true → b ≡ false
not_true true e = absurd cc
not_true false e = refl

-- ---- lists

get_left : {A : Type 0} (xs ys : List A) (k : ℕ) (x : A) → slice_get xs k ≡ Some x → slice_get (xs ++ ys) k ≡ Some x
get_left [] ys k x is = absurd cc
get_left (y ∷ xs) ys zero x is = is
get_left (y ∷ xs) ys (suc k) x is = get_left xs ys k x is

get_right : {A : Type 0} (xs ys : List A) (k : ℕ) (x : A) → slice_get ys k ≡ Some x → slice_get (xs ++ ys) (length xs + k) ≡ Some x
get_right [] ys k x is = let none : 0 + k ≡ k = omega arith in ap (λ n. slice_get ys n) none ∙ is
get_right (y ∷ xs) ys k x is = let more : suc (length xs) + k ≡ suc (length xs + k) = omega arith in ap (λ n. slice_get (y ∷ (xs ++ ys)) n) more ∙ get_right xs ys k x is

-- what is picked of those that pass a test alone
picked_of : {A B : Type 0} (t : A → Bool) (f : A → Option B) (xs : List A) → ((x : A) → t x ≡ false → f x ≡ None) → filter_map f xs ≡ filter_map f (filter t xs)
picked_of t f [] fails = refl
picked_of {A} {B} t f (x ∷ xs) fails = choose (t x) refl (picked_of t f xs fails)
  where
    choose : (b : Bool) → t x ≡ b → filter_map f xs ≡ filter_map f (filter t xs) → cons_option (f x) (filter_map f xs) ≡ filter_map f (cond b (x ∷ filter t xs) (filter t xs))
    choose true e rest = ap (cons_option (f x)) rest
    choose false e rest = ap (λ (o : Option B). cons_option o (filter_map f xs)) (fails x e) ∙ rest

picked_all : {A B C : Type 0} (h : A → B) (f : B → Option C) (g : A → C) (xs : List A) → ((x : A) → Has xs x → f (h x) ≡ Some (g x)) → filter_map f (map h xs) ≡ map g xs
picked_all h f g [] each = refl
picked_all {A} {B} {C} h f g (x ∷ xs) each =
    ap (λ (o : Option C). cons_option o (filter_map f (map h xs))) (each x (inl refl)) ∙ ap (λ ys. g x ∷ ys) (picked_all h f g xs (λ y has. each y (inr has)))

pub picked_long : {A B : Type 0} (t : A → Bool) (f : A → Option B) (xs : List A) → ((x : A) → t x ≡ false → f x ≡ None) → ((x : A) → t x ≡ true → (y : B) × (f x ≡ Some y)) → length (filter_map f xs) ≡ length (filter t xs)
picked_long t f [] fails passes = refl
picked_long {A} {B} t f (x ∷ xs) fails passes = choose (t x) refl (picked_long t f xs fails passes)
  where
    choose : (b : Bool) → t x ≡ b → length (filter_map f xs) ≡ length (filter t xs) → length (cons_option (f x) (filter_map f xs)) ≡ length (cond b (x ∷ filter t xs) (filter t xs))
    choose true e rest = let r = passes x e in ap (λ (o : Option B). length (cons_option o (filter_map f xs))) r.1 ∙ ap suc rest
    choose false e rest = ap (λ (o : Option B). length (cons_option o (filter_map f xs))) (fails x e) ∙ rest

-- ---- imports of functions and globals

pub function_none : (o : Object) (k : ImportKind) → is_of Function k ≡ false → imported_type o k ≡ None
function_none o (kinds.Function t) e = absurd cc
function_none o (kinds.Table t) e = refl
function_none o (kinds.Memory m) e = refl
function_none o (kinds.GlobalVar g) e = refl

pub function_some : (o : Object) (k : ImportKind) → is_of Function k ≡ true → (t : FuncType) × (imported_type o k ≡ Some t)
function_some o (kinds.Function t) e = (written_type o t, refl)
function_some o (kinds.Table t) e = absurd cc
function_some o (kinds.Memory m) e = absurd cc
function_some o (kinds.GlobalVar g) e = absurd cc

global_none : (k : ImportKind) → is_of GlobalVar k ≡ false → imported_global k ≡ None
global_none (kinds.Function t) e = refl
global_none (kinds.Table t) e = refl
global_none (kinds.Memory m) e = refl
global_none (kinds.GlobalVar g) e = absurd cc

global_some : (k : ImportKind) → is_of GlobalVar k ≡ true → (g : GlobalType) × (imported_global k ≡ Some g)
global_some (kinds.Function t) e = absurd cc
global_some (kinds.Table t) e = absurd cc
global_some (kinds.Memory m) e = absurd cc
global_some (kinds.GlobalVar g) e = (g, refl)

abbrev no_global : GlobalType
no_global = record { kind = I32; var = false }

-- the types of defined functions and globals stand behind those of imported ones
function_behind : (o : Object) (n : ℕ) (t : FuncType) → slice_get (map (λ f. defined_type o f) o.functions) n ≡ Some t → slice_index_or (function_types o) (length (function_imports o) + n) no_type ≡ t
function_behind o n t is =
    let long : length (filter_map (λ (i : Import). imported_type o i.kind) o.imports) ≡ length (function_imports o) =
    picked_long (λ (i : Import). is_of Function i.kind) (λ (i : Import). imported_type o i.kind) o.imports (λ i e. function_none o i.kind e) (λ i e. function_some o i.kind e) in
    get_or_from_slice_get (function_types o) (length (function_imports o) + n) t no_type
    (ap (λ k. slice_get (function_types o) (k + n)) (sym long) ∙ get_right (filter_map (λ (i : Import). imported_type o i.kind) o.imports) (map (λ f. defined_type o f) o.functions) n t is)

global_behind : (o : Object) (n : ℕ) (g : GlobalType) → slice_get (map (λ (d : GlobalDef). d.kind) o.globals) n ≡ Some g → slice_index_or (global_types o) (length (global_imports o) + n) no_global ≡ g
global_behind o n g is =
    let long : length (filter_map (λ (i : Import). imported_global i.kind) o.imports) ≡ length (global_imports o) =
    picked_long (λ (i : Import). is_of GlobalVar i.kind) (λ (i : Import). imported_global i.kind) o.imports (λ i e. global_none i.kind e) (λ i e. global_some i.kind e) in
    get_or_from_slice_get (global_types o) (length (global_imports o) + n) g no_global
    (ap (λ k. slice_get (global_types o) (k + n)) (sym long) ∙ get_right (filter_map (λ (i : Import). imported_global i.kind) o.imports) (map (λ (d : GlobalDef). d.kind) o.globals) n g is)

-- ---- names

defined_own : (k : SymbolKind) (flags : ℕ) → has_bit 0x10 flags ≡ false → has_own_name k flags ≡ true
defined_own Function flags e = ap (λ (b : Bool). not b || has_bit 0x40 flags) e
defined_own Datum flags e = refl
defined_own GlobalVar flags e = ap (λ (b : Bool). not b || has_bit 0x40 flags) e
defined_own Section flags e = refl
defined_own Table flags e = ap (λ (b : Bool). not b || has_bit 0x40 flags) e

-- a name that stands with its symbol
own_shown : (k : SymbolKind) (s : Symbol) (name : List ℕ) (other : Option (List ℕ)) → (k ≡ Section → ⊥) → s.name ≡ Some name → has_own_name k s.flags ≡ true → own_or (shown_name k s) other ≡ s.name
own_shown k s name other section is own = by_kind k section own
  where
    told : own_or s.name other ≡ s.name
    told = ap (λ (n : Option (List ℕ)). own_or n other) is ∙ sym is

    by_flag : is_named s.flags ≡ true → own_or (if is_named s.flags then s.name else None) other ≡ s.name
    by_flag e = ap (λ (b : Bool). own_or (if b then s.name else None) other) e ∙ told

    by_kind : (k : SymbolKind) → (k ≡ Section → ⊥) → has_own_name k s.flags ≡ true → own_or (shown_name k s) other ≡ s.name
    by_kind Function section own = by_flag own
    by_kind Datum section own = told
    by_kind GlobalVar section own = by_flag own
    by_kind Section section own = absurd (section refl)
    by_kind Table section own = by_flag own

-- one that doesn't is the import's
other_shown : (k : SymbolKind) (s : Symbol) (other : Option (List ℕ)) → has_own_name k s.flags ≡ false → other ≡ s.name → own_or (shown_name k s) other ≡ s.name
other_shown k s other without is = by_kind k without
  where
    by_flag : is_named s.flags ≡ false → own_or (if is_named s.flags then s.name else None) other ≡ s.name
    by_flag e = ap (λ (b : Bool). own_or (if b then s.name else None) other) e ∙ is

    by_kind : (k : SymbolKind) → has_own_name k s.flags ≡ false → own_or (shown_name k s) other ≡ s.name
    by_kind Function without = by_flag without
    by_kind Datum without = absurd (no_true (sym without))
    by_kind GlobalVar without = by_flag without
    by_kind Section without = absurd (no_true (sym without))
    by_kind Table without = by_flag without

renamed : (is : List Import) (s : Symbol) → own_or (shown_name s.kind s) (import_name is (shown s)) ≡ s.name → with_name is (shown s) ≡ s
renamed is s e = ap (λ (n : Option (List ℕ)). let y : Symbol = record { kind = s.kind; flags = s.flags; name = n; index = s.index; offset = s.offset; size = s.size } in y) e

module _ (l : Linked) (objects : List Object) (is : AreLinked l objects) (names : All AreNamed objects) where
  abbrev p : Program
  p = program l objects

  of : IsOf p objects
  of = of_objects l objects is names

  -- ---- the symbols themselves

  abbrev Comes : Symbol → Type 0
  Comes s = with_name (imports p) (shown s) ≡ s

  open_comes : (x : InputSymbol) → Has (standing p) x → is_open p x ≡ true → Comes (open_symbol p x)
  open_comes x has opened = renamed (imports p) (open_symbol p x) (by_flag (list_any (λ (r : InputSymbol). is_explicit r.symbol) (name_references p (name_of x))) refl)
    where
      refs : List InputSymbol
      refs = name_references p (name_of x)

      flags : ℕ
      flags = (open_symbol p x).flags

      explicit : has_bit 0x40 flags ≡ list_any (λ (r : InputSymbol). is_explicit r.symbol) refs
      explicit = open_explicit x.symbol.flags (list_all (λ (r : InputSymbol). is_weak r.symbol) refs) (list_any (λ (r : InputSymbol). is_explicit r.symbol) refs)

      undefined : has_bit 0x10 flags ≡ true
      undefined = open_undefined x.symbol.flags (list_all (λ (r : InputSymbol). is_weak r.symbol) refs) (list_any (λ (r : InputSymbol). is_explicit r.symbol) refs)

      section : x.symbol.kind ≡ Section → ⊥
      section = no_section l objects is names x has

      own : (k : SymbolKind) → has_bit 0x40 flags ≡ true → has_own_name k flags ≡ true
      own Function e = or_right (not (has_bit 0x10 flags)) (has_bit 0x40 flags) e
      own Datum e = refl
      own GlobalVar e = or_right (not (has_bit 0x10 flags)) (has_bit 0x40 flags) e
      own Section e = refl
      own Table e = or_right (not (has_bit 0x10 flags)) (has_bit 0x40 flags) e

      unnamed : has_bit 0x40 flags ≡ false → is_named flags ≡ false
      unnamed e = ap (λ (b : Bool). not b || has_bit 0x40 flags) undefined ∙ e

      from_import : (k : SymbolKind) → x.symbol.kind ≡ k → (k ≡ Datum → ⊥) → (k ≡ Section → ⊥) → list_any (λ (r : InputSymbol). is_explicit r.symbol) refs ≡ false
          → field_of (slice_get (imports_of k (imports p)) (open_index p x k)) ≡ Some (name_of x)
      from_import k kind datum section plain =
          let at = import_at l objects is names x has opened k kind datum section in
          ap field_of at.there ∙ ap (λ n. Some n) (at.field ∙ open_named l objects is names x plain)

      by_kind : (k : SymbolKind) → x.symbol.kind ≡ k → list_any (λ (r : InputSymbol). is_explicit r.symbol) refs ≡ false
          → own_or (shown_name k (open_symbol p x)) (field_of (slice_get (imports_of k (imports p)) (open_index p x k))) ≡ Some (name_of x)
      by_kind Function kind plain = other_shown Function (open_symbol p x) (field_of (slice_get (imports_of Function (imports p)) (open_index p x Function))) (unnamed (explicit ∙ plain)) (from_import Function kind (λ e. other e) (λ e. other_too e) plain)
        where
          other : Function ≡ Datum → ⊥
          other e = absurd cc

          other_too : Function ≡ Section → ⊥
          other_too e = absurd cc
      by_kind Datum kind plain = refl
      by_kind GlobalVar kind plain = other_shown GlobalVar (open_symbol p x) (field_of (slice_get (imports_of GlobalVar (imports p)) (open_index p x GlobalVar))) (unnamed (explicit ∙ plain)) (from_import GlobalVar kind (λ e. other e) (λ e. other_too e) plain)
        where
          other : GlobalVar ≡ Datum → ⊥
          other e = absurd cc

          other_too : GlobalVar ≡ Section → ⊥
          other_too e = absurd cc
      by_kind Section kind plain = absurd (section kind)
      by_kind Table kind plain = other_shown Table (open_symbol p x) (field_of (slice_get (imports_of Table (imports p)) (open_index p x Table))) (unnamed (explicit ∙ plain)) (from_import Table kind (λ e. other e) (λ e. other_too e) plain)
        where
          other : Table ≡ Datum → ⊥
          other e = absurd cc

          other_too : Table ≡ Section → ⊥
          other_too e = absurd cc

      by_flag : (b : Bool) → list_any (λ (r : InputSymbol). is_explicit r.symbol) refs ≡ b → own_or (shown_name x.symbol.kind (open_symbol p x)) (import_name (imports p) (shown (open_symbol p x))) ≡ Some (name_of x)
      by_flag true e = own_shown x.symbol.kind (open_symbol p x) (name_of x) (import_name (imports p) (shown (open_symbol p x))) section refl (own x.symbol.kind (explicit ∙ e))
      by_flag false e = by_kind x.symbol.kind refl e

  closed_comes : (x : InputSymbol) → Has (standing p) x → is_open p x ≡ false → (index : ℕ) → Comes (record x.symbol { index = index })
  closed_comes x has closed index =
      let name = some_name l objects is names x has in
      let it : Symbol = record x.symbol { index = index } in
      renamed (imports p) it (own_shown x.symbol.kind it name.0 (import_name (imports p) (shown it)) (no_section l objects is names x has) name.1
      (defined_own x.symbol.kind x.symbol.flags (closed_defined l objects is names x has closed)))

  -- what holds of a standing symbol, by whether it is open
  pub by_open : (P : Symbol → Type 0) (x : InputSymbol) → (is_open p x ≡ true → P (open_symbol p x)) → (is_open p x ≡ false → P (record x.symbol { index = defined_index p x x.symbol.kind })) → P (symbol_for p x)
  by_open P x opened closed = choose (is_open p x) refl
    where
      choose : (b : Bool) → is_open p x ≡ b → P (symbol_for p x)
      choose true e = subst (λ (b : Bool). P (if b then open_symbol p x else record x.symbol { index = defined_index p x x.symbol.kind })) (sym e) (opened e)
      choose false e = subst (λ (b : Bool). P (if b then open_symbol p x else record x.symbol { index = defined_index p x x.symbol.kind })) (sym e) (closed e)

  pub comes : (x : InputSymbol) → Has (standing p) x → with_name (imports p) (shown (symbol_for p x)) ≡ symbol_for p x
  comes x has = by_open Comes x (open_comes x has) (λ e. closed_comes x has e (defined_index p x x.symbol.kind))

  pub symbols_come : map (λ s. with_name (imports p) s) (map shown (map (λ x. symbol_for p x) (standing p))) ≡ map (λ x. symbol_for p x) (standing p)
  symbols_come = each (standing p) comes
    where
      each : (xs : List InputSymbol) → ((x : InputSymbol) → Has xs x → Comes (symbol_for p x)) → map (λ s. with_name (imports p) s) (map shown (map (λ x. symbol_for p x) xs)) ≡ map (λ x. symbol_for p x) xs
      each [] comes = refl
      each (x ∷ xs) comes = let first = comes x (inl refl) in let rest = each xs (λ y h. comes y (inr h)) in λ i. first i ∷ rest i

  -- ---- their types and imports, as the object is read

  open_is : (k : SymbolKind) (e : InputSymbol) → Has (open_of p k) e → Has (standing p) e × (is_open p e ≡ true) × (e.symbol.kind ≡ k)
  open_is k e has =
      let f = has_filter (λ y. is_open p y && is_kind k y) (standing p) e has in
      let both = and_parts (is_open p e) (is_kind k e) f.1 in
      (f.0, both.0, kinds_equal e.symbol.kind k (eqb-true (kind_code e.symbol.kind) (kind_code k) both.1))

  has_open : (k : SymbolKind) (x : InputSymbol) → Has (standing p) x → is_open p x ≡ true → x.symbol.kind ≡ k → Has (open_of p k) x
  has_open k x has opened kind = filter_has (λ y. is_open p y && is_kind k y) (standing p) x has (and_from (is_open p x) (is_kind k x) opened (ap (λ j. kind_code j == kind_code k) kind ∙ eq-eqb (kind_code k) (kind_code k) refl))

  open_typed : (k : SymbolKind) (e : InputSymbol) → Has (open_of p k) e → TypeFor k (open_import p e).type
  open_typed k e has =
      let h = open_is k e has in
      subst (λ t. TypeFor k t) (sym (open_type p objects of is.no_clash e h.0 h.1)) (subst (λ j. TypeFor j e.type) h.2 (standing_typed p objects of is.no_clash e h.0).typed)

  abbrev global_type_of : SymbolType → GlobalType
  global_type_of (of_function t) = no_global
  global_type_of (of_global g) = g
  global_type_of untyped = no_global

  function_back : (t : SymbolType) → TypeFor Function t → of_function (function_type_of t) ≡ t
  function_back (of_function t) h = refl
  function_back (of_global g) h = absurd h
  function_back untyped h = absurd h

  global_back : (t : SymbolType) → TypeFor GlobalVar t → of_global (global_type_of t) ≡ t
  global_back (of_function t) h = absurd h
  global_back (of_global g) h = refl
  global_back untyped h = absurd h

  datum_back : (t : SymbolType) → TypeFor Datum t → untyped ≡ t
  datum_back (of_function t) h = absurd h
  datum_back (of_global g) h = absurd h
  datum_back untyped h = refl

  section_back : (t : SymbolType) → TypeFor Section t → untyped ≡ t
  section_back (of_function t) h = absurd h
  section_back (of_global g) h = absurd h
  section_back untyped h = refl

  table_back : (t : SymbolType) → TypeFor Table t → untyped ≡ t
  table_back (of_function t) h = absurd h
  table_back (of_global g) h = absurd h
  table_back untyped h = refl

  abbrev kind_of_global : Option ModuleGlobal → GlobalType
  kind_of_global None = no_global
  kind_of_global (Some m) = m.kind

  above : All (λ (y : Object). 0 < y.input) objects
  above = rise_above 0 objects is.rise

  module _ (o : Object) (tree : TreeRead p o) where
    functions_counted : length (function_imports o) ≡ length (open_of p Function)
    functions_counted = ap (λ ys. length (imports_of Function ys)) tree.imports_are ∙ function_count_is p objects of is.no_clash

    globals_counted : length (global_imports o) ≡ length (open_of p GlobalVar)
    globals_counted = ap (λ ys. length (imports_of GlobalVar ys)) tree.imports_are ∙ global_count_is p objects of is.no_clash

    -- ---- of open ones

    function_type : (t : SymbolType) → TypeFor Function t → imported_type o (import_kind p t) ≡ Some (written_type o (type_number p (function_type_of t)))
    function_type (of_function t) h = refl
    function_type (of_global g) h = absurd h
    function_type untyped h = absurd h

    global_type : (t : SymbolType) → TypeFor GlobalVar t → imported_global (import_kind p t) ≡ Some (global_type_of t)
    global_type (of_function t) h = absurd h
    global_type (of_global g) h = refl
    global_type untyped h = absurd h

    abbrev written_for : InputSymbol → FuncType
    written_for e = written_type o (type_number p (function_type_of (open_import p e).type))

    imported_functions : filter_map (λ (i : Import). imported_type o i.kind) o.imports ≡ map written_for (open_of p Function)
    imported_functions =
        ap (filter_map (λ (i : Import). imported_type o i.kind)) tree.imports_are
        ∙ (picked_of (λ (i : Import). is_of Function i.kind) (λ (i : Import). imported_type o i.kind) (imports p) (λ i e. function_none o i.kind e)
        ∙ (ap (filter_map (λ (i : Import). imported_type o i.kind)) (functions_imported p objects of is.no_clash)
        ∙ picked_all (λ e. import_for p (open_import p e)) (λ (i : Import). imported_type o i.kind) written_for (open_of p Function) (λ e has. function_type (open_import p e).type (open_typed Function e has))))

    imported_globals : filter_map (λ (i : Import). imported_global i.kind) o.imports ≡ map (λ e. global_type_of (open_import p e).type) (open_of p GlobalVar)
    imported_globals =
        ap (filter_map (λ (i : Import). imported_global i.kind)) tree.imports_are
        ∙ (picked_of (λ (i : Import). is_of GlobalVar i.kind) (λ (i : Import). imported_global i.kind) (imports p) (λ i e. global_none i.kind e)
        ∙ (ap (filter_map (λ (i : Import). imported_global i.kind)) (globals_imported p objects of is.no_clash)
        ∙ picked_all (λ e. import_for p (open_import p e)) (λ (i : Import). imported_global i.kind) (λ e. global_type_of (open_import p e).type) (open_of p GlobalVar) (λ e has. global_type (open_import p e).type (open_typed GlobalVar e has))))

    type_there : (t : FuncType) → Has (import_types p) t → written_type o (type_number p t) ≡ t
    type_there t has =
        ap (λ ts. slice_index_or ts (type_number p t) no_type) tree.types_are
        ∙ type_found (types p) t
        (merged_has (import_types p ++ map (λ part. content_type part.content) (kept p 0) ++ window_types (kept p 0)) t
        (has_left (import_types p ++ map (λ part. content_type part.content) (kept p 0)) (window_types (kept p 0)) t (has_left (import_types p) (map (λ part. content_type part.content) (kept p 0)) t has)))

    open_function : (x : InputSymbol) → Has (standing p) x → is_open p x ≡ true → x.symbol.kind ≡ Function → of_function (slice_index_or (function_types o) (open_index p x Function) no_type) ≡ x.type
    open_function x has opened kind =
        let mine : Has (open_of p Function) x = has_open Function x has opened kind in
        let n : ℕ = number_by same_entry (open_of p Function) x in
        let there = numbered_there (open_of p Function) (apart_filter same_entry (λ y. is_open p y && is_kind Function y) (standing p) (apart l objects is names)) x mine in
        let at : slice_get (filter_map (λ (i : Import). imported_type o i.kind) o.imports) n ≡ Some (written_for x) = ap (λ ts. slice_get ts n) imported_functions ∙ (slice_get-map written_for (open_of p Function) n ∙ ap (option_map written_for) there) in
        let found : slice_index_or (function_types o) n no_type ≡ written_for x = get_or_from_slice_get (function_types o) n (written_for x) no_type (get_left (filter_map (λ (i : Import). imported_type o i.kind) o.imports) (map (λ f. defined_type o f) o.functions) n (written_for x) at) in
        ap of_function (found ∙ type_there (function_type_of (open_import p x).type) (map_has (λ e. function_type_of (open_import p e).type) (open_of p Function) x mine))
        ∙ (function_back (open_import p x).type (open_typed Function x mine) ∙ open_type p objects of is.no_clash x has opened)

    open_global : (x : InputSymbol) → Has (standing p) x → is_open p x ≡ true → x.symbol.kind ≡ GlobalVar → of_global (slice_index_or (global_types o) (open_index p x GlobalVar) no_global) ≡ x.type
    open_global x has opened kind =
        let mine : Has (open_of p GlobalVar) x = has_open GlobalVar x has opened kind in
        let n : ℕ = number_by same_entry (open_of p GlobalVar) x in
        let there = numbered_there (open_of p GlobalVar) (apart_filter same_entry (λ y. is_open p y && is_kind GlobalVar y) (standing p) (apart l objects is names)) x mine in
        let at : slice_get (filter_map (λ (i : Import). imported_global i.kind) o.imports) n ≡ Some (global_type_of (open_import p x).type) = ap (λ ts. slice_get ts n) imported_globals ∙ (slice_get-map (λ e. global_type_of (open_import p e).type) (open_of p GlobalVar) n ∙ ap (option_map (λ e. global_type_of (open_import p e).type)) there) in
        let found : slice_index_or (global_types o) n no_global ≡ global_type_of (open_import p x).type = get_or_from_slice_get (global_types o) n (global_type_of (open_import p x).type) no_global (get_left (filter_map (λ (i : Import). imported_global i.kind) o.imports) (map (λ (d : GlobalDef). d.kind) o.globals) n (global_type_of (open_import p x).type) at) in
        ap of_global found ∙ (global_back (open_import p x).type (open_typed GlobalVar x mine) ∙ open_type p objects of is.no_clash x has opened)

    open_types : (x : InputSymbol) → Has (standing p) x → is_open p x ≡ true → type_in o (open_symbol p x) (open_symbol p x).kind ≡ x.type
    open_types x has opened = by_kind x.symbol.kind refl (standing_typed p objects of is.no_clash x has).typed
      where
        by_kind : (k : SymbolKind) → x.symbol.kind ≡ k → TypeFor k x.type → type_in o (record (open_symbol p x) { index = open_index p x k }) k ≡ x.type
        by_kind Function kind typed = open_function x has opened kind
        by_kind Datum kind typed = datum_back x.type typed
        by_kind GlobalVar kind typed = open_global x has opened kind
        by_kind Section kind typed = section_back x.type typed
        by_kind Table kind typed = table_back x.type typed

    -- ---- of closed ones

    functions_typed : map (λ f. defined_type o f) o.functions ≡ map (λ part. content_type part.content) (kept p 0)
    functions_typed = zip_map (λ (part : Part) (f : FunctionDef). defined_type o f ≡ content_type part.content) (λ part. content_type part.content) (λ f. defined_type o f) (λ x y e. e) (kept p 0) o.functions tree.functions

    globals_typed : map (λ (d : GlobalDef). d.kind) o.globals ≡ map (λ part. kind_of_global (content_global part.content)) (kept p 2)
    globals_typed = zip_map (λ (part : Part) (g : GlobalDef). content_global (global g) ≡ content_global part.content) (λ part. kind_of_global (content_global part.content)) (λ (d : GlobalDef). d.kind) (λ x y e. ap kind_of_global e) (kept p 2) o.globals tree.globals

    closed_function : (ob : Object) → Has objects ob → (n : ℕ) (f : FunctionDef) → slice_get ob.functions n ≡ Some f → is_kept objects ob members.FUNCTION (n + length (function_imports ob)) ≡ true
        → slice_index_or (function_types o) (length (open_of p Function) + place_of p 0 (chunk_at ob.input 0 n)) no_type ≡ defined_type ob f
    closed_function ob ho n f at keeps =
        let part : Part = make_function l objects ob n f in
        let k = at_has (kept p 0) part (function_there l objects is.strict above ob ho n f at keeps) in
        let place : place_of p 0 (chunk_at ob.input 0 n) ≡ k.0 = placed_at p (parts_apart l objects is.rise is.strict) 0 k.0 part k.1 in
        let typed : slice_get (map (λ f. defined_type o f) o.functions) k.0 ≡ Some (defined_type ob f) = ap (λ ts. slice_get ts k.0) functions_typed ∙ (slice_get-map (λ part. content_type part.content) (kept p 0) k.0 ∙ ap (option_map (λ part. content_type part.content)) k.1) in
        ap (λ m. slice_index_or (function_types o) m no_type) (omega (arith, place, functions_counted)) ∙ function_behind o k.0 (defined_type ob f) typed

    closed_global : (ob : Object) → Has objects ob → (n : ℕ) (g : GlobalDef) → slice_get ob.globals n ≡ Some g → slice_index_or (global_types o) (length (open_of p GlobalVar) + place_of p 2 (chunk_at ob.input 2 n)) no_global ≡ g.kind
    closed_global ob ho n g at =
        let part : Part = make_global l objects ob n g in
        let k = at_has (kept p 2) part (global_there l objects is.strict above ob ho n g at) in
        let place : place_of p 2 (chunk_at ob.input 2 n) ≡ k.0 = placed_at p (parts_apart l objects is.rise is.strict) 2 k.0 part k.1 in
        let typed : slice_get (map (λ (d : GlobalDef). d.kind) o.globals) k.0 ≡ Some g.kind = ap (λ ts. slice_get ts k.0) globals_typed ∙ (slice_get-map (λ part. kind_of_global (content_global part.content)) (kept p 2) k.0 ∙ ap (option_map (λ part. kind_of_global (content_global part.content))) k.1) in
        ap (λ m. slice_index_or (global_types o) m no_global) (omega (arith, place, globals_counted)) ∙ global_behind o k.0 g.kind typed

    -- a symbol that defines something
    closed_type : (ob : Object) → Has objects ob → (place : ℕ) (s : Symbol) (k : SymbolKind) → NamesInRange ob s k → (not (is_undefined s) && in_kept_part objects ob s k) ≡ true
        → type_in o (record s { index = defined_index p (record (entry_in objects ob place s) { index = index_in ob s k }) k }) k ≡ type_in ob s k
    closed_type ob ho place s Function named defines =
        let d = and_parts (not (is_undefined s)) (is_kept objects ob members.FUNCTION s.index) defines in
        let defined : is_undefined s ≡ false = not_true (is_undefined s) d.0 in
        let behind : length (function_imports ob) ≤ s.index = grind (arith, nat_tests, named.1, defined) in
        let low : s.index < function_count ob = named.0 in
        let n : ℕ = s.index - length (function_imports ob) in
        let within : n < length ob.functions = omega (arith, behind, low) in
        let again : n + length (function_imports ob) ≡ s.index = omega (arith, behind) in
        let index : s.index ≡ length (function_imports ob) + n = omega (arith, behind) in
        ⊎_elim (λ f. ap of_function (closed_function ob ho n f.0 f.2 (ap (is_kept objects ob members.FUNCTION) again ∙ d.1)
        ∙ sym (ap (λ m. slice_index_or (function_types ob) m no_type) index ∙ function_behind ob n (defined_type ob f.0) (slice_get-map (λ g. defined_type ob g) ob.functions n ∙ ap (option_map (λ g. defined_type ob g)) f.2))))
        (λ past. absurd (omega (arith, within, past.0))) (slice_get_cases ob.functions n).1
    closed_type ob ho place s Datum named defines = refl
    closed_type ob ho place s GlobalVar named defines =
        let d = and_parts (not (is_undefined s)) true defines in
        let defined : is_undefined s ≡ false = not_true (is_undefined s) d.0 in
        let behind : length (global_imports ob) ≤ s.index = grind (arith, nat_tests, named.1, defined) in
        let low : s.index < global_count ob = named.0 in
        let n : ℕ = s.index - length (global_imports ob) in
        let within : n < length ob.globals = omega (arith, behind, low) in
        let index : s.index ≡ length (global_imports ob) + n = omega (arith, behind) in
        ⊎_elim (λ g. ap of_global (closed_global ob ho n g.0 g.2
        ∙ sym (ap (λ m. slice_index_or (global_types ob) m no_global) index ∙ global_behind ob n g.0.kind (slice_get-map (λ (d : GlobalDef). d.kind) ob.globals n ∙ ap (option_map (λ (d : GlobalDef). d.kind)) g.2))))
        (λ past. absurd (omega (arith, within, past.0))) (slice_get_cases ob.globals n).1
    closed_type ob ho place s Section named defines = refl
    closed_type ob ho place s Table named defines = refl

    made_defines : (x : InputSymbol) → (has : Has (standing p) x) → is_open p x ≡ false → (it : Origin l objects is names x) → (not (is_undefined it.symbol) && in_kept_part objects it.object it.symbol it.symbol.kind) ≡ true
    made_defines x has closed it = ap (λ (y : InputSymbol). y.defines) it.made ∙ closed_defines l objects is names x has closed

    closed_types : (x : InputSymbol) → Has (standing p) x → is_open p x ≡ false → type_in o (record x.symbol { index = defined_index p x x.symbol.kind }) x.symbol.kind ≡ x.type
    closed_types x has closed =
        let it = origin l objects is names x (standing_in l objects is names x has).0 in
        subst (λ (y : InputSymbol). type_in o (record y.symbol { index = defined_index p y y.symbol.kind }) y.symbol.kind ≡ y.type) it.made
        (closed_type it.object it.there it.place it.symbol it.symbol.kind (range l objects is names it.object it.there it.symbol it.one_of) (made_defines x has closed it))

    pub types_back : (x : InputSymbol) → Has (standing p) x → type_in o (symbol_for p x) (symbol_for p x).kind ≡ x.type
    types_back x has = by_open (λ s. type_in o s s.kind ≡ x.type) x (open_types x has) (closed_types x has)

    -- ---- imports

    abbrev import_of : Symbol → Option ImportKey
    import_of s = option_map (key_of (type_in o s s.kind)) (import_in o s s.kind)

    -- what is defined stands on none
    no_import : (ob : Object) (s : Symbol) (k : SymbolKind) → NamesInRange ob s k → is_undefined s ≡ false → import_in ob s k ≡ None
    no_import ob s Function named defined = let behind : length (function_imports ob) ≤ s.index = grind (arith, nat_tests, named.1, defined) in slice_get_past (function_imports ob) s.index behind
    no_import ob s Datum named defined = refl
    no_import ob s GlobalVar named defined = let behind : length (global_imports ob) ≤ s.index = grind (arith, nat_tests, named.1, defined) in slice_get_past (global_imports ob) s.index behind
    no_import ob s Section named defined = refl
    no_import ob s Table named defined = absurd (no_true (sym defined ∙ (named.1 ∙ lt-ltb s.index (length (table_imports ob)) named.0)))

    none_there : (ob : Object) (s : Symbol) (e : InputSymbol) (k : SymbolKind) → NamesInRange ob s k → is_undefined s ≡ false → import_in o (record s { index = defined_index p e k }) k ≡ None
    none_there ob s e Function named defined = slice_get_past (function_imports o) (defined_index p e Function) (omega (arith, functions_counted))
    none_there ob s e Datum named defined = refl
    none_there ob s e GlobalVar named defined = slice_get_past (global_imports o) (defined_index p e GlobalVar) (omega (arith, globals_counted))
    none_there ob s e Section named defined = refl
    none_there ob s e Table named defined = absurd (no_true (sym defined ∙ (named.1 ∙ lt-ltb s.index (length (table_imports ob)) named.0)))

    closed_imports : (x : InputSymbol) → Has (standing p) x → is_open p x ≡ false → import_of (record x.symbol { index = defined_index p x x.symbol.kind }) ≡ x.import
    closed_imports x has closed =
        let it = origin l objects is names x (standing_in l objects is names x has).0 in
        let named = range l objects is names it.object it.there it.symbol it.one_of in
        let defined : is_undefined it.symbol ≡ false = not_true (is_undefined it.symbol) (and_parts (not (is_undefined it.symbol)) (in_kept_part objects it.object it.symbol it.symbol.kind) (made_defines x has closed it)).0 in
        subst (λ (y : InputSymbol). import_of (record y.symbol { index = defined_index p y y.symbol.kind }) ≡ y.import) it.made
        (ap (option_map (key_of (type_in o (record it.symbol { index = defined_index p (entry_in objects it.object it.place it.symbol) it.symbol.kind }) it.symbol.kind))) (none_there it.object it.symbol (entry_in objects it.object it.place it.symbol) it.symbol.kind named defined)
        ∙ sym (ap (option_map (key_of (type_in it.object it.symbol it.symbol.kind))) (no_import it.object it.symbol it.symbol.kind named defined)))

    open_imports : (x : InputSymbol) → Has (standing p) x → is_open p x ≡ true → import_of (open_symbol p x) ≡ (if is_kind Datum x then None else Some (open_import p x))
    open_imports x has opened = by_kind x.symbol.kind refl
      where
        on : (k : SymbolKind) → x.symbol.kind ≡ k → (k ≡ Datum → ⊥) → (k ≡ Section → ⊥) → option_map (key_of (type_in o (open_symbol p x) x.symbol.kind)) (slice_get (imports_of k o.imports) (open_index p x k)) ≡ Some (open_import p x)
        on k kind datum section =
            let at = import_at l objects is names x has opened k kind datum section in
            let typed : type_in o (open_symbol p x) x.symbol.kind ≡ (open_import p x).type = open_types x has opened ∙ sym (open_type p objects of is.no_clash x has opened) in
            let there : slice_get (imports_of k o.imports) (open_index p x k) ≡ Some at.import = ap (λ ys. slice_get (imports_of k ys) (open_index p x k)) tree.imports_are ∙ at.there in
            let from : at.import.«module» ≡ (open_import p x).module_name = at.from in
            let field : at.import.field ≡ (open_import p x).field = at.field in
            ap (option_map (key_of (type_in o (open_symbol p x) x.symbol.kind))) there ∙ (λ i. Some (record { module_name = from i; field = field i; type = typed i }))

        by_kind : (k : SymbolKind) → x.symbol.kind ≡ k → option_map (key_of (type_in o (open_symbol p x) x.symbol.kind)) (import_in o (record (open_symbol p x) { index = open_index p x k }) k) ≡ (if kind_code k == kind_code Datum then None else Some (open_import p x))
        by_kind Function kind = on Function kind (λ e. not_datum e) (λ e. not_section e)
          where
            not_datum : Function ≡ Datum → ⊥
            not_datum e = absurd cc

            not_section : Function ≡ Section → ⊥
            not_section e = absurd cc
        by_kind Datum kind = refl
        by_kind GlobalVar kind = on GlobalVar kind (λ e. not_datum e) (λ e. not_section e)
          where
            not_datum : GlobalVar ≡ Datum → ⊥
            not_datum e = absurd cc

            not_section : GlobalVar ≡ Section → ⊥
            not_section e = absurd cc
        by_kind Section kind = absurd (no_section l objects is names x has kind)
        by_kind Table kind = on Table kind (λ e. not_datum e) (λ e. not_section e)
          where
            not_datum : Table ≡ Datum → ⊥
            not_datum e = absurd cc

            not_section : Table ≡ Section → ⊥
            not_section e = absurd cc

    pub closed_imports_back : (x : InputSymbol) → Has (standing p) x → is_open p x ≡ false → import_of (symbol_for p x) ≡ x.import
    closed_imports_back x has closed = by_open (λ s. import_of s ≡ x.import) x (λ e. absurd (no_true (sym closed ∙ e))) (closed_imports x has)

    pub open_imports_back : (x : InputSymbol) → Has (standing p) x → is_open p x ≡ true → import_of (symbol_for p x) ≡ (if is_kind Datum x then None else Some (open_import p x))
    open_imports_back x has opened = by_open (λ s. import_of s ≡ (if is_kind Datum x then None else Some (open_import p x))) x (open_imports x has) (λ e. absurd (no_true (sym e ∙ opened)))

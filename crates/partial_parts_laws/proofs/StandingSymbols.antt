-- The symbols that stand in a relocatable object: what they define, how they are named, and on which imports they stand.
use Rattle.std.proofs.Common.{◌≡◌, ℕ, ◌<◌, ◌==◌, Bool, true, false, not, ◌&&◌, ◌||◌, List, [], ◌∷◌, map, filter, length, inl, inr, ⊎_elim, refl, sym, ap, ◌∙◌, subst, arith, cond}
use Rattle.std.specs.Prelude.{◌⊎◌, nat_lt, Option, Some, None, option_map, unwrap_or, flat_map, find, slice_get, is_some, bytes_eq, codes, All, IsTrue, if◌then◌else◌}
use Rattle.std.specs.List.{list_any}
use Rattle.std.proofs.lemmas.Bool.{and_parts, and_from, eqb-true, lt-ltb}
use Rattle.std.proofs.lemmas.Option.{slice_get-map, slice_get_cases}
use Rattle.list_places.specs.Has.{Has, Apart}
use Rattle.list_places.proofs.Lists.{by_test, all_has, any_has, has_at, has_either, has_filter, filter_has, has_flat, find_has, placed, below, some_is, apart_filter, stands as stands_at}
use Rattle.object_rules.specs.Spaces.{is_table, imports_of}
use Rattle.object_rules.specs.Symbols.{field_of, import_name, is_section}
use Rattle.object_rules.specs.object_parts.Imports.{names_table}
use Rattle.name_rules.specs.object_file.wl_base.Choice.{first_some}
use Rattle.name_rules.specs.object_file.wasm_types.declared.import.Import.{Import}
use Rattle.name_rules.specs.object_file.linking_section.declared.symbol.Symbol.{Symbol}
use Rattle.name_rules.specs.object_file.linking_section.declared.symbol.SymbolKind.{SymbolKind}
use Rattle.name_rules.specs.object_file.linking_section.declared.symbol.SymbolKind.TheVariants.{Function, Datum, GlobalVar, Section, Table}
use Rattle.name_rules.specs.object_file.linking_section.Flags.{kind_code, has_bit, is_named, is_explicit, is_undefined, is_local_definition}
use Rattle.name_rules.specs.object_file.declared.object.Object.{Object}
use Rattle.name_rules.specs.object_file.Spaces.{function_imports, global_imports, table_imports}
use Rattle.object_file.specs.Sound.{Sound, NamesInRange}
use Rattle.made_symbols.specs.declared.mode.Mode.TheVariants.{Plain}
use Rattle.made_symbols.specs.Made.{made}
use Rattle.name_rules.specs.Entries.{InputSymbol, ImportKey, SymbolType, is_kind, is_entry, is_named as has_name, name_of, named, type_in, import_in, key_of, in_kept_part, entry_in, made_from, same_entry, symbols_of}
use Rattle.name_rules.specs.Meanings.{least_import, winner}
use Rattle.index_layout.specs.Numbers.{number_by}
use Rattle.link_rules.specs.Program.{Program, is_that, is_winner, winners_of}
use Rattle.link_rules.specs.Marks.{all_symbols}
use Rattle.partial_rules.specs.Partial.{is_none, object_winner, name_references, stands, stands_for_name, standing, is_open, open_of, open_index, open_import, has_import, import_for, imports}
use Rattle.partial_laws.specs.Joined.{linked_symbols}
use Rattle.partial_laws.specs.Names.{IsOf}
use Rattle.partial_laws.proofs.Same.{name_equal, name_itself, entry_itself}
use Rattle.partial_laws.proofs.Cases.{one_type}
use Rattle.partial_laws.proofs.Joins.{all_made}
use Rattle.partial_laws.proofs.Loading.{apart_linked, apart_flat}
use Rattle.partial_laws.proofs.Programs.{programs_are_of}
use Rattle.partial_laws.proofs.Regions.{apart_one, entry_linked, linked_entry}
use Rattle.partial_laws.proofs.Won.{winning}
use Rattle.partial_laws.proofs.Opened.{some_import}
use Rattle.partial_parts_laws.specs.Linked.{Linked, program}
use Rattle.partial_parts_laws.specs.ReadBack.{AreLinked}
use Rattle.partial_parts_laws.specs.SymbolsBack.{has_own_name, AreNamed}
use Rattle.partial_parts_laws.proofs.Referred.{kinds_equal}
use Rattle.partial_parts_laws.proofs.Symbols.{symbol_of}
use Rattle.partial_parts_laws.proofs.Imported.{from_least, imports_by, imported_as, functions_imported, globals_imported, reference_of, standing_entry}

no_true : false ≡ true → ⊥
no_true e = absurd cc

not_true : (b : Bool) → not b ≡ true → b ≡ false
not_true true e = absurd cc
not_true false e = refl

-- ---- one object

-- a symbol that names an import without EXPLICIT_NAME has its name
named_by : (o : Object) (s : Symbol) (k : SymbolKind) → AreNamed o → Has o.symbols s → s.kind ≡ k → NamesInRange o s k → (i : Import) → import_in o s k ≡ Some i → is_explicit s ≡ false → s.name ≡ Some i.field
named_by o s k n has kind range i at plain = by_kind k kind range at
  where
    told : (k : SymbolKind) → s.kind ≡ k → has_own_name k s.flags ≡ false → s.name ≡ field_of (slice_get (imports_of k o.imports) s.index)
    told k kind without =
        all_has (λ (x : Symbol). has_own_name x.kind x.flags ≡ false → x.name ≡ import_name o.imports x) o.symbols n.imported s has (ap (λ k. has_own_name k s.flags) kind ∙ without)
        ∙ ap (λ k. field_of (slice_get (imports_of k o.imports) s.index)) kind

    unnamed : is_undefined s ≡ true → is_named s.flags ≡ false
    unnamed u = ap (λ (b : Bool). not b || has_bit 0x40 s.flags) u ∙ plain

    low : (xs : List Import) → slice_get xs s.index ≡ Some i → is_undefined s ≡ nat_lt s.index (length xs) → is_undefined s ≡ true
    low xs at is = is ∙ lt-ltb s.index (length xs) (below xs s.index i at)

    by_kind : (k : SymbolKind) → s.kind ≡ k → NamesInRange o s k → import_in o s k ≡ Some i → s.name ≡ Some i.field
    by_kind Function kind range at = told Function kind (unnamed (low (function_imports o) at range.1)) ∙ ap field_of at
    by_kind Datum kind range at = absurd cc
    by_kind GlobalVar kind range at = told GlobalVar kind (unnamed (low (global_imports o) at range.1)) ∙ ap field_of at
    by_kind Section kind range at = absurd cc
    by_kind Table kind range at = told Table kind (unnamed (low (table_imports o) at range.1)) ∙ ap field_of at

-- the import that a table's symbol names
table_named : (o : Object) (s : Symbol) (i : Import) → AreNamed o → import_in o s Table ≡ Some i → (i.«module» ≡ codes "env") × (i.field ≡ codes "__indirect_function_table")
table_named o s i n at =
    let f = has_filter (λ (x : Import). is_table x.kind) o.imports i (has_at (table_imports o) s.index i at) in
    let both = and_parts (bytes_eq i.«module» (codes "env")) (bytes_eq i.field (codes "__indirect_function_table")) (all_has (λ (x : Import). is_table x.kind ≡ true → names_table x.«module» x.field ≡ true) o.imports n.tables i f.0 f.1) in
    (name_equal i.«module» (codes "env") both.0, name_equal i.field (codes "__indirect_function_table") both.1)

pub key_from : (t : SymbolType) (i : Option Import) (k : ImportKey) → option_map (key_of t) i ≡ Some k → (y : Import) × (i ≡ Some y) × (k.module_name ≡ y.«module») × (k.field ≡ y.field)
key_from t None k e = absurd cc
key_from t (Some y) k e = let is = some_is (key_of t y) k e in (y, refl, ap (λ (x : ImportKey). x.module_name) (sym is), ap (λ (x : ImportKey). x.field) (sym is))

-- ---- lists

-- the first that passes one test, where what fails it fails another
first_passing : {A : Type 0} (t q : A → Bool) (xs : List A) (y : A) → find t xs ≡ Some y → ((x : A) → t x ≡ false → q x ≡ false) → q y ≡ true → slice_get (filter q xs) 0 ≡ Some y
first_passing t q [] y found fails ok = absurd cc
first_passing {A} t q (x ∷ xs) y found fails ok = choose (t x) refl found (λ e. first_passing t q xs y e fails ok)
  where
    choose : (b : Bool) → t x ≡ b → (if b then Some x else find t xs) ≡ Some y → (find t xs ≡ Some y → slice_get (filter q xs) 0 ≡ Some y) → slice_get (cond (q x) (x ∷ filter q xs) (filter q xs)) 0 ≡ Some y
    choose true e is rest = ap (λ (b : Bool). slice_get (cond b (x ∷ filter q xs) (filter q xs)) 0) (ap q (some_is x y is) ∙ ok) ∙ is
    choose false e is rest = ap (λ (b : Bool). slice_get (cond b (x ∷ filter q xs) (filter q xs)) 0) (fails x e) ∙ rest is

-- one of a list without repeats stands at its number
pub numbered_there : (xs : List InputSymbol) → Apart same_entry xs → (x : InputSymbol) → Has xs x → slice_get xs (number_by same_entry xs x) ≡ Some x
numbered_there xs apart x has =
    let found = placed (same_entry x) xs x has (entry_itself x) in
    let at = stands_at (same_entry x) xs found.0 found.1 in
    ap (λ (o : Option ℕ). slice_get xs (unwrap_or o 0)) found.1
    ∙ (at.there ∙ ap (λ (y : InputSymbol). Some y) (sym (apart_one xs apart x at.item has (has_at xs found.0 at.item at.there) at.passes)))

find_some : {A : Type 0} (t : A → Bool) (xs : List A) (x : A) → Has xs x → t x ≡ true → (y : A) × (find t xs ≡ Some y)
find_some t [] x has ok = absurd has
find_some {A} t (z ∷ zs) x has ok = choose (t z) refl has (λ h. find_some t zs x h ok)
  where
    choose : (b : Bool) → t z ≡ b → Has (z ∷ zs) x → (Has zs x → (y : A) × (find t zs ≡ Some y)) → (y : A) × ((if b then Some z else find t zs) ≡ Some y)
    choose true e h rest = (z, refl)
    choose false e (inl is) rest = absurd (no_true (sym e ∙ (ap t is ∙ ok)))
    choose false e (inr h) rest = rest h

-- ---- the link's

module _ (l : Linked) (objects : List Object) (is : AreLinked l objects) (names : All AreNamed objects) where
  abbrev p : Program
  p = program l objects

  abbrev S : List InputSymbol
  S = flat_map (symbols_of objects) objects

  pub of_objects : IsOf p objects
  of_objects = programs_are_of l.plan l.files l.all objects

  pub record Origin (x : InputSymbol) : Type 0 where
    pub object : Object
    pub there : Has objects object
    pub place : ℕ
    pub symbol : Symbol
    pub one_of : Has object.symbols symbol
    pub made : entry_in objects object place symbol ≡ x

  pub origin : (x : InputSymbol) → Has S x → Origin x
  origin x has =
      let f = has_flat (symbols_of objects) objects x has in
      let s = symbol_of objects f.0 x f.2 in
      record { object = f.0; there = f.1; place = s.place; symbol = s.symbol; one_of = s.there; made = s.is }

  pub range : (o : Object) → Has objects o → (s : Symbol) → Has o.symbols s → NamesInRange o s s.kind
  range o ho s hs =
      let so = all_has (λ (x : Object). (size : ℕ) × Sound size x) objects is.sound o ho in
      let it : Sound so.0 o = so.1 in
      all_has (λ (x : Symbol). NamesInRange o x x.kind) o.symbols it.symbols s hs

  names_of : (o : Object) → Has objects o → AreNamed o
  names_of o ho = all_has AreNamed objects names o ho

  pub standing_in : (x : InputSymbol) → Has (standing p) x → Has S x × (stands p x ≡ true)
  standing_in x has = let f = has_filter (stands p) (all_symbols p) x has in (subst (λ xs. Has xs x) of_objects.symbols_are f.0, f.1)

  pub apart : Apart same_entry (standing p)
  apart = apart_filter same_entry (stands p) (all_symbols p) (subst (Apart same_entry) (sym of_objects.symbols_are) (apart_flat objects 0 objects is.rise))

  -- ---- what closed symbols define

  pub winner_defines : (w : InputSymbol) → Has p.winners w → Has p.entries w × (w.defines ≡ true)
  unfolding winners_of
  winner_defines w has =
      let f = has_filter (is_winner p.entries) p.entries w (subst (λ xs. Has xs w) of_objects.winners_are has) in
      (f.0, by_winner (winner p.entries (name_of w)) refl f.1 f.0)
    where
      linked : (y : InputSymbol) → Has p.entries y → Has (linked_symbols objects) y
      linked y h = entry_linked objects y (subst (λ xs. Has xs y) of_objects.entries_are h)

      by_winner : (o : Option InputSymbol) → winner p.entries (name_of w) ≡ o → is_that w o ≡ true → Has p.entries w → w.defines ≡ true
      by_winner None e t h = absurd (no_true t)
      by_winner (Some v) e t h =
          let won = winning p.entries (name_of w) v e in
          ap (λ (y : InputSymbol). y.defines) (apart_one (linked_symbols objects) (apart_linked objects is.rise) w v (linked w h) (linked v won.entry) t) ∙ won.defines

  pub closed_defines : (x : InputSymbol) → Has (standing p) x → is_open p x ≡ false → x.defines ≡ true
  closed_defines x has closed = by_entry (is_entry x) refl (standing_in x has).1
    where
      by_winner : (o : Option InputSymbol) → object_winner p (name_of x) ≡ o → is_entry x ≡ true → stands_for_name p x o ≡ true → x.defines ≡ true
      by_winner None none entry t = absurd (no_true (sym closed ∙ (ap (λ (b : Bool). b && is_none (object_winner p (name_of x))) entry ∙ ap (λ (o : Option InputSymbol). is_none o) none)))
      by_winner (Some w) won entry t =
          let f = find_has (λ (y : InputSymbol). not (y.input == 0) && has_name (name_of x) y) p.winners w won in
          let d = winner_defines w f.0 in
          let same : x ≡ w =
          apart_one (linked_symbols objects) (apart_linked objects is.rise) x w (entry_linked objects x (linked_entry objects x (standing_in x has).0 entry)) (entry_linked objects w (subst (λ xs. Has xs w) of_objects.entries_are d.0)) t in
          ap (λ (y : InputSymbol). y.defines) same ∙ d.1

      by_entry : (b : Bool) → is_entry x ≡ b → stands p x ≡ true → x.defines ≡ true
      by_entry true entry t = by_winner (object_winner p (name_of x)) refl entry (ap (λ (b : Bool). if b then stands_for_name p x (object_winner p (name_of x)) else (x.defines && not (is_kind Section x))) (sym entry) ∙ t)
      by_entry false entry t = (and_parts x.defines (not (is_kind Section x)) (ap (λ (b : Bool). if b then stands_for_name p x (object_winner p (name_of x)) else (x.defines && not (is_kind Section x))) (sym entry) ∙ t)).0

  -- No symbol of a section stands there.
  pub no_section : (x : InputSymbol) → Has (standing p) x → x.symbol.kind ≡ Section → ⊥
  no_section x has kind = by_entry (is_entry x) refl (standing_in x has).1
    where
      it : Origin x
      it = origin x (standing_in x has).0

      nameless : x.symbol.name ≡ None
      nameless =
          ap (λ (y : InputSymbol). y.symbol.name) (sym it.made)
          ∙ all_has (λ (s : Symbol). is_section s.kind ≡ true → s.name ≡ None) it.object.symbols (names_of it.object it.there).sections it.symbol it.one_of
          (ap (λ (y : InputSymbol). is_section y.symbol.kind) it.made ∙ ap is_section kind)

      not_entry : is_entry x ≡ false
      not_entry = ap (λ (n : Option (List ℕ)). is_some n && not (is_local_definition x.symbol)) nameless

      by_entry : (b : Bool) → is_entry x ≡ b → stands p x ≡ true → ⊥
      by_entry true entry t = no_true (sym not_entry ∙ entry)
      by_entry false entry t =
          let d = and_parts x.defines (not (is_kind Section x)) (ap (λ (b : Bool). if b then stands_for_name p x (object_winner p (name_of x)) else (x.defines && not (is_kind Section x))) (sym entry) ∙ t) in
          no_true (ap not (sym (ap (λ k. kind_code k == kind_code Section) kind)) ∙ d.1)

  -- Each has a name.
  pub some_name : (x : InputSymbol) → Has (standing p) x → (name : List ℕ) × (x.symbol.name ≡ Some name)
  some_name x has =
      let it = origin x (standing_in x has).0 in
      let so = all_has (λ (y : Object). (size : ℕ) × Sound size y) objects is.sound it.object it.there in
      let sound : Sound so.0 it.object = so.1 in
      let own = by_kind it.symbol.kind (λ e. no_section x has (ap (λ (y : InputSymbol). y.symbol.kind) (sym it.made) ∙ e))
      (all_has (λ (s : Symbol). is_section s.kind ≡ false → IsTrue (is_some s.name)) it.object.symbols sound.names it.symbol it.one_of) in
      by_name x.symbol.name refl (subst (λ (y : InputSymbol). IsTrue (is_some y.symbol.name)) it.made own)
    where
      by_kind : {P : Type 0} (k : SymbolKind) → (k ≡ Section → ⊥) → (is_section k ≡ false → P) → P
      by_kind Function other f = f refl
      by_kind Datum other f = f refl
      by_kind GlobalVar other f = f refl
      by_kind Section other f = absurd (other refl)
      by_kind Table other f = f refl

      by_name : (n : Option (List ℕ)) → x.symbol.name ≡ n → IsTrue (is_some n) → (name : List ℕ) × (x.symbol.name ≡ Some name)
      by_name None e t = absurd (no_true t)
      by_name (Some name) e t = (name, e)

  -- A closed one isn't UNDEFINED.
  pub closed_defined : (x : InputSymbol) → Has (standing p) x → is_open p x ≡ false → is_undefined x.symbol ≡ false
  closed_defined x has closed =
      let it = origin x (standing_in x has).0 in
      let d : (entry_in objects it.object it.place it.symbol).defines ≡ true = ap (λ (y : InputSymbol). y.defines) it.made ∙ closed_defines x has closed in
      ap (λ (y : InputSymbol). is_undefined y.symbol) (sym it.made)
      ∙ not_true (is_undefined it.symbol) (and_parts (not (is_undefined it.symbol)) (in_kept_part objects it.object it.symbol it.symbol.kind) d).0

  -- ---- tables

  -- A table's symbol defines nothing, and stands on the table of functions.
  pub table_stands : (x : InputSymbol) → Has S x → x.symbol.kind ≡ Table → (x.defines ≡ false) × ((k : ImportKey) × (x.import ≡ Some k))
  table_stands x has kind =
      let it = origin x has in
      let own_kind : it.symbol.kind ≡ Table = ap (λ (y : InputSymbol). y.symbol.kind) it.made ∙ kind in
      let named = subst (NamesInRange it.object it.symbol) own_kind (range it.object it.there it.symbol it.one_of) in
      let undefined : is_undefined it.symbol ≡ true = named.1 ∙ lt-ltb it.symbol.index (length (table_imports it.object)) named.0 in
      let found = import_there it.object it.symbol named.0 in (
        ap (λ (y : InputSymbol). y.defines) (sym it.made) ∙ ap (λ (b : Bool). not b && in_kept_part objects it.object it.symbol it.symbol.kind) undefined,
        (
          key_of (type_in it.object it.symbol it.symbol.kind) found.0,
          ap (λ (y : InputSymbol). y.import) (sym it.made)
              ∙ (ap (λ k. option_map (key_of (type_in it.object it.symbol it.symbol.kind)) (import_in it.object it.symbol k)) own_kind ∙ ap (option_map (key_of (type_in it.object it.symbol it.symbol.kind))) found.1),
        ),
      )
    where
      import_there : (o : Object) (s : Symbol) → s.index < length (table_imports o) → (i : Import) × (import_in o s Table ≡ Some i)
      import_there o s low = ⊎_elim (λ f. (f.0, f.2)) (λ past. absurd (omega (arith, low, past.0))) (slice_get_cases (table_imports o) s.index).1

  table_key : (x : InputSymbol) → Has S x → x.symbol.kind ≡ Table → (k : ImportKey) → x.import ≡ Some k → (k.module_name ≡ codes "env") × (k.field ≡ codes "__indirect_function_table")
  table_key x has kind k e =
      let it = origin x has in
      let own_kind : it.symbol.kind ≡ Table = ap (λ (y : InputSymbol). y.symbol.kind) it.made ∙ kind in
      let from = key_from (type_in it.object it.symbol it.symbol.kind) (import_in it.object it.symbol it.symbol.kind) k (ap (λ (y : InputSymbol). y.import) it.made ∙ e) in
      let told = table_named it.object it.symbol from.0 (names_of it.object it.there) (ap (λ k. import_in it.object it.symbol k) (sym own_kind) ∙ from.1) in
      (from.2 ∙ told.0, from.3 ∙ told.1)

  -- ---- what open symbols are named

  -- A reference that stands on an import is a symbol of an object.
  reference_in : (name : List ℕ) (r : InputSymbol) → Has (name_references p name) r → (k : ImportKey) → r.import ≡ Some k → Has S r × (name_of r ≡ name)
  reference_in name r has k e =
      let it = reference_of p objects of_objects is.no_clash name r has in
      (either (has_either (made_from 0 (made Plain)) S r (entry_linked objects r (subst (λ xs. Has xs r) of_objects.entries_are it.0))), it.1)
    where
      either : Has (made_from 0 (made Plain)) r ⊎ Has S r → Has S r
      either (inl own) = absurd (some_none k (sym e ∙ all_has (λ (y : InputSymbol). y.import ≡ None) (made_from 0 (made Plain)) (all_made (λ (y : InputSymbol). y.import ≡ None) (λ place m. refl) 0 (made Plain)) r own))
        where
          some_none : (k : ImportKey) → Some k ≡ None → ⊥
          some_none k e = absurd cc
      either (inr h) = h

  -- One that stands on an import without EXPLICIT_NAME has its name.
  import_named : (r : InputSymbol) → Has S r → (k : ImportKey) → r.import ≡ Some k → is_explicit r.symbol ≡ false → k.field ≡ name_of r
  import_named r has k e plain =
      let it = origin r has in
      let from = key_from (type_in it.object it.symbol it.symbol.kind) (import_in it.object it.symbol it.symbol.kind) k (ap (λ (y : InputSymbol). y.import) it.made ∙ e) in
      let name = named_by it.object it.symbol it.symbol.kind (names_of it.object it.there) it.one_of refl (range it.object it.there it.symbol it.one_of) from.0 from.1 (ap (λ (y : InputSymbol). is_explicit y.symbol) it.made ∙ plain) in
      from.3 ∙ (ap (λ (n : Option (List ℕ)). unwrap_or n []) (sym name) ∙ ap (λ (y : InputSymbol). name_of y) it.made)

  pub open_named : (x : InputSymbol) → list_any (λ (r : InputSymbol). is_explicit r.symbol) (name_references p (name_of x)) ≡ false → (open_import p x).field ≡ name_of x
  open_named x plain =
      choose (least_import (filter (λ (r : InputSymbol). is_explicit r.symbol) refs)) (least_import refs)
      (λ k e.
      let f = from_least (filter (λ (r : InputSymbol). is_explicit r.symbol) refs) k e in
      let g = has_filter (λ (r : InputSymbol). is_explicit r.symbol) refs f.0 f.1 in
      absurd (no_true (sym plain ∙ any_has (λ (r : InputSymbol). is_explicit r.symbol) refs f.0 g.0 g.1)))
      (λ k e. let f = from_least refs k e in let r = reference_in (name_of x) f.0 f.1 k f.2 in import_named f.0 r.0 k f.2 (not_explicit f.0 f.1) ∙ r.1)
    where
      refs : List InputSymbol
      refs = name_references p (name_of x)

      not_explicit : (r : InputSymbol) → Has refs r → is_explicit r.symbol ≡ false
      not_explicit r h = by_test (is_explicit r.symbol) (λ e. absurd (no_true (sym plain ∙ any_has (λ (y : InputSymbol). is_explicit y.symbol) refs r h e))) (λ e. e)

      choose : (a b : Option ImportKey) → ((k : ImportKey) → a ≡ Some k → k.field ≡ name_of x) → ((k : ImportKey) → b ≡ Some k → k.field ≡ name_of x)
          → (unwrap_or (first_some (a ∷ b ∷ [])) (record { module_name = codes "env"; field = name_of x; type = x.type })).field ≡ name_of x
      choose (Some k) b f g = f k refl
      choose None (Some k) f g = g k refl
      choose None None f g = refl

  -- An open table's import is the table of functions.
  pub table_import : (x : InputSymbol) → Has (standing p) x → is_open p x ≡ true → x.symbol.kind ≡ Table → ((open_import p x).module_name ≡ codes "env") × ((open_import p x).field ≡ codes "__indirect_function_table")
  table_import x has opened kind =
      choose (least_import (filter (λ (r : InputSymbol). is_explicit r.symbol) refs)) (least_import refs)
      (λ k e. let f = from_least (filter (λ (r : InputSymbol). is_explicit r.symbol) refs) k e in told f.0 (has_filter (λ (r : InputSymbol). is_explicit r.symbol) refs f.0 f.1).0 k f.2)
      (λ k e. let f = from_least refs k e in told f.0 f.1 k f.2)
      (λ e. none_left refs own e)
    where
      refs : List InputSymbol
      refs = name_references p (name_of x)

      entry : is_entry x ≡ true
      entry = (and_parts (is_entry x) (is_none (object_winner p (name_of x))) opened).0

      there : Has p.entries x
      there = standing_entry p objects of_objects is.no_clash x has entry

      own : Has refs x
      own =
          filter_has (λ (r : InputSymbol). not r.defines) (named p.entries (name_of x)) x (filter_has (has_name (name_of x)) p.entries x there (name_itself (name_of x)))
          (ap not (table_stands x (standing_in x has).0 kind).0)

      told : (r : InputSymbol) → Has refs r → (k : ImportKey) → r.import ≡ Some k → (k.module_name ≡ codes "env") × (k.field ≡ codes "__indirect_function_table")
      told r hr k e =
          let it = reference_of p objects of_objects is.no_clash (name_of x) r hr in
          let same : r.symbol.kind ≡ x.symbol.kind = kinds_equal r.symbol.kind x.symbol.kind (one_type p.entries is.no_clash r x it.0 there it.1).0 in
          table_key r (reference_in (name_of x) r hr k e).0 (same ∙ kind) k e

      none_left : (rs : List InputSymbol) → Has rs x → least_import rs ≡ None → ⊥
      none_left rs h e = let k = (table_stands x (standing_in x has).0 kind).1 in some_import rs x h (ap (λ (o : Option ImportKey). is_some o) k.1) e

      choose : (a b : Option ImportKey) → ((k : ImportKey) → a ≡ Some k → (k.module_name ≡ codes "env") × (k.field ≡ codes "__indirect_function_table")) → ((k : ImportKey) → b ≡ Some k → (k.module_name ≡ codes "env") × (k.field ≡ codes "__indirect_function_table"))
          → (b ≡ None → ⊥)
          → ((unwrap_or (first_some (a ∷ b ∷ [])) (record { module_name = codes "env"; field = name_of x; type = x.type })).module_name ≡ codes "env")
          × ((unwrap_or (first_some (a ∷ b ∷ [])) (record { module_name = codes "env"; field = name_of x; type = x.type })).field ≡ codes "__indirect_function_table")
      choose (Some k) b f g h = f k refl
      choose None (Some k) f g h = g k refl
      choose None None f g h = absurd (h refl)

  -- ---- where its import stands

  pub record ImportAt (x : InputSymbol) (k : SymbolKind) : Type 0 where
    pub import : Import
    pub there : slice_get (imports_of k (imports p)) (open_index p x k) ≡ Some import
    pub from : import.«module» ≡ (open_import p x).module_name
    pub field : import.field ≡ (open_import p x).field

  numbered_import : (k : SymbolKind) (x : InputSymbol) → Has (standing p) x → is_open p x ≡ true → x.symbol.kind ≡ k → slice_get (map (λ e. import_for p (open_import p e)) (open_of p k)) (number_by same_entry (open_of p k) x) ≡ Some (import_for p (open_import p x))
  numbered_import k x has opened kind =
      slice_get-map (λ e. import_for p (open_import p e)) (open_of p k) (number_by same_entry (open_of p k) x)
      ∙ ap (option_map (λ e. import_for p (open_import p e)))
      (numbered_there (open_of p k) (apart_filter same_entry (λ e. is_open p e && is_kind k e) (standing p) apart) x
      (filter_has (λ e. is_open p e && is_kind k e) (standing p) x has (and_from (is_open p x) (is_kind k x) opened (ap (λ y. kind_code y == kind_code k) kind ∙ same_code k))))
    where
      same_code : (k : SymbolKind) → (kind_code k == kind_code k) ≡ true
      same_code Function = refl
      same_code Datum = refl
      same_code GlobalVar = refl
      same_code Section = refl
      same_code Table = refl

  -- the first symbol of a table is open, and imported
  first_table : (x : InputSymbol) → Has (standing p) x → x.symbol.kind ≡ Table → (t : InputSymbol) × Has (standing p) t × (is_open p t ≡ true) × (t.symbol.kind ≡ Table) × (slice_get (filter (imported_as p objects of_objects is.no_clash Table) (standing p)) 0 ≡ Some t)
  first_table x has kind =
      let f = find_some (is_kind Table) (standing p) x has (ap (λ y. kind_code y == kind_code Table) kind) in
      let t : InputSymbol = f.0 in
      let h = find_has (is_kind Table) (standing p) t f.1 in
      let is_table_too : t.symbol.kind ≡ Table = kinds_equal t.symbol.kind Table (eqb-true (kind_code t.symbol.kind) (kind_code Table) h.1) in
      let opened : is_open p t ≡ true = by_test (is_open p t) (λ e. e) (λ e. absurd (no_true (sym (table_stands t (standing_in t h.0).0 is_table_too).0 ∙ closed_defines t h.0 e))) in
      let imported : has_import p t t.symbol.kind ≡ true = ap (λ k. has_import p t k) is_table_too ∙ (ap (is_that t) f.1 ∙ entry_itself t) in (
        t,
        h.0,
        opened,
        is_table_too,
        first_passing (is_kind Table) (imported_as p objects of_objects is.no_clash Table) (standing p) t f.1
            (λ y fails. ap (λ (b : Bool). is_open p y && (has_import p y y.symbol.kind && b)) fails ∙ nothing (is_open p y) (has_import p y y.symbol.kind))
            (and_from (is_open p t) (has_import p t t.symbol.kind && is_kind Table t) opened (and_from (has_import p t t.symbol.kind) (is_kind Table t) imported h.1)),
      )
    where
      nothing : (a b : Bool) → (a && (b && false)) ≡ false
      nothing true true = refl
      nothing true false = refl
      nothing false b = refl

  pub import_at : (x : InputSymbol) → Has (standing p) x → is_open p x ≡ true → (k : SymbolKind) → x.symbol.kind ≡ k → (k ≡ Datum → ⊥) → (k ≡ Section → ⊥) → ImportAt x k
  import_at x has opened Function kind datum section = record {
    import = import_for p (open_import p x);
    there = ap (λ is. slice_get is (open_index p x Function)) (functions_imported p objects of_objects is.no_clash) ∙ numbered_import Function x has opened kind;
    from = refl;
    field = refl;
  }
  import_at x has opened Datum kind datum section = absurd (datum refl)
  import_at x has opened GlobalVar kind datum section = record {
    import = import_for p (open_import p x);
    there = ap (λ is. slice_get is (open_index p x GlobalVar)) (globals_imported p objects of_objects is.no_clash) ∙ numbered_import GlobalVar x has opened kind;
    from = refl;
    field = refl;
  }
  import_at x has opened Section kind datum section = absurd (section refl)
  import_at x has opened Table kind datum section =
      let t = first_table x has kind in
      let mine = table_import x has opened kind in
      let its = table_import t.0 t.1 t.2 t.3 in
      record {
        import = import_for p (open_import p t.0);
        there = ap (λ is. slice_get is 0) (imports_by p objects of_objects is.no_clash Table)
            ∙ (slice_get-map (λ e. import_for p (open_import p e)) (filter (imported_as p objects of_objects is.no_clash Table) (standing p)) 0 ∙ ap (option_map (λ e. import_for p (open_import p e))) t.4);
        from = its.0 ∙ sym mine.0;
        field = its.1 ∙ sym mine.1;
      }

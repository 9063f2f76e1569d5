-- What is imported for the names that stay open: of each kind its open symbols' imports, in the order of symbols.
use Rattle.std.proofs.Common.{◌≡◌, ℕ, ◌==◌, Bool, true, false, ◌&&◌, List, [], ◌∷◌, map, filter, length, inl, inr, refl, sym, ap, ◌∙◌, subst}
use Rattle.std.specs.Prelude.{◌⊎◌, not, cond, Option, Some, None, option_map, unwrap_or, flat_map, codes}
use Rattle.std.proofs.lemmas.Bool.{and_parts}
use Rattle.std.proofs.lemmas.List.{length-map}
use Rattle.list_places.specs.Has.{Has}
use Rattle.list_places.proofs.Lists.{all_has, has_either, has_filter, has_flat, some_is}
use Rattle.object_rules.specs.Spaces.{is_of, imports_of}
use Rattle.name_rules.specs.object_file.wl_base.Choice.{first_some}
use Rattle.name_rules.specs.object_file.wasm_types.declared.import.Import.{Import}
use Rattle.name_rules.specs.object_file.wasm_types.declared.import.ImportKind.TheVariants as kinds
use Rattle.name_rules.specs.object_file.wasm_types.declared.table.TableType.{TableType}
use Rattle.name_rules.specs.object_file.wasm_types.declared.table.GlobalType.{GlobalType}
use Rattle.name_rules.specs.object_file.linking_section.declared.symbol.Symbol.{Symbol}
use Rattle.name_rules.specs.object_file.linking_section.declared.symbol.SymbolKind.{SymbolKind}
use Rattle.name_rules.specs.object_file.linking_section.declared.symbol.SymbolKind.TheVariants.{Function, Datum, GlobalVar, Section, Table}
use Rattle.name_rules.specs.object_file.linking_section.Flags.{kind_code, is_explicit}
use Rattle.name_rules.specs.object_file.declared.object.Object.{Object}
use Rattle.made_symbols.specs.declared.mode.Mode.TheVariants.{Plain}
use Rattle.made_symbols.specs.Made.{MadeSymbol, made}
use Rattle.name_rules.specs.Entries.{InputSymbol, ImportKey, SymbolType, of_function, of_global, untyped, is_kind, is_entry, is_named, name_of, named, type_in, import_in, key_of, entry_in, made_type, made_entry, made_from, symbols_of}
use Rattle.name_rules.specs.Meanings.{least_import}
use Rattle.name_rules.specs.Cases.{clash}
use Rattle.link_rules.specs.Program.{Program}
use Rattle.link_rules.specs.Marks.{all_symbols}
use Rattle.partial_rules.specs.Partial.{is_none, object_winner, memory_import, name_references, stands, standing, is_open, open_of, open_import, has_import, importing, import_kind, import_for, imports, type_number}
use Rattle.partial_laws.specs.Joined.{linked_symbols}
use Rattle.partial_laws.specs.Names.{IsOf}
use Rattle.partial_laws.proofs.Same.{name_equal}
use Rattle.partial_laws.proofs.Lists.{filter_of_map}
use Rattle.partial_laws.proofs.Cases.{one_type}
use Rattle.partial_laws.proofs.Joins.{all_made}
use Rattle.partial_laws.proofs.Regions.{entry_linked, linked_entry}
use Rattle.partial_parts_laws.proofs.Zips.{filter_and, filter_alike}
use Rattle.partial_parts_laws.proofs.Symbols.{symbol_of}

-- ---- symbols have the type of their kind, and the imports on which they stand have their type

abbrev pub TypeFor : SymbolKind → SymbolType → Type 0
TypeFor Function (of_function t) = Unit {0}
TypeFor Function (of_global g) = ⊥
TypeFor Function untyped = ⊥
TypeFor Datum (of_function t) = ⊥
TypeFor Datum (of_global g) = ⊥
TypeFor Datum untyped = Unit {0}
TypeFor GlobalVar (of_function t) = ⊥
TypeFor GlobalVar (of_global g) = Unit {0}
TypeFor GlobalVar untyped = ⊥
TypeFor Section (of_function t) = ⊥
TypeFor Section (of_global g) = ⊥
TypeFor Section untyped = Unit {0}
TypeFor Table (of_function t) = ⊥
TypeFor Table (of_global g) = ⊥
TypeFor Table untyped = Unit {0}

pub record WellTyped (e : InputSymbol) : Type 0 where
  pub typed : TypeFor e.symbol.kind e.type
  pub stands_on : (k : ImportKey) → e.import ≡ Some k → k.type ≡ e.type

key_typed : (t : SymbolType) (i : Option Import) (k : ImportKey) → option_map (key_of t) i ≡ Some k → k.type ≡ t
key_typed t None k e = absurd cc
key_typed t (Some i) k e = ap (λ (x : ImportKey). x.type) (sym (some_is (key_of t i) k e))

entry_typed : (objects : List Object) (o : Object) (place : ℕ) (s : Symbol) → WellTyped (entry_in objects o place s)
entry_typed objects o place s = record { typed = by_kind s.kind; stands_on = λ k e. key_typed (type_in o s s.kind) (import_in o s s.kind) k e }
  where
    by_kind : (k : SymbolKind) → TypeFor k (type_in o s k)
    by_kind Function = tt
    by_kind Datum = tt
    by_kind GlobalVar = tt
    by_kind Section = tt
    by_kind Table = tt

made_typed : (place : ℕ) (m : MadeSymbol) → WellTyped (made_entry place m)
made_typed place m = record { typed = by_kind m.kind; stands_on = λ k e. absurd cc }
  where
    by_kind : (k : SymbolKind) → TypeFor k (made_type m k)
    by_kind Function = tt
    by_kind Datum = tt
    by_kind GlobalVar = tt
    by_kind Section = tt
    by_kind Table = tt

pub symbol_typed : (objects : List Object) (e : InputSymbol) → Has (flat_map (symbols_of objects) objects) e → WellTyped e
symbol_typed objects e has =
    let f = has_flat (symbols_of objects) objects e has in
    let s = symbol_of objects f.0 e f.2 in
    subst WellTyped s.is (entry_typed objects f.0 s.place s.symbol)

pub linked_typed : (objects : List Object) (e : InputSymbol) → Has (linked_symbols objects) e → WellTyped e
linked_typed objects e has = either (has_either (made_from 0 (made Plain)) (flat_map (symbols_of objects) objects) e has)
  where
    either : Has (made_from 0 (made Plain)) e ⊎ Has (flat_map (symbols_of objects) objects) e → WellTyped e
    either (inl own) = all_has WellTyped (made_from 0 (made Plain)) (all_made WellTyped made_typed 0 (made Plain)) e own
    either (inr other) = symbol_typed objects e other

-- ---- the import that stands for several

pub from_least : (rs : List InputSymbol) (k : ImportKey) → least_import rs ≡ Some k → (r : InputSymbol) × Has rs r × (r.import ≡ Some k)
from_least [] k e = absurd cc
from_least (x ∷ xs) k e = by_import x.import refl e (from_least xs k)
  where
    by_import : (o : Option ImportKey) → x.import ≡ o → first_some (o ∷ map (λ (y : InputSymbol). y.import) xs) ≡ Some k → (least_import xs ≡ Some k → (r : InputSymbol) × Has xs r × (r.import ≡ Some k))
        → (r : InputSymbol) × Has (x ∷ xs) r × (r.import ≡ Some k)
    by_import (Some h) is found rest = (x, inl refl, is ∙ found)
    by_import None is found rest = let r = rest found in (r.0, inr r.1, r.2)

-- ---- tests of the kinds of imports

function_test : (k : SymbolKind) (n : ℕ) → is_of k (kinds.Function n) ≡ (kind_code Function == kind_code k)
function_test Function n = refl
function_test Datum n = refl
function_test GlobalVar n = refl
function_test Section n = refl
function_test Table n = refl

global_test : (k : SymbolKind) (g : GlobalType) → is_of k (kinds.GlobalVar g) ≡ (kind_code GlobalVar == kind_code k)
global_test Function g = refl
global_test Datum g = refl
global_test GlobalVar g = refl
global_test Section g = refl
global_test Table g = refl

table_test : (k : SymbolKind) (t : TableType) → is_of k (kinds.Table t) ≡ (kind_code Table == kind_code k)
table_test Function t = refl
table_test Datum t = refl
table_test GlobalVar t = refl
table_test Section t = refl
table_test Table t = refl

not_memory : (k : SymbolKind) → is_of k memory_import.kind ≡ false
not_memory Function = refl
not_memory Datum = refl
not_memory GlobalVar = refl
not_memory Section = refl
not_memory Table = refl

module _ (p : Program) (objects : List Object) (of : IsOf p objects) (none : clash p.entries ≡ None) where
  pub standing_there : (x : InputSymbol) → Has (standing p) x → Has (flat_map (symbols_of objects) objects) x × (stands p x ≡ true)
  standing_there x has = let f = has_filter (stands p) (all_symbols p) x has in (subst (λ xs. Has xs x) of.symbols_are f.0, f.1)

  pub standing_typed : (x : InputSymbol) → Has (standing p) x → WellTyped x
  standing_typed x has = symbol_typed objects x (standing_there x has).0

  pub entry_of : (x : InputSymbol) → Has p.entries x → WellTyped x
  entry_of x has = linked_typed objects x (entry_linked objects x (subst (λ xs. Has xs x) of.entries_are has))

  pub standing_entry : (x : InputSymbol) → Has (standing p) x → is_entry x ≡ true → Has p.entries x
  standing_entry x has entry = subst (λ xs. Has xs x) (sym of.entries_are) (linked_entry objects x (standing_there x has).0 entry)

  open_entry : (x : InputSymbol) → is_open p x ≡ true → is_entry x ≡ true
  open_entry x e = (and_parts (is_entry x) (is_none (object_winner p (name_of x))) e).0

  -- A reference of a name is an entry of it.
  pub reference_of : (name : List ℕ) (r : InputSymbol) → Has (name_references p name) r → Has p.entries r × (name_of r ≡ name) × (r.defines ≡ false)
  reference_of name r has =
      let f = has_filter (λ (e : InputSymbol). not e.defines) (named p.entries name) r has in
      let g = has_filter (is_named name) p.entries r f.0 in
      (g.0, name_equal (name_of r) name g.1, undefined r.defines f.1)
    where
      undefined : (b : Bool) → not b ≡ true → b ≡ false
      undefined true e = absurd cc
      undefined false e = refl

  -- What stands for an open symbol is of its type.
  pub open_type : (x : InputSymbol) → Has (standing p) x → is_open p x ≡ true → (open_import p x).type ≡ x.type
  open_type x has opened =
      choose (least_import (filter (λ (r : InputSymbol). is_explicit r.symbol) refs)) (least_import refs)
      (λ k e. let f = from_least (filter (λ (r : InputSymbol). is_explicit r.symbol) refs) k e in of_reference f.0 (has_filter (λ (r : InputSymbol). is_explicit r.symbol) refs f.0 f.1).0 k f.2)
      (λ k e. let f = from_least refs k e in of_reference f.0 f.1 k f.2)
    where
      refs : List InputSymbol
      refs = name_references p (name_of x)

      of_reference : (r : InputSymbol) → Has refs r → (k : ImportKey) → r.import ≡ Some k → k.type ≡ x.type
      of_reference r hr k e =
          let it = reference_of (name_of x) r hr in
          (entry_of r it.0).stands_on k e ∙ (one_type p.entries none r x it.0 (standing_entry x has (open_entry x opened)) it.1).1

      choose : (a b : Option ImportKey) → ((k : ImportKey) → a ≡ Some k → k.type ≡ x.type) → ((k : ImportKey) → b ≡ Some k → k.type ≡ x.type)
          → (unwrap_or (first_some (a ∷ b ∷ [])) (record { module_name = codes "env"; field = name_of x; type = x.type })).type ≡ x.type
      choose (Some k) b f g = f k refl
      choose None (Some k) f g = g k refl
      choose None None f g = refl

  -- ---- the imports of a kind

  -- what is imported of a kind
  abbrev pub imported_as : SymbolKind → InputSymbol → Bool
  imported_as k e = is_open p e && (has_import p e e.symbol.kind && is_kind k e)

  by_kind : (k : SymbolKind) (e : InputSymbol) (kind : SymbolKind) (t : SymbolType) → TypeFor kind t → (has_import p e kind && is_of k (import_kind p t)) ≡ (has_import p e kind && (kind_code kind == kind_code k))
  by_kind k e Function (of_function t) h = function_test k (type_number p t)
  by_kind k e Function (of_global g) h = absurd h
  by_kind k e Function untyped h = absurd h
  by_kind k e Datum t h = refl
  by_kind k e GlobalVar (of_function t) h = absurd h
  by_kind k e GlobalVar (of_global g) h = global_test k g
  by_kind k e GlobalVar untyped h = absurd h
  by_kind k e Section t h = refl
  by_kind k e Table (of_function t) h = absurd h
  by_kind k e Table (of_global g) h = absurd h
  by_kind k e Table untyped h = ap (λ b. has_import p e Table && b) (table_test k (record { funcref = true; limits = record { min = 0; max = None } }))

  told : (k : SymbolKind) (x : InputSymbol) → Has (standing p) x
      → ((is_open p x && has_import p x x.symbol.kind) && is_of k (import_for p (open_import p x)).kind) ≡ imported_as k x
  told k x has = choose (is_open p x) refl
    where
      choose : (b : Bool) → is_open p x ≡ b → ((b && has_import p x x.symbol.kind) && is_of k (import_for p (open_import p x)).kind) ≡ (b && (has_import p x x.symbol.kind && is_kind k x))
      choose false e = refl
      choose true e =
          ap (λ t. has_import p x x.symbol.kind && is_of k (import_kind p t)) (open_type x has e)
          ∙ by_kind k x x.symbol.kind x.type (standing_typed x has).typed

  pub imports_by : (k : SymbolKind) → imports_of k (imports p) ≡ map (λ e. import_for p (open_import p e)) (filter (imported_as k) (standing p))
  imports_by k =
      ap (λ b. cond b (memory_import ∷ filter (λ (i : Import). is_of k i.kind) (map (λ e. import_for p (open_import p e)) (importing p))) (filter (λ (i : Import). is_of k i.kind) (map (λ e. import_for p (open_import p e)) (importing p)))) (not_memory k)
      ∙ (filter_of_map (λ e. import_for p (open_import p e)) (λ (i : Import). is_of k i.kind) (importing p)
      ∙ ap (map (λ e. import_for p (open_import p e)))
      (filter_and (λ e. is_of k (import_for p (open_import p e)).kind) (λ e. is_open p e && has_import p e e.symbol.kind) (standing p)
      ∙ filter_alike (λ e. (is_open p e && has_import p e e.symbol.kind) && is_of k (import_for p (open_import p e)).kind) (imported_as k) (standing p) (told k)))

  -- Each open function, and each open global, has one of its own.
  pub functions_imported : imports_of Function (imports p) ≡ map (λ e. import_for p (open_import p e)) (open_of p Function)
  functions_imported =
      imports_by Function ∙ ap (map (λ e. import_for p (open_import p e))) (filter_alike (imported_as Function) (λ e. is_open p e && is_kind Function e) (standing p) (λ e has. ap (λ b. is_open p e && b) (of_kind e e.symbol.kind)))
    where
      of_kind : (e : InputSymbol) (kind : SymbolKind) → (has_import p e kind && (kind_code kind == kind_code Function)) ≡ (kind_code kind == kind_code Function)
      of_kind e Function = refl
      of_kind e Datum = refl
      of_kind e GlobalVar = refl
      of_kind e Section = refl
      of_kind e Table = no_both (has_import p e Table)
        where
          no_both : (b : Bool) → (b && false) ≡ false
          no_both true = refl
          no_both false = refl

  pub globals_imported : imports_of GlobalVar (imports p) ≡ map (λ e. import_for p (open_import p e)) (open_of p GlobalVar)
  globals_imported =
      imports_by GlobalVar ∙ ap (map (λ e. import_for p (open_import p e))) (filter_alike (imported_as GlobalVar) (λ e. is_open p e && is_kind GlobalVar e) (standing p) (λ e has. ap (λ b. is_open p e && b) (of_kind e e.symbol.kind)))
    where
      of_kind : (e : InputSymbol) (kind : SymbolKind) → (has_import p e kind && (kind_code kind == kind_code GlobalVar)) ≡ (kind_code kind == kind_code GlobalVar)
      of_kind e Function = refl
      of_kind e Datum = refl
      of_kind e GlobalVar = refl
      of_kind e Section = refl
      of_kind e Table = no_both (has_import p e Table)
        where
          no_both : (b : Bool) → (b && false) ≡ false
          no_both true = refl
          no_both false = refl

  pub function_count : length (imports_of Function (imports p)) ≡ length (open_of p Function)
  function_count = ap (λ xs. length xs) functions_imported ∙ length-map (open_of p Function) (λ e. import_for p (open_import p e))

  pub global_count : length (imports_of GlobalVar (imports p)) ≡ length (open_of p GlobalVar)
  global_count = ap (λ xs. length xs) globals_imported ∙ length-map (open_of p GlobalVar) (λ e. import_for p (open_import p e))

-- The imports that are made of open names are those of the definition.
use Rattle.std.proofs.Common.{◌≡◌, ℕ, zero, suc, ◌+◌, ◌<◌, ◌≤◌, ◌==◌, Bool, true, false, ◌&&◌, cond, List, [], ◌∷◌, ◌++◌, take, map, filter, filter_map, find, drop, length, get_or, slice_get, Option, Some, None, option_map, option_and_then, unwrap_or, refl, sym, ap, ◌∙◌, arith}
use Rattle.std.specs.Prelude.{if◌then◌else◌, codes}
use Rattle.std.specs.List.{cons_option}
use Rattle.std.proofs.lemmas.Option.{slice_get-map, same_Some, none-some, get_or_from_slice_get}
use Rattle.std.proofs.Math.ListN.{drop_of_length-le}
use Rattle.partial_tree.specs.link_program.wl_base.Choice.{first_some}
use Rattle.partial_tree.specs.link_program.wasm_types.declared.function.FuncType.{FuncType}
use Rattle.partial_tree.specs.link_program.wasm_types.declared.import.Import.{Import}
use Rattle.partial_tree.specs.link_program.linking_section.Flags.{is_explicit}
use Rattle.partial_tree.specs.link_program.linking_section.declared.symbol.Symbol.{Symbol}
use Rattle.partial_tree.specs.link_program.linking_section.declared.symbol.SymbolKind.{SymbolKind}
use Rattle.partial_tree.specs.link_program.linking_section.declared.symbol.SymbolKind.TheVariants.{Function, Datum, GlobalVar, Section, Table}
use Rattle.partial_tree.specs.link_program.object_file.declared.object.Object.{Object}
use Rattle.partial_tree.specs.link_program.name_rules.Entries.{InputSymbol, ImportKey, SymbolType, of_function, of_global, untyped, is_kind, name_of, symbols_of, entries_from, entry_in, import_in, type_in, key_of}
use Rattle.partial_tree.specs.link_program.name_rules.Meanings.{least_import}
use Rattle.partial_tree.specs.link_program.name_entries.View.{rows_of}
use Rattle.partial_tree.specs.link_program.link_rules.Program.{Program, is_that}
use Rattle.partial_tree.specs.partial_rules.Partial as partial
use Rattle.partial_tree.specs.partial_rules.Partial.{relocatable, memory_import}
use Rattle.partial_tree.specs.partial_symbols.declared.facts.At.{At}
use Rattle.partial_tree.specs.partial_symbols.declared.facts.Spot.{Spot}
use Rattle.partial_tree.specs.partial_symbols.Known.{entry_spot, symbol_there, import_there}
use Rattle.partial_types.specs.partial_imports.declared.opens.Open.{Open}
use Rattle.partial_types.specs.partial_imports.Opens.{SeenOpen, open_seen, told_open}
use Rattle.partial_types.specs.Added.{symbol_type}
use Rattle.partial_items.proofs.Listed.{found_more}
use Rattle.partial_items.specs.Imports.{kind_with, kind_there, import_with, own_import, import_by, import_told, spot_at, table_spot, table_at, first_table, same_spot, takes_import, import_if}

-- ---- the first that is there, looked for from place to place

module _ {A B : Type 0} (f : A → Option B) where
  next : (xs : List A) (i : ℕ) (d : A) → i < length xs → drop i xs ≡ get_or xs i d ∷ drop (i + 1) xs
  next [] i d lt = absurd (omega (arith, lt))
  next (x ∷ xs) zero d lt = refl
  next (x ∷ xs) (suc i) d lt =
      let moved : suc (i + 1) ≡ suc i + 1 = omega arith in
      next xs i d (omega (arith, lt)) ∙ ap (λ k. get_or xs i d ∷ drop {A = A} k (x ∷ xs)) moved

  pub first_on : (xs : List A) (i : ℕ) (d : A) (whole : Option B) → i < length xs → None ≡ f (get_or xs i d) → first_some (map f (drop i xs)) ≡ whole → first_some (map f (drop (i + 1) xs)) ≡ whole
  first_on xs i d whole lt none so_far =
      ap (λ o. first_some (o ∷ map f (drop (i + 1) xs))) none ∙ (sym (ap (λ ys. first_some (map f ys)) (next xs i d lt)) ∙ so_far)

  pub first_found : (xs : List A) (i : ℕ) (d : A) (whole : Option B) (found : B) → i < length xs → Some found ≡ f (get_or xs i d) → first_some (map f (drop i xs)) ≡ whole → Some found ≡ whole
  first_found xs i d whole found lt is so_far =
      ap (λ o. first_some (o ∷ map f (drop (i + 1) xs))) is ∙ (sym (ap (λ ys. first_some (map f ys)) (next xs i d lt)) ∙ so_far)

  pub first_none : (xs : List A) (i : ℕ) (whole : Option B) → length xs ≤ i → first_some (map f (drop i xs)) ≡ whole → None ≡ whole
  first_none xs i whole past so_far = sym (ap (λ ys. first_some (map f ys)) (drop_of_length-le xs past)) ∙ so_far

-- one import more that may be found
pub imports_more : (types now : List FuncType) (objects : List Object) (table : Option Spot) (opens : List Open) (i : ℕ) (d : Open) → i < length opens → (old new : List Import) (found : Option Import) → now ≡ types
    → new ≡ old ++ cons_option found [] → found ≡ import_if now objects table (get_or opens i d) → old ≡ memory_import ∷ filter_map (import_if types objects table) (take i opens)
    → new ≡ memory_import ∷ filter_map (import_if types objects table) (take (i + 1) opens)
imports_more types now objects table opens i d lt old new found same put is so_far =
    found_more (import_if types objects table) opens i d lt (memory_import ∷ []) old new found put (is ∙ ap (λ ts. import_if ts objects table (get_or opens i d)) same) so_far

-- ---- the type of an import is that of the symbol that stands on it

key_type : (objects : List Object) (o : Object) (p : ℕ) (ss : List Symbol) (i : ℕ) (x : InputSymbol) (k : ImportKey) → slice_get (entries_from objects o p ss) i ≡ Some x → x.import ≡ Some k → k.type ≡ x.type
key_type objects o p [] i x k at is = absurd (none-some x at)
key_type objects o p (s ∷ ss) zero x k at is =
    by (import_in o s s.kind) (ap (λ (y : InputSymbol). y.import) (same_Some (entry_in objects o p s) x at) ∙ is) ∙ ap (λ (y : InputSymbol). y.type) (same_Some (entry_in objects o p s) x at)
  where
    by : (i : Option Import) → option_map (key_of (type_in o s s.kind)) i ≡ Some k → k.type ≡ type_in o s s.kind
    by None e = absurd (none-some k e)
    by (Some i) e = sym (ap (λ (y : ImportKey). y.type) (same_Some (key_of (type_in o s s.kind) i) k e))
key_type objects o p (s ∷ ss) (suc i) x k at is = key_type objects o (p + 1) ss i x k at is

typed_key : (objects : List Object) (at : At) (k : ImportKey) → import_there objects at ≡ Some k → k.type ≡ symbol_type (symbol_there objects at)
typed_key objects at k is = by_symbol (symbol_there objects at) refl is
  where
    by_object : (o : Option Object) → slice_get objects at.object ≡ o → (x : InputSymbol) → slice_get (get_or (rows_of objects) at.object []) at.place ≡ Some x → x.import ≡ Some k → k.type ≡ x.type
    by_object None none x there e = absurd (none-some x (sym (ap (λ row. slice_get row at.place) (no_row (rows_of objects) at.object (slice_get-map (symbols_of objects) objects at.object ∙ ap (option_map (symbols_of objects)) none))) ∙ there))
      where
        no_row : (rows : List (List InputSymbol)) (i : ℕ) → slice_get rows i ≡ None → get_or rows i [] ≡ []
        no_row [] i none = refl
        no_row (r ∷ rows) zero none = absurd (none-some r (sym none))
        no_row (r ∷ rows) (suc i) none = no_row rows i none
    by_object (Some o) found x there e =
        let row : get_or (rows_of objects) at.object [] ≡ symbols_of objects o = get_or_from_slice_get (rows_of objects) at.object (symbols_of objects o) [] (slice_get-map (symbols_of objects) objects at.object ∙ ap (option_map (symbols_of objects)) found) in
        key_type objects o 0 o.symbols at.place x k (ap (λ r. slice_get r at.place) (sym row) ∙ there) e

    by_symbol : (x : Option InputSymbol) → symbol_there objects at ≡ x → option_and_then (λ (e : InputSymbol). e.import) (symbol_there objects at) ≡ Some k → k.type ≡ symbol_type (symbol_there objects at)
    by_symbol None none e = absurd (none-some k (sym (ap (option_and_then (λ (e : InputSymbol). e.import)) none) ∙ e))
    by_symbol (Some x) there e =
        by_object (slice_get objects at.object) refl x there (sym (ap (option_and_then (λ (e : InputSymbol). e.import)) there) ∙ e)
        ∙ sym (ap symbol_type there)

-- ---- one import

module _ (p : Program) where
  kind_is : (t : SymbolType) → kind_with (partial.types p) t ≡ partial.import_kind p t
  kind_is (of_function t) = refl
  kind_is (of_global g) = refl
  kind_is untyped = refl

  import_is : (e : InputSymbol) (o : Open) → open_seen p.objects o ≡ told_open p e → import_told (partial.types p) p.objects o ≡ Some (partial.import_for p (partial.open_import p e))
  import_is e o same = by o.import (first_some firsts) refl refl (ap (λ (s : SeenOpen). s.import) same)
    where
      firsts : List (Option ImportKey)
      firsts = least_import (filter (λ (r : InputSymbol). is_explicit r.symbol) (partial.name_references p (name_of e))) ∷ least_import (partial.name_references p (name_of e)) ∷ []

      otherwise : ImportKey
      otherwise = record { module_name = codes "env"; field = name_of e; type = e.type }

      there : symbol_there p.objects o.at ≡ Some e
      there = ap (λ (s : SeenOpen). s.symbol) same

      told : Option At → Option Import
      told at = import_by (kind_there (partial.types p) p.objects (unwrap_or at o.at)) p.objects o.at at

      meant : Option ImportKey → Option Import
      meant k = Some (partial.import_for p (unwrap_or {T = ImportKey} k otherwise))

      by : (at : Option At) (k : Option ImportKey) → o.import ≡ at → first_some firsts ≡ k → option_map (import_there p.objects) o.import ≡ option_map Some (first_some firsts) → told o.import ≡ meant (first_some firsts)
      by None None a b seen =
          ap told a
          ∙ (ap (λ x. option_map (own_import (kind_with (partial.types p) (symbol_type x))) x) there
          ∙ (ap (λ k. Some (own_import k e)) (kind_is e.type) ∙ sym (ap meant b)))
      by None (Some k) a b seen = absurd (none-some (Some k) (sym (ap (option_map (import_there p.objects)) a) ∙ (seen ∙ ap (option_map Some) b)))
      by (Some at) None a b seen = absurd (none-some (import_there p.objects at) (sym (sym (ap (option_map (import_there p.objects)) a) ∙ (seen ∙ ap (option_map Some) b))))
      by (Some at) (Some k) a b seen =
          let key : import_there p.objects at ≡ Some k = same_Some (import_there p.objects at) (Some k) (sym (ap (option_map (import_there p.objects)) a) ∙ (seen ∙ ap (option_map Some) b)) in
          ap told a
          ∙ (ap (option_map (import_with (kind_there (partial.types p) p.objects at))) key
          ∙ (ap (λ t. Some (import_with (kind_with (partial.types p) t) k)) (sym (typed_key p.objects at k key))
          ∙ (ap (λ kind. Some (import_with kind k)) (kind_is k.type) ∙ sym (ap meant b))))

  -- ---- which symbols have one

  same_is : (e : InputSymbol) (w : Option InputSymbol) → same_spot (Some (entry_spot e)) (option_map entry_spot w) ≡ is_that e w
  same_is e None = refl
  same_is e (Some w) = refl

  takes_is : (e : InputSymbol) (kind : SymbolKind) → takes_import (option_map entry_spot (find (is_kind Table) (partial.standing p))) (Some (entry_spot e)) kind ≡ partial.has_import p e kind
  takes_is e Function = refl
  takes_is e Datum = refl
  takes_is e GlobalVar = refl
  takes_is e Section = refl
  takes_is e Table = same_is e (find (is_kind Table) (partial.standing p))

  table_is : (ats : List At) (es : List InputSymbol) → map (symbol_there p.objects) ats ≡ map Some es → first_table p.objects ats ≡ option_map entry_spot (find (is_kind Table) es)
  table_is [] [] same = refl
  table_is [] (e ∷ es) same = absurd cc
  table_is (at ∷ ats) [] same = absurd cc
  table_is (at ∷ ats) (e ∷ es) same =
      let there : symbol_there p.objects at ≡ Some e = cc in
      let others : map (symbol_there p.objects) ats ≡ map Some es = cc in
      ap (λ o. first_some (option_and_then table_spot o ∷ map (table_at p.objects) ats)) there ∙ by (is_kind Table e) (table_is ats es others)
    where
      by : (b : Bool) → first_some (map (table_at p.objects) ats) ≡ option_map entry_spot (find (is_kind Table) es)
          → first_some ((if b then Some (entry_spot e) else None) ∷ map (table_at p.objects) ats) ≡ option_map entry_spot (cond b (Some e) (find (is_kind Table) es))
      by true again = refl
      by false again = again

  -- ---- all of them

  abbrev table : Option Spot
  table = option_map entry_spot (find (is_kind Table) (partial.standing p))

  abbrev taking : InputSymbol → Bool
  taking e = partial.is_open p e && partial.has_import p e e.symbol.kind

  abbrev made : InputSymbol → Import
  made e = partial.import_for p (partial.open_import p e)

  one : (e : InputSymbol) (o : Open) → open_seen p.objects o ≡ told_open p e → import_if (partial.types p) p.objects table o ≡ (if partial.has_import p e e.symbol.kind then Some (made e) else None)
  one e o same =
      let there : symbol_there p.objects o.at ≡ Some e = ap (λ (s : SeenOpen). s.symbol) same in
      let kind : o.kind ≡ e.symbol.kind = ap (λ (s : SeenOpen). s.kind) same in
      let takes : takes_import table (spot_at p.objects o.at) o.kind ≡ partial.has_import p e e.symbol.kind =
      (λ i. takes_import table (option_map entry_spot (there i)) (kind i)) ∙ takes_is e e.symbol.kind in
      let import = import_is e o same in
      λ i. if takes i then import i else None

  imports_told : (opens : List Open) (es : List InputSymbol) → map (open_seen p.objects) opens ≡ map (told_open p) (filter (partial.is_open p) es)
      → filter_map (import_if (partial.types p) p.objects table) opens ≡ map made (filter taking es)
  imports_told opens [] same = none opens same
    where
      none : (opens : List Open) → map (open_seen p.objects) opens ≡ [] → filter_map (import_if (partial.types p) p.objects table) opens ≡ []
      none [] same = refl
      none (o ∷ opens) same = absurd cc
  imports_told opens (e ∷ es) same = by (partial.is_open p e) refl opens same (λ os. imports_told os es)
    where
      rest : List InputSymbol
      rest = filter taking es

      Again : Type 0
      Again = (os : List Open) → map (open_seen p.objects) os ≡ map (told_open p) (filter (partial.is_open p) es) → filter_map (import_if (partial.types p) p.objects table) os ≡ map made rest

      pulled : (b : Bool) → cons_option (if b then Some (made e) else None) (map made rest) ≡ map made (cond b (e ∷ rest) rest)
      pulled true = refl
      pulled false = refl

      by : (b : Bool) → partial.is_open p e ≡ b → (os : List Open) → map (open_seen p.objects) os ≡ map (told_open p) (cond b (e ∷ filter (partial.is_open p) es) (filter (partial.is_open p) es)) → Again
          → filter_map (import_if (partial.types p) p.objects table) os ≡ map made (cond (b && partial.has_import p e e.symbol.kind) (e ∷ rest) rest)
      by false closed os same again = again os same
      by true is_open [] same again = absurd cc
      by true is_open (o ∷ os) same again =
          let here : open_seen p.objects o ≡ told_open p e = cc in
          let others : map (open_seen p.objects) os ≡ map (told_open p) (filter (partial.is_open p) es) = cc in
          let h = one e o here in
          let t = again os others in
          (λ i. cons_option (h i) (t i)) ∙ pulled (partial.has_import p e e.symbol.kind)

  pub imports_are : (opens : List Open) (symbols : List At) → map (symbol_there p.objects) symbols ≡ map Some (partial.standing p) → map (open_seen p.objects) opens ≡ map (told_open p) (filter (partial.is_open p) (partial.standing p))
      → memory_import ∷ filter_map (import_if (partial.types p) p.objects (first_table p.objects symbols)) opens ≡ (relocatable p).imports
  unfolding relocatable
  imports_are opens symbols standing seen =
      ap (λ w. memory_import ∷ filter_map (import_if (partial.types p) p.objects w) opens) (table_is symbols (partial.standing p) standing)
      ∙ ap (λ is. memory_import ∷ is) (imports_told opens (partial.standing p) seen)

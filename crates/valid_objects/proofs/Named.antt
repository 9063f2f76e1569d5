-- What the indexes of an object name, by lists that are made once.
use Rattle.std.proofs.Common.{◌≡◌, ℕ, ◌+◌, cond, List, [], ◌∷◌, ◌++◌, map, length, length-append, Option, Some, None, refl, ap, sym, ◌∙◌, arith, slice_get}
use Rattle.std.specs.Prelude.{filter_map, option_map, unwrap_or}
use Rattle.std.specs.List.{cons_option}
use Rattle.std.proofs.lemmas.Option.{slice_get-map, unwrap_or-slice_get}
use Rattle.std.proofs.lemmas.List.{length-map}
use Rattle.wasm_types.specs.declared.function.FuncType.{FuncType}
use Rattle.wasm_types.specs.declared.import.Import.{Import}
use Rattle.wasm_types.specs.declared.import.ImportKind.{ImportKind}
use Rattle.wasm_types.specs.declared.import.ImportKind.TheVariants as kinds
use Rattle.object_file.specs.linking_section.declared.symbol.SymbolKind.TheVariants.{Function}
use Rattle.object_file.specs.object_columns.declared.functions.FunctionDef.{FunctionDef}
use Rattle.object_file.specs.object_rules.Spaces.{is_of, imports_of}
use Rattle.object_file.specs.declared.object.Object.{Object}
use Rattle.object_file.specs.Spaces.{no_type, written_type, imported_type, defined_type, function_types, function_imports}
use Rattle.wasm_valid.specs.Spaces.{a_function}
use Rattle.valid_bodies.specs.declared.types.Meaning.TheVariants.{Nothing, OfType}
use Rattle.valid_bodies.specs.Meanings.{typed_as}
use Rattle.object_file.specs.linking_section.declared.symbol.Symbol.{Symbol}
use Rattle.valid_objects.specs.declared.names.Names.{Names}
use Rattle.valid_objects.specs.Objects.{function_by}
use Rattle.valid_objects.specs.Merging.{function_indexes, AreNames}

-- ---- functions

imported_type_is : (o : Object) (k : ImportKind) (ts : List FuncType) (is : List ℕ) → ts ≡ map (written_type o) is → cons_option (imported_type o k) ts ≡ map (written_type o) (cons_option (a_function k) is)
imported_type_is o (kinds.Function t) ts is e = ap (λ ts. written_type o t ∷ ts) e
imported_type_is o (kinds.Table t) ts is e = e
imported_type_is o (kinds.Memory m) ts is e = e
imported_type_is o (kinds.GlobalVar g) ts is e = e

imported_types : (o : Object) (imports : List Import) → filter_map (λ i. imported_type o i.kind) imports ≡ map (written_type o) (filter_map (λ i. a_function i.kind) imports)
imported_types o [] = refl
imported_types o (i ∷ is) = imported_type_is o i.kind (filter_map (λ i. imported_type o i.kind) is) (filter_map (λ i. a_function i.kind) is) (imported_types o is)

defined_types : (o : Object) (fs : List FunctionDef) → map (defined_type o) fs ≡ map (written_type o) (map (λ f. f.type_index) fs)
defined_types o [] = refl
defined_types o (f ∷ fs) = ap (λ ts. defined_type o f ∷ ts) (defined_types o fs)

map_append : {A B : Type 0} (f : A → B) (xs ys : List A) → map f (xs ++ ys) ≡ map f xs ++ map f ys
map_append f [] ys = refl
map_append f (x ∷ xs) ys = ap (λ zs. f x ∷ zs) (map_append f xs ys)

types_are : (o : Object) → function_types o ≡ map (written_type o) (function_indexes o)
types_are o =
    ap (λ ts. ts ++ map (defined_type o) o.functions) (imported_types o o.imports)
    ∙ ap (λ ts. map (written_type o) (filter_map (λ i. a_function i.kind) o.imports) ++ ts) (defined_types o o.functions)
    ∙ sym (map_append (written_type o) (filter_map (λ i. a_function i.kind) o.imports) (map (λ f. f.type_index) o.functions))

-- The type of the function of an index.
pub type_is : (o : Object) (index : ℕ) (found : Option ℕ) → slice_get (function_indexes o) index ≡ found → slice_get (function_types o) index ≡ option_map (written_type o) found
type_is o index found e = ap (λ ts. slice_get ts index) (types_are o) ∙ slice_get-map (written_type o) (function_indexes o) index ∙ ap (option_map (written_type o)) e

-- ---- how many are imported

counted_one : (k : ImportKind) (i : Import) (xs : List ℕ) (ys : List Import) → length xs ≡ length ys → length (cons_option (a_function k) xs) ≡ length (cond (is_of Function k) (i ∷ ys) ys)
counted_one (kinds.Function t) i xs ys e = omega (arith, e)
counted_one (kinds.Table t) i xs ys e = e
counted_one (kinds.Memory m) i xs ys e = e
counted_one (kinds.GlobalVar g) i xs ys e = e

imported_count : (imports : List Import) → length (filter_map (λ i. a_function i.kind) imports) ≡ length (imports_of Function imports)
imported_count [] = refl
imported_count (i ∷ is) = counted_one i.kind i (filter_map (λ i. a_function i.kind) is) (imports_of Function is) (imported_count is)

pub count_is : (o : Object) → length (function_indexes o) ≡ length (function_imports o) + length o.functions
count_is o =
    length-append (filter_map (λ i. a_function i.kind) o.imports) (map (λ f. f.type_index) o.functions)
    ∙ ap (λ n. n + length (map (λ f. f.type_index) o.functions)) (imported_count o.imports)
    ∙ ap (λ n. length (function_imports o) + n) (length-map o.functions (λ f. f.type_index))

-- ---- what an index of a type names

pub no_type_is : (o : Object) (index : ℕ) → None ≡ slice_get o.types index → no_type ≡ written_type o index
no_type_is o index e = ap (λ t. unwrap_or t no_type) e ∙ unwrap_or-slice_get o.types index no_type

-- ---- what a symbol names

-- A function whose symbol has an index that none has.
pub no_function : (o : Object) (names : Names) (symbol : ℕ) (s : Symbol) → AreNames names o → Some s ≡ slice_get o.symbols symbol → slice_get names.functions s.index ≡ None
    → Nothing ≡ function_by o (slice_get o.symbols symbol)
no_function o names symbol s are at e =
    sym (ap typed_as (type_is o s.index None (sym (ap (λ xs. slice_get xs s.index) are.functions) ∙ e))) ∙ ap (function_by o) at

pub a_function_by : (o : Object) (names : Names) (symbol : ℕ) (s : Symbol) (index : ℕ) (t : FuncType) → AreNames names o → Some s ≡ slice_get o.symbols symbol → slice_get names.functions s.index ≡ Some index
    → t ≡ written_type o index → OfType t ≡ function_by o (slice_get o.symbols symbol)
a_function_by o names symbol s index t are at e is =
    ap OfType is ∙ sym (ap typed_as (type_is o s.index (Some index) (sym (ap (λ xs. slice_get xs s.index) are.functions) ∙ e))) ∙ ap (function_by o) at

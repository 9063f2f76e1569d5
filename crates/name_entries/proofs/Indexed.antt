-- What the indexes of an object name.
use Rattle.std.proofs.Common.{◌≡◌, ℕ, ◌-◌, ◌<◌, ◌≤◌, false, List, [], ◌∷◌, length, map, filter, slice_get, Option, Some, None, is_some, refl, sym, ap, ◌∙◌, arith}
use Rattle.std.proofs.lemmas.Option.{slice_get-map}
use Rattle.std.specs.Option.{option_map, option_and_then}
use Rattle.name_rules.specs.object_file.wasm_types.declared.import.Import.{Import}
use Rattle.name_rules.specs.object_file.wasm_types.declared.import.ImportKind.{ImportKind}
use Rattle.name_rules.specs.object_file.wasm_types.declared.import.ImportKind.TheVariants as kinds
use Rattle.name_rules.specs.object_file.linking_section.declared.symbol.Symbol.{Symbol}
use Rattle.name_rules.specs.object_file.linking_section.declared.symbol.SymbolKind.{SymbolKind}
use Rattle.name_rules.specs.object_file.linking_section.declared.symbol.SymbolKind.TheVariants.{Function, Datum, GlobalVar, Section, Table}
use Rattle.name_rules.specs.object_file.object_rules.Spaces.{is_of, imports_of, HoldPlaces, imported_type as type_index_of}
use Rattle.name_rules.specs.object_file.object_columns.declared.functions.FunctionDef.{FunctionDef}
use Rattle.name_rules.specs.object_file.object_parts.declared.parts.GlobalDef.{GlobalDef}
use Rattle.name_rules.specs.object_file.declared.object.Object.{Object}
use Rattle.name_rules.specs.object_file.Spaces.{written_type, imported_type, imported_global, defined_type, function_types, global_types}
use Rattle.name_rules.specs.Entries.{import_in}
use Rattle.name_entries.proofs.Found.{imported, defined}

-- ---- imports

no_import : (imports : List Import) (k : ℕ) → slice_get (filter (λ i. false) imports) k ≡ None
no_import [] k = refl
no_import (i ∷ is) k = no_import is k

pub stands_on : (o : Object) (s : Symbol) (kind : SymbolKind) → slice_get (imports_of kind o.imports) s.index ≡ import_in o s kind
stands_on o s Function = refl
stands_on o s Datum = no_import o.imports s.index
stands_on o s GlobalVar = refl
stands_on o s Section = no_import o.imports s.index
stands_on o s Table = refl

-- ---- functions

same_function : (o : Object) (kind : ImportKind) → is_some (imported_type o kind) ≡ is_of Function kind
same_function o (kinds.Function t) = refl
same_function o (kinds.Table t) = refl
same_function o (kinds.Memory m) = refl
same_function o (kinds.GlobalVar g) = refl

written : (o : Object) (kind : ImportKind) → option_map (written_type o) (type_index_of kind) ≡ imported_type o kind
written o (kinds.Function t) = refl
written o (kinds.Table t) = refl
written o (kinds.Memory m) = refl
written o (kinds.GlobalVar g) = refl

pub imported_function : (o : Object) (places : List ℕ) (k count : ℕ) (i : Import) → HoldPlaces o.imports Function places → count ≡ length places
    → k < count → Some i ≡ slice_get (imports_of Function o.imports) k
    → option_map (written_type o) (type_index_of i.kind) ≡ slice_get (function_types o) k
imported_function o places k count i held counted lt is =
    written o i.kind ∙ ap (option_and_then (λ (i : Import). imported_type o i.kind)) is
    ∙ sym (imported (λ (i : Import). imported_type o i.kind) (λ (i : Import). is_of Function i.kind)
    (λ i. same_function o i.kind) o.imports places (map (defined_type o) o.functions) k held (omega arith))

pub defined_function : (o : Object) (places : List ℕ) (k count : ℕ) (f : Option FunctionDef) → HoldPlaces o.imports Function places
    → count ≡ length places → count ≤ k → f ≡ slice_get o.functions (k - count)
    → option_map (defined_type o) f ≡ slice_get (function_types o) k
defined_function o places k count f held counted le is =
    ap (option_map (defined_type o)) (is ∙ ap (λ n. slice_get o.functions (k - n)) counted)
    ∙ sym (slice_get-map (defined_type o) o.functions (k - length places))
    ∙ sym (defined (λ (i : Import). imported_type o i.kind) (λ (i : Import). is_of Function i.kind) (λ i. same_function o i.kind) o.imports places
    (map (defined_type o) o.functions) k held (omega arith))

-- ---- globals

same_global : (kind : ImportKind) → is_some (imported_global kind) ≡ is_of GlobalVar kind
same_global (kinds.Function t) = refl
same_global (kinds.Table t) = refl
same_global (kinds.Memory m) = refl
same_global (kinds.GlobalVar g) = refl

pub imported_one : (o : Object) (places : List ℕ) (k count : ℕ) (i : Import) → HoldPlaces o.imports GlobalVar places → count ≡ length places
    → k < count → Some i ≡ slice_get (imports_of GlobalVar o.imports) k
    → imported_global i.kind ≡ slice_get (global_types o) k
imported_one o places k count i held counted lt is =
    ap (option_and_then (λ (i : Import). imported_global i.kind)) is
    ∙ sym (imported (λ (i : Import). imported_global i.kind) (λ (i : Import). is_of GlobalVar i.kind) (λ i. same_global i.kind) o.imports places
    (map (λ g. g.kind) o.globals) k held (omega arith))

pub defined_one : (o : Object) (places : List ℕ) (k count : ℕ) (g : Option GlobalDef) → HoldPlaces o.imports GlobalVar places
    → count ≡ length places → count ≤ k → g ≡ slice_get o.globals (k - count)
    → option_map (λ (g : GlobalDef). g.kind) g ≡ slice_get (global_types o) k
defined_one o places k count g held counted le is =
    ap (option_map (λ (g : GlobalDef). g.kind)) (is ∙ ap (λ n. slice_get o.globals (k - n)) counted)
    ∙ sym (slice_get-map (λ (g : GlobalDef). g.kind) o.globals (k - length places))
    ∙ sym (defined (λ (i : Import). imported_global i.kind) (λ (i : Import). is_of GlobalVar i.kind) (λ i. same_global i.kind) o.imports places
    (map (λ g. g.kind) o.globals) k held (omega arith))

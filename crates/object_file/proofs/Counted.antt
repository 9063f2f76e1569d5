-- How many functions and globals an object has.
use Rattle.std.proofs.Common.{◌≡◌, List, [], ◌∷◌, length, map, refl, arith}
use Rattle.std.specs.Prelude.{filter_map}
use Rattle.std.proofs.lemmas.List.{length-append, length-map}
use Rattle.object_rules.specs.wasm_types.declared.import.Import.{Import}
use Rattle.object_rules.specs.wasm_types.declared.import.ImportKind.{ImportKind}
use Rattle.object_rules.specs.wasm_types.declared.import.ImportKind.TheVariants as kinds
use Rattle.object_rules.specs.linking_section.declared.symbol.SymbolKind.TheVariants.{Function, GlobalVar}
use Rattle.object_rules.specs.object_parts.declared.parts.GlobalDef.{GlobalDef}
use Rattle.object_rules.specs.Spaces.{imports_of}
use Rattle.object_file.specs.declared.object.Object.{Object}
use Rattle.object_file.specs.Spaces.{imported_type, imported_global, defined_type, function_types, global_types}
use Rattle.object_file.specs.Sound.{function_count, global_count}

function_imports_len : (o : Object) (imports : List Import) → length (filter_map (λ i. imported_type o i.kind) imports) ≡ length (imports_of Function imports)
function_imports_len o [] = refl
function_imports_len o (i ∷ is) = by i.kind refl (function_imports_len o is)
  where
    by : (kind : ImportKind) → i.kind ≡ kind → length (filter_map (λ k. imported_type o k.kind) is) ≡ length (imports_of Function is)
        → length (filter_map (λ k. imported_type o k.kind) (i ∷ is)) ≡ length (imports_of Function (i ∷ is))
    by (kinds.Function t) same e = rw same (omega (arith, e))
    by (kinds.Table t) same e = rw same e
    by (kinds.Memory m) same e = rw same e
    by (kinds.GlobalVar g) same e = rw same e

global_imports_len : (imports : List Import) → length (filter_map (λ i. imported_global i.kind) imports) ≡ length (imports_of GlobalVar imports)
global_imports_len [] = refl
global_imports_len (i ∷ is) = by i.kind refl (global_imports_len is)
  where
    by : (kind : ImportKind) → i.kind ≡ kind → length (filter_map (λ k. imported_global k.kind) is) ≡ length (imports_of GlobalVar is)
        → length (filter_map (λ k. imported_global k.kind) (i ∷ is)) ≡ length (imports_of GlobalVar (i ∷ is))
    by (kinds.Function t) same e = rw same e
    by (kinds.Table t) same e = rw same e
    by (kinds.Memory m) same e = rw same e
    by (kinds.GlobalVar g) same e = rw same (omega (arith, e))

pub functions_counted : (o : Object) → length (function_types o) ≡ function_count o
functions_counted o =
    omega (arith, length-append (filter_map (λ i. imported_type o i.kind) o.imports) (map (defined_type o) o.functions), length-map o.functions (defined_type o), function_imports_len o o.imports)

pub globals_counted : (o : Object) → length (global_types o) ≡ global_count o
globals_counted o =
    omega (arith, length-append (filter_map (λ i. imported_global i.kind) o.imports) (map (λ g. g.kind) o.globals), length-map o.globals (λ (g : GlobalDef). g.kind), global_imports_len o.imports)

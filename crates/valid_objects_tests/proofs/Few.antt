-- What was read is an object of its own number; one of few imports and few defined functions has few functions.
use Rattle.std.proofs.Common.{◌≡◌, ◌<◌, ◌≤◌, ◌+◌, ◌^◌, ℕ, Bool, true, false, cond, List, [], ◌∷◌, length, sym, ap, subst, arith}
use Rattle.wasm_types.specs.declared.import.Import.{Import}
use Rattle.object_file.specs.linking_section.declared.symbol.SymbolKind.TheVariants.{Function}
use Rattle.object_file.specs.object_rules.Spaces.{is_of, imports_of}
use Rattle.object_file.specs.declared.object.Object.{Object}
use Rattle.object_file.specs.ObjectOf.{IsObject}
use Rattle.object_file.specs.Objects.{object_from}
use Rattle.object_file.specs.Sound.{function_count}

imported_long : (imports : List Import) → length (imports_of Function imports) ≤ length imports
imported_long [] = omega arith
imported_long (i ∷ is) = by (is_of Function i.kind) (imported_long is) where
  by : (t : Bool) → length (imports_of Function is) ≤ length is → length (cond t (i ∷ imports_of Function is) (imports_of Function is)) ≤ length (i ∷ is)
  by true more = omega (arith, more)
  by false more = omega (arith, more)

pub few : (o : Object) → length o.imports ≤ 1000 → length o.functions ≤ 1000 → function_count o < 2 ^ 32
few o imports functions = omega (arith, imported_long o.imports, imports, functions)

pub read : (input : ℕ) (bytes : List ℕ) (o : Object) → IsObject input bytes o → IsObject o.input bytes o
unfolding object_from
read input bytes o is = let same : o.input ≡ input = ap (λ (x : Object). x.input) is.is in subst (λ n. IsObject n bytes o) (sym same) is

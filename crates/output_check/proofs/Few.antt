-- A module of fewer than 2^31 imports, and of fewer than 2^31 defined functions, has fewer than 2^32 functions.
use Rattle.std.proofs.Common.{◌<◌, ◌≤◌, ◌+◌, ◌^◌, List, [], ◌∷◌, length, Option, Some, None, length-append, arith}
use Rattle.std.specs.List.{cons_option}
use Rattle.wasm_module.specs.wasm_instr.wasm_types.declared.import.Import.{Import}
use Rattle.wasm_module.specs.declared.structure.Module.{Module}
use Rattle.wasm_valid.specs.Spaces.{a_function, imported, functions_of}

cons_long : {A : Type 0} (o : Option A) (xs : List A) → length (cons_option o xs) ≤ length xs + 1
cons_long None xs = omega arith
cons_long (Some x) xs = omega arith

imported_long : (imports : List Import) → length (imported a_function imports) ≤ length imports
imported_long [] = omega arith
imported_long (i ∷ is) = omega (arith, cons_long (a_function i.kind) (imported a_function is), imported_long is)

pub few : (m : Module) → length m.imports < 2147483648 → length m.functions < 2147483648 → length (functions_of m) < 2 ^ 32
few m imports functions = omega (arith, length-append (imported a_function m.imports) m.functions, imported_long m.imports, imports, functions)

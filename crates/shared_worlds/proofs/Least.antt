-- A table of the least size is the one that a module has alone.
use Rattle.std.proofs.Common.{◌≡◌, ℕ, List, [], ◌∷◌, ◌++◌, replicate, Option, None, refl, ap}
use Rattle.std.specs.Prelude.{option_map}
use Rattle.wasm_types.specs.declared.table.TableType.{TableType}
use Rattle.wasm_module.specs.declared.parts.Element.{Element}
use Rattle.run_rules.specs.declared.value.Value.{Value}
use Rattle.run_rules.specs.Runs.{trace_of}
use Rattle.run_rules.specs.Modules.{first, imported_tables, with_elements, table_of, module_firsts, module_world, module_start, module_trace}
use Rattle.shared_worlds.specs.Placing.{first_entries, placed_world, placed_trace}
use Rattle.shared_worlds.specs.Statements.{LeastTablesRunAlone}

tables_same : (firsts : List Value) (es : List Element) (ts us : List TableType) → option_map (λ n. with_elements firsts es (replicate n None)) (first_entries None ts us) ≡ table_of firsts es (first (ts ++ us))
tables_same firsts es [] [] = refl
tables_same firsts es [] (u ∷ us) = refl
tables_same firsts es (t ∷ ts) us = refl

pub least_tables : LeastTablesRunAlone
unfolding placed_trace placed_world module_world module_trace
least_tables s m n = ap (λ t. trace_of (record (module_world s m) { table = t }) s (module_start s m) n) (tables_same (module_firsts s m) m.elements (imported_tables m.imports) m.tables)

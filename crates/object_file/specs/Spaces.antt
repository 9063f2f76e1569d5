-- The index spaces of an object: what is imported first, then what is defined (Core 2.5.1).
use Rattle.std.specs.Prelude.{ℕ, ◌-◌, List, [], ◌++◌, length, map, filter_map, slice_index_or, Option, Some, None}
use Rattle.object_rules.specs.wasm_types.declared.function.FuncType.{FuncType}
use Rattle.object_rules.specs.wasm_types.declared.table.GlobalType.{GlobalType}
use Rattle.object_rules.specs.wasm_types.declared.import.Import.{Import}
use Rattle.object_rules.specs.wasm_types.declared.import.ImportKind.{ImportKind}
use Rattle.object_rules.specs.wasm_types.declared.import.ImportKind.TheVariants as kinds
use Rattle.object_rules.specs.linking_section.declared.symbol.SymbolKind.TheVariants.{Function, GlobalVar, Table}
use Rattle.object_columns.specs.declared.functions.FunctionDef.{FunctionDef}
use Rattle.object_rules.specs.Spaces.{imports_of}
use Rattle.object_file.specs.declared.object.Object.{Object}

-- The type () to ().
abbrev pub no_type : FuncType
no_type = record { params = []; results = [] }

-- The function type that an index of the object names.
abbrev pub written_type : Object → ℕ → FuncType
written_type o t = slice_index_or o.types t no_type

-- ---- what is imported

abbrev pub function_imports : Object → List Import
function_imports o = imports_of Function o.imports

abbrev pub table_imports : Object → List Import
table_imports o = imports_of Table o.imports

abbrev pub global_imports : Object → List Import
global_imports o = imports_of GlobalVar o.imports

-- The function type of an imported function.
abbrev pub imported_type : Object → ImportKind → Option FuncType
imported_type o (kinds.Function t) = Some (written_type o t)
imported_type o (kinds.Table t) = None
imported_type o (kinds.Memory m) = None
imported_type o (kinds.GlobalVar g) = None

-- The type of an imported global.
abbrev pub imported_global : ImportKind → Option GlobalType
imported_global (kinds.Function t) = None
imported_global (kinds.Table t) = None
imported_global (kinds.Memory m) = None
imported_global (kinds.GlobalVar g) = Some g

-- ---- what an index names

-- The function type of a defined function.
abbrev pub defined_type : Object → FunctionDef → FuncType
defined_type o f = written_type o f.type_index

-- The types of all functions, by the function's index.
abbrev pub function_types : Object → List FuncType
function_types o = filter_map (λ i. imported_type o i.kind) o.imports ++ map (defined_type o) o.functions

-- The types of all globals, by the global's index.
abbrev pub global_types : Object → List GlobalType
global_types o = filter_map (λ i. imported_global i.kind) o.imports ++ map (λ g. g.kind) o.globals

-- Which of the defined functions an index names, counted from 0.
abbrev pub function_place : Object → ℕ → ℕ
function_place o index = index - length (function_imports o)

-- Which of the defined globals an index names, counted from 0.
abbrev pub global_place : Object → ℕ → ℕ
global_place o index = index - length (global_imports o)

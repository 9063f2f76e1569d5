-- When a module is valid, its bodies aside (Core 3.2 and 3.4). Each rule is over the module's index spaces.
use Rattle.std.specs.Prelude.{ℕ, List, [], ◌∷◌, map, length, slice_get, Option, Some, None, Bool, true, false, not, ◌&&◌, nat_lt, nat_le, nat_eq, if◌then◌else◌}
use Rattle.std.specs.List.{list_all, list_any}
use Rattle.std.specs.Str.{bytes_eq}
use Rattle.wasm_types.specs.declared.value.ValType.{ValType}
use Rattle.wasm_types.specs.declared.value.ValType.TheVariants.{I32, I64}
use Rattle.wasm_types.specs.declared.table.Limits.{Limits}
use Rattle.wasm_types.specs.declared.table.TableType.{TableType}
use Rattle.wasm_types.specs.declared.table.GlobalType.{GlobalType}
use Rattle.wasm_types.specs.declared.const_expr.ConstExpr.{ConstExpr}
use Rattle.wasm_types.specs.declared.const_expr.ConstExpr.TheVariants as constants
use Rattle.wasm_module.specs.declared.structure.Module.{Module}
use Rattle.wasm_module.specs.declared.parts.Export.{Export}
use Rattle.wasm_module.specs.declared.parts.ModuleGlobal.{ModuleGlobal}
use Rattle.wasm_module.specs.declared.parts.Element.{Element}
use Rattle.wasm_module.specs.declared.parts.DataSegment.{DataSegment}
use Rattle.valid_rules.specs.Reading.{same_type}
use Rattle.wasm_valid.specs.declared.spaces.Spaces.{Spaces}

-- ---- limits (Core 3.2.1)

abbrev pub at_most : ℕ → Option ℕ → Bool
at_most least None = true
at_most least (Some most) = nat_le least most

-- The least is at most the greatest.
abbrev pub in_order : Limits → Bool
in_order l = at_most l.min l.max

abbrev pub within : ℕ → Option ℕ → Bool
within bound None = true
within bound (Some most) = nat_le most bound

-- A memory has at most 65,536 pages (3.2.5).
abbrev pub is_memory : Limits → Bool
is_memory l = in_order l && (nat_le l.min 65536 && within 65536 l.max)

-- ---- constant expressions (Core 3.3.10)

-- The global is there, const, and of this type.
abbrev pub is_const : ValType → Option GlobalType → Bool
is_const t None = false
is_const t (Some g) = not g.var && same_type g.kind t

-- It has the type. Of globals it reads those alone that are imported and const.
abbrev pub has_type : List GlobalType → ValType → ConstExpr → Bool
has_type globals t (constants.I32 z) = same_type I32 t
has_type globals t (constants.I64 z) = same_type I64 t
has_type globals t (constants.Get g) = is_const t (slice_get globals g)

-- ---- parts of a module (Core 3.4.4 to 3.4.8)

-- An index is in range.
abbrev pub below : ℕ → ℕ → Bool
below n k = nat_lt k n

-- The table is there, and of funcref.
abbrev pub is_function_table : Option TableType → Bool
is_function_table None = false
is_function_table (Some t) = t.funcref

-- A segment that names no table or memory means the first.
abbrev pub place_or_first : Option ℕ → ℕ
place_or_first None = 0
place_or_first (Some n) = n

-- A global's first value has its type.
abbrev pub global_stands : Spaces → ModuleGlobal → Bool
global_stands s g = has_type s.imported_globals g.kind.kind g.value

-- How many there are of what an export names: functions 0, tables 1, memories 2, globals 3 (5.5.10).
abbrev pub count_of : Spaces → ℕ → ℕ
count_of s kind =
    if nat_eq kind 0 then length s.functions
    else if nat_eq kind 1 then length s.tables
    else if nat_eq kind 2 then length s.memories
    else if nat_eq kind 3 then length s.globals
    else 0

abbrev pub export_stands : Spaces → Export → Bool
export_stands s e = nat_lt e.index (count_of s e.kind)

abbrev pub element_stands : Spaces → Element → Bool
element_stands s e =
    is_function_table (slice_get s.tables (place_or_first e.table))
    && (has_type s.imported_globals I32 e.offset && list_all (below (length s.functions)) e.functions)

abbrev pub segment_stands : Spaces → DataSegment → Bool
segment_stands s d = nat_lt (place_or_first d.memory) (length s.memories) && has_type s.imported_globals I32 d.offset

-- No two are equal.
abbrev pub all_differ : {K : Type 0} → (K → K → Bool) → List K → Bool
all_differ equal [] = true
all_differ equal (key ∷ keys) = not (list_any (equal key) keys) && all_differ equal keys

-- ---- all rules (Core 3.4.10)

abbrev pub types_stand : ℕ → List ℕ → Bool
types_stand types functions = list_all (below types) functions

abbrev pub memories_stand : List Limits → Bool
memories_stand memories = nat_le (length memories) 1 && list_all is_memory memories

abbrev pub tables_stand : List TableType → Bool
tables_stand tables = list_all (λ t. in_order t.limits) tables

abbrev pub parts_stand : Spaces → Module → Bool
parts_stand s m =
    list_all (global_stands s) m.globals
    && (list_all (export_stands s) m.exports
    && (list_all (element_stands s) m.elements
    && list_all (segment_stands s) m.data_segments))

-- All rules but those of bodies.
unfoldable pub stands : Spaces → Module → Bool
stands s m =
    types_stand (length m.types) s.functions
    && (memories_stand s.memories
    && (tables_stand s.tables
    && (parts_stand s m
    && all_differ bytes_eq (map (λ e. e.name) m.exports))))

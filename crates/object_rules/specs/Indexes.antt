-- Indexes of imports, functions, exports, element and data segments are in range, and what is
-- counted twice is counted alike (Core 2.5, 3.4, 5.5.16).
use Rattle.std.specs.Prelude.{ℕ, ◌==◌, nat_lt, Bool, true, ◌&&◌, length, Option, Some, None, if◌then◌else◌}
use Rattle.std.specs.List.{list_all}
use Rattle.object_parts.specs.wasm_types.declared.import.ImportKind.{ImportKind}
use Rattle.object_parts.specs.wasm_types.declared.import.ImportKind.TheVariants as kinds
use Rattle.object_parts.specs.wasm_module.declared.parts.Export.{Export}
use Rattle.object_parts.specs.wasm_module.declared.parts.Element.{Element}
use Rattle.object_parts.specs.declared.parts.DataPart.{DataPart}
use Rattle.object_parts.specs.declared.parts.Parts.{Parts}
use Rattle.object_rules.specs.declared.spaces.Counts.{Counts}

-- The data count, where it is given, is the number of segments (Core 5.5.15).
abbrev pub count_is : Option ℕ → ℕ → Bool
count_is None segments = true
count_is (Some count) segments = count == segments

-- Functions and bodies are equally many (Core 5.5.16), and the data count is that of the segments.
abbrev pub are_counted : Parts → Bool
are_counted parts = (length parts.functions == length parts.bodies) && count_is parts.data_count (length parts.segments)

abbrev pub import_in_range : Counts → ImportKind → Bool
import_in_range counts (kinds.Function t) = nat_lt t counts.types
import_in_range counts (kinds.Table t) = true
import_in_range counts (kinds.Memory l) = true
import_in_range counts (kinds.GlobalVar g) = true

-- The index of an export: 0 of a function, 1 of a table, 2 of a memory, 3 of a global. The one
-- memory of an object is memory 0, also where it doesn't import it.
abbrev pub export_in_range : Counts → Export → Bool
export_in_range counts e =
    if e.kind == 0 then nat_lt e.index counts.functions
    else (if e.kind == 1 then nat_lt e.index counts.tables
    else (if e.kind == 2 then e.index == 0
    else nat_lt e.index counts.globals))

-- A table that is named has to be there; the one that isn't named isn't looked at.
abbrev pub table_in_range : Counts → Option ℕ → Bool
table_in_range counts None = true
table_in_range counts (Some table) = nat_lt table counts.tables

abbrev pub element_in_range : Counts → Element → Bool
element_in_range counts e = table_in_range counts e.table && list_all (λ f. nat_lt f counts.functions) e.functions

abbrev pub memory_in_range : Option ℕ → Bool
memory_in_range None = true
memory_in_range (Some memory) = memory == 0

abbrev pub segment_in_range : DataPart → Bool
segment_in_range d = memory_in_range d.memory

abbrev pub are_in_range : Counts → Parts → Bool
are_in_range counts parts =
    list_all (λ i. import_in_range counts i.kind) parts.imports
    && list_all (λ t. nat_lt t counts.types) parts.functions
    && list_all (export_in_range counts) parts.exports
    && list_all (element_in_range counts) parts.elements
    && list_all segment_in_range parts.segments

-- The symbols that the kept parts of an object name, by their places.
use Rattle.std.specs.Prelude.{ℕ, ◌+◌, Bool, true, false, List, [], ◌∷◌, ◌++◌, map, filter_map, fold, drop, length, replicate, slice_set, slice_index_or, if◌then◌else◌, Option, Some, None}
use Rattle.link_program.specs.body_windows.declared.operand.Operand.{Operand}
use Rattle.link_program.specs.body_windows.declared.operand.Operand.TheVariants as operands
use Rattle.link_program.specs.object_columns.declared.functions.FunctionDef.{FunctionDef}
use Rattle.link_program.specs.object_columns.declared.segments.SegmentDef.{SegmentDef}
use Rattle.link_program.specs.object_file.declared.object.Object.{Object}
use Rattle.link_program.specs.name_entries.declared.parts.ObjectParts.{ObjectParts}

-- The symbol that an operand names.
abbrev pub symbol_named : Operand → Option ℕ
symbol_named operands.Number = None
symbol_named (operands.Symbol kind place symbol addend) = Some symbol
symbol_named (operands.TypeRef place index) = None
symbol_named operands.TableZero = None

abbrev pub function_symbols : FunctionDef → List ℕ
function_symbols f = filter_map symbol_named f.operands

abbrev pub segment_symbols : SegmentDef → List ℕ
segment_symbols g = map (λ w. w.index) g.windows

-- Of lists that stand from an index on, those whose index has no flag, one behind another.
abbrev pub kept_lists : List Bool → ℕ → List (List ℕ) → List ℕ
kept_lists dropped index [] = []
kept_lists dropped index (xs ∷ xss) = (if slice_index_or dropped index false then [] else xs) ++ kept_lists dropped (index + 1) xss

-- Functions are dropped by their index, imports first.
abbrev pub named_in : Object → ObjectParts → List ℕ
named_in o parts =
    kept_lists (drop (length parts.imports.functions) parts.dropped_functions) 0 (map function_symbols o.functions)
    ++ kept_lists parts.dropped_segments 0 (map segment_symbols o.segments)

-- ---- their flags

abbrev pub marked : List Bool → ℕ → List Bool
marked flags n = slice_set flags n true

abbrev pub flags_of : Object → ObjectParts → List Bool
flags_of o parts = fold marked (replicate (length o.symbols) false) (named_in o parts)

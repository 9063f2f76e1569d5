-- Segment infos, init functions and COMDAT groups agree with the object (Linking.md, "Linking
-- Metadata Section").
use Rattle.std.specs.Prelude.{ℕ, ◌+◌, ◌*◌, ◌^◌, ◌==◌, nat_lt, nat_le, nat_eq, Bool, true, false, ◌&&◌, List, length, map, flat_map, slice_get, Option, Some, None, if◌then◌else◌}
use Rattle.std.specs.List.{list_all}
use Rattle.std.specs.Str.{bytes_eq}
use Rattle.object_parts.specs.wasm_types.declared.function.FuncType.{FuncType}
use Rattle.object_parts.specs.linking_section.declared.symbol.Symbol.{Symbol}
use Rattle.object_parts.specs.linking_section.declared.symbol.SymbolKind.{SymbolKind}
use Rattle.object_parts.specs.linking_section.declared.symbol.SymbolKind.TheVariants.{Function, Datum, GlobalVar, Section, Table}
use Rattle.object_parts.specs.linking_section.declared.segment.SegmentInfo.{SegmentInfo}
use Rattle.object_parts.specs.linking_section.declared.init.InitFunc.{InitFunc}
use Rattle.object_parts.specs.linking_section.declared.group.Member.{Member}
use Rattle.object_parts.specs.linking_section.declared.group.Group.{Group}
use Rattle.object_parts.specs.linking_section.declared.member_kinds.TheConstants.{DATA, FUNCTION}
use Rattle.object_parts.specs.declared.parts.Parts.{Parts}
use Rattle.object_rules.specs.declared.spaces.Counts.{Counts}
use Rattle.object_rules.specs.Spaces.{function_types}
use Rattle.object_rules.specs.Differ.{all_differ}

-- There is no info without a segment, and an alignment, as a power of two, is at most 31.
abbrev pub infos_stand : Counts → List SegmentInfo → Bool
infos_stand counts infos = nat_le (length infos) counts.segments && list_all (λ i. nat_le i.align 31) infos

-- A type that takes nothing and gives nothing.
abbrev pub is_plain : Option FuncType → Bool
is_plain None = false
is_plain (Some t) = (length t.params == 0) && (length t.results == 0)

abbrev pub is_plain_at : List FuncType → Option ℕ → Bool
is_plain_at types None = false
is_plain_at types (Some t) = is_plain (slice_get types t)

abbrev pub is_function_kind : SymbolKind → Bool
is_function_kind Function = true
is_function_kind Datum = false
is_function_kind GlobalVar = false
is_function_kind Section = false
is_function_kind Table = false

-- An init function is a function symbol of the type () to (): of the types, and the type index of
-- each function.
abbrev pub is_init : List FuncType → List ℕ → Option Symbol → Bool
is_init types functions None = false
is_init types functions (Some s) = is_function_kind s.kind && is_plain_at types (slice_get functions s.index)

abbrev pub inits_stand : Parts → List Symbol → List InitFunc → Bool
inits_stand parts symbols inits = list_all (λ i. is_init parts.types (function_types parts) (slice_get symbols i.symbol)) inits

-- A member is there: a data segment, a defined function, or a section.
abbrev pub member_stands : Counts → Member → Bool
member_stands counts m =
    if m.kind == DATA then nat_lt m.index counts.segments
    else (if m.kind == FUNCTION then nat_le counts.imported_functions m.index && nat_lt m.index counts.functions
    else nat_lt m.index counts.sections)

-- A member as one number.
abbrev pub member_key : Member → ℕ
member_key m = m.kind * 2 ^ 32 + m.index

-- Groups have different names, their members are there, and none stands in two places.
abbrev pub groups_stand : Counts → List Group → Bool
groups_stand counts groups =
    all_differ bytes_eq (map (λ g. g.name) groups)
    && list_all (λ g. list_all (member_stands counts) g.members) groups
    && all_differ nat_eq (flat_map (λ g. map member_key g.members) groups)

-- The uses of functions' names, by the numbers of names.
use Rattle.std.specs.Prelude.{ℕ, zero, suc, ◌+◌, ◌==◌, List, [], ◌∷◌, ◌++◌, length, map, filter_map, slice_get, slice_index_or, if◌then◌else◌, Option, Some, None, option_map, Bool}
use Rattle.name_entries.specs.linking_section.declared.symbol.SymbolKind.TheVariants.{Function}
use Rattle.name_entries.specs.linking_section.declared.init.InitFunc.{InitFunc}
use Rattle.name_entries.specs.linking_section.Flags.{kind_code}
use Rattle.name_entries.specs.reloc_section.declared.entry.Reloc.{Reloc}
use Rattle.name_entries.specs.body_windows.declared.operand.Operand.{Operand}
use Rattle.name_entries.specs.object_columns.declared.functions.FunctionDef.{FunctionDef}
use Rattle.name_entries.specs.object_columns.declared.segments.SegmentDef.{SegmentDef}
use Rattle.name_entries.specs.object_file.declared.object.Object.{Object}
use Rattle.name_entries.specs.name_rules.Entries.{InputSymbol, is_kind}
use Rattle.name_entries.specs.name_rules.Meanings.{Use, use_of, operand_use, is_init_use}
use Rattle.name_entries.specs.View.{rows_of, entry_number}
use Rattle.name_entries.specs.Parts.{has_flag}
use Rattle.name_entries.specs.declared.entry.EntryRef.{EntryRef}
use Rattle.name_entries.specs.declared.parts.ObjectParts.{ObjectParts}
use Rattle.name_entries.specs.declared.lookups.Entries.{Entries}
use Rattle.name_uses.specs.declared.found.NameUse.{NameUse}

-- ---- one use

abbrev pub numbered : ℕ → ℕ → NameUse
numbered kind n = record { number = n; calls = kind == 0 }

-- A use of a function whose symbol is an entry of its name.
abbrev pub told_use : List (List ℕ) → Option Use → Option NameUse
told_use names None = None
told_use names (Some u) = if is_kind Function u.entry then option_map (numbered u.kind) (entry_number names u.entry) else None

-- The same of a lent entry.
abbrev pub use_seen : EntryRef → ℕ → Option NameUse
use_seen r kind = if kind_code r.symbol.kind == kind_code Function then option_map (numbered kind) r.number else None

abbrev pub row_of : Entries → ℕ → List InputSymbol
row_of es object = slice_index_or (rows_of es.objects.now) object []

abbrev pub told_operand : List (List ℕ) → List InputSymbol → Operand → Option NameUse
told_operand names row operand = told_use names (operand_use row operand)

abbrev pub told_window : List (List ℕ) → List InputSymbol → Reloc → Option NameUse
told_window names row w = told_use names (use_of w.kind (slice_get row w.index))

-- An init entry that is skipped calls nothing.
abbrev pub kept_init : Option Use → Option Use
kept_init None = None
kept_init (Some u) = if is_init_use u.entry then Some u else None

abbrev pub told_init : List (List ℕ) → List InputSymbol → InitFunc → Option NameUse
told_init names row i = told_use names (kept_init (use_of 0 (slice_get row i.symbol)))

-- ---- the uses of an object

abbrev pub operands_told : List (List ℕ) → List InputSymbol → FunctionDef → List NameUse
operands_told names row f = filter_map (told_operand names row) f.operands

abbrev pub windows_told : List (List ℕ) → List InputSymbol → SegmentDef → List NameUse
windows_told names row g = filter_map (told_window names row) g.windows

-- Those of the parts that have no flag, from an index on.
abbrev pub kept_told : List Bool → ℕ → List (List NameUse) → List NameUse
kept_told flags index [] = []
kept_told flags index (us ∷ uss) = (if has_flag flags index then [] else us) ++ kept_told flags (index + 1) uss

abbrev pub told_in : List (List ℕ) → List InputSymbol → Object → ObjectParts → List NameUse
told_in names row o p =
    kept_told p.dropped_functions (length p.imports.functions) (map (operands_told names row) o.functions)
    ++ kept_told p.dropped_segments 0 (map (windows_told names row) o.segments)
    ++ filter_map (told_init names row) o.inits

abbrev pub told_with : Entries → ℕ → Option Object → Option ObjectParts → List NameUse
told_with es object (Some o) (Some p) = told_in es.names.now.names (row_of es object) o p
told_with es object (Some o) None = []
told_with es object None p = []

unfoldable pub told_at : Entries → ℕ → List NameUse
told_at es object = told_with es object (slice_get es.objects.now object) (slice_get es.parts.now object)

-- The uses of the first objects.
abbrev pub told_upto : Entries → ℕ → List NameUse
told_upto es zero = []
told_upto es (suc n) = told_upto es n ++ told_at es n

-- The types of functions, in their order, and those that windows name.
use Rattle.std.specs.Prelude.{ℕ, ◌+◌, ◌-◌, nat_lt, if◌then◌else◌, Bool, true, false, List, [], ◌∷◌, ◌++◌, map, filter_map, fold, length, slice_get, slice_index_or, Option, Some, None}
use Rattle.link_program.specs.wasm_types.declared.function.FuncType.{FuncType}
use Rattle.link_program.specs.wasm_types.Same.{same_type}
use Rattle.link_program.specs.object_file.declared.object.Object.{Object}
use Rattle.link_program.specs.object_file.Spaces.{no_type}
use Rattle.link_program.specs.name_rules.Entries.{InputSymbol, ImportKey, SymbolType, untyped}
use Rattle.link_program.specs.name_entries.View.{entry_at}
use Rattle.link_program.specs.type_merge.Types.{with_type}
use Rattle.link_program.specs.index_layout.Numbers.{number_by}
use Rattle.link_program.specs.link_rules.Keys.{function_type_of}
use Rattle.link_program.specs.declared.part.Content.{Content}
use Rattle.link_program.specs.declared.part.Content.TheVariants as contents
use Rattle.link_program.specs.declared.part.Part.{Part}
use Rattle.link_program.specs.declared.program.Tables.{Tables}
use Rattle.link_keys.specs.declared.firsts.At.{At}
use Rattle.link_keys.specs.declared.types.StubTypes.{StubTypes as Known}
use Rattle.link_program.specs.Look.{part_at}
use Rattle.link_keys.specs.Noted.{Noted, where_so}
use Rattle.link_keys.specs.Lists.{function_imports, is_own, stubs_listed}

-- ---- the types of functions

-- the type of this number
abbrev pub type_at : List FuncType → ℕ → FuncType
type_at types n = slice_index_or types n no_type

abbrev pub kept_type : Option ImportKey → FuncType
kept_type None = no_type
kept_type (Some k) = function_type_of k.type

abbrev pub import_types : List ImportKey → List Bool → List FuncType
import_types imports flags = map (λ i. kept_type (slice_get imports i)) (function_imports imports flags)

abbrev pub content_type_at : List FuncType → Content → FuncType
content_type_at types (contents.Function number) = type_at types number
content_type_at types (contents.Segment align flags) = no_type
content_type_at types (contents.Global kind value) = no_type
content_type_at types contents.Made = no_type

-- The linker's functions are () to ().
abbrev pub content_by : Bool → Content → Content
content_by true content = contents.Made
content_by false content = content

abbrev pub type_by : Bool → List FuncType → Content → FuncType
type_by linkers types content = content_type_at types (content_by linkers content)

abbrev pub type_in : Bool → List FuncType → Part → Option FuncType
type_in linkers types part = where_so (is_own 0 linkers part.chunk) (Some (type_by linkers types part.content))

abbrev pub own_types : Bool → Tables → List ℕ → List FuncType
own_types linkers t live = filter_map (λ n. type_in linkers t.types (part_at t n)) live

abbrev pub symbol_type : Option InputSymbol → SymbolType
symbol_type None = untyped
symbol_type (Some e) = e.type

abbrev pub first_type : List Object → Option At → FuncType
first_type objects None = no_type
first_type objects (Some at) = function_type_of (symbol_type (entry_at objects at.object at.place))

-- What is known of the types of stubs: the objects, the column of the least entries of names, all types, and those of the variants, which
-- have the last names.
pub record StubTypes : Type 0 where
  pub objects : List Object
  pub firsts : List (Option At)
  pub types : List FuncType
  pub variants : List ℕ

abbrev pub variant_number : ℕ → List ℕ → ℕ → Option ℕ
variant_number names variants n = if nat_lt (n + length variants) names then None else slice_get variants (n + length variants - names)

abbrev pub stub_by : StubTypes → ℕ → Option ℕ → FuncType
stub_by x n None = first_type x.objects (slice_index_or x.firsts n None)
stub_by x n (Some k) = type_at x.types k

abbrev pub stubs_seen : List Object → Known → StubTypes
stubs_seen objects x = record { objects = objects; firsts = x.firsts.now; types = x.types.now; variants = x.variants.now }

-- The type of the stub of a name, of so many names.
abbrev pub stub_type : StubTypes → ℕ → ℕ → FuncType
stub_type x names n = stub_by x n (variant_number names x.variants n)

abbrev pub stub_types : StubTypes → List Bool → ℕ → List FuncType
stub_types x flags names = map (stub_type x names) (stubs_listed flags names)

-- ---- their numbers

abbrev pub type_number_in : List FuncType → FuncType → ℕ
type_number_in types t = number_by same_type types t

-- The different types that were added, and the numbers of those that functions have.
pub record TypeLists : Type 0 where
  pub table : List FuncType
  pub numbers : List ℕ

-- One type more, with its number.
abbrev pub with_numbered : TypeLists → FuncType → TypeLists
with_numbered x t = record { table = with_type x.table t; numbers = x.numbers ++ type_number_in (with_type x.table t) t ∷ [] }

abbrev pub window_type : List FuncType → List FuncType → ℕ → List FuncType
window_type types table n = with_type table (type_at types n)

abbrev pub with_window : List FuncType → TypeLists → ℕ → TypeLists
with_window types x n = record { table = window_type types x.table n; numbers = x.numbers }

-- The types that windows name are added.
abbrev pub with_windows : List FuncType → TypeLists → List ℕ → TypeLists
with_windows types x windows = record { table = fold (window_type types) x.table windows; numbers = x.numbers }

abbrev pub no_types : TypeLists
no_types = record { table = []; numbers = [] }

-- The types of all functions, in their order, and then those that windows name.
abbrev pub types_listed : List ImportKey → ℕ → Tables → List Object → List (Option At) → List ℕ → Noted → TypeLists
types_listed imports names t objects firsts live m =
    with_windows t.types (fold with_numbered (fold with_numbered (fold with_numbered (fold with_numbered no_types
    (import_types imports m.imports)) (own_types true t live)) (stub_types (record { objects = objects; firsts = firsts; types = t.types; variants = t.variants }) m.stubs names))
    (own_types false t live)) m.windows

-- The winner of a name, and what symbols mean.
use Rattle.std.specs.Prelude.{ℕ, ◌+◌, ◌==◌, nat_lt, Bool, true, false, not, ◌&&◌, ◌||◌, List, [], ◌∷◌, ◌++◌, filter, map, flat_map, if◌then◌else◌, Option, Some, None, unwrap_or, option_map, length, filter_map, slice_get, codes}
use Rattle.std.specs.List.{list_any}
use Rattle.object_file.specs.wl_base.Choice.{first_some, given, has_name}
use Rattle.object_file.specs.wasm_types.declared.value.ValType.TheVariants.{I32}
use Rattle.symbol_race.specs.Ranks.{rank_of}
use Rattle.object_file.specs.body_windows.declared.operand.Operand.{Operand}
use Rattle.object_file.specs.body_windows.declared.operand.Operand.TheVariants as operands
use Rattle.object_file.specs.linking_section.declared.member_kinds.TheConstants as members
use Rattle.object_file.specs.reloc_section.declared.kinds.TheConstants as relocs
use Rattle.made_symbols.specs.declared.mode.Mode.{Mode}
use Rattle.made_symbols.specs.declared.mode.Mode.TheVariants.{Plain, Shared}
use Rattle.object_file.specs.linking_section.declared.symbol.SymbolKind.TheVariants.{Function, Datum, GlobalVar}
use Rattle.object_file.specs.linking_section.Flags.{is_weak, is_explicit, is_undefined, is_local_definition}
use Rattle.object_file.specs.declared.object.Object.{Object}
use Rattle.object_file.specs.Spaces.{function_imports}
use Rattle.name_rules.specs.Entries.{InputSymbol, ImportKey, of_global, is_kept, name_of, named, is_kind, is_entry, same_import, same_entry, symbols_of}

-- ---- winners

-- The rank of a definition: by class, then input, then place. The least wins.
abbrev pub entry_rank : InputSymbol → ℕ
entry_rank e = rank_of e.class e.input e.place

abbrev pub lesser : InputSymbol → Option InputSymbol → Option InputSymbol
lesser e None = Some e
lesser e (Some f) = if nat_lt (entry_rank f) (entry_rank e) then Some f else Some e

-- The entry of least rank.
abbrev pub least : List InputSymbol → Option InputSymbol
least [] = None
least (e ∷ es) = lesser e (least es)

-- The definitions of a name: its entries that define it, in kept parts of loaded objects or by the linker.
abbrev pub definitions : List InputSymbol → List ℕ → List InputSymbol
definitions all name = filter (λ e. e.defines) (named all name)

-- The winner of a name: its definition of least rank.
abbrev pub winner : List InputSymbol → List ℕ → Option InputSymbol
winner all name = least (definitions all name)

-- ---- uses: which functions are called by name, and of which the address is used. Only a shared output asks

pub record Uses : Type 0 where
  pub called : List (List ℕ)
  pub addressed : List (List ℕ)

abbrev pub no_uses : Uses
no_uses = record { called = []; addressed = [] }

-- A window of a kept part, or an init entry: its relocation's type (FUNCTION_INDEX_LEB for an init entry, which calls) and its symbol.
pub record Use : Type 0 where
  pub kind : ℕ
  pub entry : InputSymbol

abbrev pub use_of : ℕ → Option InputSymbol → Option Use
use_of kind o = option_map (λ e. record { kind = kind; entry = e }) o

abbrev pub operand_use : List InputSymbol → Operand → Option Use
operand_use symbols operands.Number = None
operand_use symbols (operands.Symbol kind place symbol addend) = use_of kind (slice_get symbols symbol)
operand_use symbols (operands.TypeRef place index) = None
operand_use symbols operands.TableZero = None

-- the uses of the kept parts of one kind, from an index on
abbrev pub kept_from : List Object → Object → ℕ → ℕ → List (List Use) → List Use
kept_from objects o kind index [] = []
kept_from objects o kind index (us ∷ uss) = (if is_kept objects o kind index then us else []) ++ kept_from objects o kind (index + 1) uss

-- an init entry whose symbol is defined in a part that isn't kept is skipped
abbrev pub is_init_use : InputSymbol → Bool
is_init_use e = e.defines || is_undefined e.symbol

abbrev pub uses_with : List Object → Object → List InputSymbol → List Use
uses_with objects o symbols =
    kept_from objects o members.FUNCTION (length (function_imports o)) (map (λ f. filter_map (operand_use symbols) f.operands) o.functions)
    ++ kept_from objects o members.DATA 0 (map (λ g. filter_map (λ w. use_of w.kind (slice_get symbols w.index)) g.windows) o.segments)
    ++ filter (λ u. is_init_use u.entry) (filter_map (λ i. use_of relocs.FUNCTION_INDEX_LEB (slice_get symbols i.symbol)) o.inits)

abbrev pub uses_in : List Object → Object → List Use
uses_in objects o = filter (λ u. is_kind Function u.entry && is_entry u.entry) (uses_with objects o (symbols_of objects o))

abbrev pub names_used : (Use → Bool) → List Use → List (List ℕ)
names_used test us = map (λ u. name_of u.entry) (filter test us)

abbrev pub uses_split : List Use → Uses
uses_split us = record { called = names_used (λ u. u.kind == relocs.FUNCTION_INDEX_LEB) us; addressed = names_used (λ u. not (u.kind == relocs.FUNCTION_INDEX_LEB)) us }

abbrev pub uses_of : Mode → List Object → Uses
uses_of Plain objects = no_uses
uses_of Shared objects = uses_split (flat_map (uses_in objects) objects)

-- ---- meanings

-- A symbol means a definition, of an object or of the linker; an import; null; or nothing, and then it is unresolved where it is used.
pub data Meaning : Type 0 where
  here : InputSymbol → Meaning
  imported : ImportKey → Meaning
  null : Meaning
  nothing : Meaning

-- The references of a name: its entries that define nothing.
abbrev pub references : List InputSymbol → List InputSymbol
references es = filter (λ e. not e.defines) es

-- The import of the least of these that stands on one.
abbrev pub least_import : List InputSymbol → Option ImportKey
least_import es = first_some (map (λ e. e.import) es)

-- A function or global of which some reference is strong may be imported with `--allow-undefined`.
abbrev pub may_import : List InputSymbol → InputSymbol → Bool
may_import es e = (is_kind Function e || is_kind GlobalVar e) && list_any (λ r. not (is_weak r.symbol)) (references es)

-- A function or datum may be null where its own symbol is WEAK.
abbrev pub may_be_null : InputSymbol → Bool
may_be_null e = is_weak e.symbol && (is_kind Function e || is_kind Datum e)

abbrev pub where_given : {A : Type 0} → Bool → Option A → Option A
where_given true o = o
where_given false o = None

-- The cell in which the loader of a shared output puts a foreign address: a mutable global (DynamicLinking.md, "GOT.mem" and
-- "GOT.func").
abbrev pub cell_of : InputSymbol → ImportKey
cell_of e = record {
  module_name = if is_kind Function e then codes "GOT.func" else codes "GOT.mem";
  field = name_of e;
  type = of_global (record { kind = I32; var = true });
}

abbrev pub is_called : Uses → InputSymbol → Bool
is_called uses e = is_kind Function e && has_name uses.called (name_of e)

-- whether the symbol is known by its address alone
abbrev pub is_address : Uses → InputSymbol → Bool
is_address uses e = is_kind Datum e || (is_kind Function e && has_name uses.addressed (name_of e) && not (has_name uses.called (name_of e)))

-- The rules in their order, over the entries of the symbol's name. In a plain output: the winner; the import of the least
-- EXPLICIT_NAME reference that stands on one; with `--allow-undefined`, that of the least reference that stands on one; null, for a
-- WEAK function or datum. In a shared output what has no winner is foreign: it is imported to be called or as a global, or its address stands in a cell.
abbrev pub rules : Mode → Uses → Bool → List InputSymbol → InputSymbol → List (Option Meaning)
rules Shared uses allow es e =
    option_map here (least (filter (λ d. d.defines) es))
    ∷ option_map imported (least_import (filter (λ r. is_explicit r.symbol) (references es)))
    ∷ option_map imported (where_given (is_called uses e || is_kind GlobalVar e) (least_import (references es)))
    ∷ given (is_address uses e) (imported (cell_of e))
    ∷ []
rules Plain uses allow es e =
    option_map here (least (filter (λ d. d.defines) es))
    ∷ option_map imported (least_import (filter (λ r. is_explicit r.symbol) (references es)))
    ∷ option_map imported (where_given (allow && may_import es e) (least_import (references es)))
    ∷ given (may_be_null e) null
    ∷ []

-- The first rule that applies decides; where none does, the symbol means nothing.
abbrev pub by_rules : Mode → Uses → Bool → List InputSymbol → InputSymbol → Meaning
by_rules mode uses allow es e = unwrap_or (first_some (rules mode uses allow es e)) nothing

-- A symbol that is no entry of a name, a local definition or the symbol of a section, means itself, unless its part isn't kept.
abbrev pub own_meaning : InputSymbol → Meaning
own_meaning e = if e.defines then here e else nothing

-- What a symbol means, by all entries: an entry by the rules over the entries of its name, any other symbol itself.
abbrev pub meaning : Mode → Uses → Bool → List InputSymbol → InputSymbol → Meaning
meaning mode uses allow all e = if is_entry e then by_rules mode uses allow (named all (name_of e)) e else own_meaning e

-- The symbols of an object, and what they mean.
pub record Resolved : Type 0 where
  pub object : Object
  pub symbols : List InputSymbol
  pub meanings : List Meaning

abbrev pub resolved_in : Mode → Uses → Bool → List InputSymbol → List Object → Object → Resolved
resolved_in mode uses allow all objects o =
    record { object = o; symbols = symbols_of objects o; meanings = map (meaning mode uses allow all) (symbols_of objects o) }

abbrev pub resolve_with : Mode → Uses → Bool → List InputSymbol → List Object → List Resolved
resolve_with mode uses allow all objects = map (resolved_in mode uses allow all objects) objects

-- The symbols of all loaded objects, and what they mean. The flag is `--allow-undefined`.
unfoldable pub resolve : Mode → Bool → List InputSymbol → List Object → List Resolved
resolve mode allow all objects = resolve_with mode (uses_of mode objects) allow all objects

-- ---- equality

abbrev pub same_meaning : Meaning → Meaning → Bool
same_meaning (here a) (here b) = same_entry a b
same_meaning (imported a) (imported b) = same_import a b
same_meaning null null = true
same_meaning nothing nothing = true
same_meaning a b = false

abbrev pub is_nothing : Meaning → Bool
is_nothing m = same_meaning m nothing

-- The least clash and the least duplicate definition.
use Rattle.std.specs.Prelude.{ℕ, ◌==◌, Bool, true, false, not, ◌&&◌, ◌||◌, List, [], ◌∷◌, ◌++◌, filter, find, Option, Some, None, option_map, option_and_then, bytes_eq}
use Rattle.object_file.specs.wl_base.Choice.{first_some}
use Rattle.object_file.specs.wl_base.declared.fault.Fault.{Fault}
use Rattle.object_file.specs.wl_base.declared.fault.Fault.TheVariants.{Clash, Duplicate}
use Rattle.object_file.specs.linking_section.declared.symbol.SymbolKind.TheVariants.{Function}
use Rattle.object_file.specs.linking_section.Flags.{is_explicit}
use Rattle.name_rules.specs.Entries.{InputSymbol, ImportKey, name_of, is_named, is_entry, is_kind, same_entry, same_symbol_type}
use Rattle.name_rules.specs.Meanings.{where_given}

-- The module and field that an entry names itself, by EXPLICIT_NAME.
abbrev pub explicit_import : InputSymbol → Option ImportKey
explicit_import e = where_given (is_explicit e.symbol) e.import

-- whether both are there and name different modules or fields
abbrev pub differ : Option ImportKey → Option ImportKey → Bool
differ None b = false
differ (Some a) None = false
differ (Some a) (Some b) = not (bytes_eq a.module_name b.module_name && bytes_eq a.field b.field)

-- Two entries of a name clash where they differ in kind or in type, or where both name an import themselves and name different ones.
abbrev pub clashes_with : InputSymbol → InputSymbol → Bool
clashes_with a e = not (is_kind a.symbol.kind e && same_symbol_type a.type e.type) || differ (explicit_import a) (explicit_import e)

-- The least entry of a name, by input and place.
abbrev pub first_entry : List InputSymbol → List ℕ → Option InputSymbol
first_entry all name = find (is_named name) all

abbrev pub passes : (InputSymbol → Bool) → Option InputSymbol → Bool
passes test None = false
passes test (Some e) = test e

-- An entry is compared with the least one of its name alone.
abbrev pub clashes : List InputSymbol → InputSymbol → Bool
clashes all e = passes (λ a. clashes_with a e) (first_entry all (name_of e))

abbrev pub clash_of : InputSymbol → InputSymbol → Fault
clash_of e a = Clash (name_of e) a.input e.input

-- The least entry that clashes with the least one of its name, among live and dead entries alike.
unfoldable pub clash : List InputSymbol → Option Fault
clash all = option_and_then (λ e. option_map (clash_of e) (first_entry all (name_of e))) (find (clashes all) all)

-- ---- clashes in a link that is like lld's

-- The entry of a name that the others are judged by: the least definition, or where there is none the least entry.
abbrev pub judge : List InputSymbol → List ℕ → Option InputSymbol
judge all name = first_entry (filter (λ e. e.defines) all ++ all) name

-- A function that is no definition may have another type than the definition of its name: what calls it so, traps.
abbrev pub may_differ : InputSymbol → InputSymbol → Bool
may_differ a e = is_kind Function e && a.defines && not e.defines

abbrev pub breaks : InputSymbol → InputSymbol → Bool
breaks a e = not (is_kind a.symbol.kind e && (may_differ a e || same_symbol_type a.type e.type))

-- whether it does
abbrev pub mismatches : InputSymbol → InputSymbol → Bool
mismatches a e = may_differ a e && not (same_symbol_type a.type e.type)

-- A function that is no definition, and has another type than the definition of its name. All definitions of a name have one type, or
-- there is a clash.
abbrev pub has_other_type : List InputSymbol → InputSymbol → Bool
has_other_type all e = is_entry e && passes (λ a. mismatches a e) (judge all (name_of e))

abbrev pub differs : InputSymbol → InputSymbol → Bool
differs a e = differ (explicit_import a) (explicit_import e)

-- The least entry that can't stand beside the one that is looked up for its name.
abbrev pub clash_beside : (InputSymbol → InputSymbol → Bool) → (List ℕ → Option InputSymbol) → List InputSymbol → Option Fault
clash_beside test beside all =
    option_and_then (λ e. option_map (clash_of e) (beside (name_of e))) (find (λ e. passes (λ a. test a e) (beside (name_of e))) all)

-- The least entry that names another import than the least entry of its name; and the least one that differs in kind or type.
abbrev pub other_import : List InputSymbol → Option Fault
other_import all = clash_beside differs (first_entry all) all

abbrev pub broken : List InputSymbol → Option Fault
broken all = clash_beside breaks (judge all) all

unfoldable pub loose_clash : List InputSymbol → Option Fault
loose_clash all = first_some (other_import all ∷ broken all ∷ [])

-- The flag is whether the link is like lld's.
abbrev pub clash_by : Bool → List InputSymbol → Option Fault
clash_by false all = clash all
clash_by true all = loose_clash all

-- ---- duplicates

abbrev pub is_strong : InputSymbol → Bool
is_strong e = e.defines && (e.class == 0)

-- The least strong definition of a name.
abbrev pub first_strong : List InputSymbol → List ℕ → Option InputSymbol
first_strong all name = find (λ e. is_strong e && is_named name e) all

-- A strong definition is a duplicate where a lesser one of its name is there.
abbrev pub is_duplicate : List InputSymbol → InputSymbol → Bool
is_duplicate all e = is_strong e && passes (λ a. not (same_entry a e)) (first_strong all (name_of e))

abbrev pub duplicate_of : InputSymbol → InputSymbol → Fault
duplicate_of e a = Duplicate (name_of e) a.input e.input

-- The least duplicate.
unfoldable pub duplicate : List InputSymbol → Option Fault
duplicate all = option_and_then (λ e. option_map (duplicate_of e) (first_strong all (name_of e))) (find (is_duplicate all) all)

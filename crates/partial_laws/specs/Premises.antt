-- What the law of partial links asks of the program of the run alone, and of that of the whole link: tests that compute.
use Rattle.std.specs.Prelude.{ℕ, ◌==◌, Bool, true, false, not, ◌&&◌, ◌||◌, List, [], filter, filter_map, flat_map, is_some, bytes_eq, Option, Some, None, Result, Ok, Err, unwrap_or}
use Rattle.std.specs.List.{list_any, list_all}
use Rattle.name_rules.specs.object_file.wl_base.Choice.{◌>>=◌, has_name}
use Rattle.name_rules.specs.object_file.wl_base.declared.fault.Fault.{Fault}
use Rattle.name_rules.specs.object_file.linking_section.declared.symbol.Symbol.{Symbol}
use Rattle.name_rules.specs.object_file.linking_section.declared.symbol.SymbolKind.{SymbolKind}
use Rattle.name_rules.specs.object_file.linking_section.declared.symbol.SymbolKind.TheVariants.{Function, Datum, GlobalVar, Section, Table}
use Rattle.name_rules.specs.object_file.linking_section.declared.group.Group.{Group}
use Rattle.name_rules.specs.object_file.linking_section.declared.member_kinds.TheConstants as members
use Rattle.name_rules.specs.object_file.linking_section.Flags.{is_weak, is_definition}
use Rattle.name_rules.specs.object_file.declared.object.Object.{Object}
use Rattle.made_symbols.specs.declared.mode.Mode.TheVariants.{Plain}
use Rattle.round_rules.specs.Rounds.{load}
use Rattle.name_rules.specs.Entries.{InputSymbol, is_kind, is_entry, is_named, name_of, has_member}
use Rattle.name_rules.specs.Meanings.{least_import, winner}
use Rattle.name_rules.specs.Cases.{explicit_import, differ}
use Rattle.link_plan.specs.declared.plan.Plan.{Plan}
use Rattle.link_rules.specs.Candidates.{Readers, candidates_of}
use Rattle.link_rules.specs.Program.{Program, InitCall, init_calls_in, program_of}
use Rattle.link_rules.specs.LinkOf.{asked_names}
use Rattle.partial_rules.specs.Partial.{name_references, standing, is_open}

-- ---- programs

-- The program that a plain link is of, where its objects can be loaded.
abbrev pub program_by : Readers → Plan → List (List ℕ) → Result Program Fault
program_by readers plan files = do
  all ← candidates_of readers plan files
  objects ← load Plain (asked_names plan) all
  Ok (program_of Plain plan files all objects)

-- The test holds of it; of one that can't be loaded every test does.
abbrev pub holds : (Program → Bool) → Result Program Fault → Bool
holds test (Ok p) = test p
holds test (Err fault) = true

-- ---- of the run alone

abbrev pub open_symbols : Program → List InputSymbol
open_symbols p = filter (is_open p) (standing p)

-- The references of an open name are all WEAK, or none is.
abbrev pub are_alike : List InputSymbol → Bool
are_alike refs = list_all (λ r. is_weak r.symbol) refs || not (list_any (λ r. is_weak r.symbol) refs)

abbrev pub is_uniform : Program → Bool
is_uniform p = list_all (λ e. are_alike (name_references p (name_of e))) (open_symbols p)

-- An open name is that of a datum, or has a reference that stands on an import.
abbrev pub is_grounded : Program → Bool
is_grounded p = list_all (λ e. is_kind Datum e || is_some (least_import (name_references p (name_of e)))) (open_symbols p)

abbrev pub is_member_of : Group → Symbol → SymbolKind → Bool
is_member_of g s Function = has_member members.FUNCTION s.index g
is_member_of g s Datum = has_member members.DATA s.index g
is_member_of g s GlobalVar = false
is_member_of g s Section = false
is_member_of g s Table = false

-- What an object defines in a group that other objects see.
abbrev pub members_of : Object → Group → List Symbol
members_of o g = filter (λ s. is_definition s && is_member_of g s s.kind) o.symbols

abbrev pub names_in_groups : List Object → List (List ℕ)
names_in_groups objects = flat_map (λ o. flat_map (λ g. filter_map (λ s. s.name) (members_of o g)) o.groups) objects

abbrev pub wins_in : ℕ → Option InputSymbol → Bool
wins_in input None = false
wins_in input (Some w) = w.input == input

-- An init entry names a local symbol, a name that no group defines, or one whose winner is in its own object.
abbrev pub init_stands : Program → InitCall → Bool
init_stands p c =
    not (is_entry c.ref.entry) || not (has_name (names_in_groups p.objects) (name_of c.ref.entry))
    || wins_in c.ref.entry.input (winner p.entries (name_of c.ref.entry))

abbrev pub inits_stand : Program → Bool
inits_stand p = list_all (init_stands p) (flat_map init_calls_in p.resolved)

-- ---- of the whole link

-- The imports that EXPLICIT_NAME references of one name stand on agree, among all loaded objects.
abbrev pub explicit_among : List InputSymbol → Bool
explicit_among es = list_all (λ a. list_all (λ b. not (is_named (name_of a) b) || not (differ (explicit_import a) (explicit_import b))) es) es

abbrev pub explicit_agree : Program → Bool
explicit_agree p = explicit_among p.entries

-- Two symbols of one name and the same flags.
abbrev pub same_symbol : Symbol → Symbol → Bool
same_symbol s t = bytes_eq (unwrap_or s.name []) (unwrap_or t.name []) && (s.flags == t.flags)

abbrev pub all_among : List Symbol → List Symbol → Bool
all_among ss ts = list_all (λ s. list_any (same_symbol s) ts) ss

abbrev pub group_agrees : Object → Group → Object → Group → Bool
group_agrees o g other h = not (bytes_eq g.name h.name) || all_among (members_of o g) (members_of other h)

-- All loaded objects that have a group of a name define the same names with the same flags in it.
abbrev pub groups_among : List Object → Bool
groups_among objects = list_all (λ o. list_all (λ g. list_all (λ other. list_all (group_agrees o g other) other.groups) objects) o.groups) objects

abbrev pub groups_agree : Program → Bool
groups_agree p = groups_among p.objects

-- The lost symbols of objects: local definitions in parts that aren't kept, and the first that a kept part of its object names.
use Rattle.std.specs.Prelude.{ℕ, ◌+◌, not, ◌&&◌, Bool, false, List, [], ◌∷◌, slice_index_or, if◌then◌else◌, Option, Some, None, option_map}
use Rattle.std.specs.List.{list_any}
use Rattle.link_program.specs.wl_base.Choice.{first_some}
use Rattle.link_program.specs.wl_base.declared.fault.Fault.{Fault}
use Rattle.link_program.specs.wl_base.declared.fault.Fault.TheVariants.{Unresolved}
use Rattle.link_program.specs.linking_section.Flags.{is_local_definition}
use Rattle.link_program.specs.object_file.declared.object.Object.{Object}
use Rattle.link_program.specs.name_rules.Entries.{InputSymbol, name_of, symbols_of}
use Rattle.link_program.specs.name_entries.declared.parts.ObjectParts.{ObjectParts}
use Rattle.partial_open.specs.Named.{flags_of}

abbrev pub is_lost : InputSymbol → Bool
is_lost e = is_local_definition e.symbol && not e.defines

abbrev pub is_lost_one : Option InputSymbol → Bool
is_lost_one None = false
is_lost_one (Some e) = is_lost e

abbrev pub fault_of : InputSymbol → Fault
fault_of e = Unresolved (name_of e) e.input

-- The first symbol that is lost and has a flag, of those from a place on.
abbrev pub first_flagged : List Bool → ℕ → List InputSymbol → Option InputSymbol
first_flagged flags place [] = None
first_flagged flags place (e ∷ es) = if is_lost e && slice_index_or flags place false then Some e else first_flagged flags (place + 1) es

-- An object without lost symbols has none.
abbrev pub object_fault : List Object → Object → ObjectParts → Option Fault
object_fault objects o parts =
    if list_any is_lost (symbols_of objects o) then option_map fault_of (first_flagged (flags_of o parts) 0 (symbols_of objects o)) else None

-- The first fault of objects.
abbrev pub first_fault : List Object → List Object → List ObjectParts → Option Fault
first_fault objects [] pss = None
first_fault objects (o ∷ os) [] = None
first_fault objects (o ∷ os) (parts ∷ pss) = first_some (object_fault objects o parts ∷ first_fault objects os pss ∷ [])

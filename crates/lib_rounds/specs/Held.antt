-- What is kept of each candidate while inputs are loaded.
use Rattle.std.specs.Prelude.{Bool, true, false, List, [], filter_map, Option, Some, None, if◌then◌else◌, Result, Ok, Err, ℕ}
use Rattle.std.specs.Global.{Box}
use Rattle.object_file.specs.wl_base.declared.fault.Fault.{Fault}
use Rattle.object_file.specs.linking_section.declared.symbol.Symbol.{Symbol}
use Rattle.object_file.specs.declared.object.Object.{Object}
use Rattle.round_rules.specs.Rounds.{Candidate}

-- An object that isn't read; that is read and not loaded; that is loaded.
pub data Held : Type 0 where
  absent : Held
  waiting : Object → Held
  loaded : Object → Held

abbrev pub holding : Bool → Object → Held
holding true o = loaded o
holding false o = waiting o

abbrev pub held_seen : Bool → Option (Box Object) → Held
held_seen is_loaded None = absent
held_seen is_loaded (Some b) = holding is_loaded b.value

abbrev pub loaded_in : Held → Option Object
loaded_in absent = None
loaded_in (waiting o) = None
loaded_in (loaded o) = Some o

abbrev pub object_held : Held → Option Object
object_held absent = None
object_held (waiting o) = Some o
object_held (loaded o) = Some o

abbrev pub is_loaded_slot : Held → Bool
is_loaded_slot absent = false
is_loaded_slot (waiting o) = false
is_loaded_slot (loaded o) = true

abbrev pub is_waiting_slot : Held → Bool
is_waiting_slot absent = false
is_waiting_slot (waiting o) = true
is_waiting_slot (loaded o) = false

abbrev pub as_loaded : Held → Held
as_loaded absent = absent
as_loaded (waiting o) = loaded o
as_loaded (loaded o) = loaded o

abbrev pub loaded_objects : List Held → List Object
loaded_objects slots = filter_map loaded_in slots

-- What is held of a candidate: by whether it is loaded, whether it is a member, and its object.
abbrev pub held_as : Bool → Bool → Result Object Fault → Held
held_as l m (Err fault) = absent
held_as true m (Ok o) = loaded o
held_as false true (Ok o) = absent
held_as false false (Ok o) = waiting o

-- by which candidates are loaded
abbrev pub held_by : (Candidate → Bool) → Candidate → Held
held_by is_loaded c = held_as (is_loaded c) c.is_member c.object

-- the name of a symbol that passes a test
abbrev pub name_if : (Symbol → Bool) → Symbol → Option (List ℕ)
name_if test s = if test s then s.name else None

-- the lists behind the first one, where there are any
abbrev pub further : {X : Type 0} → Option (Box (List X)) → List X
further None = []
further (Some b) = b.value

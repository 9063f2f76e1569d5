-- Which init functions would be lost, as the data tell it.
use Rattle.std.specs.Prelude.{ℕ, ◌+◌, ◌&&◌, ◌||◌, Bool, false, List, [], ◌∷◌, length, slice_index_or, Option, Some, None}
use Rattle.std.specs.List.{list_any}
use Rattle.link_marks.specs.link_program.linking_section.declared.init.InitFunc.{InitFunc}
use Rattle.link_marks.specs.link_program.object_file.declared.object.Object.{Object}
use Rattle.link_marks.specs.link_program.name_rules.Entries.{InputSymbol, symbols_of}
use Rattle.link_marks.specs.link_program.name_rules.Meanings.{is_init_use}
use Rattle.link_marks.specs.link_program.name_entries.View.{entry_at}
use Rattle.link_marks.specs.link_program.declared.program.Tables.{Tables}
use Rattle.link_marks.specs.link_program.Seen.{no_symbol}
use Rattle.link_marks.specs.Seen.{led_number}
use Rattle.lost_ctors.specs.declared.alive.Alive.{Alive}
use Rattle.lost_ctors.specs.Alive.{lives_beside, alive_of}

-- the number of the part to which a symbol leads
abbrev pub own_part : Tables → ℕ → Option ℕ
own_part t number = led_number t.chunks (slice_index_or t.symbols number no_symbol).lead

-- An init function isn't skipped, and another part of its object is live.
abbrev pub lost_by : Tables → Alive → ℕ → Option InputSymbol → Bool
lost_by t alive number None = false
lost_by t alive number (Some e) = is_init_use e && lives_beside alive (own_part t number)

abbrev pub init_lost : Tables → List Object → Alive → ℕ → ℕ → InitFunc → Bool
init_lost t objects alive object first i = lost_by t alive (first + i.symbol) (entry_at objects object i.symbol)

abbrev pub inits_lost : Tables → List Object → Alive → ℕ → ℕ → List InitFunc → Bool
inits_lost t objects alive object first inits = list_any (init_lost t objects alive object first) inits

-- the same of the object at a place, whose symbols begin at this one
abbrev pub lost_of : Tables → List Object → List Alive → ℕ → ℕ → Option Object → Bool
lost_of t objects alive object first None = false
lost_of t objects alive object first (Some o) = inits_lost t objects (alive_of alive o.input) object first o.inits

-- The same of the objects from a place on, whose symbols begin at this one.
abbrev pub lost_from : Tables → List Object → List Alive → ℕ → ℕ → List Object → Bool
lost_from t objects alive object first [] = false
lost_from t objects alive object first (o ∷ os) =
    inits_lost t objects (alive_of alive o.input) object first o.inits || lost_from t objects alive (object + 1) (first + length (symbols_of objects o)) os

abbrev pub objects_lost : Tables → List Object → List Alive → Bool
objects_lost t objects alive = lost_from t objects alive 0 0 objects

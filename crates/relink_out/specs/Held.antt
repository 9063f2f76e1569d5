-- What of the object is held by its parts.
use Rattle.std.specs.Prelude.{◌≡◌, length}
use Rattle.partial_items.specs.link_program.declared.program.Program.{Program as Data}
use Rattle.partial_items.specs.Groups.{Places, all_won}
use Rattle.partial_items.specs.Numbered.{all_numbers}
use Rattle.relink_out.specs.declared.found.Found.{Found}
use Rattle.relink_out.specs.declared.held.Held.{Held}

-- By what members of groups are looked up.
abbrev pub places_of : Data → Found → Places
places_of d f = record { kept = f.kept; chunks = d.tables.now.chunks; functions = f.functions }

-- The groups, and the numbers of all symbols.
pub record AreHeld (d : Data) (f : Found) (x : Held) : Type 0 where
  pub groups : x.groups ≡ all_won (places_of d f) (length d.names.now.names) d.names.now.groups d.objects.now
  pub symbols : x.symbols ≡ all_numbers f.standing d.tables.now.symbols

-- When a view of the objects can be asked.
use Rattle.std.specs.Prelude.{◌≡◌, List, map, Some}
use Rattle.name_rules.specs.object_file.wl_base.Names.{number_of}
use Rattle.name_rules.specs.object_file.declared.object.Object.{Object}
use Rattle.made_symbols.specs.declared.mode.Mode.{Mode}
use Rattle.link_names.specs.Numbered.{Numbered, symbol_number, group_names, AreNumbers}
use Rattle.name_entries.specs.View.{InputsRise}
use Rattle.name_entries.specs.Parts.{AreParts}
use Rattle.name_entries.specs.Rows.{AreRows}
use Rattle.name_entries.specs.declared.table.EntryTable.{EntryTable}
use Rattle.name_entries.specs.declared.lookups.Entries.{Entries}

-- The table is that of these objects, whose names have these numbers.
pub record IsTable (objects : List Object) (n : Numbered) (table : EntryTable) : Type 0 where
  pub parts : AreParts objects table.parts
  pub rows : AreRows objects n.symbols table.rows

-- The numbers are those of the objects' names, the inputs rise, and what is looked up is that of the objects.
pub record FitsObjects (es : Entries) : Type 0 where
  pub symbols : es.names.now.symbols ≡ map (λ (o : Object). map (symbol_number es.names.now.names) o.symbols) es.objects.now
  pub inputs : InputsRise 0 es.objects.now
  pub parts : AreParts es.objects.now es.parts.now
  pub rows : AreRows es.objects.now es.names.now.symbols es.rows.now

-- The same, and all numbers are those of a link of this mode.
pub record Fits (mode : Mode) (es : Entries) : Type 0 where
  pub numbers : AreNumbers mode es.objects.now es.names.now
  pub objects : FitsObjects es

-- The numbers of groups are those of their names.
abbrev pub GroupsAreNumbered : List Object → Numbered → Type 0
GroupsAreNumbered objects n = map (map Some) n.groups ≡ map (λ o. map (number_of n.names) (group_names o)) objects

-- Which groups the relocatable object of a program has, and how its imports are taken.
use Rattle.std.specs.Prelude.{◌≡◌, ℕ, List, All}
use Rattle.std.specs.List.{list_any}
use Rattle.name_rules.specs.object_file.declared.object.Object.{Object}
use Rattle.object_rules.specs.object_parts.Imports.{none_seen}
use Rattle.object_file.specs.Objects.{object_from}
use Rattle.name_rules.specs.Entries.{has_group}
use Rattle.partial_rules.specs.Partial.{imports, relocatable}
use Rattle.partial_rules.specs.WellFormed.{Coded, AreTaken}
use Rattle.partial_rules.specs.Sections.{sections_told}
use Rattle.partial_rules.specs.ReadAs.{parts_told}
use Rattle.partial_laws.specs.Loaded.{Rise}
use Rattle.partial_parts_laws.specs.Linked.{Linked, program}
use Rattle.partial_parts_laws.specs.ReadBack.{AreLinked}
use Rattle.partial_parts_laws.specs.SymbolsBack.{AreNamed}

-- What is read has the groups of the objects, whatever its bodies spell.
abbrev pub GroupsAreRead : Type 0
GroupsAreRead =
    (l : Linked) (objects : List Object) → Rise 0 objects → (codes : List Coded) (input : ℕ) (name : List ℕ)
    → has_group name (object_from input (sections_told (relocatable (program l objects))) (parts_told (relocatable (program l objects)) codes)) ≡ list_any (has_group name) objects

-- It imports one memory, and at most one table, which is that of functions.
abbrev pub ImportsAreTaken : Type 0
ImportsAreTaken = (l : Linked) (objects : List Object) → AreLinked l objects → All AreNamed objects → AreTaken none_seen (imports (program l objects))

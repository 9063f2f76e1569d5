-- What a resolution gives.
use Rattle.std.specs.Prelude.{Bool, List}
use Rattle.name_meanings.specs.name_entries.made_symbols.declared.mode.Mode.{Mode}
use Rattle.name_meanings.specs.name_entries.object_file.declared.object.Object.{Object}
use Rattle.name_meanings.specs.name_entries.name_rules.Entries.{InputSymbol}
use Rattle.name_meanings.specs.name_entries.name_rules.Meanings.{resolve}
use Rattle.name_meanings.specs.Means.{Answers, IsResolution}
use Rattle.name_unresolved.specs.Unresolved.{AreMeant}

-- In a resolution of the objects each of their symbols has a meaning.
abbrev pub ResolvedIsMeant : Type 0
ResolvedIsMeant =
    (mode : Mode) (allow : Bool) (all : List InputSymbol) (objects : List Object) (r : Answers)
    → IsResolution mode all r (resolve mode allow all objects) → AreMeant r.rows objects

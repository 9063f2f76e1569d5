-- What of a program's relocatable object has a spelling, where its objects have one: all but bodies, the values of globals and relocations.
use Rattle.std.specs.Prelude.{◌≤◌, ◌^◌, List, length, All}
use Rattle.name_rules.specs.object_file.declared.object.Object.{Object}
use Rattle.object_file.specs.Spellable.{IsSpellable}
use Rattle.image_emit.specs.Spelled.{IsImport, IsExport}
use Rattle.partial_rules.specs.Relocatable.{Relocatable, relocatable_bytes}
use Rattle.partial_rules.specs.Partial.{relocatable}
use Rattle.partial_rules.specs.WellFormed.{IsU32, IsLinking}
use Rattle.partial_parts_laws.specs.Linked.{Linked, program}
use Rattle.partial_parts_laws.specs.ReadBack.{AreLinked}
use Rattle.partial_parts_laws.specs.SymbolsBack.{AreNamed}

pub record HasNumbers (r : Relocatable) : Type 0 where
  pub imports : All IsImport r.imports
  pub functions : All IsU32 r.functions
  pub exports : All IsExport r.exports
  pub linking : IsLinking r

-- It asks that it has at most 2^30 bytes.
abbrev pub NumbersFit : Type 0
NumbersFit =
    (l : Linked) (objects : List Object) → AreLinked l objects → All AreNamed objects → All IsSpellable objects
    → length (relocatable_bytes (relocatable (program l objects))) ≤ 2 ^ 30 → HasNumbers (relocatable (program l objects))

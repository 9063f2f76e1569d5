-- Objects that were read are named so.
use Rattle.std.specs.Prelude.{ℕ, List}
use Rattle.name_rules.specs.object_file.declared.object.Object.{Object}
use Rattle.object_file.specs.ObjectOf.{IsObject}
use Rattle.partial_parts_laws.specs.SymbolsBack.{AreNamed}

abbrev pub ObjectsAreNamed : Type 0
ObjectsAreNamed = (input : ℕ) (bytes : List ℕ) (o : Object) → IsObject input bytes o → AreNamed o

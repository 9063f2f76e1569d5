-- The names of custom sections of an object that was read (WebAssembly Core 2.0, 5.5.3 and 5.2.4).
use Rattle.std.specs.Prelude.{◌≡◌, ℕ, List, Ok}
use Rattle.std.specs.List.{AllByRecursion}
use Rattle.object_file.specs.declared.object.Object.{Object}
use Rattle.object_file.specs.ObjectOf.{object_of}
use Rattle.debug_rules.specs.Sections.{customs}
use Rattle.debug_customs.specs.Customs.{IsNamed}

-- Where bytes are an object, each of its custom sections has a name that is UTF-8.
abbrev pub ObjectsAreNamed : Type 0
ObjectsAreNamed = (input : ℕ) (bytes : List ℕ) (o : Object) → object_of input bytes ≡ Ok o → AllByRecursion IsNamed (customs bytes)

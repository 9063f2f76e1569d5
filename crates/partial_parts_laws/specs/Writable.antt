-- When a program's relocatable object is well formed: what is left to ask beside what holds of it.
use Rattle.std.specs.Prelude.{◌≡◌, ◌≤◌, ◌^◌, List, length, map, All}
use Rattle.name_rules.specs.object_file.declared.object.Object.{Object}
use Rattle.object_file.specs.Spellable.{IsSpellable}
use Rattle.partial_rules.specs.Relocatable.{Windowed, relocatable_bytes}
use Rattle.partial_rules.specs.Partial.{relocatable}
use Rattle.partial_rules.specs.WellFormed.{IsSpelledGlobal, Coded, IsCoded, IsWritable}
use Rattle.partial_parts_laws.specs.Linked.{Linked, program}
use Rattle.partial_parts_laws.specs.ReadBack.{AreLinked}
use Rattle.partial_parts_laws.specs.SymbolsBack.{AreNamed}
use Rattle.partial_parts_laws.specs.RelocsFit.{HaveAddends}

-- Its bodies spell code on whose immediates their relocations stand, and the bytes of its globals their values.
abbrev pub AreWritable : Type 0
AreWritable =
    (l : Linked) (objects : List Object) → AreLinked l objects → All AreNamed objects → All IsSpellable objects → HaveAddends objects
    → length (relocatable_bytes (relocatable (program l objects))) ≤ 2 ^ 30
    → (codes : List Coded) → (relocatable (program l objects)).bodies ≡ map {A = Coded} {B = Windowed} (λ c. c.windowed) codes → All IsCoded codes
    → All IsSpelledGlobal (relocatable (program l objects)).globals
    → IsWritable (relocatable (program l objects)) codes

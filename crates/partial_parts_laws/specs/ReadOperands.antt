-- Operands of an object that was read have addend 0 where their relocations' types have none.
use Rattle.std.specs.Prelude.{ℕ, List, [], ◌∷◌}
use Rattle.name_rules.specs.object_file.declared.object.Object.{Object}
use Rattle.object_file.specs.ObjectOf.{IsObject}
use Rattle.partial_parts_laws.specs.RelocsFit.{HaveAddends}

abbrev pub ReadHaveAddends : Type 0
ReadHaveAddends = (input : ℕ) (bytes : List ℕ) (o : Object) → IsObject input bytes o → HaveAddends (o ∷ [])

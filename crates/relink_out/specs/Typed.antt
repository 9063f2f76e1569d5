-- What of the object rests on its types.
use Rattle.std.specs.Prelude.{◌≡◌, ℕ, List, map}
use Rattle.partial_items.specs.link_program.link_rules.Program.{Program}
use Rattle.partial_items.specs.link_program.declared.program.Program.{Program as Data}
use Rattle.partial_items.specs.partial_rules.Partial as partial
use Rattle.partial_items.specs.partial_rules.Partial.{relocatable}
use Rattle.relink_out.specs.declared.typed.Typed.{Typed}

-- The types, the numbers that the program's types have there, the imports, and the types of functions.
pub record AreTyped (d : Data) (p : Program) (x : Typed) : Type 0 where
  pub types : x.types ≡ partial.types p
  pub numbers : x.numbers ≡ map (partial.type_number p) d.tables.now.types
  pub imports : x.imports ≡ (relocatable p).imports
  pub functions : x.functions ≡ (relocatable p).functions

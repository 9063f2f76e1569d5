-- What of the object has symbols and names.
use Rattle.std.specs.Prelude.{◌≡◌, List, map, Some}
use Rattle.partial_items.specs.link_program.link_rules.Program.{Program}
use Rattle.partial_items.specs.partial_rules.Partial as partial
use Rattle.partial_items.specs.partial_rules.Partial.{relocatable}
use Rattle.partial_items.specs.partial_tree.Rows.{row_seen}
use Rattle.relink_out.specs.declared.named.Named.{Named}

-- The exports, the symbols and the init functions.
pub record AreNamed (p : Program) (x : Named) : Type 0 where
  pub exports : x.exports ≡ (relocatable p).exports
  pub symbols : map (row_seen p.objects) x.symbols ≡ map Some (map (partial.symbol_for p) (partial.standing p))
  pub inits : x.inits ≡ (relocatable p).inits

-- What is found of a program.
use Rattle.std.specs.Prelude.{◌≡◌, ℕ, List, map, filter, length}
use Rattle.partial_items.specs.link_program.linking_section.declared.symbol.SymbolKind.TheVariants.{Function, GlobalVar}
use Rattle.partial_items.specs.link_program.link_rules.Program.{Program}
use Rattle.partial_items.specs.partial_rules.Partial as partial
use Rattle.partial_items.specs.partial_symbols.Known.{IsSight, AreStanding}
use Rattle.partial_items.specs.partial_parts.Kept.{AreKept}
use Rattle.partial_items.specs.partial_imports.Opens.{open_seen, told_open}
use Rattle.relink_out.specs.declared.found.Found.{Found}

-- It has what is known of the program's names, the symbols that stand in the object, the kept parts, the open names, and how many
-- functions and globals are open.
pub record AreFound (p : Program) (names : List (List ℕ)) (f : Found) : Type 0 where
  pub sight : IsSight p names f.sight
  pub standing : AreStanding p names f.standing
  pub kept : AreKept p f.kept
  pub opens : map (open_seen p.objects) f.opens ≡ map (told_open p) (filter (partial.is_open p) (partial.standing p))
  pub functions : f.functions ≡ length (partial.open_of p Function)
  pub globals : f.globals ≡ length (partial.open_of p GlobalVar)

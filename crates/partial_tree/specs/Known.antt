-- A look that is one of a program.
use Rattle.std.specs.Prelude.{◌≡◌, ℕ, List, map, length}
use Rattle.partial_symbols.specs.link_program.linking_section.declared.symbol.SymbolKind.TheVariants.{Function, GlobalVar}
use Rattle.partial_symbols.specs.link_program.link_rules.Program.{Program}
use Rattle.partial_symbols.specs.partial_rules.Partial.{open_of}
use Rattle.partial_symbols.specs.Known.{IsSight}
use Rattle.partial_parts.specs.Kept.{AreKept}
use Rattle.partial_tree.specs.Rows.{Look}

-- It has what is known of the program's names, its kept parts and chunks, and how many functions and globals are open.
pub record IsLook (p : Program) (names : List (List ℕ)) (l : Look) : Type 0 where
  pub sight : IsSight p names l.sight
  pub kept : AreKept p l.kept
  pub chunks : l.chunks ≡ map (λ part. part.chunk) p.parts
  pub functions : l.functions ≡ length (open_of p Function)
  pub globals : l.globals ≡ length (open_of p GlobalVar)

-- What a link that gives bytes makes sure of for the rules outside bodies, and what is asked of the globals of objects.
use Rattle.std.specs.Prelude.{◌≡◌, List, [], true, None}
use Rattle.list_places.specs.Has.{Has}
use Rattle.link_worlds.specs.link_rules.object_file.object_parts.declared.parts.GlobalDef.{GlobalDef}
use Rattle.made_symbols.specs.declared.mode.Mode.TheVariants.{Plain}
use Rattle.link_worlds.specs.link_rules.name_rules.Entries.{InputSymbol}
use Rattle.link_plan.specs.Plan.{IsPlan}
use Rattle.link_worlds.specs.link_rules.Program.{Program, Part, global}
use Rattle.link_worlds.specs.link_rules.Marks.{live, repeated_export}
use Rattle.link_worlds.specs.link_rules.LinkOf.{memory_fault}
use Rattle.wasm_valid.specs.Rules.{has_type}

pub record IsChecked (p : Program) (exports : List InputSymbol) : Type 0 where
  pub plan : IsPlan p.plan
  pub memory : memory_fault Plain p (live p exports) ≡ None
  pub names : repeated_export Plain p exports ≡ None
  -- the first value of each global of an object has its type
  pub globals : (part : Part) (g : GlobalDef) → Has (live p exports) part → part.content ≡ global g → has_type [] g.kind.kind g.value ≡ true

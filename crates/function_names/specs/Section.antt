-- The section of the names of an output.
use Rattle.std.specs.Prelude.{ℕ, List, [], if◌then◌else◌}
use Rattle.made_symbols.specs.declared.mode.Mode.{Mode}
use Rattle.link_rules.specs.Program.{Program}
use Rattle.link_rules.specs.Values.{Layout}
use Rattle.name_section.specs.Names.{name_section}
use Rattle.function_names.specs.Names.{function_names}

-- The names of functions, where the words ask for them.
abbrev pub placed_names : Mode → Program → Layout → List ℕ
placed_names mode p l = if p.plan.names then name_section (function_names mode p l) else []

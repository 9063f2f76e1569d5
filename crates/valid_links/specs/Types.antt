-- Of a program whose names don't clash, what a live reference names has the type that its object gives to the symbol. Names of objects are UTF-8,
-- so none is that of a variant.
use Rattle.std.specs.Prelude.{◌≡◌, ℕ, List, None}
use Rattle.list_places.specs.Has.{Has}
use Rattle.object_file.specs.declared.object.Object.{Object}
use Rattle.object_file.specs.Spellable.{IsSpellable}
use Rattle.link_runs.specs.link_facts.link_worlds.link_rules.round_rules.Rounds.{Candidate}
use Rattle.link_plan.specs.declared.plan.Plan.{Plan}
use Rattle.made_symbols.specs.declared.mode.Mode.TheVariants.{Plain}
use Rattle.link_runs.specs.link_facts.link_worlds.link_rules.name_rules.Entries.{InputSymbol}
use Rattle.link_runs.specs.link_facts.link_worlds.link_rules.name_rules.Cases.{clash_by}
use Rattle.link_runs.specs.link_facts.link_worlds.link_rules.Program.{program_of}
use Rattle.link_runs.specs.link_facts.link_worlds.link_rules.Marks.{live}
use Rattle.link_runs.specs.link_facts.link_worlds.Worlds.{layout_of}
use Rattle.link_runs.specs.link_facts.link_worlds.Statements.{LinkedBy}
use Rattle.link_runs.specs.link_facts.Loaded.{AreLoaded}
use Rattle.output_types.specs.Types.{HaveOneType}

abbrev pub NamesHaveOneType : Type 0
NamesHaveOneType = (plan : Plan) (files : List (List ℕ)) (all : List Candidate) (objects : List Object) (exports : List InputSymbol)
    → AreLoaded objects → clash_by plan.loose_calls (program_of Plain plan files all objects).entries ≡ None → ((o : Object) → Has objects o → IsSpellable o)
    → LinkedBy (program_of Plain plan files all objects) exports (layout_of (program_of Plain plan files all objects) exports)
    → HaveOneType (program_of Plain plan files all objects) (live (program_of Plain plan files all objects) exports)

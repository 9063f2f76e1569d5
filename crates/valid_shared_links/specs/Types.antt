-- Of a shared program whose names don't clash, what a live reference names has the type that its object gives to the symbol. Names of objects are
-- UTF-8, so none is that of a variant.
use Rattle.std.specs.Prelude.{◌≡◌, ℕ, List, None}
use Rattle.list_places.specs.Has.{Has}
use Rattle.object_file.specs.declared.object.Object.{Object}
use Rattle.object_file.specs.Spellable.{IsSpellable}
use Rattle.round_rules.specs.Rounds.{Candidate}
use Rattle.link_plan.specs.declared.plan.Plan.{Plan}
use Rattle.shared_facts.specs.shared_links.link_program.declared.home.Home.{Home}
use Rattle.shared_facts.specs.shared_links.link_program.Loaded.{IsLoaded}
use Rattle.made_symbols.specs.declared.mode.Mode.TheVariants.{Shared}
use Rattle.name_rules.specs.Entries.{InputSymbol, entries}
use Rattle.name_rules.specs.Cases.{clash_by}
use Rattle.link_rules.specs.Program.{program_of}
use Rattle.link_rules.specs.Marks.{live}
use Rattle.shared_facts.specs.shared_types.Types.{HaveOneType}
use Rattle.shared_facts.specs.shared_types.Linked.{SharedLinkedBy}

abbrev pub SharedNamesHaveOneType : Type 0
SharedNamesHaveOneType = (plan : Plan) (files : List (List ℕ)) (all : List Candidate) (objects : List Object) (homes : List Home) (exports : List InputSymbol)
    → IsLoaded files all objects homes → clash_by plan.loose_calls (entries Shared objects) ≡ None → ((o : Object) → Has objects o → IsSpellable o)
    → SharedLinkedBy (program_of Shared plan files all objects) exports
    → HaveOneType (program_of Shared plan files all objects) (live (program_of Shared plan files all objects) exports)

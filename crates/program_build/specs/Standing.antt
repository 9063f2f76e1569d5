-- Where the parts of loaded objects stand.
use Rattle.std.specs.Prelude.{ℕ, List, All}
use Rattle.loose_calls.specs.link_program.object_file.declared.object.Object.{Object}
use Rattle.loose_calls.specs.link_program.made_symbols.declared.mode.Mode.{Mode}
use Rattle.loose_calls.specs.link_program.round_rules.Rounds.{Candidate}
use Rattle.loose_calls.specs.link_program.link_plan.declared.plan.Plan.{Plan}
use Rattle.loose_calls.specs.link_program.link_rules.Program.{strict_program, program_of}
use Rattle.loose_calls.specs.link_program.declared.home.Home.{Home}
use Rattle.loose_calls.specs.link_program.Loaded.{IsLoaded}
use Rattle.loose_calls.specs.link_program.Stand.{PartsStand, PartStandsBy, IsSymbolOf}

-- The same before calls are loosened, where each reference means what its symbol means.
abbrev pub StrictPartsStand : Type 0
StrictPartsStand = (mode : Mode) (plan : Plan) (files : List (List ℕ)) (all : List Candidate) (objects : List Object) (homes : List Home)
    → IsLoaded files all objects homes → (let p = strict_program mode plan files all objects in All (PartStandsBy p (λ ref. IsSymbolOf p.resolved ref.entry ref.meaning)) p.parts)

-- The parts of the program of loaded objects stand, whatever the mode and the plan.
abbrev pub LoadedPartsStand : Type 0
LoadedPartsStand = (mode : Mode) (plan : Plan) (files : List (List ℕ)) (all : List Candidate) (objects : List Object) (homes : List Home)
    → IsLoaded files all objects homes → PartsStand (program_of mode plan files all objects)

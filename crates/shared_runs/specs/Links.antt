-- Runs of shared outputs, said of the definition of the whole link.
use Rattle.std.specs.Prelude.{◌≡◌, ℕ, List, length, unwrap_or, true, Ok}
use Rattle.list_places.specs.Has.{Has}
use Rattle.wasm_module.specs.declared.structure.Module.{Module}
use Rattle.wasm_module.specs.Modules.{SameButPlaces}
use Rattle.object_file.specs.declared.object.Object.{Object}
use Rattle.round_rules.specs.Rounds.{Candidate, load}
use Rattle.made_symbols.specs.declared.mode.Mode.TheVariants.{Shared}
use Rattle.name_rules.specs.Entries.{InputSymbol}
use Rattle.link_plan.specs.declared.plan.Plan.{Plan}
use Rattle.link_rules.specs.ModeOf.{mode_of}
use Rattle.link_rules.specs.Candidates.{candidates_of}
use Rattle.link_rules.specs.Program.{Program, program_of}
use Rattle.link_rules.specs.Marks.{live, exported}
use Rattle.link_rules.specs.Loader.{dylink}
use Rattle.link_rules.specs.LinkOf.{asked_names, the_readers, link_of}
use Rattle.shared_laws.specs.Linked.{SharedStands}
use Rattle.shared_module.specs.Outputs.{shared_lay, IsSharedRead}
use Rattle.shared_types.specs.Linked.{SharedLinkedBy}
use Rattle.shared_worlds.specs.Placing.{Placing, placed_trace, BasesAgree}
use Rattle.shared_worlds.specs.Worlds.{least_pages, objects_trace}
use Rattle.shared_worlds.specs.Statements.{Holds}

-- The bases agree with the output's section.
abbrev pub Agrees : Placing → Program → List InputSymbol → Type 0
Agrees x p exports = BasesAgree x (dylink Shared p (live p exports) (shared_lay p exports)) (least_pages (shared_lay p exports))

-- Then the memory holds all segments from its base on.
abbrev pub SharedMemoryHolds : Type 0
SharedMemoryHolds = (x : Placing) (p : Program) (exports : List InputSymbol) → SharedStands p → Agrees x p exports → Holds x.session p exports

-- The places of instructions don't count in a run.
abbrev pub PlacesDoNotCount : Type 0
PlacesDoNotCount = (x : Placing) (m other : Module) (n : ℕ) → SameButPlaces m other → placed_trace x other n ≡ placed_trace x m n

-- What is exported is a definition.
abbrev pub ExportsDefine : List InputSymbol → Type 0
ExportsDefine exports = (e : InputSymbol) → Has exports e → e.defines ≡ true

-- Where a shared link gives bytes, these run under all bases that agree with their section as the loaded objects run with nothing linked: for each
-- session, each number of entries and each number of steps. What the link makes sure of, and that its bytes are read as the output's module, are premises
-- here.
abbrev pub SharedOutputsRun : Type 0
SharedOutputsRun = (plan : Plan) (files : List (List ℕ)) (bytes : List ℕ) (all : List Candidate) (objects : List Object)
    → length files ≡ unwrap_or plan.make_case (length plan.inputs) → mode_of plan ≡ Shared
    → candidates_of the_readers plan files ≡ Ok all → load Shared (asked_names plan) all ≡ Ok objects → link_of plan files ≡ Ok bytes
    → SharedLinkedBy (program_of Shared plan files all objects) (exported Shared (program_of Shared plan files all objects))
    → ExportsDefine (exported Shared (program_of Shared plan files all objects))
    → (read : IsSharedRead (program_of Shared plan files all objects) (exported Shared (program_of Shared plan files all objects)) bytes)
    → (x : Placing) (n : ℕ) → Agrees x (program_of Shared plan files all objects) (exported Shared (program_of Shared plan files all objects))
    → objects_trace x (program_of Shared plan files all objects) (exported Shared (program_of Shared plan files all objects)) n ≡ placed_trace x read.is n

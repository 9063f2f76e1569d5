-- What the program's answer says of the words and of the shelf before and after.
use Rattle.std.specs.Prelude.{◌≡◌, ◌⊎◌, ℕ, Bool, true, false, List, [], ◌∷◌, IsTrue, Contains, map, Option, Some, None, IfSome, IsSomeAnd, Result, Ok, Err, if◌then◌else◌}
use Rattle.std.specs.Option.{option_map}
use Rattle.wl_base.specs.declared.fault.Fault.{Fault}
use Rattle.wl_base.specs.declared.usage.Usage.{Usage as UsageFault}
use Rattle.wl_outside.specs.Shelf.{Shown, Same, SameBut, Holds, Torn, LoadFailed, SaveFailed}
use Rattle.link_plan.specs.declared.plan.Plan.{Plan}
use Rattle.link_words.specs.Words.{plan_of, word}
use Rattle.link_core.specs.Whole.{whole_link, MakesModule}
use Rattle.link_core.specs.link_runs.Links.{Runs}
use Rattle.link_core.specs.link_runs.link_program.link_rules.ModeOf.{IsPlain}
use Rattle.case_objects.specs.Objects.{objects}
use Rattle.library_indexer.specs.Indexed.{with_index}
use Rattle.link_command.specs.declared.asked.Asked.{Asked}
use Rattle.link_command.specs.declared.status.Status.{Status}
use Rattle.link_command.specs.declared.status.Status.TheVariants.{Linked, Refused, Usage, ReadFault, WriteFault, NoMemory}

-- The plan of the words, in a link that is like lld's, with loose calls or with strict ones and with what its driver asks beside them, or
-- that isn't. No own word asks for one.
abbrev pub lld_plan : Bool → Asked → Plan → Plan
lld_plan loose asked plan = record plan { like_lld = true; loose_calls = loose; names = asked.names; features = asked.features }

abbrev pub as_lld : Bool → Asked → Result Plan UsageFault → Result Plan UsageFault
as_lld loose asked (Ok plan) = Ok (lld_plan loose asked plan)
as_lld loose asked (Err usage) = Err usage

abbrev pub plan_for : Bool → Bool → Asked → Plan → Plan
plan_for true loose asked plan = lld_plan loose asked plan
plan_for false loose asked plan = plan

abbrev pub said_for : Bool → Bool → Asked → Result Plan UsageFault → Result Plan UsageFault
said_for true loose asked said = as_lld loose asked said
said_for false loose asked said = said

abbrev pub planned : Bool → Bool → Asked → List (List ℕ) → Result Plan UsageFault
planned like_lld loose asked words = said_for like_lld loose asked (plan_of words)

-- the contents of the names, where each holds any
abbrev pub with_first : Option (List ℕ) → Option (List (List ℕ)) → Option (List (List ℕ))
with_first (Some bytes) (Some rest) = Some (bytes ∷ rest)
with_first bytes rest = None

abbrev pub contents : (List ℕ → Option (List ℕ)) → List (List ℕ) → Option (List (List ℕ))
contents held [] = Some []
contents held (name ∷ names) = with_first (held name) (contents held names)

-- the places of the input words, and the words there
abbrev pub places : Plan → List ℕ
places plan = map (λ i. i.place) plan.inputs

abbrev pub input_names : List (List ℕ) → Plan → List (List ℕ)
input_names words plan = map (word words) (places plan)

-- what a link takes of the files: one that is like lld's completes a library without an index, as `ranlib` does
abbrev pub taken : Bool → List (List ℕ) → List (List ℕ)
taken like_lld files = if like_lld then map with_index files else files

-- what is linked: the objects of the generated case, or what the shelf holds under the input words
abbrev pub files_of : Option ℕ → Shown → List (List ℕ) → Plan → Option (List (List ℕ))
files_of (Some n) before words plan = Some (objects n)
files_of None before words plan = option_map (taken plan.like_lld) (contents before.held (input_names words plan))

-- what is linked is told: it is generated, or the shelf tells what it holds
abbrev pub IsTold : Option ℕ → Shown → Type 0
IsTold (Some n) before = Unit {0}
IsTold None before = IsTrue before.tells

-- the link of these files
pub record LinkIs (before : Shown) (words : List (List ℕ)) (plan : Plan) (said : Result (List ℕ) Fault) : Type 0 where
  pub files : List (List ℕ)
  pub held : files_of plan.make_case before words plan ≡ Some files
  pub link : whole_link plan files ≡ said

-- the output, where the plan names one, holds the bytes, and all else is as before
abbrev pub Saved : Shown → Shown → Option (List ℕ) → List ℕ → Type 0
Saved before after None bytes = Same before after
Saved before after (Some output) bytes = Holds after output bytes × SameBut output before after

-- the output holds its old content or a front of the bytes, and all else is as before
abbrev pub Cut : Shown → Shown → Option (List ℕ) → List ℕ → Type 0
Cut before after None bytes = Same before after
Cut before after (Some output) bytes = Torn before after output bytes × SameBut output before after

-- what an answer to words that have a plan shows, row by row
abbrev pub Shows : Status → Shown → Shown → List (List ℕ) → Plan → Type 0
Shows Linked before after words plan =
    IsTold plan.make_case before → (bytes : List ℕ) × LinkIs before words plan (Ok bytes) × Saved before after plan.output bytes
Shows (Refused fault) before after words plan =
    (IsTold plan.make_case before → LinkIs before words plan (Err fault)) × Same before after
Shows (Usage u) before after words plan = ⊥
Shows (ReadFault k) before after words plan =
    Contains (places plan) k × LoadFailed before after (word words k) × Same before after
Shows WriteFault before after words plan =
    (IsTold plan.make_case before → (bytes : List ℕ) × LinkIs before words plan (Ok bytes) × Cut before after plan.output bytes)
    × IsSomeAnd plan.output (λ output. SaveFailed before after output)
Shows NoMemory before after words plan = Same before after

-- The output, where the plan names one, holds what is linked: a plain module runs as the plan and the files tell, with nothing linked.
pub record SavedRuns (before after : Shown) (words : List (List ℕ)) (plan : Plan) : Type 0 where
  pub files : List (List ℕ)
  pub held : files_of plan.make_case before words plan ≡ Some files
  pub bytes : List ℕ
  pub saved : Saved before after plan.output bytes
  pub runs : MakesModule plan → IsPlain plan → Runs plan files bytes

-- no load of an input word failed, and no save of the output
abbrev pub LoadsWork : Shown → Shown → List (List ℕ) → Plan → Type 0
LoadsWork before after words plan = (k : ℕ) → Contains (places plan) k → LoadFailed before after (word words k) → ⊥

abbrev pub SaveWorks : Shown → Shown → Plan → Type 0
SaveWorks before after plan = IfSome plan.output (λ output. SaveFailed before after output → ⊥)

-- the answer, unless memory was refused
abbrev pub IsUnlessMemory : Status → Status → Type 0
IsUnlessMemory status wanted = (status ≡ wanted) ⊎ (status ≡ NoMemory)

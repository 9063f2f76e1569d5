-- What is told of calls beside the program's answer.
use Rattle.std.specs.Prelude.{◌≡◌, true, List, [], ℕ, Some, IfOk, Result, Ok, Err}
use Rattle.wl_base.specs.declared.usage.Usage.{Usage as UsageFault}
use Rattle.wl_outside.specs.Shelf.{Shown}
use Rattle.link_plan.specs.declared.plan.Plan.{Plan}
use Rattle.link_core.specs.mismatch_rules.declared.mismatch.Mismatch.{Mismatch}
use Rattle.link_core.specs.Whole.{told_calls}
use Rattle.link_command.specs.declared.asked.Asked.{Asked}
use Rattle.link_command.specs.declared.status.Status.{Status}
use Rattle.link_command.specs.declared.status.Status.TheVariants.{Linked, Refused, Usage, ReadFault, WriteFault, NoMemory}
use Rattle.link_command.specs.Command.{planned, IsTold, files_of}

-- The functions that are called by another type than their definition has, in the link of what is linked.
pub record AreMismatches (before : Shown) (words : List (List ℕ)) (plan : Plan) (told : List Mismatch) : Type 0 where
  pub files : List (List ℕ)
  pub held : files_of plan.make_case before words plan ≡ Some files
  pub are : told ≡ told_calls plan files

-- what is told beside each answer to words that have a plan: nothing where nothing is linked
abbrev pub TellsBy : Status → Shown → List (List ℕ) → Plan → List Mismatch → Type 0
TellsBy Linked before words plan told = IsTold plan.make_case before → AreMismatches before words plan told
TellsBy (Refused fault) before words plan told = IsTold plan.make_case before → AreMismatches before words plan told
TellsBy (Usage u) before words plan told = told ≡ []
TellsBy (ReadFault k) before words plan told = told ≡ []
TellsBy WriteFault before words plan told = IsTold plan.make_case before → AreMismatches before words plan told
TellsBy NoMemory before words plan told = Unit {0}

abbrev pub Tells : Result Plan UsageFault → Status → Shown → List (List ℕ) → List Mismatch → Type 0
Tells (Ok plan) status before words told = TellsBy status before words plan told
Tells (Err usage) status before words told = told ≡ []

-- what a link by these words, with what is asked beside them, that lets such calls through would tell
abbrev pub WouldTell : Asked → Shown → List (List ℕ) → List Mismatch → Type 0
WouldTell asked before words told = IfOk (planned true true asked words) (λ plan. IsTold plan.make_case before → AreMismatches before words plan told)

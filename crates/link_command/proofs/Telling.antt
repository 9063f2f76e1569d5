-- What is told of calls, by what the link tells.
use Rattle.std.proofs.Common.{◌≡◌, ◌⊎◌, inl, inr, ℕ, List, [], Some, Result, Ok, Err, ◌∙◌, sym, subst}
use Rattle.wl_base.specs.declared.usage.Usage.{Usage as UsageFault}
use Rattle.wl_base.specs.declared.fault.Fault.{Fault}
use Rattle.wl_outside.specs.Shelf.{Shown}
use Rattle.link_plan.specs.declared.plan.Plan.{Plan}
use Rattle.link_core.specs.mismatch_rules.declared.mismatch.Mismatch.{Mismatch}
use Rattle.link_core.specs.Whole.{told_calls}
use Rattle.link_command.specs.declared.status.Status.{Status}
use Rattle.link_command.specs.declared.status.Status.TheVariants.{Linked, Refused, Usage, WriteFault, NoMemory}
use Rattle.link_command.specs.Command.{IsTold, files_of}
use Rattle.link_command.specs.Telling.{AreMismatches, TellsBy, Tells}

module _ (before : Shown) (words : List (List ℕ)) (plan : Plan) (files : List (List ℕ)) (told : List Mismatch) where
  pub all_told : told ≡ told_calls plan files → (IsTold plan.make_case before → files_of plan.make_case before words plan ≡ Some files)
      → IsTold plan.make_case before → AreMismatches before words plan told
  all_told are held given = record { files = files; held = held given; are = are }

  -- after a save
  pub saved_tells : (status : Status) → (status ≡ Linked) ⊎ (status ≡ WriteFault) → told ≡ told_calls plan files
      → (IsTold plan.make_case before → files_of plan.make_case before words plan ≡ Some files) → TellsBy status before words plan told
  saved_tells status (inl linked) are held = subst (λ s. TellsBy s before words plan told) (sym linked) (all_told are held)
  saved_tells status (inr torn) are held = subst (λ s. TellsBy s before words plan told) (sym torn) (all_told are held)

pub planned_tells : (said : Result Plan UsageFault) (plan : Plan) (status : Status) (before : Shown) (words : List (List ℕ)) (told : List Mismatch) → said ≡ Ok plan
    → TellsBy status before words plan told → Tells said status before words told
planned_tells said plan status before words told is tells = subst (λ s. Tells s status before words told) (sym is) tells

pub usage_tells : (said : Result Plan UsageFault) (u : UsageFault) (status : Status) (before : Shown) (words : List (List ℕ)) (told : List Mismatch) → said ≡ Err u → told ≡ []
    → Tells said status before words told
usage_tells said u status before words told is none = subst (λ s. Tells s status before words told) (sym is) none

pub no_memory_tells : (said : Result Plan UsageFault) (before : Shown) (words : List (List ℕ)) (told : List Mismatch) → told ≡ [] → Tells said NoMemory before words told
no_memory_tells (Ok plan) before words told none = tt
no_memory_tells (Err u) before words told none = none

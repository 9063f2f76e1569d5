-- What a link by the linker's own words shows of the shelf before and after, whatever was asked of the shelf around it.
use Rattle.std.specs.Prelude.{◌≡◌, ◌⊎◌, ℕ, Bool, true, false, List, [], IfOk, IfErr, Ok, Err}
use Rattle.wl_base.specs.declared.fault.Fault.{Fault}
use Rattle.wl_base.specs.declared.usage.Usage.{Usage as UsageFault}
use Rattle.wl_outside.specs.Shelf.{Shown, Same}
use Rattle.link_plan.specs.declared.plan.Plan.{Plan}
use Rattle.link_command.specs.declared.asked.Asked.{Asked}
use Rattle.link_command.specs.declared.status.Status.{Status}
use Rattle.link_command.specs.declared.status.Status.TheVariants.{Linked, Refused, Usage, NoMemory}
use Rattle.link_command.specs.Command.{planned, Shows, LinkIs, IsTold, LoadsWork, SaveWorks, IsUnlessMemory, SavedRuns}
use Rattle.link_command.specs.Telling.{WouldTell}

-- what `link_like_lld` promises of its own words, with loose calls or strict ones and what is asked beside them, clause by clause
pub record LinksBy (loose : Bool) (asked : Asked) (status : Status) (before after : Shown) (own : List (List ℕ)) : Type 0 where
  pub usage : (u : UsageFault) → status ≡ Usage u → (planned true loose asked own ≡ Err u) × Same before after
  pub cause : IfOk (planned true loose asked own) (λ plan. Shows status before after own plan)
  pub memory : status ≡ NoMemory → Same before after
  pub runs : (plan : Plan) → planned true loose asked own ≡ Ok plan → status ≡ Linked → IsTold plan.make_case before → SavedRuns before after own plan
  pub is_usage : IfErr (planned true loose asked own) (λ u. IsUnlessMemory status (Usage u))
  pub is_refused : (plan : Plan) (fault : Fault) → planned true loose asked own ≡ Ok plan → IsTold plan.make_case before → LinkIs before own plan (Err fault)
      → LoadsWork before after own plan → IsUnlessMemory status (Refused fault)
  pub is_linked : (plan : Plan) (bytes : List ℕ) → planned true loose asked own ≡ Ok plan → IsTold plan.make_case before → LinkIs before own plan (Ok bytes)
      → LoadsWork before after own plan → SaveWorks before after plan → IsUnlessMemory status Linked

-- Where warnings are errors calls are strict, unless a link with loose ones has nothing to tell of them, as where the address alone of a
-- function is taken by another type.
abbrev pub LinksAs : Bool → Asked → Status → Shown → Shown → List (List ℕ) → Type 0
LinksAs true asked status before after own = LinksBy false asked status before after own ⊎ (WouldTell asked before own [] × LinksBy true asked status before after own)
LinksAs false asked status before after own = LinksBy true asked status before after own

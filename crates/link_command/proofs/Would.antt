-- What would be told of calls, by what the link of the files tells.
use Rattle.std.proofs.Common.{◌≡◌, ℕ, List, Option, Some, None, Result, Ok, sym, subst}
use Rattle.std.specs.Prelude.{IfOk, IfSome}
use Rattle.wl_base.specs.declared.usage.Usage.{Usage as UsageFault}
use Rattle.wl_outside.specs.Shelf.{Shown}
use Rattle.link_plan.specs.declared.plan.Plan.{Plan}
use Rattle.link_core.specs.mismatch_rules.declared.mismatch.Mismatch.{Mismatch}
use Rattle.link_core.specs.Whole.{told_calls}
use Rattle.link_command.specs.Command.{IsTold, files_of}
use Rattle.link_command.specs.Telling.{AreMismatches}
use Rattle.link_command.proofs.Telling.{all_told}

pub would_tell : (said : Result Plan UsageFault) (plan : Plan) (before : Shown) (words files : List (List ℕ)) (told : Option (List Mismatch)) → said ≡ Ok plan
    → (IsTold plan.make_case before → files_of plan.make_case before words plan ≡ Some files) → IfSome told (λ ms. ms ≡ told_calls plan files)
    → IfSome told (λ ms. IfOk said (λ p. IsTold p.make_case before → AreMismatches before words p ms))
would_tell said plan before words files None is held h = tt
would_tell said plan before words files (Some ms) is held h =
    subst (λ (s : Result Plan UsageFault). IfOk s (λ p. IsTold p.make_case before → AreMismatches before words p ms)) (sym is) (all_told before words plan files ms h held)

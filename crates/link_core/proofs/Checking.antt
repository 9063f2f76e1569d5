-- The check and the sections behind the link: what is linked, by what the link gives, what the check finds, and what stands behind.
use Rattle.std.proofs.Common.{◌≡◌, ℕ, List, length, refl, sym, ap, subst, ◌∙◌, Option, Some, None, Result, Ok, Err}
use Rattle.std.specs.Prelude.{unwrap_or, IfOk}
use Rattle.link_output.specs.link_program.wl_base.Choice.{unless, ◌>>=◌}
use Rattle.link_output.specs.link_program.wl_base.declared.fault.Fault.{Fault}
use Rattle.link_output.specs.link_program.wl_base.declared.fault.Fault.TheVariants.{Invalid}
use Rattle.link_output.specs.link_program.wl_base.declared.fault.InvalidAt.{InvalidAt}
use Rattle.link_output.specs.link_program.link_plan.declared.plan.Plan.{Plan}
use Rattle.link_output.specs.link_program.link_plan.Plan.{IsPlan}
use Rattle.link_output.specs.link_program.link_rules.LinkOf.{link_of}
use Rattle.link_output.specs.link_program.declared.error.LinkError.{LinkError}
use Rattle.link_output.specs.link_program.declared.error.LinkError.TheVariants.{Refused, OutOfMemory}
use Rattle.link_output.specs.link_program.Answers.{Stops}
use Rattle.valid_shared_links.specs.valid_links.Links.{LinksDontJudge}
use Rattle.valid_shared_links.specs.valid_links.output_check.Check.{invalid_fault, IsValidOutput}
use Rattle.valid_shared_links.proofs.output_check_lemmas.Passed.{passes}
use Rattle.valid_shared_links.specs.Links.{AllValid, AllLinksAreValid}
use Rattle.link_tails.specs.Tails.{with_tail}
use Rattle.link_tails.specs.Keeps.{ValidStays}
use Rattle.link_core.specs.Answers.{Answers}
use Rattle.link_core.specs.Linked.{checked, linked, unchecked}
use Rattle.link_core.specs.Checked.{KeepsValid}
use Rattle.link_core.proofs.Answering.{fails_by}
use Rattle.link_core.proofs.Tails.{sections_dont_judge}

module _ (plan : Plan) (files : List (List ℕ)) where
  abbrev then_checked : Result (List ℕ) Fault → Result (List ℕ) Fault
  then_checked r = r >>= λ bytes. checked plan bytes >>= λ bytes. with_tail plan files bytes

  abbrev then_kept : Result (List ℕ) Fault → Result (List ℕ) Fault
  then_kept r = r >>= λ bytes. with_tail plan files bytes

  abbrev passed : List ℕ → Option Fault → Result (List ℕ) Fault
  passed bytes o = (unless o bytes >>= λ bytes. Ok bytes) >>= λ bytes. with_tail plan files bytes

  -- ---- what is linked

  -- the link fails before the check
  pub not_linked : (e x : LinkError) → x ≡ e → Answers (Err e) (link_of plan files) → Answers (Err x) (linked plan files)
  unfolding linked
  not_linked e x is fails = fails_by (linked plan files) e x is (by e fails)
    where
      by : (e : LinkError) → Answers (Err e) (link_of plan files) → Answers (Err e) (then_checked (link_of plan files))
      by (Refused f) fails = ap then_checked fails
      by OutOfMemory fails = tt

  -- the check refuses what is linked
  pub not_valid : (bytes : List ℕ) (e x : LinkError) → x ≡ e → link_of plan files ≡ Ok bytes → Stops e (invalid_fault plan bytes) → Answers (Err x) (linked plan files)
  unfolding linked
  not_valid bytes e x is link stops = fails_by (linked plan files) e x is (by e stops)
    where
      by : (e : LinkError) → Stops e (invalid_fault plan bytes) → Answers (Err e) (then_checked (link_of plan files))
      by (Refused f) stops = ap then_checked link ∙ ap (passed bytes) stops
      by OutOfMemory stops = tt

  -- the check passes it, and behind it stands what is said
  pub passes_check : (bytes : List ℕ) (r : Result (List ℕ) LinkError) → link_of plan files ≡ Ok bytes → invalid_fault plan bytes ≡ None → Answers r (with_tail plan files bytes)
      → Answers r (linked plan files)
  unfolding linked
  passes_check bytes r link none said = subst (Answers r) (sym (ap then_checked link ∙ ap (passed bytes) none)) said

  -- ---- what the link gave

  -- the module, and what stands behind it
  abbrev pub Parts : Result (List ℕ) Fault → List ℕ → Type 0
  Parts r whole = (bytes : List ℕ) × (r ≡ Ok bytes) × (with_tail plan files bytes ≡ Ok whole)

  passed_is : (bytes whole : List ℕ) (o : Option Fault) → passed bytes o ≡ Ok whole → with_tail plan files bytes ≡ Ok whole
  passed_is bytes whole None e = e
  passed_is bytes whole (Some f) e = absurd cc

  checked_parts : (r : Result (List ℕ) Fault) (whole : List ℕ) → then_checked r ≡ Ok whole → Parts r whole
  checked_parts (Ok bytes) whole e = (bytes, refl, passed_is bytes whole (invalid_fault plan bytes) e)
  checked_parts (Err f) whole e = absurd cc

  kept_parts : (r : Result (List ℕ) Fault) (whole : List ℕ) → then_kept r ≡ Ok whole → Parts r whole
  kept_parts (Ok bytes) whole e = (bytes, refl, e)
  kept_parts (Err f) whole e = absurd cc

  pub linked_parts : (whole : List ℕ) → linked plan files ≡ Ok whole → Parts (link_of plan files) whole
  unfolding linked
  linked_parts whole e = checked_parts (link_of plan files) whole e

  unchecked_parts : (whole : List ℕ) → unchecked plan files ≡ Ok whole → Parts (link_of plan files) whole
  unfolding unchecked
  unchecked_parts whole e = kept_parts (link_of plan files) whole e

  -- ---- of valid objects

  -- where the check passes what is linked, nothing is asked of it
  same_by : (r : Result (List ℕ) Fault) → ((bytes : List ℕ) → r ≡ Ok bytes → invalid_fault plan bytes ≡ None) → then_checked r ≡ then_kept r
  same_by (Ok bytes) none = ap (passed bytes) (none bytes refl)
  same_by (Err f) none = refl

  -- sections refuse by no fault of the check
  none_of_both : (r : Result (List ℕ) Fault) (at : InvalidAt) → (r ≡ Err (Invalid at) → ⊥) → ((bytes : List ℕ) → r ≡ Ok bytes → with_tail plan files bytes ≡ Err (Invalid at) → ⊥)
      → then_kept r ≡ Err (Invalid at) → ⊥
  none_of_both (Ok bytes) at link sections e = sections bytes refl e
  none_of_both (Err f) at link sections e = link e

  -- what is valid stays so
  pub valid_whole : ValidStays → (bytes : List ℕ) (r : Result (List ℕ) LinkError) → IsValidOutput bytes → Answers r (with_tail plan files bytes) → IfOk r IsValidOutput
  valid_whole stays bytes (Ok whole) valid said = stays plan files bytes whole valid said
  valid_whole stays bytes (Err e) valid said = tt

  module _ (law : AllLinksAreValid) (judge : LinksDontJudge) (stays : ValidStays) (is : IsPlan plan) (long : length files ≡ unwrap_or plan.make_case (length plan.inputs)) (all : AllValid plan files) where
    none_found : (bytes : List ℕ) → link_of plan files ≡ Ok bytes → invalid_fault plan bytes ≡ None
    none_found bytes link = passes plan bytes (law plan files bytes is long all link)

    never_said : (at : InvalidAt) → unchecked plan files ≡ Err (Invalid at) → ⊥
    unfolding unchecked
    never_said at e = none_of_both (link_of plan files) at (judge plan files at) (λ bytes link. sections_dont_judge plan files bytes link at) e

    never_so : (answer : Result (List ℕ) LinkError) → Answers answer (unchecked plan files) → (at : InvalidAt) → answer ≡ Err (Refused (Invalid at)) → ⊥
    never_so answer said at e = never_said at (subst (λ (r : Result (List ℕ) LinkError). Answers r (unchecked plan files)) e said)

    as_unchecked : linked plan files ≡ unchecked plan files
    unfolding linked unchecked
    as_unchecked = same_by (link_of plan files) none_found

    all_valid : (answer : Result (List ℕ) LinkError) → Answers answer (unchecked plan files) → IfOk answer IsValidOutput
    all_valid (Ok whole) said =
        let p = unchecked_parts whole said in
        stays plan files p.0 whole (law plan files p.0 is long all p.1) p.2
    all_valid (Err e) said = tt

    pub keeps_valid : (answer : Result (List ℕ) LinkError) → Answers answer (linked plan files) → KeepsValid plan files answer
    keeps_valid answer said =
        let passes = subst (Answers answer) as_unchecked said in
        record { passes = passes; never = never_so answer passes; valid = all_valid answer passes }

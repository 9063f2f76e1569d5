-- What is told of calls, over what the shelf holds later or held before.
use Rattle.std.proofs.Common.{◌≡◌, ◌⊎◌, inl, inr, ℕ, ◌==◌, Bool, true, false, List, [], ◌∷◌, length, Option, Some, None, Result, Ok, Err, refl, sym, subst, ◌∙◌, arith}
use Rattle.std.specs.Prelude.{IfOk, IfErr}
use Rattle.std.proofs.lemmas.Bool.{eqb-true}
use Rattle.wl_base.specs.declared.usage.Usage.{Usage as UsageFault}
use Rattle.wl_outside.specs.Shelf.{Shown, Same, Grows}
use Rattle.link_plan.specs.declared.plan.Plan.{Plan}
use Rattle.link_command.specs.declared.asked.Asked.{Asked}
use Rattle.link_command.specs.declared.status.Status.{Status}
use Rattle.link_command.specs.declared.status.Status.TheVariants.{Linked, Refused, Usage, ReadFault, WriteFault, NoMemory}
use Rattle.link_command.specs.Command.{planned, Shows, IsUnlessMemory, IsTold}
use Rattle.link_command.specs.Telling.{AreMismatches, WouldTell}
use Rattle.link_command.specs.mismatch_rules.declared.mismatch.Mismatch.{Mismatch}
use Rattle.driver_command.specs.Causes.{CausesBy, is_clash, AreCauses, TellsOf}
use Rattle.driver_command.specs.Linked.{LinksBy, LinksAs}
use Rattle.driver_command.proofs.Around.{tells_back, files_in, tells_after, grows_all, same_all, links_after, links_before, would_back}

-- a link that is refused for a clash saves nothing
pub clash_same : (loose : Bool) (asked : Asked) (status : Status) (before after : Shown) (own : List (List ℕ)) → is_clash status ≡ true → LinksBy loose asked status before after own → Same before after
clash_same loose asked Linked before after own is h = absurd cc
clash_same loose asked (Refused fault) before after own is h = by (planned true loose asked own) h.cause h.is_usage
  where
    by : (said : Result Plan UsageFault) → IfOk said (λ plan. Shows (Refused fault) before after own plan) → IfErr said (λ u. IsUnlessMemory (Refused fault) (Usage u)) → Same before after
    by (Ok plan) shows usage = shows.1
    by (Err u) shows usage = elim usage [ inl e ↦ absurd cc | inr e ↦ absurd cc ]
clash_same loose asked (Usage u) before after own is h = absurd cc
clash_same loose asked (ReadFault k) before after own is h = absurd cc
clash_same loose asked WriteFault before after own is h = absurd cc
clash_same loose asked NoMemory before after own is h = absurd cc

module _ (before after : Shown) (grows : Grows before after) (same : Same before after) (asked : Asked) (own : List (List ℕ)) (told : List Mismatch) where
  told_back : (case : Option ℕ) → IsTold case after → IsTold case before
  told_back (Some n) given = given
  told_back None given = tells_back before after grows given

  mismatches_on : (plan : Plan) → (IsTold plan.make_case before → AreMismatches before own plan told) → IsTold plan.make_case after → AreMismatches after own plan told
  mismatches_on plan are given =
      let t = told_back plan.make_case given in
      let h = are t in record { files = h.files; held = files_in before after after grows same own plan.make_case plan t ∙ h.held; are = h.are }

  would_on : (r : Result Plan UsageFault) → IfOk r (λ plan. IsTold plan.make_case before → AreMismatches before own plan told)
      → IfOk r (λ plan. IsTold plan.make_case after → AreMismatches after own plan told)
  would_on (Ok plan) h = mismatches_on plan h
  would_on (Err u) h = tt

  causes_on_by : (b : Bool) → CausesBy b asked before own told → CausesBy b asked after own told
  causes_on_by true h = elim h [ inl none ↦ inl none | inr would ↦ inr (would_on (planned true true asked own) would) ]
  causes_on_by false h = h

  causes_on : (status : Status) → AreCauses asked status before own told → AreCauses asked status after own told
  causes_on status h = causes_on_by (is_clash status) h

  -- the causes of a refusal for a clash
  pub are_causes : (status : Status) → is_clash status ≡ true → WouldTell asked before own told → AreCauses asked status after own told
  are_causes status is h = causes_on status (subst (λ b. CausesBy b asked before own told) (sym is) (inr h))

pub no_causes : (asked : Asked) (status : Status) (shelf : Shown) (own : List (List ℕ)) → AreCauses asked status shelf own []
no_causes asked status shelf own = by (is_clash status)
  where
    by : (b : Bool) → CausesBy b asked shelf own []
    by true = inl refl
    by false = refl

-- what is told of calls, whatever was asked of the shelf before the link
pub tells_of_after : (before mid after : Shown) → Grows before mid → Same before mid → (own : List (List ℕ)) (fatal : Bool) (asked : Asked) (status : Status) (told : List Mismatch)
    → TellsOf fatal asked status mid after own told → TellsOf fatal asked status before after own told
tells_of_after before mid after grows same own true asked status told h = h
tells_of_after before mid after grows same own false asked status told h = tells_after before mid after grows same own (planned true true asked own) status told h

-- or is asked behind it
pub tells_of_on : (before mid after : Shown) → Grows mid after → Same mid after → (own : List (List ℕ)) (fatal : Bool) (asked : Asked) (status : Status) (told : List Mismatch)
    → TellsOf fatal asked status before mid own told → TellsOf fatal asked status before after own told
tells_of_on before mid after grows same own true asked status told h = causes_on mid after grows same asked own told status h
tells_of_on before mid after grows same own false asked status told h = h

-- ---- a link with strict calls

is_nothing : (told : List Mismatch) → (length told == 0) ≡ true → told ≡ []
is_nothing [] is = refl
is_nothing (m ∷ ms) is = absurd (let e = eqb-true (length (m ∷ ms)) 0 is in omega (arith, e))

-- by itself
pub strict_links : (before mid after : Shown) → Grows before mid → Grows mid after → Same mid after → (own : List (List ℕ)) (asked : Asked) (status : Status)
    → LinksBy false asked status before mid own → LinksAs true asked status before after own
strict_links before mid after first later held own asked status links = inl (links_before before mid after first later held own false asked status links)

-- and where it clashes and a link with loose ones has nothing to tell, that one
pub loose_links : (before mid next after : Shown) → Grows before mid → Grows mid next → Same mid next → (own : List (List ℕ)) (asked : Asked) (strict status : Status) (told : List Mismatch)
    → LinksBy false asked strict before mid own → is_clash strict ≡ true → WouldTell asked mid own told → (length told == 0) ≡ true → LinksBy true asked status next after own
    → LinksAs true asked status before after own
loose_links before mid next after first later held own asked strict status told was clash would none links =
    let same = clash_same false asked strict before mid own clash was in
    inr (
      subst (WouldTell asked before own) (is_nothing told none) (would_back before mid after first same own asked told would),
      links_after before next after (grows_all before mid next first later) (same_all before mid next first same held) own true asked status links,
    )

-- What a save shows that comes after loads.
use Rattle.std.proofs.Common.{◌≡◌, ◌⊎◌, inl, inr, ℕ, List, Option, Some, None, IsTrue, IsSomeAnd, IfSome, Ok, refl, subst, sym, ◌∙◌, arith}
use Rattle.wl_outside.specs.Shelf.{Shown, Same, SameBut, Grows, Torn, SaveFailed}
use Rattle.link_plan.specs.declared.plan.Plan.{Plan}
use Rattle.link_core.specs.Whole.{whole_link, MakesModule}
use Rattle.link_core.specs.link_runs.Links.{Runs}
use Rattle.link_core.specs.link_runs.link_program.link_rules.ModeOf.{IsPlain}
use Rattle.link_command.specs.declared.status.Status.{Status}
use Rattle.link_command.specs.declared.status.Status.TheVariants.{Linked, WriteFault}
use Rattle.link_command.specs.Command.{Shows, IsTold, Saved, SavedRuns, Cut, IsUnlessMemory, files_of}

told_on : (before mid : Shown) → Grows before mid → IsTrue before.tells → IsTrue mid.tells
told_on before mid grows told = subst (λ b. IsTrue b) (sym grows.tells) told

-- a shelf that nothing was asked of
pub grows_not : (s : Shown) → Grows s s
grows_not s = record { tells = refl; loads = λ name. omega arith; saves = λ name. omega arith }

pub grows_on : (before mid after : Shown) → Grows before mid → Grows mid after → Grows before after
grows_on before mid after first later = record {
  tells = later.tells ∙ first.tells;
  loads = λ name. omega (arith, first.loads name, later.loads name);
  saves = λ name. omega (arith, first.saves name, later.saves name);
}

pub same_on : (before mid after : Shown) → Same before mid → Grows before mid → Same mid after → Same before after
same_on before mid after same grows later = λ told n. later (told_on before mid grows told) n ∙ same told n

same_but_on : (before mid after : Shown) (name : List ℕ) → Same before mid → Grows before mid → SameBut name mid after → SameBut name before after
same_but_on before mid after name same grows later = λ told n other. later (told_on before mid grows told) n other ∙ same told n

torn_on : (before mid after : Shown) (name bytes : List ℕ) → Same before mid → Grows before mid → Torn mid after name bytes → Torn before after name bytes
torn_on before mid after name bytes same grows torn = λ told.
    elim (torn (told_on before mid grows told)) [ inl old ↦ inl (old ∙ same told name) | inr new ↦ inr new ]

saved_on : (output : Option (List ℕ)) (before mid after : Shown) (bytes : List ℕ) → Same before mid → Grows before mid → Saved mid after output bytes
    → Saved before after output bytes
saved_on None before mid after bytes same grows saved = same_on before mid after same grows saved
saved_on (Some output) before mid after bytes same grows saved = (saved.0, same_but_on before mid after output same grows saved.1)

cut_on : (output : Option (List ℕ)) (before mid after : Shown) (bytes : List ℕ) → Same before mid → Grows before mid → Cut mid after output bytes
    → Cut before after output bytes
cut_on None before mid after bytes same grows cut = same_on before mid after same grows cut
cut_on (Some output) before mid after bytes same grows cut =
    (torn_on before mid after output bytes same grows cut.0, same_but_on before mid after output same grows cut.1)

failed_on : (output : Option (List ℕ)) (before mid after : Shown) → Grows before mid → IsSomeAnd output (λ o. SaveFailed mid after o)
    → IsSomeAnd output (λ o. SaveFailed before after o)
failed_on None before mid after grows failed = failed
failed_on (Some output) before mid after grows failed = omega (arith, failed, grows.saves output)

-- the answer of a save
pub save_shows : (status : Status) (before mid after : Shown) (words : List (List ℕ)) (plan : Plan) (files : List (List ℕ)) (bytes : List ℕ)
    → (status ≡ Linked) ⊎ (status ≡ WriteFault) → Same before mid → Grows before mid
    → (IsTold plan.make_case before → files_of plan.make_case before words plan ≡ Some files) → whole_link plan files ≡ Ok bytes
    → (status ≡ Linked → Saved mid after plan.output bytes) → (status ≡ WriteFault → Cut mid after plan.output bytes)
    → (status ≡ WriteFault → IsSomeAnd plan.output (λ o. SaveFailed mid after o)) → Shows status before after words plan
save_shows status before mid after words plan files bytes (inl done) same grows held link saved cut failed =
    subst (λ (s : Status). Shows s before after words plan) (sym done) (λ told. (
      bytes,
      record { files = files; held = held told; link = link },
      saved_on plan.output before mid after bytes same grows (saved done),
    ))
save_shows status before mid after words plan files bytes (inr torn) same grows held link saved cut failed =
    subst (λ (s : Status). Shows s before after words plan) (sym torn) (
      λ told. (bytes, record { files = files; held = held told; link = link }, cut_on plan.output before mid after bytes same grows (cut torn)),
      failed_on plan.output before mid after grows (failed torn),
    )

-- what was linked and saved runs
pub save_runs : (status : Status) (before mid after : Shown) (words : List (List ℕ)) (plan : Plan) (files : List (List ℕ)) (bytes : List ℕ)
    → Same before mid → Grows before mid → (IsTold plan.make_case before → files_of plan.make_case before words plan ≡ Some files) → (MakesModule plan → IsPlain plan → Runs plan files bytes)
    → (status ≡ Linked → Saved mid after plan.output bytes) → status ≡ Linked → IsTold plan.make_case before → SavedRuns before after words plan
save_runs status before mid after words plan files bytes same grows held runs saved done told = record {
  files = files;
  held = held told;
  bytes = bytes;
  saved = saved_on plan.output before mid after bytes same grows (saved done);
  runs = runs;
}

-- a save that doesn't fail
pub save_works : (output : Option (List ℕ)) (status : Status) (before mid after : Shown) → (status ≡ Linked) ⊎ (status ≡ WriteFault) → Grows before mid
    → (status ≡ WriteFault → IsSomeAnd output (λ o. SaveFailed mid after o)) → IfSome output (λ o. SaveFailed before after o → ⊥) → IsUnlessMemory status Linked
save_works output status before mid after (inl done) grows failed works = inl done
save_works None status before mid after (inr torn) grows failed works = absurd (failed torn)
save_works (Some output) status before mid after (inr torn) grows failed works = absurd (works (failed_on (Some output) before mid after grows (failed torn)))

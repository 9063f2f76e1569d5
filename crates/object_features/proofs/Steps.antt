-- The steps of what stands behind a module.
use Rattle.std.proofs.Common.{◌≡◌, ℕ, Bool, true, false, cond, List, Option, Some, None, Result, Ok, Err, refl, sym, ap, subst, ◌∙◌}
use Rattle.std.specs.Prelude.{is_some}
use Rattle.std.specs.List.{list_all}
use Rattle.wl_base.specs.Choice.{unless, ◌>>=◌}
use Rattle.wl_base.specs.declared.fault.Fault.{Fault}
use Rattle.link_plan.specs.declared.plan.FeatureWords.{FeatureWords}
use Rattle.debug_rules.specs.Faults.{Input}
use Rattle.feature_section.specs.declared.feature.Feature.{Feature}
use Rattle.debug_out.specs.declared.error.DebugError.{DebugError}
use Rattle.debug_out.specs.Answers.{Answers}
use Rattle.object_features.specs.Said.{said}
use Rattle.object_features.specs.Check.{numbers_of, fault_among}
use Rattle.object_features.specs.Tail.{features_by, features_of, features_fault, kept_section}
use Rattle.object_features.specs.Onto.{are_plain, Noted, noted_of, noted_in}
use Rattle.object_features.specs.Judged.{IsSaid, fault_within, fault_for}
use Rattle.object_features.proofs.Plain.{plain_fault}

-- ---- what is said

-- a broken section is the answer, whatever is asked
pub broken : {A B C : Type 0} (r : Result A Fault) (g : A → B) (h : A → Result C Fault) (fault : Fault) → (r >>= λ a. Ok (g a)) ≡ Err fault → (r >>= h) ≡ Err fault
broken (Ok a) g h fault e = absurd cc
broken (Err other) g h fault e = cc

pub is_said : (w : FeatureWords) (inputs : List Input) (n : Noted) (names : List (List ℕ)) → noted_in inputs ≡ Ok n → names ≡ features_by w n.names → IsSaid w inputs names n.plain
is_said w inputs n names e are = by (said inputs) refl e
  where
    by : (r : Result (List (List Feature)) Fault) → said inputs ≡ r → (r >>= λ lists. Ok (noted_of lists)) ≡ Ok n → IsSaid w inputs names n.plain
    by (Ok lists) is e =
        let same : noted_of lists ≡ n = cc in
        record { lists = lists; are = is; features = are ∙ ap (λ (m : Noted). features_by w m.names) (sym same); asks = ap (λ (m : Noted). m.plain) (sym same) }
    by (Err fault) is e = absurd cc

-- ---- what is judged

module _ (w : FeatureWords) (inputs : List Input) where
  abbrev judged_by : Result (List (List Feature)) Fault → Result (Option Fault) Fault
  judged_by r = r >>= λ lists. Ok (features_fault w inputs lists)

  off : (lists : List (List Feature)) → w.checked ≡ false → features_fault w inputs lists ≡ None
  off lists e = ap (λ b. cond b (fault_among (features_of w lists) (is_some w.allowed) (numbers_of inputs) lists) None) e

  on : (lists : List (List Feature)) → w.checked ≡ true → features_fault w inputs lists ≡ fault_among (features_of w lists) (is_some w.allowed) (numbers_of inputs) lists
  on lists e = ap (λ b. cond b (fault_among (features_of w lists) (is_some w.allowed) (numbers_of inputs) lists) None) e

  module _ (names : List (List ℕ)) (plain : Bool) (s : IsSaid w inputs names plain) where
    pub not_asked : w.checked ≡ false → fault_for w inputs ≡ Ok None
    not_asked e = ap judged_by s.are ∙ ap Ok (off s.lists e)

    pub all_plain : is_some w.allowed ≡ false → plain ≡ true → fault_for w inputs ≡ Ok None
    all_plain free e = ap judged_by s.are ∙ ap Ok (plain_fault w inputs s.lists free (sym s.asks ∙ e))

    same_judged : w.checked ≡ true → fault_for w inputs ≡ fault_within names (is_some w.allowed) inputs
    same_judged e =
        ap judged_by s.are ∙ (ap Ok (on s.lists e ∙ ap (λ ns. fault_among ns (is_some w.allowed) (numbers_of inputs) s.lists) (sym s.features))
        ∙ sym (ap (λ (r : Result (List (List Feature)) Fault). r >>= λ lists. Ok (fault_among names (is_some w.allowed) (numbers_of inputs) lists)) s.are))

    pub judged : (only : Bool) (result : Result (Option Fault) DebugError) → w.checked ≡ true → only ≡ is_some w.allowed
        → Answers result (fault_within names only inputs) → Answers result (fault_for w inputs)
    judged only result e is told =
        subst (Answers result) (sym (same_judged e)) (subst (λ (b : Bool). Answers result (fault_within names b inputs)) is told)

-- ---- the section

pub refused : {A : Type 0} (r : Result A Fault) (f : A → Option Fault) (k : A → List ℕ) (fault : Fault) → (r >>= λ a. Ok (f a)) ≡ Ok (Some fault) → (r >>= λ a. unless (f a) (k a)) ≡ Err fault
refused (Ok a) f k fault e = ap (λ o. unless o (k a)) (let same : f a ≡ Some fault = cc in same)
refused (Err other) f k fault e = absurd cc

pub passed : (w : FeatureWords) (inputs : List Input) (names : List (List ℕ)) (plain : Bool) (section : List ℕ) → IsSaid w inputs names plain
    → fault_for w inputs ≡ Ok None → section ≡ kept_section w names
    → (said inputs >>= λ lists. unless (features_fault w inputs lists) (kept_section w (features_of w lists))) ≡ Ok section
passed w inputs names plain section s none is =
    let none_there = sym (ap (λ (r : Result (List (List Feature)) Fault). r >>= λ lists. Ok (features_fault w inputs lists)) s.are) ∙ none in
    let agree : features_fault w inputs s.lists ≡ None = cc in
    ap (λ (r : Result (List (List Feature)) Fault). r >>= λ lists. unless (features_fault w inputs lists) (kept_section w (features_of w lists))) s.are
    ∙ (ap (λ o. unless o (kept_section w (features_of w s.lists))) agree ∙ ap Ok (ap (kept_section w) (sym s.features) ∙ sym is))

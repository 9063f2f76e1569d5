-- Objects that ask nothing of others agree, where words allow what is used.
use Rattle.std.proofs.Common.{◌≡◌, ℕ, zero, suc, Bool, true, false, cond, List, [], ◌∷◌, Option, Some, None, refl, ap, ◌∙◌}
use Rattle.std.specs.Prelude.{◌&&◌, is_some, if◌then◌else◌, option_and_then}
use Rattle.std.specs.List.{list_all}
use Rattle.std.proofs.lemmas.Bool.{and_parts}
use Rattle.wl_base.specs.Choice.{first_some}
use Rattle.wl_base.specs.declared.fault.Fault.{Fault}
use Rattle.feature_section.specs.declared.feature.Feature.{Feature}
use Rattle.feature_section.specs.declared.feature.FeatureMark.{FeatureMark}
use Rattle.feature_section.specs.declared.feature.FeatureMark.TheVariants.{Used, Required, Disallowed}
use Rattle.feature_section.specs.declared.conflict.Conflict.{Conflict}
use Rattle.feature_section.specs.Union.{is_used}
use Rattle.feature_section.specs.Conflict.{is_mark, Sayings, said_also, said_from, said_by, said_at, conflict_at, first_of_two, used_against, lacking, object_conflict, conflict_from, first_conflict}
use Rattle.link_plan.specs.declared.plan.FeatureWords.{FeatureWords}
use Rattle.debug_rules.specs.Faults.{Input}
use Rattle.object_features.specs.Check.{numbers_of, first_against, fault_among}
use Rattle.object_features.specs.Tail.{features_of, features_fault}
use Rattle.object_features.specs.Onto.{is_plain, are_plain}

none_said : Sayings
none_said = []

module _ (mark : FeatureMark) (asks : is_mark Used mark ≡ false) where
  -- a plain mark isn't this one
  other_mark : (m : FeatureMark) → is_plain m ≡ true → is_mark m mark ≡ false
  other_mark Used e = asks
  other_mark Required e = absurd cc
  other_mark Disallowed e = absurd cc

  said_in : (object place : ℕ) (features : List Feature) → are_plain features ≡ true → said_from mark object place [] features ≡ []
  said_in object place [] e = refl
  said_in object place (f ∷ fs) e =
      let p = and_parts (is_plain f.mark) (are_plain fs) e in
      ap (λ b. said_from mark object (suc place) (cond b (said_also [] f.name (record { object = object; place = place })) []) fs) (other_mark f.mark p.0) ∙ said_in object (suc place) fs p.1

  said_by_all : (object : ℕ) (objects : List (List Feature)) → list_all are_plain objects ≡ true → said_by mark object [] objects ≡ []
  said_by_all object [] e = refl
  said_by_all object (fs ∷ os) e =
      let p = and_parts (are_plain fs) (list_all are_plain os) e in
      ap (λ sayings. said_by mark (suc object) sayings os) (said_in object 0 fs p.0) ∙ said_by_all (suc object) os p.1

none_against : (object : ℕ) (features : List Feature) → used_against [] object features ≡ None
none_against object [] = refl
none_against object (f ∷ fs) = by (is_used f.mark) (none_against object fs)
  where
    by : (b : Bool) → used_against [] object fs ≡ None → first_of_two (conflict_at object (cond b (said_at [] f.name) None)) (used_against [] object fs) ≡ None
    by true others = others
    by false others = others

none_between : (object : ℕ) (objects : List (List Feature)) → conflict_from [] [] object objects ≡ None
none_between object [] = refl
none_between object (fs ∷ os) =
    ap (λ c. first_of_two (first_of_two c None) (conflict_from [] [] (suc object) os)) (none_against object fs) ∙ none_between (suc object) os

plain_agree : (objects : List (List Feature)) → list_all are_plain objects ≡ true → first_conflict objects ≡ None
unfolding first_conflict
plain_agree objects e =
    ap (λ sayings. conflict_from sayings (said_by Required 0 [] objects) 0 objects) (said_by_all Disallowed refl 0 objects e)
    ∙ (ap (λ sayings. conflict_from [] sayings 0 objects) (said_by_all Required refl 0 objects e) ∙ none_between 0 objects)

-- Objects that ask nothing of others have no fault where words don't tell what is allowed.
pub plain_fault : (w : FeatureWords) (inputs : List Input) (objects : List (List Feature)) → is_some w.allowed ≡ false → list_all are_plain objects ≡ true → features_fault w inputs objects ≡ None
plain_fault w inputs objects free plain = by w.checked
  where
    both : fault_among (features_of w objects) (is_some w.allowed) (numbers_of inputs) objects ≡ None
    both = rw (free, plain_agree objects plain) refl

    by : (b : Bool) → cond b (fault_among (features_of w objects) (is_some w.allowed) (numbers_of inputs) objects) None ≡ None
    by true = both
    by false = refl

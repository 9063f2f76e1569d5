-- What is known of objects when they are judged.
use Rattle.std.specs.Prelude.{◌≡◌, ℕ, Bool, List, Option, Result, Ok}
use Rattle.std.specs.List.{list_all}
use Rattle.wl_base.specs.Choice.{◌>>=◌}
use Rattle.wl_base.specs.declared.fault.Fault.{Fault}
use Rattle.link_plan.specs.declared.plan.FeatureWords.{FeatureWords}
use Rattle.debug_rules.specs.Faults.{Input}
use Rattle.feature_section.specs.declared.feature.Feature.{Feature}
use Rattle.object_features.specs.Said.{said}
use Rattle.object_features.specs.Check.{numbers_of, fault_among}
use Rattle.object_features.specs.Tail.{features_of, features_fault}
use Rattle.object_features.specs.Onto.{are_plain}

-- They say something, these are the features that the module then says, and it is told whether they ask nothing of one another.
pub record IsSaid (w : FeatureWords) (inputs : List Input) (names : List (List ℕ)) (plain : Bool) : Type 0 where
  pub lists : List (List Feature)
  pub are : said inputs ≡ Ok lists
  pub features : names ≡ features_of w lists
  pub asks : plain ≡ list_all are_plain lists

-- The first fault of the check, where words allow these names alone; or the first section that is broken.
abbrev pub fault_within : List (List ℕ) → Bool → List Input → Result (Option Fault) Fault
fault_within names only inputs = said inputs >>= λ lists. Ok (fault_among names only (numbers_of inputs) lists)

-- The same as the words ask for it.
abbrev pub fault_for : FeatureWords → List Input → Result (Option Fault) Fault
fault_for w inputs = said inputs >>= λ lists. Ok (features_fault w inputs lists)

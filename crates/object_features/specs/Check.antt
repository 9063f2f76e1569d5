-- Whether the loaded objects agree about features, as wasm-ld's check asks (`--check-features`, its default): first whether they use those alone
-- that words allow, then whether they use what one of them disallows or lack what one of them requires.
use Rattle.std.specs.Prelude.{ℕ, Bool, not, ◌&&◌, List, [], ◌∷◌, map, slice_get, slice_index_or, if◌then◌else◌, Option, Some, None, is_some, option_map, option_and_then}
use Rattle.wl_base.specs.Choice.{first_some}
use Rattle.wl_base.specs.declared.fault.Fault.{Fault}
use Rattle.wl_base.specs.declared.fault.Fault.TheVariants as faults
use Rattle.wl_base.specs.declared.fault.FeatureRule.{FeatureRule}
use Rattle.wl_base.specs.declared.fault.FeatureRule.TheVariants as rules
use Rattle.link_plan.specs.declared.plan.FeatureWords.{FeatureWords}
use Rattle.debug_rules.specs.Faults.{Input}
use Rattle.feature_section.specs.declared.feature.Feature.{Feature}
use Rattle.feature_section.specs.declared.feature.FeatureMark.{FeatureMark}
use Rattle.feature_section.specs.declared.feature.FeatureMark.TheVariants.{Used, Required, Disallowed}
use Rattle.feature_section.specs.declared.conflict.Saying.{Saying}
use Rattle.feature_section.specs.declared.conflict.Conflict.{Conflict}
use Rattle.feature_section.specs.Union.{is_used, is_among}
use Rattle.feature_section.specs.Conflict.{first_conflict}

-- The precedence numbers of the objects.
abbrev pub numbers_of : List Input → List ℕ
numbers_of inputs = map (λ i. i.input) inputs

-- ---- what words allow

-- The first feature that an object uses and that isn't among these. The words are input 0.
abbrev pub outside : List (List ℕ) → ℕ → List Feature → Option Fault
outside names input [] = None
outside names input (f ∷ fs) = if is_used f.mark && not (is_among names f.name) then Some (faults.Feature f.name input 0 rules.NotAllowed) else outside names input fs

-- The first of the objects, which have these numbers.
abbrev pub first_outside : List (List ℕ) → List ℕ → List (List Feature) → Option Fault
first_outside names [] objects = None
first_outside names (n ∷ ns) [] = None
first_outside names (n ∷ ns) (fs ∷ others) = first_some (outside names n fs ∷ first_outside names ns others ∷ [])

-- ---- what objects ask of one another

-- What is disallowed is used, and what is required is lacking.
abbrev pub rule_of : FeatureMark → FeatureRule
rule_of Used = rules.Required
rule_of Required = rules.Required
rule_of Disallowed = rules.Disallowed

-- what an object says at a place
abbrev pub said_at : List (List Feature) → Saying → Option Feature
said_at objects at = option_and_then (λ features. slice_get features at.place) (slice_get objects at.object)

abbrev pub conflict_fault : List ℕ → List (List Feature) → Conflict → Option Fault
conflict_fault numbers objects c =
    option_map (λ f. faults.Feature f.name (slice_index_or numbers c.object 0) (slice_index_or numbers c.against.object 0) (rule_of f.mark)) (said_at objects c.against)

abbrev pub first_against : List ℕ → List (List Feature) → Option Fault
first_against numbers objects = option_and_then (conflict_fault numbers objects) (first_conflict objects)

-- ---- both

-- The first fault of the objects, where words allow these names alone.
abbrev pub fault_among : List (List ℕ) → Bool → List ℕ → List (List Feature) → Option Fault
fault_among names only numbers objects = first_some ((if only then first_outside names numbers objects else None) ∷ first_against numbers objects ∷ [])

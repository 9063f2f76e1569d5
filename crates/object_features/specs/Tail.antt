-- The section `target_features` behind a module (tool conventions, Linking.md, "Target Features Section"), as drivers ask for it. As with
-- wasm-ld the module says what its objects use, or what words allow in place of that, and beside it what words add.
use Rattle.std.specs.Prelude.{ℕ, List, [], ◌∷◌, if◌then◌else◌, Option, Some, None, is_some, Result, Ok}
use Rattle.wl_base.specs.Choice.{unless, ◌>>=◌}
use Rattle.wl_base.specs.declared.fault.Fault.{Fault}
use Rattle.link_plan.specs.declared.plan.FeatureWords.{FeatureWords}
use Rattle.debug_rules.specs.Faults.{Input}
use Rattle.feature_section.specs.declared.feature.Feature.{Feature}
use Rattle.feature_section.specs.Union.{with_name, union_of}
use Rattle.feature_section.specs.Section.{features_section}
use Rattle.object_features.specs.Said.{said}
use Rattle.object_features.specs.Check.{numbers_of, fault_among}

-- The names and these, each at its place in the order, once.
abbrev pub with_names : List (List ℕ) → List (List ℕ) → List (List ℕ)
with_names names [] = names
with_names names (n ∷ ns) = with_names (with_name names n) ns

-- Those that are allowed, where words tell them, or else those that are used.
abbrev pub told_or : Option (List (List ℕ)) → List (List ℕ) → List (List ℕ)
told_or None used = used
told_or (Some allowed) used = with_names [] allowed

-- The features that the module says: these and the further ones.
abbrev pub features_by : FeatureWords → List (List ℕ) → List (List ℕ)
features_by w used = with_names (told_or w.allowed used) w.extra

abbrev pub features_of : FeatureWords → List (List Feature) → List (List ℕ)
features_of w objects = features_by w (union_of objects)

-- The first fault of the objects, where words ask for the check. Only where words tell what is allowed may an object use too much.
abbrev pub features_fault : FeatureWords → List Input → List (List Feature) → Option Fault
features_fault w inputs objects = if w.checked then fault_among (features_of w objects) (is_some w.allowed) (numbers_of inputs) objects else None

abbrev pub kept_section : FeatureWords → List (List ℕ) → List ℕ
kept_section w names = if w.kept then features_section names else []

-- The section, where words ask for it; or the first section of an object that is broken, or else the first fault of the check.
unfoldable pub feature_tail : Option FeatureWords → List Input → Result (List ℕ) Fault
feature_tail None inputs = Ok []
feature_tail (Some w) inputs = do
  objects ← said inputs
  unless (features_fault w inputs objects) (kept_section w (features_of w objects))

-- What the section behind a module is, whatever words ask.
use Rattle.std.specs.Prelude.{◌≡◌, ℕ, ◌<◌, ◌^◌, List, length, Option, Ok}
use Rattle.wasm_module.specs.Sections.{AreCustoms}
use Rattle.link_plan.specs.declared.plan.FeatureWords.{FeatureWords}
use Rattle.debug_rules.specs.Faults.{Input}
use Rattle.object_features.specs.Tail.{feature_tail}

-- Where it is short enough to be spelled, it is a custom section, or none (WebAssembly Core 2.0, 5.5.3).
abbrev pub FeaturesAreCustom : Type 0
FeaturesAreCustom = (words : Option FeatureWords) (inputs : List Input) (section : List ℕ) → feature_tail words inputs ≡ Ok section → length section < 2 ^ 32 → AreCustoms section

-- The section `target_features`: which bytes spell it, behind the section's name (tool conventions, Linking.md, "Target Features Section").
use Rattle.std.specs.Prelude.{ℕ, List}
use Rattle.wasm_grammar.specs.Grammar.{SpellsByte, SpellsName, SpellsVector, Then}
use Rattle.feature_section.specs.declared.feature.Feature.{Feature}
use Rattle.feature_section.specs.declared.feature.FeatureMark.{FeatureMark}
use Rattle.feature_section.specs.declared.feature.FeatureMark.TheVariants.{Used, Required, Disallowed}

-- The prefix of a feature: `+` where it is used, `=` where it is required, `-` where it is disallowed.
abbrev pub mark_byte : FeatureMark → ℕ
mark_byte Used = 0x2B
mark_byte Required = 0x3D
mark_byte Disallowed = 0x2D

-- A feature: its prefix, and its name.
abbrev pub SpellsFeature : Feature → List ℕ → Type 0
SpellsFeature f = Then (SpellsByte (mark_byte f.mark)) (SpellsName f.name)

-- The payload: a vector of features. Each may come more than once.
abbrev pub SpellsFeatures : List Feature → List ℕ → Type 0
SpellsFeatures = SpellsVector SpellsFeature

-- The section `target_features` of the output (tool conventions, Linking.md, "Target Features Section").
use Rattle.std.specs.Prelude.{ℕ, List, [], ◌∷◌, ◌++◌, length, ◌==◌, if◌then◌else◌, codes}
use Rattle.image_emit.specs.Bytes.{sized, vector}
use Rattle.feature_section.specs.declared.feature.Feature.{Feature}
use Rattle.feature_section.specs.declared.feature.FeatureMark.TheVariants.{Used}

-- A name, marked as used.
abbrev pub used : List ℕ → Feature
used name = record { mark = Used; name = name }

-- Its spelling: `+`, and the name.
unfoldable pub used_feature : List ℕ → List ℕ
used_feature name = 0x2B ∷ sized name

-- What follows the section's name: the vector of the names, each marked as used.
unfoldable pub features_payload : List (List ℕ) → List ℕ
features_payload names = vector used_feature names

abbrev pub section_name : List ℕ
section_name = codes "target_features"

-- The custom section, number 0 (Core 5.5.3). Without names there is none.
unfoldable pub features_section : List (List ℕ) → List ℕ
features_section names = if length names == 0 then [] else 0 ∷ sized (sized section_name ++ features_payload names)

-- Reading the section `target_features` from left to right: the features that it spells, or the first fault.
use Rattle.std.specs.Prelude.{ℕ, ◌-◌, ◌==◌, List, length, Result, Ok, Err, if◌then◌else◌}
use Rattle.wasm_grammar.specs.declared.fault.Stop.{Stop}
use Rattle.wasm_grammar.specs.declared.fault.Stop.TheVariants.{Broken}
use Rattle.wasm_grammar.specs.Reading.{Read, ◌>>=◌, byte_at, name_at, vector_at, whole}
use Rattle.feature_section.specs.declared.feature.Feature.{Feature}
use Rattle.feature_section.specs.declared.feature.FeatureMark.{FeatureMark}
use Rattle.feature_section.specs.declared.feature.FeatureMark.TheVariants.{Used, Required, Disallowed}

-- The mark of a prefix, which stands at this place. Another byte is broken.
abbrev pub mark_of : ℕ → ℕ → Result FeatureMark Stop
mark_of place byte =
    if byte == 0x2B then Ok Used
    else (if byte == 0x3D then Ok Required
    else (if byte == 0x2D then Ok Disallowed
    else Err (Broken place)))

unfoldable pub feature_at : Read Feature
feature_at end bytes = do
  byte ← byte_at end bytes
  mark ← mark_of (end - length bytes) byte.0
  name ← name_at end byte.1
  Ok (record { mark = mark; name = name.0 }, name.1)

-- A vector of features that is all the bytes.
unfoldable pub features_at : ℕ → List ℕ → Result (List Feature) Stop
features_at = whole (vector_at feature_at)

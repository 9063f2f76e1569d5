-- What loaded objects say of the features that they use (tool conventions, Linking.md, "Target Features Section").
use Rattle.std.specs.Prelude.{ℕ, Bool, List, [], ◌∷◌, map, filter, flat_map, length, Result, Ok, Err}
use Rattle.std.specs.Str.{bytes_eq}
use Rattle.wl_base.specs.Choice.{◌>>=◌}
use Rattle.wl_base.specs.declared.fault.Fault.{Fault}
use Rattle.wl_base.specs.declared.fault.Fault.TheVariants.{Malformed}
use Rattle.wl_base.specs.declared.fault.Part.TheVariants.{Section}
use Rattle.wasm_grammar.specs.declared.fault.Stop.{Stop}
use Rattle.debug_rules.specs.Sections.{Custom, customs}
use Rattle.debug_rules.specs.Faults.{Input}
use Rattle.feature_section.specs.declared.feature.Feature.{Feature}
use Rattle.feature_section.specs.Reading.{features_at}
use Rattle.feature_section.specs.Section.{section_name}

-- What stands in all of them, or the first fault.
abbrev pub all_of : {A : Type 0} → List (Result A Fault) → Result (List A) Fault
all_of [] = Ok []
all_of (r ∷ rs) = do
  x ← r
  xs ← all_of rs
  Ok (x ∷ xs)

abbrev pub is_features : Custom → Bool
is_features c = bytes_eq c.name section_name

-- A section that isn't spelled whole is broken.
abbrev pub told_in : ℕ → ℕ → Result (List Feature) Stop → Result (List Feature) Fault
told_in input at (Ok features) = Ok features
told_in input at (Err stop) = Err (Malformed input (Section at))

-- What a section of an input tells.
abbrev pub section_said : ℕ → Custom → Result (List Feature) Fault
section_said input c = told_in input c.at (features_at (length c.content) c.content)

-- What an object says: all its sections of that name, one behind another.
abbrev pub object_said : Input → Result (List Feature) Fault
object_said i = do
  parts ← all_of (map (section_said i.input) (filter is_features (customs i.bytes)))
  Ok (flat_map (λ features. features) parts)

-- What the loaded objects say, or the first section that is broken.
unfoldable pub said : List Input → Result (List (List Feature)) Fault
said inputs = all_of (map object_said inputs)

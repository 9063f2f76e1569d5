-- What objects say, taken one section after another.
use Rattle.std.specs.Prelude.{◌≡◌, ℕ, Bool, true, false, ◌&&◌, List, [], ◌∷◌, ◌++◌, length, if◌then◌else◌, Option, Some, None, Result, Ok}
use Rattle.std.specs.Str.{bytes_eq}
use Rattle.std.specs.List.{list_all}
use Rattle.wl_base.specs.Choice.{◌>>=◌}
use Rattle.wl_base.specs.declared.fault.Fault.{Fault}
use Rattle.debug_rules.specs.Sections.{Custom, customs}
use Rattle.debug_rules.specs.Faults.{Input}
use Rattle.feature_section.specs.declared.feature.Feature.{Feature}
use Rattle.feature_section.specs.declared.feature.FeatureMark.{FeatureMark}
use Rattle.feature_section.specs.declared.feature.FeatureMark.TheVariants.{Used, Required, Disallowed}
use Rattle.feature_section.specs.Reading.{features_at}
use Rattle.feature_section.specs.Union.{with_features, union_of}
use Rattle.object_features.specs.Said.{is_features, section_said, said}

-- ---- what is kept of them

-- Nothing is asked of other objects.
abbrev pub is_plain : FeatureMark → Bool
is_plain Used = true
is_plain Required = false
is_plain Disallowed = false

abbrev pub are_plain : List Feature → Bool
are_plain features = list_all (λ f. is_plain f.mark) features

-- The names of the features that are used, and whether nothing is asked of other objects.
pub record Noted : Type 0 where
  pub names : List (List ℕ)
  pub plain : Bool

abbrev pub none_noted : Noted
none_noted = record { names = []; plain = true }

abbrev pub noted_with : Noted → List Feature → Noted
noted_with n features = record { names = with_features n.names features; plain = n.plain && are_plain features }

-- ---- of sections and objects

-- What a section of that name says.
abbrev pub with_section : {S : Type 0} → (S → List Feature → S) → ℕ → S → Custom → Result S Fault
with_section step input s c = if is_features c then (section_said input c >>= λ features. Ok (step s features)) else Ok s

abbrev pub with_sections : {S : Type 0} → (S → List Feature → S) → ℕ → S → List Custom → Result S Fault
with_sections step input s [] = Ok s
with_sections step input s (c ∷ cs) = with_section step input s c >>= λ more. with_sections step input more cs

abbrev pub noted_onto : Noted → List Input → Result Noted Fault
noted_onto n [] = Ok n
noted_onto n (i ∷ is) = with_sections noted_with i.input n (customs i.bytes) >>= λ more. noted_onto more is

-- what is noted of the objects
abbrev pub noted_of : List (List Feature) → Noted
noted_of objects = record { names = union_of objects; plain = list_all are_plain objects }

abbrev pub noted_in : List Input → Result Noted Fault
noted_in inputs = said inputs >>= λ objects. Ok (noted_of objects)

-- ---- lists

-- features behind others
abbrev pub behind : List Feature → List Feature → List Feature
behind front features = front ++ features

abbrev pub said_onto : List (List Feature) → List Input → Result (List (List Feature)) Fault
said_onto front [] = Ok front
said_onto front (i ∷ is) = with_sections behind i.input [] (customs i.bytes) >>= λ features. said_onto (front ++ features ∷ []) is

-- ---- what was read last

-- whether this payload is the last one
abbrev pub is_last : Option (List ℕ) → List ℕ → Bool
is_last None payload = false
is_last (Some last) payload = bytes_eq last payload

-- All that this payload says is noted, if there is one.
abbrev pub Has : Noted → Option (List ℕ) → Type 0
Has n None = Unit {0}
Has n (Some payload) = (features : List Feature) × (features_at (length payload) payload ≡ Ok features) × (noted_with n features ≡ n)

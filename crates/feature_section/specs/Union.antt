-- The features that objects use together.
use Rattle.std.specs.Prelude.{ℕ, Bool, true, false, ◌&&◌, List, [], ◌∷◌, if◌then◌else◌}
use Rattle.std.specs.declared.cmp.Ordering.{Ordering}
use Rattle.std.specs.Ordering.{nat_cmp, is_eq}
use Rattle.std.specs.Cmp.Lexicographic.{slice_cmp}
use Rattle.std.specs.List.{list_any}
use Rattle.std.specs.BTreeSet.{insert_key}
use Rattle.feature_section.specs.declared.feature.Feature.{Feature}
use Rattle.feature_section.specs.declared.feature.FeatureMark.{FeatureMark}
use Rattle.feature_section.specs.declared.feature.FeatureMark.TheVariants.{Used, Required, Disallowed}

-- The order of names: the first byte that differs decides, and a name goes before those that it begins.
abbrev pub name_cmp : List ℕ → List ℕ → Ordering
name_cmp = slice_cmp nat_cmp

-- Two names are the same.
abbrev pub is_name : List ℕ → List ℕ → Bool
is_name a b = is_eq (name_cmp a b)

-- The name is among the names.
abbrev pub is_among : List (List ℕ) → List ℕ → Bool
is_among names name = list_any (is_name name) names

-- An object uses what it marks as used or required.
abbrev pub is_used : FeatureMark → Bool
is_used Used = true
is_used Required = true
is_used Disallowed = false

-- An object uses the feature.
abbrev pub uses : List ℕ → List Feature → Bool
uses name features = list_any (λ f. is_used f.mark && is_name name f.name) features

-- The names and this one, at its place in the order, unless it is there.
abbrev pub with_name : List (List ℕ) → List ℕ → List (List ℕ)
with_name names name = if is_among names name then names else insert_key name_cmp names name

-- The names, and what an object uses.
abbrev pub with_features : List (List ℕ) → List Feature → List (List ℕ)
with_features names [] = names
with_features names (f ∷ features) = with_features (if is_used f.mark then with_name names f.name else names) features

-- The names, and what the objects use.
abbrev pub with_objects : List (List ℕ) → List (List Feature) → List (List ℕ)
with_objects names [] = names
with_objects names (features ∷ objects) = with_objects (with_features names features) objects

-- What the objects use, in the order of names, each name once.
unfoldable pub union_of : List (List Feature) → List (List ℕ)
union_of objects = with_objects [] objects

-- Names that are read are UTF-8, and so are those of the union.
use Rattle.std.proofs.Common.{ℕ, Bool, true, false, cond, List, [], ◌∷◌}
use Rattle.std.specs.Prelude.{IsUtf8}
use Rattle.std.specs.List.{All}
use Rattle.std.specs.BTreeSet.{insert_key}
use Rattle.std.proofs.lemmas.List.Elements.{All-nil, All-cons, All-head, All-tail}
use Rattle.std.proofs.lemmas.Map.Views.{All-insert_key}
use Rattle.wasm_grammar.specs.Grammar.{SpellsMany}
use Rattle.feature_section.specs.declared.feature.Feature.{Feature}
use Rattle.feature_section.specs.Fits.{NamesAreUtf8, FeaturesAreUtf8}
use Rattle.feature_section.specs.Payload.{SpellsFeature, SpellsFeatures}
use Rattle.feature_section.specs.Union.{name_cmp, is_among, is_used, with_name, with_features, with_objects, union_of}

many_utf8 : (features : List Feature) (text : List ℕ) → SpellsMany SpellsFeature features text → FeaturesAreUtf8 features
many_utf8 [] text s = All-nil (λ (f : Feature). IsUtf8 f.name)
many_utf8 (f ∷ features) text s = All-cons (λ (f : Feature). IsUtf8 f.name) f features s.2.3.0 (many_utf8 features s.1 s.3)

pub read_utf8 : (payload : List ℕ) (features : List Feature) → SpellsFeatures features payload → FeaturesAreUtf8 features
read_utf8 payload features s = many_utf8 features s.1 s.3

name_utf8 : (name : List ℕ) (names : List (List ℕ)) → NamesAreUtf8 names → IsUtf8 name → NamesAreUtf8 (with_name names name)
name_utf8 name names are is = by (is_among names name)
  where
    by : (b : Bool) → NamesAreUtf8 (cond b names (insert_key name_cmp names name))
    by true = are
    by false = All-insert_key name_cmp name (λ name. IsUtf8 name) names are is

features_utf8 : (features : List Feature) (names : List (List ℕ)) → FeaturesAreUtf8 features → NamesAreUtf8 names → NamesAreUtf8 (with_features names features)
features_utf8 [] names read are = are
features_utf8 (f ∷ features) names read are = features_utf8 features _ (All-tail (λ (f : Feature). IsUtf8 f.name) f features read) (by (is_used f.mark))
  where
    by : (b : Bool) → NamesAreUtf8 (cond b (with_name names f.name) names)
    by true = name_utf8 f.name names are (All-head (λ (f : Feature). IsUtf8 f.name) f features read)
    by false = are

objects_utf8 : (objects : List (List Feature)) (names : List (List ℕ)) → All FeaturesAreUtf8 objects → NamesAreUtf8 names → NamesAreUtf8 (with_objects names objects)
objects_utf8 [] names read are = are
objects_utf8 (features ∷ objects) names read are =
    objects_utf8 objects (with_features names features) (All-tail FeaturesAreUtf8 features objects read) (features_utf8 features names (All-head FeaturesAreUtf8 features objects read) are)

pub union_utf8 : (objects : List (List Feature)) → All FeaturesAreUtf8 objects → NamesAreUtf8 (union_of objects)
unfolding union_of
union_utf8 objects read = objects_utf8 objects [] read (All-nil (λ name. IsUtf8 name))

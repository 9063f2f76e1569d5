-- What is written spells the names, each marked as used.
use Rattle.std.proofs.Common.{◌≡◌, ℕ, suc, List, [], ◌∷◌, length, map, Ok, refl, arith}
use Rattle.std.specs.Prelude.{IsUtf8}
use Rattle.std.specs.List.{All, flat_map}
use Rattle.std.proofs.lemmas.List.{length-map}
use Rattle.leb_codec.specs.Shortest.{u32}
use Rattle.leb_codec.proofs.Computed.{u32_spells}
use Rattle.wasm_grammar.specs.Grammar.{SpellsU32, SpellsMany}
use Rattle.image_emit.specs.Bytes.{sized}
use Rattle.feature_section.specs.declared.feature.Feature.{Feature}
use Rattle.feature_section.specs.Fits.{IsShort, NamesAreShort, NamesAreUtf8, NamesFit}
use Rattle.feature_section.specs.Payload.{SpellsFeature, SpellsFeatures}
use Rattle.feature_section.specs.Reading.{features_at}
use Rattle.feature_section.specs.PayloadLaws.{features_again}
use Rattle.feature_section.specs.Section.{used, used_feature, features_payload}

first_of : {A : Type 0} (P : A → Type 0) (x : A) (xs : List A) → All P (x ∷ xs) → P x
first_of P x xs h = h 0 x (omega arith)

others_of : {A : Type 0} (P : A → Type 0) (x : A) (xs : List A) → All P (x ∷ xs) → All P xs
others_of P x xs h = λ k d lt. h (suc k) d (omega (arith, lt))

one_spelled : (name : List ℕ) → IsShort name → IsUtf8 name → SpellsFeature (used name) (used_feature name)
unfolding used_feature IsShort
one_spelled name short utf8 = (0x2B ∷ [], sized name, refl, (utf8, (u32 (length name), name, u32_spells (length name) short, refl, refl)), refl)

many_spelled : (names : List (List ℕ)) → All IsShort names → NamesAreUtf8 names → SpellsMany SpellsFeature (map used names) (flat_map used_feature names)
many_spelled [] short utf8 = refl
many_spelled (name ∷ names) short utf8 = (
  used_feature name,
  flat_map used_feature names,
  one_spelled name (first_of IsShort name names short) (first_of (λ name. IsUtf8 name) name names utf8),
  many_spelled names (others_of IsShort name names short) (others_of (λ name. IsUtf8 name) name names utf8),
  refl,
)

payload_spelled : (names : List (List ℕ)) → NamesAreShort names → NamesAreUtf8 names → SpellsFeatures (map used names) (features_payload names)
unfolding features_payload
payload_spelled names short utf8 =
    let count : SpellsU32 (length (map used names)) (u32 (length names)) = rw (length-map {A = List ℕ} {B = Feature} names used) (u32_spells (length names) short.count) in
    (u32 (length names), flat_map used_feature names, count, many_spelled names short.each utf8, refl)

pub written_spells : (names : List (List ℕ)) (bytes : List ℕ) → bytes ≡ features_payload names → NamesAreShort names → NamesAreUtf8 names → SpellsFeatures (map used names) bytes
written_spells names bytes is short utf8 = rw is (payload_spelled names short utf8)

pub written_again : (end : ℕ) (names : List (List ℕ)) → NamesFit names → features_at end (features_payload names) ≡ Ok (map used names)
written_again end names fit = features_again end (features_payload names) (map used names) (payload_spelled names fit.0 fit.1)

-- What is read is spelled so, and what is spelled so is read.
use Rattle.std.proofs.Common.{◌≡◌, ℕ, ◌-◌, List, ◌++◌, length, eqb, Ok, refl, sym, ap, subst, ◌∙◌}
use Rattle.std.proofs.lemmas.Bool.{eqb-true}
use Rattle.wasm_grammar.specs.declared.fault.Stop.TheVariants.{Broken}
use Rattle.wasm_grammar.specs.Grammar.{SpellsByte}
use Rattle.wasm_grammar.specs.Readers.{Takes, IsReader}
use Rattle.wasm_grammar.specs.Reading.{◌>>=◌, byte_at, name_at, vector_at}
use Rattle.wasm_grammar.specs.ReaderLaws.{bind_ok, ok_is, branch, never, byte_reader, name_reader, vector_reader, whole_found, whole_again, Takes-then, regrouped}
use Rattle.feature_section.specs.declared.feature.Feature.{Feature}
use Rattle.feature_section.specs.declared.feature.FeatureMark.{FeatureMark}
use Rattle.feature_section.specs.declared.feature.FeatureMark.TheVariants.{Used, Required, Disallowed}
use Rattle.feature_section.specs.Payload.{mark_byte, SpellsFeature, SpellsFeatures}
use Rattle.feature_section.specs.Reading.{mark_of, feature_at, features_at}

-- a mark is that of its prefix alone
mark_found : (place byte : ℕ) (mark : FeatureMark) → mark_of place byte ≡ Ok mark → byte ≡ mark_byte mark
mark_found place byte mark e =
    branch (eqb byte 0x2B) (Ok Used) _ mark (λ q is. eqb-true byte 0x2B q ∙ ap mark_byte (ok_is is)) (λ e.
    branch (eqb byte 0x3D) (Ok Required) _ mark (λ q is. eqb-true byte 0x3D q ∙ ap mark_byte (ok_is is)) (λ e.
    branch (eqb byte 0x2D) (Ok Disallowed) _ mark (λ q is. eqb-true byte 0x2D q ∙ ap mark_byte (ok_is is)) (λ e. never (Broken place) mark e) e) e) e

mark_again : (place : ℕ) (mark : FeatureMark) → mark_of place (mark_byte mark) ≡ Ok mark
mark_again place Used = refl
mark_again place Required = refl
mark_again place Disallowed = refl

pub feature_reader : IsReader SpellsFeature feature_at
unfolding feature_at
feature_reader = record {
  found = λ end bytes f rest e.
      let a = bind_ok (byte_at end bytes) (λ byte. mark_of (end - length bytes) byte.0 >>= λ mark. name_at end byte.1 >>= λ name. Ok (record { mark = mark; name = name.0 }, name.1)) (f, rest) e in
      let b = bind_ok (mark_of (end - length bytes) a.0.0) (λ mark. name_at end a.0.1 >>= λ name. Ok (record { mark = mark; name = name.0 }, name.1)) (f, rest) a.2 in
      let c = bind_ok (name_at end a.0.1) (λ name. Ok (record { mark = b.0; name = name.0 }, name.1)) (f, rest) b.2 in
      let prefix = subst (λ (n : ℕ). Takes (SpellsByte n) bytes a.0.1) (mark_found (end - length bytes) a.0.0 b.0 b.1) (byte_reader.found end bytes a.0.0 a.0.1 a.1) in
      subst (λ (p : Feature × List ℕ). Takes (SpellsFeature p.0) bytes p.1) (ok_is c.2)
      (Takes-then prefix (name_reader.found end a.0.1 c.0.0 c.0.1 c.1));
  again = λ end f text rest t.
      rw (
        regrouped t.0 t.1 text rest t.4,
        byte_reader.again end (mark_byte f.mark) t.0 (t.1 ++ rest) t.2,
        mark_again (end - length (t.0 ++ (t.1 ++ rest))) f.mark,
        name_reader.again end f.name t.1 rest t.3,
      ) refl;
}

-- A payload is read exactly where it is spelled so.
pub features_found : (end : ℕ) (payload : List ℕ) (features : List Feature) → features_at end payload ≡ Ok features → SpellsFeatures features payload
unfolding features_at
features_found end payload features e = whole_found SpellsFeatures (vector_at feature_at) (vector_reader SpellsFeature feature_at feature_reader) end payload features e

pub features_again : (end : ℕ) (payload : List ℕ) (features : List Feature) → SpellsFeatures features payload → features_at end payload ≡ Ok features
unfolding features_at
features_again end payload features s = whole_again SpellsFeatures (vector_at feature_at) (vector_reader SpellsFeature feature_at feature_reader) end payload features s

-- No payload has two values.
pub one_list : (payload : List ℕ) (a b : List Feature) → SpellsFeatures a payload → SpellsFeatures b payload → a ≡ b
one_list payload a b s t = ok_is (sym (features_again 0 payload a s) ∙ features_again 0 payload b t)

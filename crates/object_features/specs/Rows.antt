-- Worked sections behind a module, and worked faults.
use Rattle.std.specs.Prelude.{◌≡◌, ℕ, true, false, List, [], ◌∷◌, ◌++◌, refl, codes, Some, None, Ok, Err}
use Rattle.leb_codec.specs.Shortest.{u32}
use Rattle.leb_codec.specs.Reading.{number_at, end_of, end_within}
use Rattle.wasm_grammar.specs.Reading.{u32_at, many_at, vector_at, bytes_at, front_at, name_at, whole}
use Rattle.wasm_sections.specs.Reading.{frame_at, sections_at, section_at}
use Rattle.wl_base.specs.declared.fault.Fault.TheVariants.{Malformed, Feature}
use Rattle.wl_base.specs.declared.fault.FeatureRule.TheVariants.{NotAllowed, Disallowed, Required}
use Rattle.wl_base.specs.declared.fault.Part.TheVariants.{Section}
use Rattle.link_plan.specs.declared.plan.FeatureWords.{FeatureWords}
use Rattle.debug_rules.specs.Sections.{customs}
use Rattle.debug_rules.specs.Faults.{Input}
use Rattle.feature_section.specs.Ascii.{low_name}
use Rattle.feature_section.specs.Reading.{feature_at, features_at}
use Rattle.feature_section.specs.Section.{used_feature, features_payload, features_section}
use Rattle.feature_section.specs.Union.{union_of}
use Rattle.feature_section.specs.Conflict.{first_conflict}
use Rattle.object_features.specs.Said.{said}
use Rattle.object_features.specs.Tail.{feature_tail}

-- An object of this number without any section but this one.
abbrev object_at : ℕ → List ℕ → Input
object_at input payload = record {
  input = input;
  bytes = 0x00 ∷ 0x61 ∷ 0x73 ∷ 0x6D ∷ 0x01 ∷ 0x00 ∷ 0x00 ∷ 0x00 ∷ 0x00 ∷ 0x16 ∷ 0x0F ∷ codes "target_features" ++ payload;
  symbols = [];
}

-- It says this of the feature `abc`.
abbrev saying : ℕ → List ℕ → Input
saying input mark = object_at input (0x01 ∷ mark ++ 0x03 ∷ codes "abc")

abbrev kept : FeatureWords
kept = record { allowed = None; extra = codes "xy" ∷ []; checked = true; kept = true }

abbrev allowing : List (List ℕ) → FeatureWords
allowing names = record kept { allowed = Some names; extra = [] }

-- What the object uses, and a feature of the words.
used_and_extra : feature_tail (Some kept) (saying 1 (codes "+") ∷ [])
    ≡ Ok (0x00 ∷ 0x1A ∷ 0x0F ∷ codes "target_features" ++ 0x02 ∷ 0x2B ∷ 0x03 ∷ codes "abc" ++ 0x2B ∷ 0x02 ∷ codes "xy")
unfolding feature_tail said customs union_of first_conflict features_section features_payload used_feature u32 frame_at sections_at section_at u32_at bytes_at front_at vector_at many_at whole number_at end_of end_within features_at feature_at name_at
used_and_extra = rw (low_name (codes "abc") refl) refl

-- The features of the words stand in the place of those that objects use, and in their order.
allowed_by_words : feature_tail (Some (record (allowing (codes "q" ∷ codes "p" ∷ codes "q" ∷ [])) { checked = false })) (saying 1 (codes "+") ∷ [])
    ≡ Ok (0x00 ∷ 0x17 ∷ 0x0F ∷ codes "target_features" ++ 0x02 ∷ 0x2B ∷ 0x01 ∷ codes "p" ++ 0x2B ∷ 0x01 ∷ codes "q")
unfolding feature_tail said customs union_of features_section features_payload used_feature u32 frame_at sections_at section_at u32_at bytes_at front_at vector_at many_at whole number_at end_of end_within features_at feature_at name_at
allowed_by_words = rw (low_name (codes "abc") refl) refl

-- `*` is no mark.
broken : feature_tail (Some kept) (saying 1 (codes "*") ∷ []) ≡ Err (Malformed 1 (Section 0))
unfolding feature_tail said customs frame_at sections_at section_at u32_at bytes_at front_at vector_at many_at whole number_at end_of end_within features_at feature_at
broken = refl

-- Words that don't keep it give none.
stripped : feature_tail (Some (record kept { kept = false })) (saying 1 (codes "+") ∷ []) ≡ Ok []
unfolding feature_tail said customs first_conflict frame_at sections_at section_at u32_at bytes_at front_at vector_at many_at whole number_at end_of end_within features_at feature_at name_at
stripped = rw (low_name (codes "abc") refl) refl

-- ---- faults

-- Words allow another feature, and the second object uses this one.
not_allowed : feature_tail (Some (allowing (codes "p" ∷ []))) (saying 1 (codes "-") ∷ saying 2 (codes "+") ∷ []) ≡ Err (Feature (codes "abc") 2 0 NotAllowed)
unfolding feature_tail said customs union_of first_conflict frame_at sections_at section_at u32_at bytes_at front_at vector_at many_at whole number_at end_of end_within features_at feature_at name_at
not_allowed = rw (low_name (codes "abc") refl) refl

-- The second object disallows what the first one uses.
disallowed : feature_tail (Some kept) (saying 4 (codes "+") ∷ saying 7 (codes "-") ∷ []) ≡ Err (Feature (codes "abc") 4 7 Disallowed)
unfolding feature_tail said customs union_of first_conflict frame_at sections_at section_at u32_at bytes_at front_at vector_at many_at whole number_at end_of end_within features_at feature_at name_at
disallowed = rw (low_name (codes "abc") refl) refl

-- An object without features, and one that requires this.
abbrev silent : ℕ → Input
silent input = record { input = input; bytes = []; symbols = [] }

required : feature_tail (Some kept) (silent 3 ∷ saying 5 (codes "=") ∷ []) ≡ Err (Feature (codes "abc") 3 5 Required)
unfolding feature_tail said customs union_of first_conflict frame_at sections_at section_at u32_at bytes_at front_at vector_at many_at whole number_at end_of end_within features_at feature_at name_at
required = rw (low_name (codes "abc") refl) refl

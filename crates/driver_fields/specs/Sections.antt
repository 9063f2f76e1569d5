-- The sections for tools behind the module, beside debug sections: `name` and `target_features`. Rules are those of LLVM's wasm-ld (lld/wasm):
-- whether a section is written (`isNeeded` in SyntheticSections.h and SyntheticSections.cpp), the words (`readConfigs` in Driver.cpp), and the
-- features (`populateTargetFeatures` in Writer.cpp).
use Rattle.std.specs.Prelude.{◌≡◌, ℕ, Bool, true, false, not, ◌&&◌, ◌||◌, ◌==◌, List, [], ◌∷◌, ◌++◌, length, unwrap_or, if◌then◌else◌, Option, Some, None, codes, refl}
use Rattle.std.specs.List.{list_any, filter, slice_split}
use Rattle.std.specs.Option.{option_map}
use Rattle.std.specs.Str.{bytes_eq}
use Rattle.link_plan.specs.declared.plan.FeatureWords.{FeatureWords}
use Rattle.driver_table.specs.declared.meaning.Meaning.TheVariants.{StripAll, KeepSection, CheckFeatures, NoCheckFeatures, Features, ExtraFeatures}
use Rattle.driver_table.specs.Meanings.{same}
use Rattle.driver_table.specs.Items.{Said}
use Rattle.driver_fields.specs.Fields.{has, is_on, text, is_partial, is_shared}

-- a word keeps the section of this name against `--strip-all`
abbrev pub is_kept : List ℕ → Said → Bool
is_kept name said = same said.meaning KeepSection && bytes_eq said.value name

abbrev pub keeps_section : List ℕ → List Said → Bool
keeps_section name items = list_any (is_kept name) items

-- The section is written, unless all are stripped and no word keeps it. `--strip-debug` leaves it.
abbrev pub has_section : List ℕ → List Said → Bool
has_section name items = keeps_section name items || not (has StripAll items)

-- An object in place of a module has no section `name`, where wasm-ld gives it one.
abbrev pub keeps_names : List Said → Bool
keeps_names items = not (is_partial items) && has_section (codes "name") items

-- the values of an option of several: the parts between commas, but for empty ones
abbrev pub is_value : List ℕ → Bool
is_value part = not (length part == 0)

abbrev pub values_of : List ℕ → List (List ℕ)
values_of value = filter is_value (slice_split (λ byte. byte == 44) value)

abbrev pub allowed_features : List Said → Option (List (List ℕ))
allowed_features items = option_map values_of (text Features items)

-- A shared output has a feature of its own: its imports are globals that change.
abbrev pub shared_features : List Said → List (List ℕ)
shared_features items = if is_shared items then codes "mutable-globals" ∷ [] else []

abbrev pub extra_features : List Said → List (List ℕ)
extra_features items = shared_features items ++ values_of (unwrap_or (text ExtraFeatures items) [])

-- What is said of features. Of an object in place of a module nothing is asked, where wasm-ld checks those of its objects and gives it a section.
abbrev pub feature_words : List Said → Option FeatureWords
feature_words items =
    if is_partial items then None
    else Some (record {
      allowed = allowed_features items;
      extra = extra_features items;
      checked = is_on CheckFeatures NoCheckFeatures true items;
      kept = has_section (codes "target_features") items;
    })

-- ---- worked rows

some_values : values_of (codes "simd128,,sign-ext,") ≡ codes "simd128" ∷ codes "sign-ext" ∷ []
some_values = refl

no_value : values_of [] ≡ []
no_value = refl

-- Worked payloads: the bytes that clang 14 writes, but where it says else.
use Rattle.std.specs.Prelude.{◌≡◌, [], ◌∷◌, refl, codes, Some, None, Ok, Err}
use Rattle.leb_codec.specs.Shortest.{u32}
use Rattle.leb_codec.specs.Reading.{number_at, end_of, end_within}
use Rattle.wasm_grammar.specs.declared.fault.Stop.TheVariants.{Broken}
use Rattle.wasm_grammar.specs.Reading.{u32_at, many_at, vector_at, bytes_at, front_at, name_at, whole}
use Rattle.feature_section.specs.declared.feature.FeatureMark.TheVariants.{Used, Required, Disallowed}
use Rattle.feature_section.specs.Reading.{feature_at, features_at}
use Rattle.feature_section.specs.Ascii.{low_name}
use Rattle.feature_section.specs.Conflict.{first_conflict}
use Rattle.feature_section.specs.Union.{union_of}
use Rattle.feature_section.specs.Section.{used_feature, features_payload, features_section}

-- Of an object of `-mbulk-memory -msign-ext -mmutable-globals`: its whole section, which the writer of the output gives as well.
memory_worked : features_section (codes "bulk-memory" ∷ codes "mutable-globals" ∷ codes "sign-ext" ∷ []) ≡
    0x00 ∷ 0x39
    ∷ 0x0F ∷ 0x74 ∷ 0x61 ∷ 0x72 ∷ 0x67 ∷ 0x65 ∷ 0x74 ∷ 0x5F ∷ 0x66 ∷ 0x65 ∷ 0x61 ∷ 0x74 ∷ 0x75 ∷ 0x72 ∷ 0x65 ∷ 0x73
    ∷ 0x03
    ∷ 0x2B ∷ 0x0B ∷ 0x62 ∷ 0x75 ∷ 0x6C ∷ 0x6B ∷ 0x2D ∷ 0x6D ∷ 0x65 ∷ 0x6D ∷ 0x6F ∷ 0x72 ∷ 0x79
    ∷ 0x2B ∷ 0x0F ∷ 0x6D ∷ 0x75 ∷ 0x74 ∷ 0x61 ∷ 0x62 ∷ 0x6C ∷ 0x65 ∷ 0x2D ∷ 0x67 ∷ 0x6C ∷ 0x6F ∷ 0x62 ∷ 0x61 ∷ 0x6C ∷ 0x73
    ∷ 0x2B ∷ 0x08 ∷ 0x73 ∷ 0x69 ∷ 0x67 ∷ 0x6E ∷ 0x2D ∷ 0x65 ∷ 0x78 ∷ 0x74
    ∷ []
unfolding features_section features_payload used_feature u32
memory_worked = refl

-- What an object of thread-local data says, compiled without atomics.
thread_local_worked : features_at 13 (0x01 ∷ 0x2D ∷ 0x0A ∷ codes "shared-mem") ≡ Ok (record { mark = Disallowed; name = codes "shared-mem" } ∷ [])
unfolding features_at feature_at whole vector_at many_at name_at bytes_at front_at u32_at number_at end_of end_within
thread_local_worked = rw (low_name (codes "shared-mem") refl) refl

-- No feature at all.
none_worked : features_at 1 (0x00 ∷ []) ≡ Ok []
unfolding features_at whole vector_at many_at u32_at number_at end_of end_within
none_worked = refl

-- Made by hand: `*` is no prefix.
prefix_worked : features_at 4 (0x01 ∷ 0x2A ∷ 0x01 ∷ 0x61 ∷ []) ≡ Err (Broken 1)
unfolding features_at feature_at whole vector_at many_at name_at bytes_at front_at u32_at number_at end_of end_within
prefix_worked = refl

-- Made by hand: the second feature isn't there.
short_worked : features_at 1 (0x01 ∷ []) ≡ Err (Broken 1)
unfolding features_at feature_at whole vector_at many_at u32_at number_at end_of end_within
short_worked = refl

-- Made by hand: a byte is left.
left_worked : features_at 2 (0x00 ∷ 0x2B ∷ []) ≡ Err (Broken 1)
unfolding features_at whole vector_at many_at u32_at number_at end_of end_within
left_worked = refl

-- What two objects use, as wasm-ld 14 writes it. What is disallowed isn't used.
union_worked : union_of (
    (record { mark = Used; name = codes "atomics" } ∷ record { mark = Used; name = codes "bulk-memory" } ∷ [])
    ∷ []
    ∷ (record { mark = Disallowed; name = codes "shared-mem" } ∷ record { mark = Required; name = codes "abc" } ∷ record { mark = Used; name = codes "atomics" } ∷ [])
    ∷ []
    ) ≡ codes "abc" ∷ codes "atomics" ∷ codes "bulk-memory" ∷ []
unfolding union_of
union_worked = refl

-- The fourth object disallows what the second one uses. The third, without the section, is passed over.
disallowed_worked : first_conflict (
    []
    ∷ (record { mark = Used; name = codes "sign-ext" } ∷ record { mark = Used; name = codes "atomics" } ∷ [])
    ∷ []
    ∷ (record { mark = Used; name = codes "sign-ext" } ∷ record { mark = Disallowed; name = codes "atomics" } ∷ [])
    ∷ []
    ) ≡ Some (record { object = 1; against = record { object = 3; place = 1 } })
unfolding first_conflict
disallowed_worked = refl

-- Two objects require a feature, and the second object lacks it: the first that requires it is named.
lacking_worked : first_conflict (
    (record { mark = Used; name = codes "abc" } ∷ [])
    ∷ []
    ∷ (record { mark = Required; name = codes "abc" } ∷ [])
    ∷ (record { mark = Required; name = codes "abc" } ∷ [])
    ∷ []
    ) ≡ Some (record { object = 1; against = record { object = 2; place = 0 } })
unfolding first_conflict
lacking_worked = refl

-- What is disallowed and not used, and what all use, is no conflict.
agreed_worked : first_conflict (
    (record { mark = Disallowed; name = codes "shared-mem" } ∷ record { mark = Used; name = codes "abc" } ∷ [])
    ∷ (record { mark = Required; name = codes "abc" } ∷ [])
    ∷ []
    ) ≡ None
unfolding first_conflict
agreed_worked = refl

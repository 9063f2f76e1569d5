-- The section is a custom section.
use Rattle.std.proofs.Common.{◌≡◌, ℕ, zero, suc, ◌^◌, ◌<◌, nat_lt, Bool, true, false, List, [], ◌∷◌, ◌++◌, length, refl, ap, arith, length-append}
use Rattle.std.specs.Prelude.{if◌then◌else◌, IsUtf8, ◌==◌, codes, slice_index}
use Rattle.std.specs.List.{list_all}
use Rattle.std.proofs.lemmas.Bool.{ltb-true, and_parts}
use Rattle.std.proofs.lemmas.Str.{IsUtf8-from_ascii}
use Rattle.leb_codec.specs.Shortest.{u32}
use Rattle.leb_codec.proofs.Computed.{u32_spells}
use Rattle.image_emit.specs.Bytes.{sized}
use Rattle.wasm_module.specs.Sections.{IsCustom, AreCustoms}
use Rattle.name_section.specs.Names.{function_subsection, name_section}
use Rattle.name_section.specs.Customs.{NamesAreCustom}

low_at : (bytes : List ℕ) → list_all (λ b. nat_lt b 128) bytes ≡ true → (i : ℕ) → slice_index bytes i < 128
low_at [] e zero = omega arith
low_at [] e (suc i) = omega arith
low_at (x ∷ xs) e zero = ltb-true x 128 (and_parts (nat_lt x 128) (list_all (λ b. nat_lt b 128) xs) e).0
low_at (x ∷ xs) e (suc i) = low_at xs (and_parts (nat_lt x 128) (list_all (λ b. nat_lt b 128) xs) e).1 i

text : IsUtf8 (codes "name")
text = IsUtf8-from_ascii (codes "name") (low_at (codes "name") refl)

custom : (rest : List ℕ) → length (0 ∷ sized (sized (codes "name") ++ rest)) < 2 ^ 32 → IsCustom (0 ∷ sized (sized (codes "name") ++ rest))
custom rest short =
    let name : List ℕ = codes "name" in
    let payload : List ℕ = sized name ++ rest in
    let long = length-append (u32 (length payload)) payload in
    let few : length payload < 2 ^ 32 = omega (arith, short, long) in
    let few_name : length name < 2 ^ 32 = omega arith in
    (0 ∷ [], sized payload, refl, (u32 (length payload), payload, u32_spells (length payload) few, (name, sized name, rest, (text, (u32 (length name), name, u32_spells (length name) few_name, refl, refl)), refl), refl), refl)

none : List ℕ
none = []

by_count : (b : Bool) (rest : List ℕ) → length (if b then none else 0 ∷ sized (sized (codes "name") ++ rest)) < 2 ^ 32 → AreCustoms (if b then none else 0 ∷ sized (sized (codes "name") ++ rest))
unfolding none
by_count true rest short = (0, refl)
by_count false rest short = (1, (0 ∷ sized (sized (codes "name") ++ rest), [], custom rest short, refl, append_none (0 ∷ sized (sized (codes "name") ++ rest))))
  where
    append_none : (ys : List ℕ) → ys ≡ ys ++ []
    append_none [] = refl
    append_none (y ∷ ys) = ap (λ zs. y ∷ zs) (append_none ys)

pub are_custom : NamesAreCustom
unfolding name_section none
are_custom names short = by_count (length names == 0) (function_subsection names) short

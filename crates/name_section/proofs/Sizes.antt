-- How long the parts of the section are.
use Rattle.std.proofs.Common.{◌≡◌, ℕ, ◌+◌, ◌<◌, ◌^◌, List, length, ap, arith, length-append}
use Rattle.std.specs.Prelude.{codes}
use Rattle.leb_codec.specs.Shortest.{u32}
use Rattle.image_emit.specs.Bytes.{sized}
use Rattle.image_emit.specs.Put.{capped}
use Rattle.name_section.specs.Names.{Named, name_map, function_subsection, names_payload, whole_section}

-- a number that 32 bits hold wasn't cut
pub uncapped : (n k : ℕ) → k ≡ capped n → k < 2 ^ 32 → k ≡ n
uncapped n k e lt = omega (arith, e, lt)

pub payload_is : (n k : ℕ) → k ≡ length (u32 4) + 4 + (1 + (length (u32 n) + n)) → (names : List Named) → n ≡ length (name_map names) → k ≡ length (names_payload names)
payload_is n k e names is =
    let map = name_map names in
    let inner = length-append (u32 (length map)) map in
    let size = ap (λ m. length (u32 m)) is in
    let front = length-append (u32 4) (codes "name") in
    let all = length-append (sized (codes "name")) (function_subsection names) in
    omega (arith, e, is, inner, size, front, all)

pub whole_is : (n k : ℕ) → k ≡ 1 + (length (u32 n) + n) → (names : List Named) → n ≡ length (names_payload names) → k ≡ length (whole_section names)
whole_is n k e names is =
    let payload = names_payload names in
    let inner = length-append (u32 (length payload)) payload in
    let size = ap (λ m. length (u32 m)) is in
    omega (arith, e, is, inner, size)

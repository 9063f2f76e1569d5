-- How many pages hold the data.
use Rattle.std.proofs.Common.{◌≡◌, ℕ, ◌+◌, ◌-◌, ◌*◌, ◌/◌, arith, sym, ap, ◌∙◌}
use Rattle.std.proofs.lemmas.Nat.{div-mul-add}
use Rattle.link_program.specs.memory_layout.Memory.{up}

whole_pages : (q : ℕ) → q * 65536 / 65536 ≡ q
whole_pages q =
    let same : q * 65536 ≡ q * 65536 + 0 = omega arith in
    ap (λ n. n / 65536) same ∙ div-mul-add q 65536 0 (omega arith)

pub pages_are : (n : ℕ) → (n + 65535) / 65536 ≡ up n 65536 / 65536
pages_are n =
    let same : n + 65535 ≡ n + 65536 - 1 = omega arith in
    ap (λ m. m / 65536) same ∙ sym (whole_pages ((n + 65536 - 1) / 65536))

-- Skipping custom sections one after the other, as a loop does.
use Rattle.std.proofs.Common.{◌≡◌, ℕ, suc, ◌-◌, ◌+◌, ◌≤◌, ◌<◌, true, false, List, Result, Ok, Err, refl, sym, ◌∙◌, arith}
use Rattle.wasm_instr.specs.wasm_grammar.declared.fault.Stop.{Stop}
use Rattle.wasm_module.specs.Sections.{begins, custom_at, customs_at}

pub goes_on : (n i end : ℕ) (bytes after : List ℕ) (total : Result (List ℕ) Stop) → i < n → begins 0 bytes ≡ true → custom_at end bytes ≡ Ok after → customs_at (n - i) end bytes ≡ total → customs_at (n - (i + 1)) end after ≡ total
unfolding customs_at
goes_on n i end bytes after total lt q read so_far =
    let k : n - i ≡ suc (n - (i + 1)) = omega arith in
    let one : customs_at (n - i) end bytes ≡ customs_at (n - (i + 1)) end after = rw (k, q, read) refl in
    sym one ∙ so_far

pub ends : (n i end : ℕ) (bytes : List ℕ) (e : Stop) (total : Result (List ℕ) Stop) → i < n → begins 0 bytes ≡ true → custom_at end bytes ≡ Err e → customs_at (n - i) end bytes ≡ total → total ≡ Err e
unfolding customs_at
ends n i end bytes e total lt q read so_far =
    let k : n - i ≡ suc (n - (i + 1)) = omega arith in
    let one : customs_at (n - i) end bytes ≡ Err e = rw (k, q, read) refl in
    sym so_far ∙ one

pub stops : (n i end : ℕ) (bytes : List ℕ) (total : Result (List ℕ) Stop) → i < n → begins 0 bytes ≡ false → customs_at (n - i) end bytes ≡ total → total ≡ Ok bytes
unfolding customs_at
stops n i end bytes total lt q so_far =
    let k : n - i ≡ suc (n - (i + 1)) = omega arith in
    let one : customs_at (n - i) end bytes ≡ Ok bytes = rw (k, q) refl in
    sym so_far ∙ one

pub is_done : (n i end : ℕ) (bytes : List ℕ) (total : Result (List ℕ) Stop) → n ≤ i → customs_at (n - i) end bytes ≡ total → total ≡ Ok bytes
unfolding customs_at
is_done n i end bytes total le so_far =
    let k : n - i ≡ 0 = omega arith in
    let one : customs_at (n - i) end bytes ≡ Ok bytes = rw k refl in
    sym so_far ∙ one

-- Going past items, one after the other, as a loop does.
use Rattle.std.proofs.Common.{◌≡◌, ℕ, suc, ◌-◌, ◌+◌, ◌≤◌, ◌<◌, List, ◌∷◌, Result, Ok, Err, refl, sym, ◌∙◌, arith}
use Rattle.wasm_grammar.specs.declared.fault.Stop.{Stop}
use Rattle.wasm_grammar.specs.Reading.{Read, ◌>>=◌, many_at}
use Rattle.wasm_instr.specs.declared.body.LocalRun.{LocalRun}
use Rattle.wasm_instr.specs.Bodies.{run_at, runs_at}
use Rattle.wasm_instr.specs.Skimming.{rest_of}

drop_first : {A : Type 0} (x : A) (r : Result (List A × List ℕ) Stop) → rest_of (r >>= λ others. Ok (x ∷ others.0, others.1)) ≡ rest_of r
drop_first x (Ok others) = refl
drop_first x (Err e) = refl

-- ---- items of one reader

pub past_one : {A : Type 0} (item : Read A) (count i end : ℕ) (bytes : List ℕ) (x : A) (after : List ℕ) (total : Result (List ℕ) Stop) → i < count → item end bytes ≡ Ok (x, after)
    → rest_of (many_at item (count - i) end bytes) ≡ total → rest_of (many_at item (count - (i + 1)) end after) ≡ total
unfolding many_at
past_one item count i end bytes x after total lt h so_far =
    let k : count - i ≡ suc (count - (i + 1)) = omega arith in
    let one : rest_of (many_at item (count - i) end bytes) ≡ rest_of (many_at item (count - (i + 1)) end after) = rw (k, h) (drop_first x (many_at item (count - (i + 1)) end after)) in
    sym one ∙ so_far

pub past_fault : {A : Type 0} (item : Read A) (e : Stop) (count i end : ℕ) (bytes : List ℕ) (total : Result (List ℕ) Stop) → i < count → item end bytes ≡ Err e
    → rest_of (many_at item (count - i) end bytes) ≡ total → total ≡ Err e
unfolding many_at
past_fault item e count i end bytes total lt h so_far =
    let k : count - i ≡ suc (count - (i + 1)) = omega arith in
    let one : rest_of (many_at item (count - i) end bytes) ≡ Err e = rw (k, h) refl in
    sym so_far ∙ one

pub past_all : {A : Type 0} (item : Read A) (count i end : ℕ) (bytes : List ℕ) (total : Result (List ℕ) Stop) → count ≤ i
    → rest_of (many_at item (count - i) end bytes) ≡ total → total ≡ Ok bytes
unfolding many_at
past_all item count i end bytes total le so_far =
    let k : count - i ≡ 0 = omega arith in
    let one : rest_of (many_at item (count - i) end bytes) ≡ Ok bytes = rw k refl in
    sym so_far ∙ one

-- ---- runs of locals

pub past_run : (count i before end : ℕ) (bytes : List ℕ) (run : LocalRun) (after : List ℕ) (total : Result (List ℕ) Stop) → i < count → run_at before end bytes ≡ Ok (run, after)
    → rest_of (runs_at (count - i) before end bytes) ≡ total → rest_of (runs_at (count - (i + 1)) (before + run.count) end after) ≡ total
unfolding runs_at
past_run count i before end bytes run after total lt h so_far =
    let k : count - i ≡ suc (count - (i + 1)) = omega arith in
    let one : rest_of (runs_at (count - i) before end bytes) ≡ rest_of (runs_at (count - (i + 1)) (before + run.count) end after) = rw (k, h) (drop_first run (runs_at (count - (i + 1)) (before + run.count) end after)) in
    sym one ∙ so_far

pub past_run_fault : (e : Stop) (count i before end : ℕ) (bytes : List ℕ) (total : Result (List ℕ) Stop) → i < count → run_at before end bytes ≡ Err e
    → rest_of (runs_at (count - i) before end bytes) ≡ total → total ≡ Err e
unfolding runs_at
past_run_fault e count i before end bytes total lt h so_far =
    let k : count - i ≡ suc (count - (i + 1)) = omega arith in
    let one : rest_of (runs_at (count - i) before end bytes) ≡ Err e = rw (k, h) refl in
    sym so_far ∙ one

pub past_runs : (count i before end : ℕ) (bytes : List ℕ) (total : Result (List ℕ) Stop) → count ≤ i
    → rest_of (runs_at (count - i) before end bytes) ≡ total → total ≡ Ok bytes
unfolding runs_at
past_runs count i before end bytes total le so_far =
    let k : count - i ≡ 0 = omega arith in
    let one : rest_of (runs_at (count - i) before end bytes) ≡ Ok bytes = rw k refl in
    sym so_far ∙ one

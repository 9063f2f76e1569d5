-- The code of a body, an instruction after the other.
use Rattle.std.proofs.Common.{◌≡◌, ℕ, suc, ◌-◌, ◌<◌, ◌≤◌, Bool, true, false, List, [], ◌∷◌, length, Some, None, Result, Ok, Err, refl, sym, ap, ◌∙◌, arith}
use Rattle.wasm_instr.specs.wasm_grammar.declared.fault.Stop.{Stop}
use Rattle.wasm_instr.specs.wasm_grammar.declared.fault.Stop.TheVariants.{Broken}
use Rattle.wasm_instr.specs.wasm_grammar.Reading.{◌>>=◌}
use Rattle.wasm_instr.specs.declared.instr.Instr.{Instr}
use Rattle.wasm_instr.specs.declared.body.Placed.{Placed}
use Rattle.wasm_instr.specs.declared.outline.Outline.{Outline}
use Rattle.wasm_instr.specs.Reading.{instr_at}
use Rattle.wasm_instr.specs.Bodies.{Nest, step_of, stepped, placed, code_at}
use Rattle.wasm_instr.specs.Skimming.{outline_of, outline_step, skim_at}
use Rattle.wasm_instr.specs.SkimLaws.{steps_agree, skim_found, skim_fault}
use Rattle.wasm_instr.proofs.Loop.{shorter, enough}
use Rattle.body_check.specs.Judging.{is_read}

-- an instruction, and what is read behind it
abbrev pub with_next : Placed → Result (List Placed) Stop → Result (List Placed) Stop
with_next p read = read >>= λ code. Ok (p ∷ code)

-- one step, with enough fuel
unfold_one : (end : ℕ) (o : Bool) (os : Nest) (bytes : List ℕ) → code_at (length bytes) end (o ∷ os) bytes
    ≡ (instr_at end bytes >>= λ x. stepped (end - length bytes) (step_of (o ∷ os) x.0) >>= λ next. code_at (length bytes) end next x.2 >>= λ code. Ok (placed end x.0 bytes x.1 x.2 ∷ code))
unfolding code_at
unfold_one end o os bytes = enough (length bytes) (suc (length bytes)) end (o ∷ os) bytes (omega arith) (omega arith)

pub broken : (end : ℕ) (nest : Nest) (bytes : List ℕ) (s : Stop) → 0 < length nest → instr_at end bytes ≡ Err s → code_at (length bytes) end nest bytes ≡ Err s
broken end [] bytes s some e = absurd (omega arith)
broken end (o ∷ os) bytes s some e = rw (unfold_one end o os bytes, e) refl

module _ (end : ℕ) (nest : Nest) (bytes : List ℕ) (x : Instr) (mid rest : List ℕ) (some : 0 < length nest) (e : instr_at end bytes ≡ Ok (x, mid, rest)) where
  pub misplaced : step_of nest x ≡ None → code_at (length bytes) end nest bytes ≡ Err (Broken (end - length bytes))
  misplaced s = of nest some s
    where
      of : (n : Nest) → 0 < length n → step_of n x ≡ None → code_at (length bytes) end n bytes ≡ Err (Broken (end - length bytes))
      of [] some s = absurd (omega arith)
      of (o ∷ os) some s = rw (unfold_one end o os bytes, e, s) refl

  pub goes : (next : Nest) → step_of nest x ≡ Some next → code_at (length bytes) end nest bytes ≡ with_next (placed end x bytes mid rest) (code_at (length rest) end next rest)
  goes next s = of nest some s
    where
      fewer : code_at (length bytes) end next rest ≡ code_at (length rest) end next rest
      fewer = let less = shorter end bytes x mid rest e in enough (length bytes) (length rest) end next rest (omega (arith, less)) (omega arith)

      of : (n : Nest) → 0 < length n → step_of n x ≡ Some next → code_at (length bytes) end n bytes ≡ with_next (placed end x bytes mid rest) (code_at (length rest) end next rest)
      of [] some s = absurd (omega arith)
      of (o ∷ os) some s = rw (unfold_one end o os bytes, e, s) (ap (with_next (placed end x bytes mid rest)) fewer)

-- ---- whether it is read

next_read : (p : Placed) (r : Result (List Placed) Stop) → is_read (with_next p r) ≡ is_read r
next_read p (Ok code) = refl
next_read p (Err s) = refl

pub next_reads : (end : ℕ) (nest : Nest) (bytes : List ℕ) (x : Instr) (mid rest : List ℕ) → 0 < length nest → instr_at end bytes ≡ Ok (x, mid, rest) → (next : Nest) → outline_step nest (outline_of x) ≡ Some next
    → is_read (code_at (length bytes) end nest bytes) ≡ is_read (code_at (length rest) end next rest)
next_reads end nest bytes x mid rest some e next turned =
    ap is_read (goes end nest bytes x mid rest some e next (steps_agree nest x ∙ turned)) ∙ next_read (placed end x bytes mid rest) (code_at (length rest) end next rest)

pub skims_on : (end : ℕ) (nest : Nest) (bytes : List ℕ) (o : Outline) (mid rest : List ℕ) (next : Nest) (total : Bool) → 0 < length nest → skim_at end bytes ≡ Ok (o, mid, rest) → outline_step nest o ≡ Some next
    → is_read (code_at (length bytes) end nest bytes) ≡ total → is_read (code_at (length rest) end next rest) ≡ total
skims_on end nest bytes o mid rest next total some e s so_far =
    let f = skim_found end bytes o mid rest e in
    let turned : step_of nest f.0 ≡ Some next = steps_agree nest f.0 ∙ ap (outline_step nest) f.2 ∙ s in
    sym (next_read (placed end f.0 bytes mid rest) (code_at (length rest) end next rest)) ∙ sym (ap is_read (goes end nest bytes f.0 mid rest some f.1 next turned)) ∙ so_far

pub skims_not : (end : ℕ) (nest : Nest) (bytes : List ℕ) (s : Stop) (total : Bool) → 0 < length nest → skim_at end bytes ≡ Err s → is_read (code_at (length bytes) end nest bytes) ≡ total → false ≡ total
skims_not end nest bytes s total some e so_far = sym (ap is_read (broken end nest bytes s some (skim_fault end bytes s e))) ∙ so_far

pub turns_not : (end : ℕ) (nest : Nest) (bytes : List ℕ) (o : Outline) (mid rest : List ℕ) (total : Bool) → 0 < length nest → skim_at end bytes ≡ Ok (o, mid, rest) → outline_step nest o ≡ None
    → is_read (code_at (length bytes) end nest bytes) ≡ total → false ≡ total
turns_not end nest bytes o mid rest total some e s so_far =
    let f = skim_found end bytes o mid rest e in
    let turned : step_of nest f.0 ≡ None = steps_agree nest f.0 ∙ ap (outline_step nest) f.2 ∙ s in
    sym (ap is_read (misplaced end nest bytes f.0 mid rest some f.1 turned)) ∙ so_far

-- no block is open
pub all_closed : (end : ℕ) (nest : Nest) (bytes : List ℕ) (total : Bool) → length nest ≤ 0 → length bytes < 1 → is_read (code_at (length bytes) end nest bytes) ≡ total → true ≡ total
unfolding code_at
all_closed end [] [] total none empty so_far = so_far
all_closed end [] (b ∷ bs) total none empty so_far = absurd (omega arith)
all_closed end (o ∷ os) bytes total none empty so_far = absurd (omega arith)

pub more_behind : (end : ℕ) (nest : Nest) (bytes : List ℕ) (total : Bool) → length nest ≤ 0 → 1 ≤ length bytes → is_read (code_at (length bytes) end nest bytes) ≡ total → false ≡ total
unfolding code_at
more_behind end [] [] total none more so_far = absurd (omega arith)
more_behind end [] (b ∷ bs) total none more so_far = so_far
more_behind end (o ∷ os) bytes total none more so_far = absurd (omega arith)

pub skims_shorter : (end : ℕ) (bytes : List ℕ) (o : Outline) (mid rest : List ℕ) → skim_at end bytes ≡ Ok (o, mid, rest) → length rest < length bytes
skims_shorter end bytes o mid rest e = let f = skim_found end bytes o mid rest e in shorter end bytes f.0 mid rest f.1

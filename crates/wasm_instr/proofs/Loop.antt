-- Reading the code of a body, as a loop does.
use Rattle.std.proofs.Common.{◌≡◌, ℕ, zero, suc, ◌+◌, ◌-◌, ◌<◌, ◌≤◌, Bool, List, [], ◌∷◌, ◌++◌, length, Result, Ok, Err, refl, sym, ap, ◌∙◌, append_assoc, arith, ◌^◌, subst}
use Rattle.std.specs.Prelude.{nat_lt}
use Rattle.std.proofs.lemmas.Bool.{ltb-true}
use Rattle.std.proofs.lemmas.List.{append-nil}
use Rattle.wasm_grammar.specs.declared.fault.Stop.{Stop}
use Rattle.wasm_grammar.specs.declared.fault.Stop.TheVariants as stops
use Rattle.wasm_grammar.specs.declared.fault.ReadFault.{ReadFault}
use Rattle.wasm_grammar.specs.declared.fault.ReadFault.TheVariants.{Stopped, OutOfMemory}
use Rattle.wasm_grammar.specs.Fault.{Fails}
use Rattle.wasm_grammar.specs.Reading.{◌>>=◌, ended, u32_at}
use Rattle.wasm_grammar.specs.ReaderLaws.{taken_length, bind_ok, ok_is, cond_ok}
use Rattle.wasm_grammar.proofs.Loop.{with_front}
use Rattle.wasm_types.specs.Types.{val_type_at}
use Rattle.wasm_instr.specs.declared.body.LocalRun.{LocalRun}
use Rattle.wasm_instr.specs.declared.instr.Instr.{Instr}
use Rattle.wasm_instr.specs.declared.body.Placed.{Placed}
use Rattle.wasm_instr.specs.Reading.{instr_at}
use Rattle.wasm_instr.specs.InstrLaws.{instr_found, head_taken}
use Rattle.wasm_instr.specs.Bodies.{Nest, step_of, stepped, placed, code_at, counted, run_at, runs_at}

-- what was read before, and what is still read
abbrev pub with_code : List Placed → Result (List Placed) Stop → Result (List Placed) Stop
with_code front read = read >>= λ code. Ok (front ++ code)

-- an instruction takes a byte at least
pub shorter : (end : ℕ) (bytes : List ℕ) (x : Instr) (mid rest : List ℕ) → instr_at end bytes ≡ Ok (x, mid, rest) → length rest < length bytes
shorter end bytes x mid rest e =
    let s = instr_found end bytes x mid rest e in
    omega (arith, taken_length s.head, taken_length s.last, head_taken x s.head.text s.head.spells)

-- any enough fuel gives the same
pub enough : (n m end : ℕ) (nest : Nest) (bytes : List ℕ) → length bytes ≤ n → length bytes ≤ m → code_at n end nest bytes ≡ code_at m end nest bytes
unfolding code_at instr_at
enough n m end [] bytes a b = refl
enough zero zero end (o ∷ os) bytes a b = refl
enough zero (suc m) end (o ∷ os) [] a b = refl
enough zero (suc m) end (o ∷ os) (x ∷ bytes) a b = absurd (omega arith)
enough (suc n) zero end (o ∷ os) [] a b = refl
enough (suc n) zero end (o ∷ os) (x ∷ bytes) a b = absurd (omega arith)
enough (suc n) (suc m) end (o ∷ os) bytes a b =
    same_steps (instr_at end bytes) refl (λ x mid rest next e.
    let less = shorter end bytes x mid rest e in
    enough n m end next rest (omega (arith, less)) (omega (arith, less)))
  where
    same_next : (r : Result Nest Stop) (p : Placed) (f g : Nest → Result (List Placed) Stop) → ((next : Nest) → f next ≡ g next) → (r >>= λ next. f next >>= λ code. Ok (p ∷ code)) ≡ (r >>= λ next. g next >>= λ code. Ok (p ∷ code))
    same_next (Ok next) p f g same = ap (λ (r : Result (List Placed) Stop). r >>= λ code. Ok (p ∷ code)) (same next)
    same_next (Err e) p f g same = refl

    same_steps : (r : Result (Instr × List ℕ × List ℕ) Stop) → instr_at end bytes ≡ r
        → ((x : Instr) (mid rest : List ℕ) (next : Nest) → instr_at end bytes ≡ Ok (x, mid, rest) → code_at n end next rest ≡ code_at m end next rest)
        → (r >>= λ x. stepped (end - length bytes) (step_of (o ∷ os) x.0) >>= λ next. code_at n end next x.2 >>= λ code. Ok (placed end x.0 bytes x.1 x.2 ∷ code))
        ≡ (r >>= λ x. stepped (end - length bytes) (step_of (o ∷ os) x.0) >>= λ next. code_at m end next x.2 >>= λ code. Ok (placed end x.0 bytes x.1 x.2 ∷ code))
    same_steps (Err e) is same = refl
    same_steps (Ok x) is same =
        same_next (stepped (end - length bytes) (step_of (o ∷ os) x.0)) (placed end x.0 bytes x.1 x.2) (λ next. code_at n end next x.2) (λ next. code_at m end next x.2) (λ next. same x.0 x.1 x.2 next is)

-- one instruction
pub one_more : (n end : ℕ) (nest : Nest) (bytes : List ℕ) (x : Instr) (mid rest : List ℕ) (next : Nest) → 0 < length nest → instr_at end bytes ≡ Ok (x, mid, rest) → stepped (end - length bytes) (step_of nest x) ≡ Ok next
    → code_at (suc n) end nest bytes ≡ (code_at n end next rest >>= λ code. Ok (placed end x bytes mid rest ∷ code))
unfolding code_at
one_more n end [] bytes x mid rest next pos_nest e s = absurd (omega arith)
one_more n end (o ∷ os) bytes x mid rest next pos_nest e s = rw (e, s) refl

regroup : (front : List Placed) (p : Placed) (read : Result (List Placed) Stop) → with_code front (read >>= λ code. Ok (p ∷ code)) ≡ with_code (front ++ p ∷ []) read
regroup front p (Ok code) = ap (λ (ps : List Placed). Ok ps) (simp append_assoc)
regroup front p (Err f) = refl

pub goes_on : (end : ℕ) (front : List Placed) (nest : Nest) (bytes : List ℕ) (x : Instr) (mid rest : List ℕ) (next : Nest) (total : Result (List Placed) Stop) → 0 < length nest → instr_at end bytes ≡ Ok (x, mid, rest) → stepped (end - length bytes) (step_of nest x) ≡ Ok next
    → with_code front (code_at (length bytes) end nest bytes) ≡ total → with_code (front ++ placed end x bytes mid rest ∷ []) (code_at (length rest) end next rest) ≡ total
goes_on end front nest bytes x mid rest next total pos_nest e s so_far =
    let less = shorter end bytes x mid rest e in
    let more : code_at (length bytes) end nest bytes ≡ code_at (suc (length bytes)) end nest bytes = enough (length bytes) (suc (length bytes)) end nest bytes (omega arith) (omega arith) in
    let fewer : code_at (length bytes) end next rest ≡ code_at (length rest) end next rest = enough (length bytes) (length rest) end next rest (omega (arith, less)) (omega arith) in
    let p = placed end x bytes mid rest in
    let one : with_code front (code_at (length bytes) end nest bytes) ≡ with_code (front ++ p ∷ []) (code_at (length rest) end next rest) =
    ap (with_code front) (more ∙ one_more (length bytes) end nest bytes x mid rest next pos_nest e s) ∙ regroup front p (code_at (length bytes) end next rest) ∙ ap (with_code (front ++ p ∷ [])) fewer in
    sym one ∙ so_far

-- one more step, with enough fuel
unfold_one : (end : ℕ) (o : Bool) (os : Nest) (bytes : List ℕ) → code_at (length bytes) end (o ∷ os) bytes
    ≡ (instr_at end bytes >>= λ x. stepped (end - length bytes) (step_of (o ∷ os) x.0) >>= λ next. code_at (length bytes) end next x.2 >>= λ code. Ok (placed end x.0 bytes x.1 x.2 ∷ code))
unfolding code_at
unfold_one end o os bytes = enough (length bytes) (suc (length bytes)) end (o ∷ os) bytes (omega arith) (omega arith)

pub ends : (e : ReadFault) (end : ℕ) (front : List Placed) (nest : Nest) (bytes : List ℕ) (total : Result (List Placed) Stop) → 0 < length nest → Fails e (instr_at end bytes)
    → with_code front (code_at (length bytes) end nest bytes) ≡ total → Fails e total
ends OutOfMemory end front nest bytes total pos_nest h so_far = tt
ends (Stopped s) end front [] bytes total pos_nest h so_far = absurd (omega arith)
ends (Stopped s) end front (o ∷ os) bytes total pos_nest h so_far =
    let one : with_code front (code_at (length bytes) end (o ∷ os) bytes) ≡ Err s = rw (unfold_one end o os bytes, h) refl in
    sym so_far ∙ one

pub ends_there : (e : ReadFault) (end : ℕ) (front : List Placed) (nest : Nest) (bytes : List ℕ) (x : Instr) (mid rest : List ℕ) (total : Result (List Placed) Stop) → 0 < length nest → instr_at end bytes ≡ Ok (x, mid, rest) → Fails e (stepped (end - length bytes) (step_of nest x))
    → with_code front (code_at (length bytes) end nest bytes) ≡ total → Fails e total
ends_there OutOfMemory end front nest bytes x mid rest total pos_nest h f so_far = tt
ends_there (Stopped s) end front [] bytes x mid rest total pos_nest h f so_far = absurd (omega arith)
ends_there (Stopped s) end front (o ∷ os) bytes x mid rest total pos_nest h f so_far =
    let one : with_code front (code_at (length bytes) end (o ∷ os) bytes) ≡ Err s = rw (unfold_one end o os bytes, h, f) refl in
    sym so_far ∙ one

-- no block is open
pub is_done : (end : ℕ) (front : List Placed) (nest : Nest) (bytes : List ℕ) (total : Result (List Placed) Stop) → length nest ≤ 0 → with_code front (code_at (length bytes) end nest bytes) ≡ total → total ≡ ended end front bytes
unfolding code_at
is_done end front [] [] total none so_far = sym so_far ∙ ap (λ (ps : List Placed). Ok ps) (append-nil front)
is_done end front [] (b ∷ bytes) total none so_far = sym so_far
is_done end front (o ∷ os) bytes total none so_far = absurd (omega arith)

-- ---- local runs

counted_fits : (place before count checked : ℕ) → counted place before count ≡ Ok checked → before + checked < 2 ^ 32
counted_fits place before count checked e =
    let both = cond_ok (nat_lt (before + count) (2 ^ 32)) (stops.Broken place) count checked e in
    let lt : before + count < 2 ^ 32 = ltb-true (before + count) (2 ^ 32) both.0 in
    subst (λ (k : ℕ). before + k < 2 ^ 32) both.1 lt

pub run_fits : (before end : ℕ) (bytes : List ℕ) (run : LocalRun) (rest : List ℕ) → run_at before end bytes ≡ Ok (run, rest) → before + run.count < 2 ^ 32
unfolding run_at
run_fits before end bytes run rest e =
    let a = bind_ok (u32_at end bytes) (λ count. counted (end - length bytes) before count.0 >>= λ checked. val_type_at end count.1 >>= λ kind. Ok (record { count = checked; kind = kind.0 }, kind.1)) (run, rest) e in
    let b = bind_ok (counted (end - length bytes) before a.0.0) (λ checked. val_type_at end a.0.1 >>= λ kind. Ok (record { count = checked; kind = kind.0 }, kind.1)) (run, rest) a.2 in
    let c = bind_ok (val_type_at end a.0.1) (λ kind. Ok (record { count = b.0; kind = kind.0 }, kind.1)) (run, rest) b.2 in
    subst (λ (p : LocalRun × List ℕ). before + p.0.count < 2 ^ 32) (ok_is c.2) (counted_fits (end - length bytes) before a.0.0 b.0 b.1)

regroup_runs : (front : List LocalRun) (n : LocalRun) (read : Result (List LocalRun × List ℕ) Stop) → with_front front (read >>= λ x. Ok (n ∷ x.0, x.1)) ≡ with_front (front ++ n ∷ []) read
regroup_runs front n (Ok x) = ap (λ (ns : List LocalRun). Ok (ns, x.1)) (simp append_assoc)
regroup_runs front n (Err f) = refl

pub runs_go_on : (front : List LocalRun) (count i before end : ℕ) (bytes : List ℕ) (run : LocalRun) (after : List ℕ) (total : Result (List LocalRun × List ℕ) Stop) → i < count → run_at before end bytes ≡ Ok (run, after)
    → with_front front (runs_at (count - i) before end bytes) ≡ total → with_front (front ++ run ∷ []) (runs_at (count - (i + 1)) (before + run.count) end after) ≡ total
unfolding runs_at
runs_go_on front count i before end bytes run after total lt h so_far =
    let k : count - i ≡ suc (count - (i + 1)) = omega arith in
    let one : with_front front (runs_at (count - i) before end bytes) ≡ with_front (front ++ run ∷ []) (runs_at (count - (i + 1)) (before + run.count) end after) =
    rw (k, h) (regroup_runs front run (runs_at (count - (i + 1)) (before + run.count) end after)) in
    sym one ∙ so_far

pub runs_end : (s : Stop) (front : List LocalRun) (count i before end : ℕ) (bytes : List ℕ) (total : Result (List LocalRun × List ℕ) Stop) → i < count → run_at before end bytes ≡ Err s
    → with_front front (runs_at (count - i) before end bytes) ≡ total → total ≡ Err s
unfolding runs_at
runs_end s front count i before end bytes total lt h so_far =
    let k : count - i ≡ suc (count - (i + 1)) = omega arith in
    let one : with_front front (runs_at (count - i) before end bytes) ≡ Err s = rw (k, h) refl in
    sym so_far ∙ one

pub runs_done : (front : List LocalRun) (count i before end : ℕ) (bytes : List ℕ) (total : Result (List LocalRun × List ℕ) Stop) → count ≤ i → with_front front (runs_at (count - i) before end bytes) ≡ total → total ≡ Ok (front, bytes)
unfolding runs_at
runs_done front count i before end bytes total le so_far =
    let k : count - i ≡ 0 = omega arith in
    let one : with_front front (runs_at (count - i) before end bytes) ≡ Ok (front, bytes) = rw k (ap (λ (ns : List LocalRun). Ok (ns, bytes)) (append-nil front)) in
    sym so_far ∙ one

pub ended_empty : {A : Type 0} (end : ℕ) (x : A) (bytes : List ℕ) → length bytes < 1 → ended end x bytes ≡ Ok x
ended_empty end x [] lt = refl
ended_empty end x (b ∷ bytes) lt = absurd (omega arith)

pub ended_more : {A : Type 0} (end : ℕ) (x : A) (bytes : List ℕ) → 1 ≤ length bytes → ended end x bytes ≡ Err (stops.Broken (end - length bytes))
ended_more end x [] le = absurd (omega arith)
ended_more end x (b ∷ bytes) le = refl

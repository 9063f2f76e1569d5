-- A body that is read is spelled so, and one that is spelled so is read.
use Rattle.std.proofs.Common.{◌≡◌, ℕ, zero, suc, ◌+◌, ◌-◌, ◌<◌, ◌≤◌, ◌^◌, false, List, [], ◌∷◌, ◌++◌, length, Result, Ok, refl, sym, ap, subst, ◌∙◌, arith, Option, Some, None}
use Rattle.std.specs.Prelude.{nat_lt}
use Rattle.std.proofs.lemmas.Bool.{ltb-true, lt-ltb}
use Rattle.std.proofs.lemmas.List.{length-append}
use Rattle.wasm_grammar.specs.declared.fault.Stop.{Stop}
use Rattle.wasm_grammar.specs.declared.fault.Stop.TheVariants as stops
use Rattle.wasm_grammar.specs.Grammar.{SpellsU32, SpellsMany}
use Rattle.wasm_grammar.specs.Readers.{Takes, IsReader}
use Rattle.wasm_grammar.specs.Reading.{◌>>=◌, ended, u32_at}
use Rattle.wasm_grammar.specs.ReaderLaws.{bind_ok, ok_is, cond_ok, u32_reader, Takes-then, regrouped}
use Rattle.wasm_types.specs.Types.{val_type_at}
use Rattle.wasm_types.specs.TypeLaws.{val_type_reader}
use Rattle.wasm_instr.specs.declared.body.LocalRun.{LocalRun}
use Rattle.wasm_instr.specs.declared.body.Placed.{Placed}
use Rattle.wasm_instr.specs.declared.body.Body.{Body}
use Rattle.wasm_instr.specs.Reading.{instr_at}
use Rattle.wasm_instr.specs.InstrLaws.{instr_found, instr_again, head_taken}
use Rattle.wasm_instr.specs.Bodies.{SpellsRun, all_locals, SpellsLocals, counted, run_at, runs_at, locals_at, Nest, step_of, stepped, placed, IsCode, SpellsBody, code_at, body_at}

-- ---- local runs

pub run_found : (before end : ℕ) (bytes : List ℕ) (run : LocalRun) (rest : List ℕ) → run_at before end bytes ≡ Ok (run, rest) → Takes (SpellsRun run) bytes rest × (before + run.count < 2 ^ 32)
unfolding run_at
run_found before end bytes run rest e =
    let a = bind_ok (u32_at end bytes) (λ count. counted (end - length bytes) before count.0 >>= λ checked. val_type_at end count.1 >>= λ kind. Ok (record { count = checked; kind = kind.0 }, kind.1)) (run, rest) e in
    let b = bind_ok (counted (end - length bytes) before a.0.0) (λ checked. val_type_at end a.0.1 >>= λ kind. Ok (record { count = checked; kind = kind.0 }, kind.1)) (run, rest) a.2 in
    let c = bind_ok (val_type_at end a.0.1) (λ kind. Ok (record { count = b.0; kind = kind.0 }, kind.1)) (run, rest) b.2 in
    let both = cond_ok (nat_lt (before + a.0.0) (2 ^ 32)) (stops.Broken (end - length bytes)) a.0.0 b.0 b.1 in
    let lt : before + a.0.0 < 2 ^ 32 = ltb-true (before + a.0.0) (2 ^ 32) both.0 in
    let fits : before + b.0 < 2 ^ 32 = subst (λ (k : ℕ). before + k < 2 ^ 32) both.1 lt in
    let count : Takes (SpellsU32 b.0) bytes a.0.1 = subst (λ (k : ℕ). Takes (SpellsU32 k) bytes a.0.1) both.1 (u32_reader.found end bytes a.0.0 a.0.1 a.1) in
    subst (λ (p : LocalRun × List ℕ). Takes (SpellsRun p.0) bytes p.1 × (before + p.0.count < 2 ^ 32)) (ok_is c.2)
    (Takes-then count (val_type_reader.found end a.0.1 c.0.0 c.0.1 c.1), fits)

pub run_again : (before end : ℕ) (run : LocalRun) (text rest : List ℕ) → before + run.count < 2 ^ 32 → SpellsRun run text → run_at before end (text ++ rest) ≡ Ok (run, rest)
unfolding run_at
run_again before end run text rest fits s =
    rw (regrouped s.0 s.1 text rest s.4, u32_reader.again end run.count s.0 (s.1 ++ rest) s.2, lt-ltb (before + run.count) (2 ^ 32) fits, val_type_reader.again end run.kind s.1 rest s.3) refl

runs_found : (n before end : ℕ) (bytes : List ℕ) (runs : List LocalRun) (rest : List ℕ) → before < 2 ^ 32 → runs_at n before end bytes ≡ Ok (runs, rest)
    → Takes (SpellsMany SpellsRun runs) bytes rest × (length runs ≡ n) × (before + all_locals runs < 2 ^ 32)
unfolding runs_at
runs_found zero before end bytes runs rest fits e =
    subst (λ (p : List LocalRun × List ℕ). Takes (SpellsMany SpellsRun p.0) bytes p.1 × (length p.0 ≡ 0) × (before + all_locals p.0 < 2 ^ 32)) (ok_is e) (record { text = []; spells = refl; parts = refl }, refl, omega (arith, fits))
runs_found (suc n) before end bytes runs rest fits e =
    let a = bind_ok (run_at before end bytes) (λ run. runs_at n (before + run.0.count) end run.1 >>= λ others. Ok (run.0 ∷ others.0, others.1)) (runs, rest) e in
    let b = bind_ok (runs_at n (before + a.0.0.count) end a.0.1) (λ others. Ok (a.0.0 ∷ others.0, others.1)) (runs, rest) a.2 in
    let run = run_found before end bytes a.0.0 a.0.1 a.1 in
    let others = runs_found n (before + a.0.0.count) end a.0.1 b.0.0 b.0.1 run.1 b.1 in
    subst (λ (p : List LocalRun × List ℕ). Takes (SpellsMany SpellsRun p.0) bytes p.1 × (length p.0 ≡ suc n) × (before + all_locals p.0 < 2 ^ 32)) (ok_is b.2)
    (Takes-then run.0 others.0, ap suc others.1, omega (arith, others.2))

runs_again : (before end : ℕ) (runs : List LocalRun) (text rest : List ℕ) → before + all_locals runs < 2 ^ 32 → SpellsMany SpellsRun runs text → runs_at (length runs) before end (text ++ rest) ≡ Ok (runs, rest)
unfolding runs_at
runs_again before end [] text rest fits s = rw s refl
runs_again before end (run ∷ runs) text rest fits s =
    rw (regrouped s.0 s.1 text rest s.4, run_again before end run s.0 (s.1 ++ rest) (omega (arith, fits)) s.2, runs_again (before + run.count) end runs s.1 rest (omega (arith, fits)) s.3) refl

pub locals_reader : IsReader SpellsLocals locals_at
unfolding locals_at
locals_reader = record {
  found = λ end bytes runs rest e.
      let a = bind_ok (u32_at end bytes) (λ count. runs_at count.0 0 end count.1) (runs, rest) e in
      let items = runs_found a.0.0 0 end a.0.1 runs rest (omega arith) a.2 in
      let count : Takes (SpellsU32 (length runs)) bytes a.0.1 = rw items.1 (u32_reader.found end bytes a.0.0 a.0.1 a.1) in
      let t = Takes-then count items.0 in
      record { text = t.text; spells = (omega (arith, items.2), t.spells); parts = t.parts };
  again = λ end runs text rest s.
      let v = s.1 in
      rw (regrouped v.0 v.1 text rest v.4, u32_reader.again end (length runs) v.0 (v.1 ++ rest) v.2, runs_again 0 end runs v.1 rest (omega (arith, s.0)) v.3) refl;
}

-- ---- code

ended_ok : {A : Type 0} (end : ℕ) (x y : A) (rest : List ℕ) → ended end x rest ≡ Ok y → (rest ≡ []) × (x ≡ y)
ended_ok end x y [] e = (refl, ok_is e)
ended_ok end x y (b ∷ rest) e = absurd cc

stepped_ok : (place : ℕ) (o : Option Nest) (next : Nest) → stepped place o ≡ Ok next → o ≡ Some next
stepped_ok place (Some n) next e = ap (λ (k : Nest). Some k) (ok_is e)
stepped_ok place None next e = absurd cc

pub code_found : (n end : ℕ) (nest : Nest) (bytes : List ℕ) (code : List Placed) → code_at n end nest bytes ≡ Ok code → IsCode end nest code bytes
unfolding code_at
code_found n end [] bytes code e = let d = ended_ok end [] code bytes e in (sym d.1, d.0)
code_found zero end (o ∷ os) bytes code e = absurd cc
code_found (suc n) end (o ∷ os) bytes code e =
    let a = bind_ok (instr_at end bytes) (λ x. stepped (end - length bytes) (step_of (o ∷ os) x.0) >>= λ next. code_at n end next x.2 >>= λ code. Ok (placed end x.0 bytes x.1 x.2 ∷ code)) code e in
    let b = bind_ok (stepped (end - length bytes) (step_of (o ∷ os) a.0.0)) (λ next. code_at n end next a.0.2 >>= λ code. Ok (placed end a.0.0 bytes a.0.1 a.0.2 ∷ code)) code a.2 in
    let c = bind_ok (code_at n end b.0 a.0.2) (λ code. Ok (placed end a.0.0 bytes a.0.1 a.0.2 ∷ code)) code b.2 in
    let s = instr_found end bytes a.0.0 a.0.1 a.0.2 a.1 in
    let h = s.head in
    let l = s.last in
    let all : bytes ≡ h.text ++ (l.text ++ a.0.2) = h.parts ∙ ap (λ (t : List ℕ). h.text ++ t) l.parts in
    let p_is : placed end a.0.0 bytes a.0.1 a.0.2 ≡ placed end a.0.0 bytes (l.text ++ a.0.2) a.0.2 = ap (λ (t : List ℕ). placed end a.0.0 bytes t a.0.2) l.parts in
    subst (λ (ps : List Placed). IsCode end (o ∷ os) ps bytes) (ok_is c.2)
    (h.text, l.text, a.0.2, b.0, all, s.profile, h.spells, l.spells, p_is, stepped_ok (end - length bytes) (step_of (o ∷ os) a.0.0) b.0 b.1, code_found n end b.0 a.0.2 c.0 c.1)

pub code_again : (n end : ℕ) (nest : Nest) (bytes : List ℕ) (code : List Placed) → length bytes ≤ n → IsCode end nest code bytes → code_at n end nest bytes ≡ Ok code
unfolding code_at
code_again n end [] bytes code le s = rw (s.1, s.0) refl
code_again n end (o ∷ os) bytes [] le s = absurd s
code_again zero end (o ∷ os) bytes (p ∷ code) le s =
    absurd (omega (arith, ap length s.4, length-append s.0 (s.1 ++ s.2), head_taken p.instr s.0 s.6))
code_again (suc n) end (o ∷ os) bytes (p ∷ code) le s =
    let less : length s.2 ≤ n = omega (arith, ap length s.4, length-append s.0 (s.1 ++ s.2), length-append s.1 s.2, head_taken p.instr s.0 s.6) in
    let read : instr_at end bytes ≡ Ok (p.instr, s.1 ++ s.2, s.2) = ap (instr_at end) s.4 ∙ instr_again end p.instr s.0 s.1 s.2 s.5 s.6 s.7 in
    let others : code_at n end s.3 s.2 ≡ Ok code = code_again n end s.3 s.2 code less s.10 in
    rw (read, s.9, others) (ap (λ (q : Placed). let r : Result (List Placed) Stop = Ok (q ∷ code) in r) (sym s.8))

-- ---- bodies

pub body_found : (bytes : List ℕ) (body : Body) → body_at bytes ≡ Ok body → SpellsBody body bytes
unfolding body_at
body_found bytes body e =
    let a = bind_ok (locals_at (length bytes) bytes) (λ locals. code_at (length locals.1) (length bytes) (false ∷ []) locals.1 >>= λ code. Ok (record { locals = locals.0; code = code })) body e in
    let b = bind_ok (code_at (length a.0.1) (length bytes) (false ∷ []) a.0.1) (λ code. Ok (record { locals = a.0.0; code = code })) body a.2 in
    let front = locals_reader.found (length bytes) bytes a.0.0 a.0.1 a.1 in
    subst (λ (x : Body). SpellsBody x bytes) (ok_is b.2)
    (front.text, a.0.1, front.parts, front.spells, code_found (length a.0.1) (length bytes) (false ∷ []) a.0.1 b.0 b.1)

pub body_again : (bytes : List ℕ) (body : Body) → SpellsBody body bytes → body_at bytes ≡ Ok body
unfolding body_at
body_again bytes body s =
    let read : locals_at (length bytes) bytes ≡ Ok (body.locals, s.1) = ap (locals_at (length bytes)) s.2 ∙ locals_reader.again (length bytes) body.locals s.0 s.1 s.3 in
    let code : code_at (length s.1) (length bytes) (false ∷ []) s.1 ≡ Ok body.code = code_again (length s.1) (length bytes) (false ∷ []) s.1 body.code (omega arith) s.4 in
    rw (read, code) refl

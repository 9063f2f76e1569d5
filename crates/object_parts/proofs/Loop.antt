-- Reading items in turn, as a loop does.
use Rattle.std.proofs.Common.{◌≡◌, ℕ, suc, ◌-◌, ◌+◌, ◌≤◌, ◌<◌, List, [], ◌∷◌, ◌++◌, Result, Ok, Err, refl, sym, ap, ◌∙◌, append_assoc, arith}
use Rattle.std.proofs.lemmas.List.{append-nil}
use Rattle.wasm_instr.specs.wasm_grammar.declared.fault.Stop.{Stop}
use Rattle.wasm_instr.specs.wasm_grammar.declared.fault.ReadFault.{ReadFault}
use Rattle.wasm_instr.specs.wasm_grammar.declared.fault.ReadFault.TheVariants.{Stopped, OutOfMemory}
use Rattle.wasm_instr.specs.wasm_grammar.Fault.{Fails}
use Rattle.wasm_instr.specs.wasm_grammar.Reading.{Read, ◌>>=◌}
use Rattle.object_parts.specs.Turns.{turns_at}

-- what was read before, and what is still read
abbrev pub with_front : {A : Type 0} → List A → Result (List A × List ℕ) Stop → Result (List A × List ℕ) Stop
with_front front read = read >>= λ x. Ok (front ++ x.0, x.1)

regroup : {A : Type 0} (front : List A) (n : A) (read : Result (List A × List ℕ) Stop) → with_front front (read >>= λ x. Ok (n ∷ x.0, x.1)) ≡ with_front (front ++ n ∷ []) read
regroup {A} front n (Ok x) = ap (λ (ns : List A). Ok (ns, x.1)) (simp append_assoc)
regroup front n (Err f) = refl

pub goes_on : {S A : Type 0} (read : S → Read A) (next : S → A → S) (front : List A) (state : S) (count i end : ℕ) (bytes : List ℕ) (x : A) (after : List ℕ) (total : Result (List A × List ℕ) Stop) → i < count → read state end bytes ≡ Ok (x, after)
    → with_front front (turns_at read next (count - i) state end bytes) ≡ total → with_front (front ++ x ∷ []) (turns_at read next (count - (i + 1)) (next state x) end after) ≡ total
unfolding turns_at
goes_on read next front state count i end bytes x after total lt h so_far =
    let k : count - i ≡ suc (count - (i + 1)) = omega arith in
    let one : with_front front (turns_at read next (count - i) state end bytes) ≡ with_front (front ++ x ∷ []) (turns_at read next (count - (i + 1)) (next state x) end after)
    = rw (k, h) (regroup front x (turns_at read next (count - (i + 1)) (next state x) end after)) in
    sym one ∙ so_far

pub ends : {S A : Type 0} (read : S → Read A) (next : S → A → S) (e : ReadFault) (front : List A) (state : S) (count i end : ℕ) (bytes : List ℕ) (total : Result (List A × List ℕ) Stop) → i < count → Fails e (read state end bytes)
    → with_front front (turns_at read next (count - i) state end bytes) ≡ total → Fails e total
unfolding turns_at
ends read next OutOfMemory front state count i end bytes total lt h so_far = tt
ends read next (Stopped s) front state count i end bytes total lt h so_far =
    let k : count - i ≡ suc (count - (i + 1)) = omega arith in
    let one : with_front front (turns_at read next (count - i) state end bytes) ≡ Err s = rw (k, h) refl in
    sym so_far ∙ one

pub is_done : {S A : Type 0} (read : S → Read A) (next : S → A → S) (front : List A) (state : S) (count i end : ℕ) (bytes : List ℕ) (total : Result (List A × List ℕ) Stop) → count ≤ i
    → with_front front (turns_at read next (count - i) state end bytes) ≡ total → total ≡ Ok (front, bytes)
unfolding turns_at
is_done {S} {A} read next front state count i end bytes total le so_far =
    let k : count - i ≡ 0 = omega arith in
    let one : with_front front (turns_at read next (count - i) state end bytes) ≡ Ok (front, bytes) = rw k (ap (λ (ns : List A). Ok (ns, bytes)) (append-nil front)) in
    sym so_far ∙ one

-- The code of a body, typed an instruction after the other.
use Rattle.std.proofs.Common.{◌≡◌, ℕ, ◌<◌, ◌≤◌, true, false, List, [], ◌∷◌, map, length, Option, Some, None, Result, Ok, Err, refl, sym, ap, subst, ◌∙◌, arith}
use Rattle.std.specs.Prelude.{option_and_then, IfOk}
use Rattle.wasm_types.specs.declared.function.FuncType.{FuncType}
use Rattle.wasm_instr.specs.wasm_grammar.declared.fault.Stop.{Stop}
use Rattle.wasm_instr.specs.wasm_grammar.declared.fault.ReadFault.{ReadFault}
use Rattle.wasm_instr.specs.wasm_grammar.declared.fault.ReadFault.TheVariants.{Stopped}
use Rattle.wasm_instr.specs.wasm_grammar.Fault.{Fails}
use Rattle.wasm_instr.specs.wasm_grammar.Reading.{◌>>=◌}
use Rattle.wasm_instr.specs.declared.instr.Instr.{Instr}
use Rattle.wasm_instr.specs.declared.body.LocalRun.{LocalRun}
use Rattle.wasm_instr.specs.declared.body.Placed.{Placed}
use Rattle.wasm_instr.specs.Reading.{instr_at}
use Rattle.wasm_instr.specs.Bodies.{Nest, step_of, placed, code_at, locals_at, body_at}
use Rattle.wasm_instr.specs.Skimming.{outline_of, outline_step}
use Rattle.wasm_instr.specs.SkimLaws.{steps_agree}
use Rattle.valid_rules.specs.declared.types.Frame.{Frame}
use Rattle.valid_rules.specs.declared.types.Shape.{Shape}
use Rattle.valid_rules.specs.Reading.{read, whole}
use Rattle.valid_bodies.specs.declared.types.Context.{Context}
use Rattle.valid_bodies.specs.Shapes.{shape}
use Rattle.valid_bodies.specs.Steps.{step_on, is_open}
use Rattle.valid_bodies.specs.Went.{ended}
use Rattle.body_check.specs.declared.verdict.Verdict.{Verdict}
use Rattle.body_check.specs.declared.verdict.Verdict.TheVariants.{Unread, Typed}
use Rattle.body_check.specs.Judging.{is_read, told, unfit, judged, verdict}
use Rattle.body_check.proofs.Going.{with_next, broken, misplaced, goes}

read_one : (s : Shape) (ss : List Shape) (fs : List Frame) → read fs (s ∷ ss) ≡ option_and_then (λ gs. read gs ss) (step_on fs s)
unfolding read
read_one s ss [] = refl
read_one s ss (frame ∷ around) = refl

module _ (c : Context) (t : FuncType) (ls : List LocalRun) where
  abbrev of : Placed → Shape
  of p = shape c t ls p.instr

  next_typed : (p : Placed) (fs after : List Frame) (r : Result (List Placed) Stop) → step_on fs (of p) ≡ Some after → judged c t ls fs (with_next p r) ≡ judged c t ls after r
  next_typed p fs after (Ok code) went =
      ap (λ o. told (ended o)) (read_one (of p) (map of code) fs ∙ ap (option_and_then (λ gs. read gs (map of code))) went)
  next_typed p fs after (Err s) went = refl

  next_untyped : (p : Placed) (fs : List Frame) (r : Result (List Placed) Stop) → step_on fs (of p) ≡ None → judged c t ls fs (with_next p r) ≡ unfit (is_read (with_next p r))
  next_untyped p fs (Ok code) went =
      ap (λ o. told (ended o)) (read_one (of p) (map of code) fs ∙ ap (option_and_then (λ gs. read gs (map of code))) went)
  next_untyped p fs (Err s) went = refl

  pub is_unread : (end : ℕ) (nest : Nest) (bytes : List ℕ) (d : ReadFault) (s : Stop) (frames : List Frame) (total : Verdict) → 0 < length nest → d ≡ Stopped s → Fails d (instr_at end bytes)
      → judged c t ls frames (code_at (length bytes) end nest bytes) ≡ total → Unread ≡ total
  is_unread end nest bytes d s frames total some is fails so_far =
      let e : instr_at end bytes ≡ Err s = subst (λ (d : ReadFault). Fails d (instr_at end bytes)) is fails in
      sym (ap (judged c t ls frames) (broken end nest bytes s some e)) ∙ so_far

  module _ (end : ℕ) (nest : Nest) (bytes : List ℕ) (x : Instr) (mid rest : List ℕ) (fs : List Frame) (total : Verdict)
      (some : 0 < length nest) (e : instr_at end bytes ≡ Ok (x, mid, rest)) (so_far : judged c t ls fs (code_at (length bytes) end nest bytes) ≡ total) where
    pub goes_on : (after : List Frame) (next : Nest) → step_on fs (shape c t ls x) ≡ Some after → outline_step nest (outline_of x) ≡ Some next → judged c t ls after (code_at (length rest) end next rest) ≡ total
    goes_on after next went turned =
        sym (next_typed (placed end x bytes mid rest) fs after (code_at (length rest) end next rest) went)
        ∙ sym (ap (judged c t ls fs) (goes end nest bytes x mid rest some e next (steps_agree nest x ∙ turned))) ∙ so_far

    pub is_misplaced : outline_step nest (outline_of x) ≡ None → Unread ≡ total
    is_misplaced turned = sym (ap (judged c t ls fs) (misplaced end nest bytes x mid rest some e (steps_agree nest x ∙ turned))) ∙ so_far

    pub is_untyped : step_on fs (shape c t ls x) ≡ None → unfit (is_read (code_at (length bytes) end nest bytes)) ≡ total
    is_untyped went = by_next (step_of nest x) refl ∙ so_far
      where
        by_next : (o : Option Nest) → step_of nest x ≡ o → unfit (is_read (code_at (length bytes) end nest bytes)) ≡ judged c t ls fs (code_at (length bytes) end nest bytes)
        by_next None s = let is = misplaced end nest bytes x mid rest some e s in rw is refl
        by_next (Some next) s =
            let is = goes end nest bytes x mid rest some e next s in
            rw is (sym (next_untyped (placed end x bytes mid rest) fs (code_at (length rest) end next rest) went))

  -- a frame is left where the grammar has closed all blocks
  pub is_left : (end : ℕ) (nest : Nest) (bytes : List ℕ) (fs : List Frame) (total : Verdict) → length nest ≤ 0 → is_open fs ≡ true
      → judged c t ls fs (code_at (length bytes) end nest bytes) ≡ total → unfit (is_read (code_at (length bytes) end nest bytes)) ≡ total
  unfolding code_at read
  is_left end nest bytes [] total none some so_far = absurd (grind arith)
  is_left end nest bytes (frame ∷ around) total none some so_far = of nest bytes none ∙ so_far
    where
      of : (nest : Nest) (bytes : List ℕ) → length nest ≤ 0 → unfit (is_read (code_at (length bytes) end nest bytes)) ≡ judged c t ls (frame ∷ around) (code_at (length bytes) end nest bytes)
      of [] [] none = refl
      of [] (b ∷ bs) none = refl
      of (o ∷ os) bytes none = absurd (omega arith)

  -- all frames are closed
  pub is_typed : (end : ℕ) (nest : Nest) (bytes : List ℕ) → length nest ≤ 0 → length bytes < 1 → Typed ≡ judged c t ls [] (code_at (length bytes) end nest bytes)
  unfolding code_at read
  is_typed end [] [] none empty = refl
  is_typed end [] (b ∷ bs) none empty = absurd (omega arith)
  is_typed end (o ∷ os) bytes none empty = absurd (omega arith)

  pub goes_past : (end : ℕ) (nest : Nest) (bytes : List ℕ) → length nest ≤ 0 → 1 ≤ length bytes → Unread ≡ judged c t ls [] (code_at (length bytes) end nest bytes)
  unfolding code_at
  goes_past end [] [] none more = absurd (omega arith)
  goes_past end [] (b ∷ bs) none more = refl
  goes_past end (o ∷ os) bytes none more = absurd (omega arith)

  -- the grammar wants more
  pub wants_more : (end : ℕ) (nest : Nest) (bytes : List ℕ) → 0 < length nest → unfit (is_read (code_at (length bytes) end nest bytes)) ≡ judged c t ls [] (code_at (length bytes) end nest bytes)
  wants_more end nest bytes some = by_instr (instr_at end bytes) refl
    where
      by_next : (x : Instr) (mid rest : List ℕ) (o : Option Nest) → instr_at end bytes ≡ Ok (x, mid, rest) → step_of nest x ≡ o
          → unfit (is_read (code_at (length bytes) end nest bytes)) ≡ judged c t ls [] (code_at (length bytes) end nest bytes)
      by_next x mid rest None e s = let is = misplaced end nest bytes x mid rest some e s in rw is refl
      by_next x mid rest (Some next) e s =
          let is = goes end nest bytes x mid rest some e next s in
          rw is (sym (next_untyped (placed end x bytes mid rest) [] (code_at (length rest) end next rest) refl))

      by_instr : (r : Result (Instr × List ℕ × List ℕ) Stop) → instr_at end bytes ≡ r → unfit (is_read (code_at (length bytes) end nest bytes)) ≡ judged c t ls [] (code_at (length bytes) end nest bytes)
      by_instr (Err s) e = let is = broken end nest bytes s some e in rw is refl
      by_instr (Ok x) e = by_next x.0 x.1 x.2 (step_of nest x.0) e refl

-- a body, by its locals and its code
pub of_body : (c : Context) (t : FuncType) (ls rs : List LocalRun) (bytes rest : List ℕ) → rs ≡ ls → locals_at (length bytes) bytes ≡ Ok (ls, rest)
    → judged c t rs (whole t.results ∷ []) (code_at (length rest) (length bytes) (false ∷ []) rest) ≡ verdict c t (body_at bytes)
unfolding body_at
of_body c t ls rs bytes rest same e = rw (same, e) (of_code (code_at (length rest) (length bytes) (false ∷ []) rest))
  where
    of_code : (r : Result (List Placed) Stop) → judged c t ls (whole t.results ∷ []) r ≡ verdict c t (r >>= λ code. Ok (record { locals = ls; code = code }))
    of_code (Ok code) = refl
    of_code (Err s) = refl

-- the same told by another name
pub told_as : {E : Type 0} (r : Result Verdict E) (v w : Verdict) → v ≡ w → IfOk r (λ found. found ≡ v) → IfOk r (λ found. found ≡ w)
told_as r v w same is = subst (λ (u : Verdict). IfOk r (λ found. found ≡ u)) same is

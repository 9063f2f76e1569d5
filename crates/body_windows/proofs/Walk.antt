-- The pass over the bytes of code, one instruction after another.
use Rattle.std.proofs.Common.{◌≡◌, ℕ, suc, ◌+◌, ◌-◌, ◌<◌, ◌≤◌, ◌^◌, ◌∙◌, false, List, [], ◌∷◌, length, refl, sym, ap, subst, arith, Result, Ok, Err, Option}
use Rattle.std.specs.Prelude.{IfOk}
use Rattle.wasm_instr.specs.wasm_grammar.declared.fault.Stop.{Stop}
use Rattle.wasm_instr.specs.wasm_grammar.declared.fault.ReadFault.{ReadFault}
use Rattle.wasm_instr.specs.wasm_grammar.declared.fault.ReadFault.TheVariants.{Stopped, OutOfMemory}
use Rattle.wasm_instr.specs.wasm_grammar.Fault.{Fails}
use Rattle.wasm_instr.specs.wasm_grammar.Reading.{◌>>=◌, none_at}
use Rattle.wasm_instr.specs.wasm_grammar.ReaderLaws.{bind_ok, ok_is, taken_length}
use Rattle.wasm_instr.specs.declared.body.Body.{Body}
use Rattle.wasm_instr.specs.declared.body.LocalRun.{LocalRun}
use Rattle.wasm_instr.specs.declared.body.Placed.{Placed}
use Rattle.wasm_instr.specs.declared.instr.Instr.{Instr}
use Rattle.wasm_instr.specs.declared.outline.Outline.{Outline}
use Rattle.wasm_instr.specs.declared.outline.Outline.TheVariants.{Other}
use Rattle.wasm_instr.specs.Bodies.{Nest, step_of, stepped, placed, locals_at, code_at, body_at}
use Rattle.wasm_instr.specs.BodyLaws.{locals_reader, body_found}
use Rattle.wasm_instr.specs.InstrLaws.{instr_found}
use Rattle.wasm_instr.specs.Reading.{instr_at}
use Rattle.wasm_instr.specs.Skimming.{outline_of, outline_step, skim_at, skip_locals_at}
use Rattle.wasm_instr.specs.SkimLaws.{steps_agree}
use Rattle.wasm_instr.proofs.Loop.{shorter, enough, one_more}
use Rattle.reloc_section.specs.declared.entry.Reloc.{Reloc}
use Rattle.body_windows.specs.declared.operand.Operand.{Operand}
use Rattle.body_windows.specs.declared.fault.Mismatch.{Mismatch}
use Rattle.body_windows.specs.Operands.{StandIn}
use Rattle.body_windows.specs.Immediates.{immediates_in, immediates}
use Rattle.body_windows.specs.Windows.{least_overlap, windows_of}
use Rattle.body_windows.specs.Merging.{State, offered_all, walked, outlined_immediates, Fit, finished}
use Rattle.body_windows.specs.Scanning.{scan_of}
use Rattle.body_windows.proofs.Merge.{start, merge_is}
use Rattle.body_windows.proofs.Steps.{outlined_is, order_fits, code_step}
use Rattle.body_windows.proofs.Order.{instr_order, body_order}
use Rattle.body_windows.proofs.Within.{operands_stand}

-- ---- one instruction

known_behind : (s : State) (p : Placed) (read : Result (List Placed) Stop) → ((read >>= λ code. Ok (p ∷ code)) >>= λ code. Ok (offered_all s (immediates code)))
    ≡ (read >>= λ code. Ok (offered_all (offered_all s (outlined_immediates (outline_of p.instr) p.at p.mid p.end)) (immediates code)))
known_behind s p (Ok code) = ap (λ (t : State). Ok t) (code_step s p code)
known_behind s p (Err e) = refl

one_read : (end : ℕ) (nest : Nest) (bytes : List ℕ) (x : Instr) (mid rest : List ℕ) (next : Nest) → 0 < length nest → instr_at end bytes ≡ Ok (x, mid, rest) → stepped (end - length bytes) (step_of nest x) ≡ Ok next
    → code_at (length bytes) end nest bytes ≡ (code_at (length rest) end next rest >>= λ code. Ok (placed end x bytes mid rest ∷ code))
one_read end nest bytes x mid rest next some e s =
    let less : length rest < length bytes = shorter end bytes x mid rest e in
    enough (length bytes) (suc (length bytes)) end nest bytes (omega arith) (omega arith)
    ∙ one_more (length bytes) end nest bytes x mid rest next some e s
    ∙ ap (λ (r : Result (List Placed) Stop). r >>= λ code. Ok (placed end x bytes mid rest ∷ code)) (enough (length bytes) (length rest) end next rest (omega arith) (omega arith))

walk_one : (s : State) (end : ℕ) (nest : Nest) (bytes : List ℕ) (x : Instr) (mid rest : List ℕ) (next : Nest) → 0 < length nest → instr_at end bytes ≡ Ok (x, mid, rest) → stepped (end - length bytes) (step_of nest x) ≡ Ok next
    → walked s end nest bytes ≡ walked (offered_all s (outlined_immediates (outline_of x) (end - length bytes) (end - length mid) (end - length rest))) end next rest
unfolding walked
walk_one s end nest bytes x mid rest next some e step =
    ap (λ (r : Result (List Placed) Stop). r >>= λ code. Ok (offered_all s (immediates code))) (one_read end nest bytes x mid rest next some e step)
    ∙ known_behind s (placed end x bytes mid rest) (code_at (length rest) end next rest)

-- what skimming gives is the outline of an instruction that is read
record Skims (end : ℕ) (bytes : List ℕ) (outline : Outline) (mid rest : List ℕ) : Type 0 where
  instr : Instr
  reads : instr_at end bytes ≡ Ok (instr, mid, rest)
  is : outline_of instr ≡ outline

skims : (end : ℕ) (bytes : List ℕ) (outline : Outline) (mid rest : List ℕ) → skim_at end bytes ≡ Ok (outline, mid, rest) → Skims end bytes outline mid rest
unfolding skim_at
skims end bytes outline mid rest e =
    let a = bind_ok (instr_at end bytes) (λ x. Ok (outline_of x.0, x.1, x.2)) (outline, mid, rest) e in
    subst (λ (p : Outline × List ℕ × List ℕ). Skims end bytes p.0 p.1 p.2) (ok_is a.2) (record { instr = a.0.0; reads = a.1; is = refl })

pub walk_on : (s : State) (end : ℕ) (nest : Nest) (bytes : List ℕ) (outline : Outline) (mid rest : List ℕ) (next : Nest) → 0 < length nest → skim_at end bytes ≡ Ok (outline, mid, rest) → stepped (end - length bytes) (outline_step nest outline) ≡ Ok next
    → walked s end nest bytes ≡ walked (offered_all s (outlined_immediates outline (end - length bytes) (end - length mid) (end - length rest))) end next rest
walk_on s end nest bytes outline mid rest next some e step =
    let k = skims end bytes outline mid rest e in
    let same : stepped (end - length bytes) (step_of nest k.instr) ≡ Ok next = rw (steps_agree nest k.instr, k.is) step in
    subst (λ (o : Outline). walked s end nest bytes ≡ walked (offered_all s (outlined_immediates o (end - length bytes) (end - length mid) (end - length rest))) end next rest) k.is
    (walk_one s end nest bytes k.instr mid rest next some k.reads same)

-- an instruction that does nothing to blocks, and has no immediate
pub walk_other : (s : State) (end : ℕ) (nest : Nest) (bytes : List ℕ) (outline : Outline) (mid rest : List ℕ) → 0 < length nest → skim_at end bytes ≡ Ok (outline, mid, rest) → outline ≡ Other
    → walked s end nest bytes ≡ walked s end nest rest
walk_other s end nest bytes outline mid rest some e is =
    walk_on s end nest bytes Other mid rest nest some (e ∙ ap (λ (o : Outline). Ok (o, mid, rest)) is) refl

pub walk_shorter : (end : ℕ) (bytes : List ℕ) (outline : Outline) (mid rest : List ℕ) → skim_at end bytes ≡ Ok (outline, mid, rest) → length rest < length bytes
walk_shorter end bytes outline mid rest e = let k = skims end bytes outline mid rest e in shorter end bytes k.instr mid rest k.reads

-- its immediates lie in the code section
pub walk_fits : (base end : ℕ) (bytes : List ℕ) (outline : Outline) (mid rest : List ℕ) → length bytes ≤ end → base + end < 2 ^ 32 → skim_at end bytes ≡ Ok (outline, mid, rest)
    → Fit base (outlined_immediates outline (end - length bytes) (end - length mid) (end - length rest))
walk_fits base end bytes outline mid rest le room e =
    let k = skims end bytes outline mid rest e in
    let t = instr_found end bytes k.instr mid rest k.reads in
    let head : length bytes ≡ length t.head.text + length mid = taken_length t.head in
    let last : length mid ≡ length t.last.text + length rest = taken_length t.last in
    let order = instr_order k.instr t.head.text t.last.text (end - length bytes) (end - length mid) (end - length rest) t.head.spells t.last.spells (omega arith) (omega arith) in
    let fit : Fit base (immediates_in k.instr (end - length bytes) (end - length mid) (end - length rest)) =
    order_fits base (end - length bytes) (end - length rest) (immediates_in k.instr (end - length bytes) (end - length mid) (end - length rest)) order (omega (arith, room)) in
    subst (λ (o : Outline). Fit base (outlined_immediates o (end - length bytes) (end - length mid) (end - length rest))) k.is
    (subst (Fit base) (outlined_is k.instr (end - length bytes) (end - length mid) (end - length rest)) fit)

-- ---- faults, and the end

skim_fault : (end : ℕ) (bytes : List ℕ) (e : Stop) → skim_at end bytes ≡ Err e → instr_at end bytes ≡ Err e
unfolding skim_at
skim_fault end bytes e h = by_case (instr_at end bytes) h
  where
    by_case : (r : Result (Instr × List ℕ × List ℕ) Stop) → (let f : Instr × List ℕ × List ℕ → Result (Outline × List ℕ × List ℕ) Stop = λ x. Ok (outline_of x.0, x.1, x.2) in (r >>= f) ≡ Err e) → r ≡ Err e
    by_case (Ok x) h = absurd cc
    by_case (Err d) h = cc

pub walk_fault : (s : State) (end : ℕ) (nest : Nest) (bytes : List ℕ) (e : Stop) → 0 < length nest → skim_at end bytes ≡ Err e → walked s end nest bytes ≡ Err e
unfolding walked code_at
walk_fault s end [] bytes e some h = absurd (omega arith)
walk_fault s end (o ∷ os) bytes e some h =
    let read : instr_at end bytes ≡ Err e = skim_fault end bytes e h in
    let one : code_at (length bytes) end (o ∷ os) bytes ≡ Err e =
    enough (length bytes) (suc (length bytes)) end (o ∷ os) bytes (omega arith) (omega arith) ∙ (rw read refl) in
    rw one refl

pub walk_stop : (s : State) (end : ℕ) (nest : Nest) (bytes : List ℕ) (outline : Outline) (mid rest : List ℕ) (e : Stop) → 0 < length nest → skim_at end bytes ≡ Ok (outline, mid, rest) → stepped (end - length bytes) (outline_step nest outline) ≡ Err e
    → walked s end nest bytes ≡ Err e
unfolding walked code_at
walk_stop s end [] bytes outline mid rest e some h step = absurd (omega arith)
walk_stop s end (o ∷ os) bytes outline mid rest e some h step =
    let k = skims end bytes outline mid rest h in
    let same : stepped (end - length bytes) (step_of (o ∷ os) k.instr) ≡ Err e = rw (steps_agree (o ∷ os) k.instr, k.is) step in
    let one : code_at (length bytes) end (o ∷ os) bytes ≡ Err e =
    enough (length bytes) (suc (length bytes)) end (o ∷ os) bytes (omega arith) (omega arith) ∙ (rw (k.reads, same) refl) in
    rw one refl

-- the same, of what the step of the blocks answered
pub step_fails : (e : ReadFault) (s : State) (end : ℕ) (nest : Nest) (bytes : List ℕ) (outline : Outline) (mid rest : List ℕ) (total : Result State Stop) → 0 < length nest → skim_at end bytes ≡ Ok (outline, mid, rest)
    → Fails e (stepped (end - length bytes) (outline_step nest outline)) → walked s end nest bytes ≡ total → Fails e total
step_fails OutOfMemory s end nest bytes outline mid rest total some h step so_far = tt
step_fails (Stopped e) s end nest bytes outline mid rest total some h step so_far = sym so_far ∙ walk_stop s end nest bytes outline mid rest e some h step

pub walk_done : (s : State) (end : ℕ) (nest : Nest) (bytes : List ℕ) → length nest ≤ 0 → walked s end nest bytes ≡ (none_at end bytes >>= λ _. Ok s)
unfolding walked code_at
walk_done s end [] [] none = refl
walk_done s end [] (b ∷ bytes) none = refl
walk_done s end (o ∷ os) bytes none = absurd (omega arith)

-- ---- the whole body

body_from : (bytes rest : List ℕ) (locals : List LocalRun) (code : List Placed) → locals_at (length bytes) bytes ≡ Ok (locals, rest) → code_at (length rest) (length bytes) (false ∷ []) rest ≡ Ok code → body_at bytes ≡ Ok (record { locals = locals; code = code })
unfolding body_at
body_from bytes rest locals code e read = rw (e, read) refl

body_is : (bytes rest : List ℕ) (code : List Placed) → skip_locals_at (length bytes) bytes ≡ Ok rest → code_at (length rest) (length bytes) (false ∷ []) rest ≡ Ok code → (locals : List LocalRun) × (body_at bytes ≡ Ok (record { locals = locals; code = code }))
unfolding skip_locals_at
body_is bytes rest code skip read =
    let a = bind_ok (locals_at (length bytes) bytes) (λ x. Ok x.1) rest skip in
    let same : a.0.1 ≡ rest = ok_is a.2 in
    (a.0.0, body_from bytes rest a.0.0 code (a.1 ∙ ap (λ (after : List ℕ). Ok (a.0.0, after)) same) read)

pub scan_ok : (base : ℕ) (relocs : List Reloc) (bytes rest : List ℕ) (s : State) (overlap : Option ℕ) (answer : Result (List Operand) Mismatch) → skip_locals_at (length bytes) bytes ≡ Ok rest → walked (start base relocs) (length bytes) (false ∷ []) rest ≡ Ok s → overlap ≡ least_overlap relocs → answer ≡ finished s overlap
    → scan_of base relocs bytes ≡ Ok answer
unfolding walked scan_of
scan_ok base relocs bytes rest s overlap answer skip walk is finish =
    let a = bind_ok (code_at (length rest) (length bytes) (false ∷ []) rest) (λ code. Ok (offered_all (start base relocs) (immediates code))) s walk in
    let b = body_is bytes rest a.0 skip a.1 in
    let body : Body = record { locals = b.0; code = a.0 } in
    let order = body_order body bytes (body_found bytes body b.1) in
    let known : offered_all (start base relocs) (immediates a.0) ≡ s = ok_is a.2 in
    let merged : finished (offered_all (start base relocs) (immediates a.0)) (least_overlap relocs) ≡ windows_of base relocs body = merge_is base relocs (immediates a.0) 0 (length bytes) order.0 in
    rw b.1 (ap (λ (r : Result (List Operand) Mismatch). Ok r) (sym merged ∙ (rw (known, is) refl) ∙ sym finish))

pub scan_locals_fault : (base : ℕ) (relocs : List Reloc) (bytes : List ℕ) (e : Stop) → skip_locals_at (length bytes) bytes ≡ Err e → scan_of base relocs bytes ≡ Err e
unfolding skip_locals_at body_at scan_of
scan_locals_fault base relocs bytes e skip = by_case (locals_at (length bytes) bytes) refl skip
  where
    by_case : (r : Result (List LocalRun × List ℕ) Stop) → locals_at (length bytes) bytes ≡ r → (let f : List LocalRun × List ℕ → Result (List ℕ) Stop = λ x. Ok x.1 in (r >>= f) ≡ Err e) → scan_of base relocs bytes ≡ Err e
    by_case (Ok x) is h = absurd cc
    by_case (Err d) is h = let same : d ≡ e = cc in rw (is, same) refl

body_fault : (bytes rest : List ℕ) (locals : List LocalRun) (e : Stop) → locals_at (length bytes) bytes ≡ Ok (locals, rest) → code_at (length rest) (length bytes) (false ∷ []) rest ≡ Err e → body_at bytes ≡ Err e
unfolding body_at
body_fault bytes rest locals e h read = rw (h, read) refl

pub scan_code_fault : (base : ℕ) (relocs : List Reloc) (bytes rest : List ℕ) (e : Stop) → skip_locals_at (length bytes) bytes ≡ Ok rest → walked (start base relocs) (length bytes) (false ∷ []) rest ≡ Err e → scan_of base relocs bytes ≡ Err e
unfolding skip_locals_at walked scan_of
scan_code_fault base relocs bytes rest e skip walk =
    let a = bind_ok (locals_at (length bytes) bytes) (λ x. Ok x.1) rest skip in
    let same : a.0.1 ≡ rest = ok_is a.2 in
    let read : code_at (length rest) (length bytes) (false ∷ []) rest ≡ Err e = by_case (code_at (length rest) (length bytes) (false ∷ []) rest) walk in
    let body : body_at bytes ≡ Err e = body_fault bytes rest a.0.0 e (a.1 ∙ ap (λ (after : List ℕ). Ok (a.0.0, after)) same) read in
    ap (λ (r : Result Body Stop). r >>= λ body. Ok (windows_of base relocs body)) body
  where
    by_case : (r : Result (List Placed) Stop) → (let f : List Placed → Result State Stop = λ code. Ok (offered_all (start base relocs) (immediates code)) in (r >>= f) ≡ Err e) → r ≡ Err e
    by_case (Ok x) h = absurd cc
    by_case (Err d) h = cc

-- the same, of what the pass answered
pub code_fails : (e : ReadFault) (base : ℕ) (relocs : List Reloc) (bytes rest : List ℕ) → skip_locals_at (length bytes) bytes ≡ Ok rest → Fails e (walked (start base relocs) (length bytes) (false ∷ []) rest) → Fails e (scan_of base relocs bytes)
code_fails OutOfMemory base relocs bytes rest skip walk = tt
code_fails (Stopped e) base relocs bytes rest skip walk = scan_code_fault base relocs bytes rest e skip walk

pub locals_within : (bytes rest : List ℕ) → skip_locals_at (length bytes) bytes ≡ Ok rest → length rest ≤ length bytes
unfolding skip_locals_at
locals_within bytes rest skip =
    let a = bind_ok (locals_at (length bytes) bytes) (λ x. Ok x.1) rest skip in
    let same : a.0.1 ≡ rest = ok_is a.2 in
    omega (arith, taken_length (locals_reader.found (length bytes) bytes a.0.0 a.0.1 a.1), ap length same)

-- the windows lie in the bytes
windows_stand : (base : ℕ) (relocs : List Reloc) (bytes : List ℕ) (operands : List Operand) → scan_of base relocs bytes ≡ Ok (Ok operands) → StandIn 0 (length bytes) operands
unfolding scan_of
windows_stand base relocs bytes operands e =
    let a = bind_ok (body_at bytes) (λ body. Ok (windows_of base relocs body)) (Ok operands) e in
    operands_stand base relocs (immediates a.0.code) 0 (length bytes) operands (body_order a.0 bytes (body_found bytes a.0 a.1)).0 (ok_is a.2)

pub scan_stands : (base : ℕ) (relocs : List Reloc) (bytes : List ℕ) (answer : Result (List Operand) Mismatch) → scan_of base relocs bytes ≡ Ok answer → IfOk answer (λ operands. StandIn 0 (length bytes) operands)
scan_stands base relocs bytes (Ok operands) e = windows_stand base relocs bytes operands e
scan_stands base relocs bytes (Err fault) e = tt

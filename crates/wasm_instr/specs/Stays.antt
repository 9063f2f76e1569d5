-- A foreign item in an instruction or a body stays the answer, whatever bytes follow.
use Rattle.std.proofs.Common.{◌≡◌, ℕ, zero, suc, ◌+◌, ◌-◌, ◌<◌, ◌≤◌, ◌^◌, Bool, true, false, cond, eqb, List, [], ◌∷◌, ◌++◌, length, take, Option, Some, None, Result, Ok, Err, refl, sym, ap, ◌∙◌, append_assoc, arith, pos, negsuc}
use Rattle.std.specs.Prelude.{drop, nat_le, nat_lt, ℤ}
use Rattle.std.specs.Int.{from_le_bytes, w32, w64}
use Rattle.std.proofs.lemmas.Bool.{lt-ltb}
use Rattle.std.proofs.lemmas.List.{length-append}
use Rattle.wasm_grammar.specs.wl_base.declared.item.Item.TheVariants as items
use Rattle.wasm_grammar.specs.declared.fault.Stop.{Stop}
use Rattle.wasm_grammar.specs.declared.fault.Stop.TheVariants.{Broken, Foreign}
use Rattle.wasm_grammar.specs.Grammar.{SpellsByte, SpellsVector}
use Rattle.wasm_grammar.specs.Readers.{IsReader}
use Rattle.wasm_grammar.specs.Reading.{Read, ◌>>=◌, byte_at, tag_at, u32_at, s32_at, s33_at, s64_at, vector_at, ended}
use Rattle.wasm_grammar.specs.ReaderLaws.{byte_reader, u32_reader, s32_reader, s33_reader, s64_reader, vector_reader, taken_length}
use Rattle.wasm_grammar.specs.Stays.{Stays, IsSteady, bind_stays, step_stays, cond_stays, never_stays, tag_stays, byte_stays, u32_stays, s32_stays, s33_stays, s64_stays, vector_stays}
use Rattle.wasm_types.specs.Types.{SpellsValType, val_type_of, val_type_at}
use Rattle.wasm_types.specs.TypeLaws.{val_type_reader}
use Rattle.wasm_types.specs.Stays.{type_stays, type_same, val_type_stays}
use Rattle.wasm_instr.specs.Classes.{between, class_of}
use Rattle.wasm_instr.specs.Instrs.{SpellsBlockKind}
use Rattle.wasm_instr.specs.Reading.{index_of, index_kind_at, value_kind, kind_of, block_kind_at, f32_at, f64_at, zero_at, numbered, immediates_at, instr_at}
use Rattle.wasm_instr.specs.BlockLaws.{block_kind_reader}
use Rattle.wasm_instr.specs.InstrLaws.{f32_reader, f64_reader, instr_found, instr_again, head_taken}
use Rattle.wasm_instr.specs.Bodies.{SpellsRun, Nest, counted, run_at, runs_at, locals_at, step_of, stepped, placed, code_at, body_at}
use Rattle.wasm_instr.specs.BodyLaws.{run_found, run_again, locals_reader}
use Rattle.wasm_instr.specs.declared.body.LocalRun.{LocalRun}
use Rattle.wasm_instr.specs.declared.body.Placed.{Placed}
use Rattle.wasm_instr.specs.declared.class.Class.{Class}
use Rattle.wasm_instr.specs.declared.class.Class.TheVariants as classes
use Rattle.wasm_instr.specs.declared.instr.BlockKind.{BlockKind}
use Rattle.wasm_instr.specs.declared.instr.BlockKind.TheVariants as blocks
use Rattle.wasm_instr.specs.declared.instr.Instr.{Instr}
use Rattle.wasm_instr.specs.declared.instr.Instr.TheVariants.{Truncate, MemoryCopy, MemoryFill}

-- what is made of a value is foreign where the value is
made : {A B : Type 0} (r s : Result A Stop) (f g : A → B) → Stays r s → (let make : A → Result B Stop = λ x. Ok (f x) in let make_too : A → Result B Stop = λ x. Ok (g x) in Stays (r >>= make) (s >>= make_too))
made (Ok x) s f g t = tt
made (Err (Broken place)) s f g t = tt
made (Err (Foreign item)) s f g t = rw t refl

-- ---- block types

index_stays : (place other : ℕ) (n : ℤ) (rest longer : List ℕ) → Stays (index_of place n rest) (index_of other n longer)
index_stays place other (pos n) rest longer = tt
index_stays place other (negsuc n) rest longer = tt

index_kind_stays : IsSteady index_kind_at
unfolding index_kind_at
index_kind_stays end other bytes more =
    bind_stays _ s33_at s33_reader s33_stays end other bytes more _ _ (λ n rest. index_stays (end - length bytes) (other - length (bytes ++ more)) n rest (rest ++ more))

value_stays : (place other byte : ℕ) (rest longer : List ℕ) → Stays (value_kind place byte rest) (value_kind other byte longer)
value_stays place other byte rest longer =
    made (val_type_of place byte) (val_type_of other byte) (λ t. (blocks.Value t, rest)) (λ t. (blocks.Value t, longer)) (type_stays place other byte)

block_kind_stays : IsSteady block_kind_at
unfolding block_kind_at
block_kind_stays end other bytes more =
    bind_stays SpellsByte byte_at byte_reader byte_stays end other bytes more _ _ (λ byte rest.
    cond_stays (eqb byte 0x40) (Ok (blocks.Empty, rest)) _ (Ok (blocks.Empty, rest ++ more)) _ tt (
    cond_stays (between 0x41 0x7f byte) (value_kind (end - length bytes) byte rest) (index_kind_at end bytes) (value_kind (other - length (bytes ++ more)) byte (rest ++ more)) (index_kind_at other (bytes ++ more))
    (value_stays (end - length bytes) (other - length (bytes ++ more)) byte rest (rest ++ more)) (index_kind_stays end other bytes more)))

-- ---- immediates

f32_stays : IsSteady f32_at
unfolding f32_at
f32_stays end other bytes more = never_stays (nat_le 4 (length bytes)) (from_le_bytes w32 (take 4 bytes), drop 4 bytes) end (f32_at other (bytes ++ more))

f64_stays : IsSteady f64_at
unfolding f64_at
f64_stays end other bytes more = never_stays (nat_le 8 (length bytes)) (from_le_bytes w64 (take 8 bytes), drop 8 bytes) end (f64_at other (bytes ++ more))

zero_stays : (x : Instr) (end other : ℕ) (rest more : List ℕ) → Stays (zero_at x end rest) (zero_at x other (rest ++ more))
zero_stays x end other rest more = tag_stays 0 end other rest more _ _ (λ r. tt)

numbered_stays : (n end other : ℕ) (rest more : List ℕ) → Stays (numbered n end rest) (numbered n other (rest ++ more))
numbered_stays n end other rest more =
    cond_stays (nat_le n 7) (Ok (Truncate n, rest, rest)) _ (Ok (Truncate n, rest ++ more, rest ++ more)) _ tt (
    cond_stays (eqb n 10) _ _ _ _ (tag_stays 0 end other rest more _ _ (λ r. zero_stays MemoryCopy end other r more)) (
    cond_stays (eqb n 11) (zero_at MemoryFill end rest) (Err (Foreign (items.Opcode 0xfc n))) (zero_at MemoryFill other (rest ++ more)) (Err (Foreign (items.Opcode 0xfc n)))
    (zero_stays MemoryFill end other rest more) refl))

immediates_stay : (class : Class) (op end other : ℕ) (rest more : List ℕ) → Stays (immediates_at class op end rest) (immediates_at class op other (rest ++ more))
immediates_stay classes.Plain op end other rest more = tt
immediates_stay classes.Block op end other rest more = bind_stays SpellsBlockKind block_kind_at block_kind_reader block_kind_stays end other rest more _ _ (λ kind r. tt)
immediates_stay classes.Branch op end other rest more = bind_stays _ u32_at u32_reader u32_stays end other rest more _ _ (λ label r. tt)
immediates_stay classes.BranchTable op end other rest more =
    bind_stays _ (vector_at u32_at) (vector_reader _ u32_at u32_reader) (vector_stays _ u32_at u32_reader u32_stays) end other rest more _ _ (λ labels r.
    bind_stays _ u32_at u32_reader u32_stays end other r more _ _ (λ last q. tt))
immediates_stay classes.Call op end other rest more = bind_stays _ u32_at u32_reader u32_stays end other rest more _ _ (λ function r. tt)
immediates_stay classes.CallIndirect op end other rest more =
    bind_stays _ u32_at u32_reader u32_stays end other rest more _ _ (λ kind r. bind_stays _ u32_at u32_reader u32_stays end other r more _ _ (λ table q. tt))
immediates_stay classes.SelectTyped op end other rest more =
    bind_stays (SpellsVector SpellsValType) (vector_at val_type_at) (vector_reader SpellsValType val_type_at val_type_reader) (vector_stays SpellsValType val_type_at val_type_reader val_type_stays) end other rest more _ _ (λ kinds r. tt)
immediates_stay classes.Local op end other rest more = bind_stays _ u32_at u32_reader u32_stays end other rest more _ _ (λ local r. tt)
immediates_stay classes.GlobalAt op end other rest more = bind_stays _ u32_at u32_reader u32_stays end other rest more _ _ (λ global r. tt)
immediates_stay classes.Access op end other rest more =
    bind_stays _ u32_at u32_reader u32_stays end other rest more _ _ (λ align r. bind_stays _ u32_at u32_reader u32_stays end other r more _ _ (λ offset q. tt))
immediates_stay classes.MemorySize op end other rest more = zero_stays _ end other rest more
immediates_stay classes.MemoryGrow op end other rest more = zero_stays _ end other rest more
immediates_stay classes.I32Const op end other rest more = bind_stays _ s32_at s32_reader s32_stays end other rest more _ _ (λ n r. tt)
immediates_stay classes.I64Const op end other rest more = bind_stays _ s64_at s64_reader s64_stays end other rest more _ _ (λ n r. tt)
immediates_stay classes.F32Const op end other rest more = bind_stays _ f32_at f32_reader f32_stays end other rest more _ _ (λ n r. tt)
immediates_stay classes.F64Const op end other rest more = bind_stays _ f64_at f64_reader f64_stays end other rest more _ _ (λ n r. tt)
immediates_stay classes.Numbered op end other rest more = bind_stays _ u32_at u32_reader u32_stays end other rest more _ _ (λ n r. numbered_stays n end other r more)
immediates_stay classes.Foreign op end other rest more = refl

pub instr_stays : (end other : ℕ) (bytes more : List ℕ) → Stays (instr_at end bytes) (instr_at other (bytes ++ more))
unfolding instr_at
instr_stays end other bytes more =
    bind_stays SpellsByte byte_at byte_reader byte_stays end other bytes more _ _ (λ op rest. immediates_stay (class_of op) op end other rest more)

-- what is read is read with more bytes too, and these are in what is left
instr_extends : (end other : ℕ) (bytes more : List ℕ) (x : Instr) (mid rest : List ℕ) → instr_at end bytes ≡ Ok (x, mid, rest) → instr_at other (bytes ++ more) ≡ Ok (x, mid ++ more, rest ++ more)
instr_extends end other bytes more x mid rest e =
    let s = instr_found end bytes x mid rest e in
    let last : mid ++ more ≡ s.last.text ++ (rest ++ more) = ap (λ (b : List ℕ). b ++ more) s.last.parts ∙ append_assoc s.last.text rest more in
    let whole : bytes ++ more ≡ s.head.text ++ (mid ++ more) = ap (λ (b : List ℕ). b ++ more) s.head.parts ∙ append_assoc s.head.text mid more in
    let parts : bytes ++ more ≡ s.head.text ++ (s.last.text ++ (rest ++ more)) = whole ∙ ap (λ (b : List ℕ). s.head.text ++ b) last in
    ap (instr_at other) parts ∙ instr_again other x s.head.text s.last.text (rest ++ more) s.profile s.head.spells s.last.spells
    ∙ ap (λ (m : List ℕ). let r : Result (Instr × List ℕ × List ℕ) Stop = Ok (x, m, rest ++ more) in r) (sym last)

shorter : (end : ℕ) (bytes : List ℕ) (x : Instr) (mid rest : List ℕ) → instr_at end bytes ≡ Ok (x, mid, rest) → length rest < length bytes
shorter end bytes x mid rest e =
    let s = instr_found end bytes x mid rest e in
    omega (arith, taken_length s.head, taken_length s.last, head_taken x s.head.text s.head.spells)

-- ---- locals

counted_stays : (place other before count : ℕ) → Stays (counted place before count) (counted other before count)
counted_stays place other before count = never_stays (nat_lt (before + count) (2 ^ 32)) count place (counted other before count)

counted_same : (q : Bool) (count place other n : ℕ) → (let r : Result ℕ Stop = cond q (Ok count) (Err (Broken place)) in let s : Result ℕ Stop = cond q (Ok count) (Err (Broken other)) in r ≡ Ok n → s ≡ Ok n)
counted_same true count place other n e = e
counted_same false count place other n e = absurd cc

run_stays : (before : ℕ) → IsSteady (run_at before)
unfolding run_at
run_stays before end other bytes more =
    bind_stays _ u32_at u32_reader u32_stays end other bytes more _ _ (λ count rest.
    step_stays (counted (end - length bytes) before count) (counted (other - length (bytes ++ more)) before count) _ _ (counted_stays (end - length bytes) (other - length (bytes ++ more)) before count)
    (λ n. counted_same (nat_lt (before + count) (2 ^ 32)) count (end - length bytes) (other - length (bytes ++ more)) n) (λ checked.
    bind_stays SpellsValType val_type_at val_type_reader val_type_stays end other rest more _ _ (λ kind r. tt)))

run_extends : (before end other : ℕ) (bytes more : List ℕ) (run : LocalRun) (rest : List ℕ) → run_at before end bytes ≡ Ok (run, rest) → run_at before other (bytes ++ more) ≡ Ok (run, rest ++ more)
run_extends before end other bytes more run rest e =
    let f = run_found before end bytes run rest e in
    let parts : bytes ++ more ≡ f.0.text ++ (rest ++ more) = ap (λ (b : List ℕ). b ++ more) f.0.parts ∙ append_assoc f.0.text rest more in
    ap (run_at before other) parts ∙ run_again before other run f.0.text (rest ++ more) f.1 f.0.spells

runs_stay : (n before : ℕ) → IsSteady (runs_at n before)
unfolding runs_at
runs_stay zero before end other bytes more = tt
runs_stay (suc n) before end other bytes more =
    by (run_at before end bytes) refl (run_stays before end other bytes more) (λ x. runs_stay n (before + x.0.count) end other x.1 more)
  where
    by : (r : Result (LocalRun × List ℕ) Stop) → run_at before end bytes ≡ r → Stays r (run_at before other (bytes ++ more))
        → ((x : LocalRun × List ℕ) → Stays (runs_at n (before + x.0.count) end x.1) (runs_at n (before + x.0.count) other (x.1 ++ more)))
        → (let here : LocalRun × List ℕ → Result (List LocalRun × List ℕ) Stop = λ run. runs_at n (before + run.0.count) end run.1 >>= λ others. Ok (run.0 ∷ others.0, others.1) in
        let there : LocalRun × List ℕ → Result (List LocalRun × List ℕ) Stop = λ run. runs_at n (before + run.0.count) other run.1 >>= λ others. Ok (run.0 ∷ others.0, others.1) in
        Stays (r >>= here) (run_at before other (bytes ++ more) >>= there))
    by (Ok x) e t others =
        rw (run_extends before end other bytes more x.0 x.1 e)
        (made (runs_at n (before + x.0.count) end x.1) (runs_at n (before + x.0.count) other (x.1 ++ more)) (λ runs. (x.0 ∷ runs.0, runs.1)) (λ runs. (x.0 ∷ runs.0, runs.1)) (others x))
    by (Err (Broken place)) e t others = tt
    by (Err (Foreign item)) e t others = rw t refl

locals_stay : IsSteady locals_at
unfolding locals_at
locals_stay end other bytes more = bind_stays _ u32_at u32_reader u32_stays end other bytes more _ _ (λ count rest. runs_stay count 0 end other rest more)

-- ---- code

ended_stays : {A : Type 0} (end : ℕ) (x : A) (rest : List ℕ) (more : Result A Stop) → Stays (ended end x rest) more
ended_stays end x [] more = tt
ended_stays end x (b ∷ rest) more = tt

-- no instruction begins at the end
nothing_at : (end : ℕ) → (let r : Result (Instr × List ℕ × List ℕ) Stop = Err (Broken end) in instr_at end [] ≡ r)
unfolding instr_at
nothing_at end = refl

code_stays : (n m end other : ℕ) (nest : Nest) (bytes more : List ℕ) → length bytes ≤ n → length (bytes ++ more) ≤ m → Stays (code_at n end nest bytes) (code_at m other nest (bytes ++ more))
unfolding code_at
code_stays n m end other [] bytes more p q = ended_stays end [] bytes (code_at m other [] (bytes ++ more))
code_stays zero m end other (o ∷ os) bytes more p q = tt
code_stays (suc n) zero end other (o ∷ os) bytes more p q = none bytes q
  where
    none : (b : List ℕ) → length (b ++ more) ≤ zero → Stays (code_at (suc n) end (o ∷ os) b) (code_at zero other (o ∷ os) (b ++ more))
    none [] k = rw (nothing_at end) tt
    none (x ∷ b) k = absurd (omega (arith, k))
code_stays (suc n) (suc m) end other (o ∷ os) bytes more p q =
    by (instr_at end bytes) refl (instr_stays end other bytes more) (λ nest x mid rest e.
    let less = shorter end bytes x mid rest e in
    code_stays n m end other nest rest more (omega (arith, less, p)) (omega (arith, less, q, length-append rest more, length-append bytes more)))
  where
    next : (x : Instr) (mid rest : List ℕ) (s : Option Nest) → instr_at end bytes ≡ Ok (x, mid, rest)
        → ((nest : Nest) (x : Instr) (mid rest : List ℕ) → instr_at end bytes ≡ Ok (x, mid, rest) → Stays (code_at n end nest rest) (code_at m other nest (rest ++ more)))
        → Stays (stepped (end - length bytes) s >>= λ nest. code_at n end nest rest >>= λ code. Ok (placed end x bytes mid rest ∷ code))
        (stepped (other - length (bytes ++ more)) s >>= λ nest. code_at m other nest (rest ++ more) >>= λ code. Ok (placed other x (bytes ++ more) (mid ++ more) (rest ++ more) ∷ code))
    next x mid rest None e others = tt
    next x mid rest (Some nest) e others =
        made (code_at n end nest rest) (code_at m other nest (rest ++ more)) (λ code. placed end x bytes mid rest ∷ code) (λ code. placed other x (bytes ++ more) (mid ++ more) (rest ++ more) ∷ code)
        (others nest x mid rest e)

    by : (r : Result (Instr × List ℕ × List ℕ) Stop) → instr_at end bytes ≡ r → Stays r (instr_at other (bytes ++ more))
        → ((nest : Nest) (x : Instr) (mid rest : List ℕ) → instr_at end bytes ≡ Ok (x, mid, rest) → Stays (code_at n end nest rest) (code_at m other nest (rest ++ more)))
        → Stays (r >>= λ x. stepped (end - length bytes) (step_of (o ∷ os) x.0) >>= λ nest. code_at n end nest x.2 >>= λ code. Ok (placed end x.0 bytes x.1 x.2 ∷ code))
        (instr_at other (bytes ++ more) >>= λ x. stepped (other - length (bytes ++ more)) (step_of (o ∷ os) x.0) >>= λ nest. code_at m other nest x.2 >>= λ code. Ok (placed other x.0 (bytes ++ more) x.1 x.2 ∷ code))
    by (Ok x) e t others = rw (instr_extends end other bytes more x.0 x.1 x.2 e) (next x.0 x.1 x.2 (step_of (o ∷ os) x.0) e others)
    by (Err (Broken place)) e t others = tt
    by (Err (Foreign item)) e t others = rw t refl

pub body_stays : (bytes more : List ℕ) → Stays (body_at bytes) (body_at (bytes ++ more))
unfolding body_at
body_stays bytes more =
    bind_stays _ locals_at locals_reader locals_stay (length bytes) (length (bytes ++ more)) bytes more _ _ (λ locals rest.
    made (code_at (length rest) (length bytes) (false ∷ []) rest) (code_at (length (rest ++ more)) (length (bytes ++ more)) (false ∷ []) (rest ++ more)) (λ code. record { locals = locals; code = code }) (λ code. record { locals = locals; code = code })
    (code_stays (length rest) (length (rest ++ more)) (length bytes) (length (bytes ++ more)) (false ∷ []) rest more (omega arith) (omega arith)))

-- An instruction that is read is spelled so, and one that is spelled so is read.
use Rattle.std.proofs.Common.{◌≡◌, ℕ, ◌≤◌, Bool, true, false, cond, eqb, List, [], ◌++◌, length, take, Result, Ok, Err, refl, sym, ap, subst, ◌∙◌, arith}
use Rattle.std.specs.Prelude.{drop, nat_le}
use Rattle.std.specs.Int.{from_le_bytes, w32, w64}
use Rattle.std.proofs.lemmas.Bool.{eqb-true, leb-true, le-leb}
use Rattle.std.proofs.lemmas.List.{take-append-drop, take_at, drop_at, length-append, length-take-le}
use Rattle.wasm_grammar.specs.wl_base.declared.item.Item.TheVariants as items
use Rattle.wasm_grammar.specs.declared.fault.Stop.{Stop}
use Rattle.wasm_grammar.specs.declared.fault.Stop.TheVariants.{Broken, Foreign}
use Rattle.wasm_grammar.specs.Grammar.{SpellsNothing, SpellsByte, SpellsU32, SpellsS32, SpellsS64, SpellsVector, Then}
use Rattle.wasm_grammar.specs.Readers.{Takes, IsReader}
use Rattle.wasm_grammar.specs.Reading.{Read, ◌>>=◌, byte_at, tag_at, u32_at, s32_at, s64_at, vector_at}
use Rattle.wasm_grammar.specs.ReaderLaws.{bind_ok, ok_is, cond_ok, byte_reader, u32_reader, s32_reader, s64_reader, tag_found, vector_reader, Takes-then, regrouped, branch, never}
use Rattle.wasm_types.specs.Types.{SpellsValType, val_type_at}
use Rattle.wasm_types.specs.TypeLaws.{val_type_reader}
use Rattle.wasm_instr.specs.Classes.{class_of}
use Rattle.wasm_instr.specs.Instrs.{SpellsBlockKind, SpellsF32, SpellsF64, SpellsHead, SpellsLast, IsInProfile, SpellsInstr}
use Rattle.wasm_instr.specs.Reading.{block_kind_at, f32_at, f64_at, zero_at, numbered, immediates_at, instr_at}
use Rattle.wasm_instr.specs.BlockLaws.{block_kind_reader}
use Rattle.wasm_instr.specs.declared.class.Class.{Class}
use Rattle.wasm_instr.specs.declared.class.Class.TheVariants as classes
use Rattle.wasm_instr.specs.declared.instr.Instr.{Instr}
use Rattle.wasm_instr.specs.declared.instr.Instr.TheVariants.{Plain, Block, Branch, BranchTable, Call, CallIndirect, SelectTyped, Local, GlobalAt, Access, MemorySize, MemoryGrow, I32Const, I64Const, F32Const, F64Const, Truncate, MemoryCopy, MemoryFill}

-- the bytes are an instruction whose last immediate begins where mid does, and the rest
pub record Splits (x : Instr) (bytes mid rest : List ℕ) : Type 0 where
  pub profile : IsInProfile x
  pub head : Takes (SpellsHead x) bytes mid
  pub last : Takes (SpellsLast x) mid rest

-- ---- the opcodes that are alone in their class

abbrev IsOpcode : Class → ℕ → Type 0
IsOpcode classes.BranchTable op = op ≡ 0x0e
IsOpcode classes.Call op = op ≡ 0x10
IsOpcode classes.CallIndirect op = op ≡ 0x11
IsOpcode classes.SelectTyped op = op ≡ 0x1c
IsOpcode classes.MemorySize op = op ≡ 0x3f
IsOpcode classes.MemoryGrow op = op ≡ 0x40
IsOpcode classes.I32Const op = op ≡ 0x41
IsOpcode classes.I64Const op = op ≡ 0x42
IsOpcode classes.F32Const op = op ≡ 0x43
IsOpcode classes.F64Const op = op ≡ 0x44
IsOpcode classes.Numbered op = op ≡ 0xfc
IsOpcode _ op = Unit {0}

pick : (op : ℕ) (q : Bool) (a b c : Class) → (q ≡ true → IsOpcode a op) → (b ≡ c → IsOpcode c op) → cond q a b ≡ c → IsOpcode c op
pick op true a b c f g e = subst (λ (d : Class). IsOpcode d op) e (f refl)
pick op false a b c f g e = g e

opcode_is : (op : ℕ) (c : Class) → class_of op ≡ c → IsOpcode c op
unfolding class_of
opcode_is op c e =
    pick op _ classes.Plain _ c (λ q. tt) (
    pick op _ classes.Block _ c (λ q. tt) (
    pick op _ classes.Branch _ c (λ q. tt) (
    pick op (eqb op 0x0e) classes.BranchTable _ c (eqb-true op 0x0e) (
    pick op (eqb op 0x10) classes.Call _ c (eqb-true op 0x10) (
    pick op (eqb op 0x11) classes.CallIndirect _ c (eqb-true op 0x11) (
    pick op (eqb op 0x1c) classes.SelectTyped _ c (eqb-true op 0x1c) (
    pick op _ classes.Local _ c (λ q. tt) (
    pick op _ classes.GlobalAt _ c (λ q. tt) (
    pick op _ classes.Access _ c (λ q. tt) (
    pick op (eqb op 0x3f) classes.MemorySize _ c (eqb-true op 0x3f) (
    pick op (eqb op 0x40) classes.MemoryGrow _ c (eqb-true op 0x40) (
    pick op (eqb op 0x41) classes.I32Const _ c (eqb-true op 0x41) (
    pick op (eqb op 0x42) classes.I64Const _ c (eqb-true op 0x42) (
    pick op (eqb op 0x43) classes.F32Const _ c (eqb-true op 0x43) (
    pick op (eqb op 0x44) classes.F64Const _ c (eqb-true op 0x44) (
    pick op _ classes.Plain _ c (λ q. tt) (
    pick op (eqb op 0xfc) classes.Numbered classes.Foreign c (eqb-true op 0xfc) (λ f. subst (λ (d : Class). IsOpcode d op) f tt)))))))))))))))))) e

-- ---- the patterns of floats

f32_found : (end : ℕ) (bytes : List ℕ) (n : ℕ) (rest : List ℕ) → f32_at end bytes ≡ Ok (n, rest) → Takes (SpellsF32 n) bytes rest
unfolding f32_at
f32_found end bytes n rest e =
    let both = cond_ok (nat_le 4 (length bytes)) (Broken end) (from_le_bytes w32 (take 4 bytes), drop 4 bytes) (n, rest) e in
    let le : 4 ≤ length bytes = leb-true 4 (length bytes) both.0 in
    subst (λ (p : ℕ × List ℕ). Takes (SpellsF32 p.0) bytes p.1) both.1 (record { text = take 4 bytes; spells = (length-take-le 4 bytes le, refl); parts = sym (take-append-drop 4 bytes) })

f32_again : (end n : ℕ) (text rest : List ℕ) → SpellsF32 n text → f32_at end (text ++ rest) ≡ Ok (n, rest)
unfolding f32_at
f32_again end n text rest s =
    let le : 4 ≤ length (text ++ rest) = omega (arith, length-append text rest, s.0) in
    rw (le-leb 4 (length (text ++ rest)) le, take_at text rest 4 s.0, drop_at text rest 4 s.0, s.1) refl

pub f32_reader : IsReader SpellsF32 f32_at
f32_reader = record { found = f32_found; again = f32_again }

f64_found : (end : ℕ) (bytes : List ℕ) (n : ℕ) (rest : List ℕ) → f64_at end bytes ≡ Ok (n, rest) → Takes (SpellsF64 n) bytes rest
unfolding f64_at
f64_found end bytes n rest e =
    let both = cond_ok (nat_le 8 (length bytes)) (Broken end) (from_le_bytes w64 (take 8 bytes), drop 8 bytes) (n, rest) e in
    let le : 8 ≤ length bytes = leb-true 8 (length bytes) both.0 in
    subst (λ (p : ℕ × List ℕ). Takes (SpellsF64 p.0) bytes p.1) both.1 (record { text = take 8 bytes; spells = (length-take-le 8 bytes le, refl); parts = sym (take-append-drop 8 bytes) })

f64_again : (end n : ℕ) (text rest : List ℕ) → SpellsF64 n text → f64_at end (text ++ rest) ≡ Ok (n, rest)
unfolding f64_at
f64_again end n text rest s =
    let le : 8 ≤ length (text ++ rest) = omega (arith, length-append text rest, s.0) in
    rw (le-leb 8 (length (text ++ rest)) le, take_at text rest 8 s.0, drop_at text rest 8 s.0, s.1) refl

pub f64_reader : IsReader SpellsF64 f64_at
f64_reader = record { found = f64_found; again = f64_again }

-- ---- what is read

abbrev Answer : Type 0
Answer = Instr × List ℕ × List ℕ

-- an answer that is given is the one that came
given : (bytes : List ℕ) (x y : Instr) (mid mid2 rest rest2 : List ℕ) → (let r : Result Answer Stop = Ok (x, mid, rest) in r ≡ Ok (y, mid2, rest2)) → Splits x bytes mid rest → Splits y bytes mid2 rest2
given bytes x y mid mid2 rest rest2 e s = subst (λ (p : Answer). Splits p.0 bytes p.1 p.2) (ok_is e) s

-- nothing follows
nothing : (bytes : List ℕ) → Takes SpellsNothing bytes bytes
nothing bytes = record { text = []; spells = refl; parts = refl }

-- one immediate behind a head
last_found : {A : Type 0} (Item : A → List ℕ → Type 0) (read : Read A) (make : A → Instr) → IsReader Item read → ((v : A) → IsInProfile (make v)) → ((v : A) (t : List ℕ) → Item v t → SpellsLast (make v) t)
    → (end : ℕ) (bytes mid : List ℕ) → ((v : A) → Takes (SpellsHead (make v)) bytes mid) → (x : Instr) (mid2 rest : List ℕ)
    → (let f : A × List ℕ → Result Answer Stop = λ v. Ok (make v.0, mid, v.1) in (read end mid >>= f) ≡ Ok (x, mid2, rest)) → Splits x bytes mid2 rest
last_found {A} Item read make reader profile last end bytes mid head x mid2 rest e =
    let f : A × List ℕ → Result Answer Stop = λ v. Ok (make v.0, mid, v.1) in
    let a = bind_ok (read end mid) f (x, mid2, rest) e in
    let t = reader.found end mid a.0.0 a.0.1 a.1 in
    given bytes (make a.0.0) x mid mid2 a.0.1 rest a.2 (record { profile = profile a.0.0; head = head a.0.0; last = record { text = t.text; spells = last a.0.0 t.text t.spells; parts = t.parts } })

-- a byte 00 behind a head
zero_found : (make : Instr) → IsInProfile make → ((t : List ℕ) → SpellsByte 0 t → SpellsLast make t) → (end : ℕ) (bytes mid : List ℕ) → Takes (SpellsHead make) bytes mid → (x : Instr) (mid2 rest : List ℕ) → zero_at make end mid ≡ Ok (x, mid2, rest) → Splits x bytes mid2 rest
zero_found make profile last end bytes mid head x mid2 rest e =
    let f : List ℕ → Result Answer Stop = λ after. Ok (make, mid, after) in
    let a = bind_ok (tag_at 0 end mid) f (x, mid2, rest) e in
    let t = tag_found 0 end mid a.0 a.1 in
    given bytes make x mid mid2 a.0 rest a.2 (record { profile = profile; head = head; last = record { text = t.text; spells = last t.text t.spells; parts = t.parts } })

numbered_found : (n end : ℕ) (bytes mid : List ℕ) → Takes (Then (SpellsByte 0xfc) (SpellsU32 n)) bytes mid → (x : Instr) (mid2 rest : List ℕ) → numbered n end mid ≡ Ok (x, mid2, rest) → Splits x bytes mid2 rest
numbered_found n end bytes mid head x mid2 rest e =
    branch (nat_le n 7) (Ok (Truncate n, mid, mid)) _ (x, mid2, rest) (λ q f.
    given bytes (Truncate n) x mid mid2 mid rest f (record { profile = leb-true n 7 q; head = head; last = nothing mid })) (
    branch (eqb n 10) _ _ (x, mid2, rest) (λ q f.
    let g : List ℕ → Result Answer Stop = λ m. zero_at MemoryCopy end m in
    let a = bind_ok (tag_at 0 end mid) g (x, mid2, rest) f in
    let ten : Takes (Then (SpellsByte 0xfc) (SpellsU32 10)) bytes mid = subst (λ (k : ℕ). Takes (Then (SpellsByte 0xfc) (SpellsU32 k)) bytes mid) (eqb-true n 10 q) head in
    zero_found MemoryCopy tt (λ t s. s) end bytes a.0 (copied ten (tag_found 0 end mid a.0 a.1)) x mid2 rest a.2) (
    branch (eqb n 11) (zero_at MemoryFill end mid) (Err (Foreign (items.Opcode 0xfc n))) (x, mid2, rest) (λ q f.
    zero_found MemoryFill tt (λ t s. s) end bytes mid (subst (λ (k : ℕ). Takes (Then (SpellsByte 0xfc) (SpellsU32 k)) bytes mid) (eqb-true n 11 q) head) x mid2 rest f) (
    never _ (x, mid2, rest)))) e
  where
    copied : {mid after : List ℕ} → Takes (Then (SpellsByte 0xfc) (SpellsU32 10)) bytes mid → Takes (SpellsByte 0) mid after → Takes (Then (SpellsByte 0xfc) (Then (SpellsU32 10) (SpellsByte 0))) bytes after
    copied {mid = mid} a b =
        let s = a.spells in
        let ten : Takes (SpellsU32 10) (s.1 ++ mid) mid = record { text = s.1; spells = s.3; parts = refl } in
        let prefix : Takes (SpellsByte 0xfc) bytes (s.1 ++ mid) = record { text = s.0; spells = s.2; parts = a.parts ∙ regrouped s.0 s.1 a.text mid s.4 } in
        Takes-then prefix (Takes-then ten b)

immediates_found : (c : Class) (op end : ℕ) (bytes rest : List ℕ) → class_of op ≡ c → Takes (SpellsByte op) bytes rest → (x : Instr) (mid after : List ℕ) → immediates_at c op end rest ≡ Ok (x, mid, after) → Splits x bytes mid after
immediates_found classes.Plain op end bytes rest k head x mid after e = given bytes (Plain op) x rest mid rest after e (record { profile = k; head = head; last = nothing rest })
immediates_found classes.Block op end bytes rest k head x mid after e = last_found SpellsBlockKind block_kind_at (Block op) block_kind_reader (λ v. k) (λ v t s. s) end bytes rest (λ v. head) x mid after e
immediates_found classes.Branch op end bytes rest k head x mid after e = last_found SpellsU32 u32_at (Branch op) u32_reader (λ v. k) (λ v t s. s) end bytes rest (λ v. head) x mid after e
immediates_found classes.BranchTable op end bytes rest k head x mid after e =
    let f : List ℕ × List ℕ → Result Answer Stop = λ labels. u32_at end labels.1 >>= λ last. Ok (BranchTable labels.0 last.0, labels.1, last.1) in
    let a = bind_ok (vector_at u32_at end rest) f (x, mid, after) e in
    let labels = (vector_reader SpellsU32 u32_at u32_reader).found end rest a.0.0 a.0.1 a.1 in
    let op_is : op ≡ 0x0e = opcode_is op classes.BranchTable k in
    let front : Takes (SpellsByte 0x0e) bytes rest = subst (λ (n : ℕ). Takes (SpellsByte n) bytes rest) op_is head in
    last_found SpellsU32 u32_at (BranchTable a.0.0) u32_reader (λ v. tt) (λ v t s. s) end bytes a.0.1 (λ v. Takes-then front labels) x mid after a.2
immediates_found classes.Call op end bytes rest k head x mid after e =
    last_found SpellsU32 u32_at Call u32_reader (λ v. tt) (λ v t s. s) end bytes rest (λ v. subst (λ (n : ℕ). Takes (SpellsByte n) bytes rest) (opcode_is op classes.Call k) head) x mid after e
immediates_found classes.CallIndirect op end bytes rest k head x mid after e =
    let f : ℕ × List ℕ → Result Answer Stop = λ kind. u32_at end kind.1 >>= λ table. Ok (CallIndirect kind.0 table.0, kind.1, table.1) in
    let a = bind_ok (u32_at end rest) f (x, mid, after) e in
    let front : Takes (SpellsByte 0x11) bytes rest = subst (λ (n : ℕ). Takes (SpellsByte n) bytes rest) (opcode_is op classes.CallIndirect k) head in
    last_found SpellsU32 u32_at (CallIndirect a.0.0) u32_reader (λ v. tt) (λ v t s. s) end bytes a.0.1 (λ v. Takes-then front (u32_reader.found end rest a.0.0 a.0.1 a.1)) x mid after a.2
immediates_found classes.SelectTyped op end bytes rest k head x mid after e =
    last_found (SpellsVector SpellsValType) (vector_at val_type_at) SelectTyped (vector_reader SpellsValType val_type_at val_type_reader) (λ v. tt) (λ v t s. s) end bytes rest (λ v. subst (λ (n : ℕ). Takes (SpellsByte n) bytes rest) (opcode_is op classes.SelectTyped k) head) x mid after e
immediates_found classes.Local op end bytes rest k head x mid after e = last_found SpellsU32 u32_at (Local op) u32_reader (λ v. k) (λ v t s. s) end bytes rest (λ v. head) x mid after e
immediates_found classes.GlobalAt op end bytes rest k head x mid after e = last_found SpellsU32 u32_at (GlobalAt op) u32_reader (λ v. k) (λ v t s. s) end bytes rest (λ v. head) x mid after e
immediates_found classes.Access op end bytes rest k head x mid after e =
    let f : ℕ × List ℕ → Result Answer Stop = λ align. u32_at end align.1 >>= λ offset. Ok (Access op align.0 offset.0, align.1, offset.1) in
    let a = bind_ok (u32_at end rest) f (x, mid, after) e in
    last_found SpellsU32 u32_at (Access op a.0.0) u32_reader (λ v. k) (λ v t s. s) end bytes a.0.1 (λ v. Takes-then head (u32_reader.found end rest a.0.0 a.0.1 a.1)) x mid after a.2
immediates_found classes.MemorySize op end bytes rest k head x mid after e =
    zero_found MemorySize tt (λ t s. s) end bytes rest (subst (λ (n : ℕ). Takes (SpellsByte n) bytes rest) (opcode_is op classes.MemorySize k) head) x mid after e
immediates_found classes.MemoryGrow op end bytes rest k head x mid after e =
    zero_found MemoryGrow tt (λ t s. s) end bytes rest (subst (λ (n : ℕ). Takes (SpellsByte n) bytes rest) (opcode_is op classes.MemoryGrow k) head) x mid after e
immediates_found classes.I32Const op end bytes rest k head x mid after e =
    last_found SpellsS32 s32_at I32Const s32_reader (λ v. tt) (λ v t s. s) end bytes rest (λ v. subst (λ (n : ℕ). Takes (SpellsByte n) bytes rest) (opcode_is op classes.I32Const k) head) x mid after e
immediates_found classes.I64Const op end bytes rest k head x mid after e =
    last_found SpellsS64 s64_at I64Const s64_reader (λ v. tt) (λ v t s. s) end bytes rest (λ v. subst (λ (n : ℕ). Takes (SpellsByte n) bytes rest) (opcode_is op classes.I64Const k) head) x mid after e
immediates_found classes.F32Const op end bytes rest k head x mid after e =
    last_found SpellsF32 f32_at F32Const f32_reader (λ v. tt) (λ v t s. s) end bytes rest (λ v. subst (λ (n : ℕ). Takes (SpellsByte n) bytes rest) (opcode_is op classes.F32Const k) head) x mid after e
immediates_found classes.F64Const op end bytes rest k head x mid after e =
    last_found SpellsF64 f64_at F64Const f64_reader (λ v. tt) (λ v t s. s) end bytes rest (λ v. subst (λ (n : ℕ). Takes (SpellsByte n) bytes rest) (opcode_is op classes.F64Const k) head) x mid after e
immediates_found classes.Numbered op end bytes rest k head x mid after e =
    let f : ℕ × List ℕ → Result Answer Stop = λ n. numbered n.0 end n.1 in
    let a = bind_ok (u32_at end rest) f (x, mid, after) e in
    let front : Takes (SpellsByte 0xfc) bytes rest = subst (λ (n : ℕ). Takes (SpellsByte n) bytes rest) (opcode_is op classes.Numbered k) head in
    numbered_found a.0.0 end bytes a.0.1 (Takes-then front (u32_reader.found end rest a.0.0 a.0.1 a.1)) x mid after a.2
immediates_found classes.Foreign op end bytes rest k head x mid after e = never _ (x, mid, after) e

pub instr_found : (end : ℕ) (bytes : List ℕ) (x : Instr) (mid rest : List ℕ) → instr_at end bytes ≡ Ok (x, mid, rest) → Splits x bytes mid rest
unfolding instr_at
instr_found end bytes x mid rest e =
    let f : ℕ × List ℕ → Result Answer Stop = λ op. immediates_at (class_of op.0) op.0 end op.1 in
    let a = bind_ok (byte_at end bytes) f (x, mid, rest) e in
    immediates_found (class_of a.0.0) a.0.0 end bytes a.0.1 refl (byte_reader.found end bytes a.0.0 a.0.1 a.1) x mid rest a.2

-- ---- what is spelled

pub instr_again : (end : ℕ) (x : Instr) (head last rest : List ℕ) → IsInProfile x → SpellsHead x head → SpellsLast x last → instr_at end (head ++ (last ++ rest)) ≡ Ok (x, last ++ rest, rest)
unfolding instr_at class_of
instr_again end (Plain op) head last rest p h l = rw (h, p, l) refl
instr_again end (Block op kind) head last rest p h l = rw (h, p, block_kind_reader.again end kind last rest l) refl
instr_again end (Branch op label) head last rest p h l = rw (h, p, u32_reader.again end label last rest l) refl
instr_again end (BranchTable labels to) head last rest p h l =
    rw (regrouped h.0 h.1 head (last ++ rest) h.4, h.2, (vector_reader SpellsU32 u32_at u32_reader).again end labels h.1 (last ++ rest) h.3, u32_reader.again end to last rest l) refl
instr_again end (Call function) head last rest p h l = rw (h, u32_reader.again end function last rest l) refl
instr_again end (CallIndirect kind table) head last rest p h l =
    rw (regrouped h.0 h.1 head (last ++ rest) h.4, h.2, u32_reader.again end kind h.1 (last ++ rest) h.3, u32_reader.again end table last rest l) refl
instr_again end (SelectTyped kinds) head last rest p h l = rw (h, (vector_reader SpellsValType val_type_at val_type_reader).again end kinds last rest l) refl
instr_again end (Local op local) head last rest p h l = rw (h, p, u32_reader.again end local last rest l) refl
instr_again end (GlobalAt op global) head last rest p h l = rw (h, p, u32_reader.again end global last rest l) refl
instr_again end (Access op align offset) head last rest p h l =
    rw (regrouped h.0 h.1 head (last ++ rest) h.4, h.2, p, u32_reader.again end align h.1 (last ++ rest) h.3, u32_reader.again end offset last rest l) refl
instr_again end MemorySize head last rest p h l = rw (h, l) refl
instr_again end MemoryGrow head last rest p h l = rw (h, l) refl
instr_again end (I32Const n) head last rest p h l = rw (h, s32_reader.again end n last rest l) refl
instr_again end (I64Const n) head last rest p h l = rw (h, s64_reader.again end n last rest l) refl
instr_again end (F32Const n) head last rest p h l = rw (h, f32_again end n last rest l) refl
instr_again end (F64Const n) head last rest p h l = rw (h, f64_again end n last rest l) refl
instr_again end (Truncate n) head last rest p h l =
    rw (regrouped h.0 h.1 head (last ++ rest) h.4, h.2, u32_reader.again end n h.1 (last ++ rest) h.3, le-leb n 7 p, l) refl
instr_again end MemoryCopy head last rest p h l =
    let inner = h.3 in
    rw (regrouped h.0 h.1 head (last ++ rest) h.4, h.2, regrouped inner.0 inner.1 h.1 (last ++ rest) inner.4, u32_reader.again end 10 inner.0 (inner.1 ++ (last ++ rest)) inner.2, inner.3, l) refl
instr_again end MemoryFill head last rest p h l =
    rw (regrouped h.0 h.1 head (last ++ rest) h.4, h.2, u32_reader.again end 11 h.1 (last ++ rest) h.3, l) refl

-- the instruction and the bytes after it
unfoldable pub bare_instr_at : Read Instr
bare_instr_at end bytes = do
  x ← instr_at end bytes
  Ok (x.0, x.2)

pub instr_reader : IsReader SpellsInstr bare_instr_at
unfolding bare_instr_at
instr_reader = record {
  found = λ end bytes x rest e.
      let f : Answer → Result (Instr × List ℕ) Stop = λ a. Ok (a.0, a.2) in
      let a = bind_ok (instr_at end bytes) f (x, rest) e in
      let s = instr_found end bytes a.0.0 a.0.1 a.0.2 a.1 in
      let t = Takes-then s.head s.last in
      subst (λ (p : Instr × List ℕ). Takes (SpellsInstr p.0) bytes p.1) (ok_is a.2) (record { text = t.text; spells = (s.profile, t.spells); parts = t.parts });
  again = λ end x text rest s.
      let t = s.1 in
      rw (regrouped t.0 t.1 text rest t.4, instr_again end x t.0 t.1 rest s.0 t.2 t.3) refl;
}

-- an instruction takes a byte at least
pub head_taken : (x : Instr) (head : List ℕ) → SpellsHead x head → 1 ≤ length head
head_taken (Plain op) head h = omega (arith, ap length h)
head_taken (Block op kind) head h = omega (arith, ap length h)
head_taken (Branch op label) head h = omega (arith, ap length h)
head_taken (BranchTable labels to) head h = omega (arith, ap length h.2, ap length h.4, length-append h.0 h.1)
head_taken (Call function) head h = omega (arith, ap length h)
head_taken (CallIndirect kind table) head h = omega (arith, ap length h.2, ap length h.4, length-append h.0 h.1)
head_taken (SelectTyped kinds) head h = omega (arith, ap length h)
head_taken (Local op local) head h = omega (arith, ap length h)
head_taken (GlobalAt op global) head h = omega (arith, ap length h)
head_taken (Access op align offset) head h = omega (arith, ap length h.2, ap length h.4, length-append h.0 h.1)
head_taken MemorySize head h = omega (arith, ap length h)
head_taken MemoryGrow head h = omega (arith, ap length h)
head_taken (I32Const n) head h = omega (arith, ap length h)
head_taken (I64Const n) head h = omega (arith, ap length h)
head_taken (F32Const n) head h = omega (arith, ap length h)
head_taken (F64Const n) head h = omega (arith, ap length h)
head_taken (Truncate n) head h = omega (arith, ap length h.2, ap length h.4, length-append h.0 h.1)
head_taken MemoryCopy head h = omega (arith, ap length h.2, ap length h.4, length-append h.0 h.1)
head_taken MemoryFill head h = omega (arith, ap length h.2, ap length h.4, length-append h.0 h.1)

-- Bodies (WebAssembly Core Specification 2.0, section 5.5.13, without the size): which bytes spell
-- them, and how they are read.
--
-- All places count from the body's first byte, and end is its length.
use Rattle.std.specs.Prelude.{◌≡◌, ℕ, zero, suc, ◌+◌, ◌-◌, ◌<◌, ◌^◌, Bool, false, List, [], ◌∷◌, ◌++◌, length, take, slice_index_or, nat_lt, Option, Some, None, Result, Ok, Err, ◌==◌, if◌then◌else◌}
use Rattle.wasm_grammar.specs.declared.fault.Stop.{Stop}
use Rattle.wasm_grammar.specs.declared.fault.Stop.TheVariants as stops
use Rattle.wasm_grammar.specs.Grammar.{SpellsU32, SpellsVector, Then}
use Rattle.wasm_grammar.specs.Reading.{Read, ◌>>=◌, u32_at, ended}
use Rattle.wasm_types.specs.Types.{SpellsValType, val_type_at}
use Rattle.wasm_instr.specs.Instrs.{SpellsHead, SpellsLast, IsInProfile}
use Rattle.wasm_instr.specs.Reading.{instr_at}
use Rattle.wasm_instr.specs.declared.instr.Instr.{Instr}
use Rattle.wasm_instr.specs.declared.instr.Instr.TheVariants.{Plain, Block}
use Rattle.wasm_instr.specs.declared.body.LocalRun.{LocalRun}
use Rattle.wasm_instr.specs.declared.body.Placed.{Placed}
use Rattle.wasm_instr.specs.declared.body.Body.{Body}
use Rattle.wasm_instr.specs.declared.body.BodyFault.{BodyFault}
use Rattle.wasm_instr.specs.declared.body.BodyFault.TheVariants as faults

-- ---- locals

-- So many locals of one type (Core 5.5.13).
abbrev pub SpellsRun : LocalRun → List ℕ → Type 0
SpellsRun run = Then (SpellsU32 run.count) (SpellsValType run.kind)

-- How many locals they are together.
abbrev pub all_locals : List LocalRun → ℕ
all_locals [] = 0
all_locals (run ∷ runs) = run.count + all_locals runs

-- The locals: a vector of runs, with fewer than 2^32 locals together (Core 5.5.13).
abbrev pub SpellsLocals : List LocalRun → List ℕ → Type 0
SpellsLocals runs bytes = (all_locals runs < 2 ^ 32) × SpellsVector SpellsRun runs bytes

-- A count at this place, behind so many locals. One that takes them to 2^32 is broken there.
abbrev pub counted : ℕ → ℕ → ℕ → Result ℕ Stop
counted place before count = if nat_lt (before + count) (2 ^ 32) then Ok count else Err (stops.Broken place)

-- A run behind so many locals.
unfoldable pub run_at : ℕ → Read LocalRun
run_at before end bytes = do
  count ← u32_at end bytes
  checked ← counted (end - length bytes) before count.0
  kind ← val_type_at end count.1
  Ok (record { count = checked; kind = kind.0 }, kind.1)

-- So many runs, behind so many locals.
unfoldable pub runs_at : ℕ → ℕ → Read (List LocalRun)
runs_at zero before end bytes = Ok ([], bytes)
runs_at (suc n) before end bytes = do
  run ← run_at before end bytes
  others ← runs_at n (before + run.0.count) end run.1
  Ok (run.0 ∷ others.0, others.1)

-- The locals (Core 5.5.13).
unfoldable pub locals_at : Read (List LocalRun)
locals_at end bytes = do
  count ← u32_at end bytes
  runs_at count.0 0 end count.1

-- ---- code

-- The blocks that are open, the outermost first: whether each may still have an `else`.
abbrev pub Nest : Type 0
Nest = List Bool

-- Those without the innermost.
abbrev pub closed : Nest → Nest
closed nest = take (length nest - 1) nest

-- Whether the innermost may still have an `else`.
abbrev pub may_else : Nest → Bool
may_else nest = slice_index_or nest (length nest - 1) false

-- The blocks that are open behind an instruction: `end` (0B) closes the innermost, `else` (05) makes of
-- an `if` (04) one that has had its `else`, and each other block may have none (Core 5.4.1). There is
-- no answer where it is an `else` at a wrong place.
abbrev pub step_of : Nest → Instr → Option Nest
step_of nest (Plain op) =
    if op == 0x0b then Some (closed nest)
    else (if op == 0x05 then (if may_else nest then Some (closed nest ++ false ∷ []) else None)
    else Some nest)
step_of nest (Block op kind) = Some (nest ++ (op == 0x04) ∷ [])
step_of nest _ = Some nest

-- An instruction and its places, by the bytes that begin at them: the instruction's, those from its
-- last immediate on, and those after it.
abbrev pub placed : ℕ → Instr → List ℕ → List ℕ → List ℕ → Placed
placed end x bytes mid rest = record { instr = x; at = end - length bytes; mid = end - length mid; end = end - length rest }

-- One instruction after another, until no block is open. Then nothing follows (Core 5.4.9, 5.5.13).
abbrev pub IsCode : ℕ → Nest → List Placed → List ℕ → Type 0
IsCode end [] code bytes = (code ≡ []) × (bytes ≡ [])
IsCode end (block ∷ others) [] bytes = ⊥
IsCode end (block ∷ others) (p ∷ code) bytes =
    (head : List ℕ) × (last : List ℕ) × (rest : List ℕ) × (next : Nest)
    × (bytes ≡ head ++ (last ++ rest))
    × IsInProfile p.instr × SpellsHead p.instr head × SpellsLast p.instr last
    × (p ≡ placed end p.instr bytes (last ++ rest) rest)
    × (step_of (block ∷ others) p.instr ≡ Some next)
    × IsCode end next code rest

-- A body is its locals and its code. It is itself a block that has no `else` (Core 5.5.13).
abbrev pub SpellsBody : Body → List ℕ → Type 0
SpellsBody body bytes =
    (locals : List ℕ) × (code : List ℕ) × (bytes ≡ locals ++ code)
    × SpellsLocals body.locals locals × IsCode (length bytes) (false ∷ []) body.code code

-- ---- reading

-- The blocks behind an instruction at this place. An `else` at a wrong place is broken there.
abbrev pub stepped : ℕ → Option Nest → Result Nest Stop
stepped place (Some nest) = Ok nest
stepped place None = Err (stops.Broken place)

-- The instructions up to the one that closes the outermost block; what follows it is broken. The first
-- number bounds how many they are, and has to be the number of bytes at least.
unfoldable pub code_at : ℕ → ℕ → Nest → List ℕ → Result (List Placed) Stop
code_at n end [] bytes = ended end [] bytes
code_at zero end (block ∷ others) bytes = Err (stops.Broken end)
code_at (suc n) end (block ∷ others) bytes = do
  x ← instr_at end bytes
  next ← stepped (end - length bytes) (step_of (block ∷ others) x.0)
  code ← code_at n end next x.2
  Ok (placed end x.0 bytes x.1 x.2 ∷ code)

-- The body that all the bytes are (Core 5.5.13).
unfoldable pub body_at : List ℕ → Result Body Stop
body_at bytes = do
  locals ← locals_at (length bytes) bytes
  code ← code_at (length locals.1) (length bytes) (false ∷ []) locals.1
  Ok (record { locals = locals.0; code = code })

-- ---- what the program answers

-- What the call answered is what reading gives, unless memory ran out.
abbrev pub Tells : Result Body BodyFault → Result Body Stop → Type 0
Tells (Ok body) read = read ≡ Ok body
Tells (Err (faults.Broken place)) read = read ≡ Err (stops.Broken place)
Tells (Err (faults.Stops item)) read = read ≡ Err (stops.Foreign item)
Tells (Err faults.OutOfMemory) read = Unit {0}

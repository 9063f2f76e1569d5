-- What an instruction does that asks nothing of its world (WebAssembly Core Specification 2.0, section 4.4). It sees the values of the
-- innermost block alone.
use Rattle.std.specs.Prelude.{ℕ, zero, suc, ◌+◌, ◌-◌, ◌%◌, ◌^◌, ◌==◌, min, true, false, ◌&&◌, List, [], ◌∷◌, ◌++◌, Option, Some, None, length, take, drop, replicate, slice_get, slice_set, nat_le, nat_lt, nat_eq, if◌then◌else◌}
use Rattle.std.specs.Int.{cast_unsigned, w32, w64}
use Rattle.wasm_types.specs.declared.function.FuncType.{FuncType}
use Rattle.wasm_instr.specs.declared.instr.Instr.{Instr}
use Rattle.wasm_instr.specs.declared.instr.Instr.TheVariants.{Plain, Block, Branch, BranchTable, Call, CallIndirect, SelectTyped, Local, GlobalAt, Access, MemorySize, MemoryGrow, I32Const, I64Const, F32Const, F64Const, Truncate, MemoryCopy, MemoryFill}
use Rattle.run_rules.specs.declared.value.Value.{Value}
use Rattle.run_rules.specs.declared.value.Value.TheVariants.{I32, I64}
use Rattle.run_rules.specs.declared.trace.TrapKind.{TrapKind}
use Rattle.run_rules.specs.declared.trace.TrapKind.TheVariants.{Unreachable, MemoryBounds}
use Rattle.run_rules.specs.declared.trace.Event.{Event}
use Rattle.run_rules.specs.declared.trace.Event.TheVariants as events
use Rattle.run_rules.specs.declared.state.Label.{Label}
use Rattle.run_rules.specs.declared.state.Frame.{Frame}
use Rattle.run_rules.specs.declared.state.Inner.{Inner}
use Rattle.run_rules.specs.declared.session.Session.{Session}
use Rattle.run_rules.specs.declared.session.Answer.{Answer}
use Rattle.run_rules.specs.declared.session.Answer.TheVariants as answers
use Rattle.run_rules.specs.declared.op.Mark.{Mark}
use Rattle.run_rules.specs.Numbers.{Values, Left, Fails, Carried, NoRule, computed, number_in}
use Rattle.run_rules.specs.Control.{end_from, else_from}
use Rattle.run_rules.specs.Memory.{pages, zeros, stored, written, reaches, Width, Reach, Loads, Stores, Carries, reach, loaded}

-- What follows: the run goes on, the function gives back values (the last one first), a trap, or the run ends.
pub data Turn : Type 0 where
  Goes : Inner → Turn
  Leaves : List Value → Turn
  Traps : TrapKind → Turn
  Ends : Event → Turn

abbrev pub stuck : Turn
stuck = Ends events.Stuck

-- the frame at the next place, with these values
abbrev pub moved : Inner → List Value → Inner
moved i vs = record i { frame = record i.frame { place = i.frame.place + 1; values = vs } }

-- what became of the values, at an instruction of this opcode
abbrev pub on_values : Inner → ℕ → Values → Turn
on_values i op (Left vs) = Goes (moved i vs)
on_values i op (Fails k) = Traps k
on_values i op Carried = Ends (events.Carried op 0)
on_values i op NoRule = stuck

-- ---- values (Core 4.4.4, 4.4.5)

abbrev pub dropped : List Value → Values
dropped [] = NoRule
dropped (v ∷ vs) = Left vs

abbrev pub selected : List Value → Values
selected (I32 zero ∷ b ∷ a ∷ vs) = Left (b ∷ vs)
selected (I32 (suc n) ∷ b ∷ a ∷ vs) = Left (a ∷ vs)
selected _ = NoRule

abbrev pub got : List Value → Option Value → Values
got vs None = NoRule
got vs (Some v) = Left (v ∷ vs)

-- a local that is set to the value, with these values left
abbrev pub put : Inner → ℕ → List Value → Value → Turn
put i k vs v =
    if nat_lt k (length i.frame.locals)
    then Goes (record i { frame = record i.frame { place = i.frame.place + 1; values = vs; locals = slice_set i.frame.locals k v } })
    else stuck

-- 20 local.get, 21 local.set, 22 local.tee
abbrev pub local_set : Inner → ℕ → List Value → Turn
local_set i k [] = stuck
local_set i k (v ∷ vs) = put i k vs v

abbrev pub local_tee : Inner → ℕ → List Value → Turn
local_tee i k [] = stuck
local_tee i k (v ∷ vs) = put i k (v ∷ vs) v

abbrev pub local : Inner → ℕ → ℕ → Turn
local i op k =
    if op == 0x20 then on_values i op (got i.frame.values (slice_get i.frame.locals k))
    else if op == 0x21 then local_set i k i.frame.values
    else if op == 0x22 then local_tee i k i.frame.values
    else stuck

-- ---- control (Core 4.4.8)

-- out of the function with so many values, whatever else is there
abbrev pub returns : Frame → List Value → Turn
returns f vs = if nat_le f.results (length vs) then Leaves (take f.results vs) else stuck

-- the end of the function: so many values are there, and no more
abbrev pub finishes : Frame → Turn
finishes f = if nat_eq f.results (length f.values) then Leaves f.values else stuck

-- To a label: where it leads, with as many values as it takes. The label behind the outermost block is the function's own.
abbrev pub to_label : Inner → ℕ → List Value → Option Label → Turn
to_label i k vs None = if nat_eq k (length i.frame.labels) then returns i.frame vs else stuck
to_label i k vs (Some l) =
    if nat_le l.arity (length vs)
    then Goes (record i { frame = record i.frame { place = l.target; labels = drop (suc k) i.frame.labels; values = take l.arity vs ++ l.outside } })
    else stuck

abbrev pub branch : Inner → List Value → ℕ → Turn
branch i vs k = to_label i k vs (slice_get i.frame.labels k)

abbrev pub branch_if : Inner → ℕ → List Value → Turn
branch_if i k (I32 zero ∷ vs) = Goes (moved i vs)
branch_if i k (I32 (suc n) ∷ vs) = branch i vs k
branch_if i k _ = stuck

abbrev pub or_last : Option ℕ → ℕ → ℕ
or_last None last = last
or_last (Some k) last = k

abbrev pub branch_table : Inner → List ℕ → ℕ → List Value → Turn
branch_table i labels last (I32 n ∷ vs) = branch i vs (or_last (slice_get labels n) last)
branch_table i labels last _ = stuck

-- Into a block: the place where to go on, where its label leads, how many values it takes, and how many its label takes.
abbrev pub entered : Inner → ℕ → ℕ → ℕ → ℕ → List Value → Turn
entered i place target params arity vs =
    if nat_le params (length vs)
    then Goes (record i {
      frame = record i.frame {
        place = place;
        values = take params vs;
        labels = record { target = target; arity = arity; outside = drop params vs } ∷ i.frame.labels;
      };
    })
    else stuck

-- an `if`: its first part where the number isn't 0, else what is behind its `else`, or its end
abbrev pub chosen : Inner → ℕ → FuncType → Option ℕ → List Value → Turn
chosen i target kind (Some other) (I32 zero ∷ vs) = entered i other target (length kind.params) (length kind.results) vs
chosen i target kind other (I32 (suc n) ∷ vs) = entered i (i.frame.place + 1) target (length kind.params) (length kind.results) vs
chosen i target kind other vs = stuck

-- 02 block: its label leads behind its end. 03 loop: its label leads to the loop itself. 04 if.
abbrev pub opened : Inner → List Mark → ℕ → FuncType → Option ℕ → Turn
opened i marks op kind None = stuck
opened i marks op kind (Some end) =
    let next = i.frame.place + 1 in
    if op == 0x02 then entered i next (end + 1) (length kind.params) (length kind.results) i.frame.values
    else if op == 0x03 then entered i next i.frame.place (length kind.params) (length kind.params) i.frame.values
    else if op == 0x04 then chosen i (end + 1) kind (else_from next 0 (drop next marks)) i.frame.values
    else stuck

-- A block, a loop or an `if`. The marks are those of the whole body.
unfoldable pub open_block : Inner → List Mark → ℕ → FuncType → Turn
open_block i marks op kind = let next = i.frame.place + 1 in opened i marks op kind (end_from next 0 (drop next marks))

-- an `else` that is reached: out of the `if`, behind its end
abbrev pub parted : Inner → List Label → Turn
parted i [] = stuck
parted i (l ∷ ls) = Goes (record i { frame = record i.frame { place = l.target; labels = ls; values = i.frame.values ++ l.outside } })

-- an `end`
abbrev pub closed : Inner → List Label → Turn
closed i [] = finishes i.frame
closed i (l ∷ ls) = Goes (record i { frame = record i.frame { place = i.frame.place + 1; labels = ls; values = i.frame.values ++ l.outside } })

-- an opcode without immediates
abbrev pub plain : Inner → ℕ → Turn
plain i op =
    if op == 0x00 then Traps Unreachable
    else if op == 0x01 then Goes (moved i i.frame.values)
    else if op == 0x05 then parted i i.frame.labels
    else if op == 0x0B then closed i i.frame.labels
    else if op == 0x0F then returns i.frame i.frame.values
    else if op == 0x1A then on_values i op (dropped i.frame.values)
    else if op == 0x1B then on_values i op (selected i.frame.values)
    else on_values i op (computed op i.frame.values)

-- ---- memory (Core 4.4.7)

abbrev pub loads_at : Inner → Width → ℕ → List Value → Turn
loads_at i w at vs =
    if reaches at w.bytes i.memory
    then Goes (moved i (loaded w (take w.bytes (drop at i.memory)) ∷ vs))
    else Traps MemoryBounds

abbrev pub stores_at : Inner → Width → ℕ → Option ℕ → List Value → Turn
stores_at i w at None vs = stuck
stores_at i w at (Some n) vs =
    if reaches at w.bytes i.memory
    then Goes (record (moved i vs) { memory = stored w.bytes at n i.memory })
    else Traps MemoryBounds

abbrev pub access : Inner → ℕ → ℕ → Reach → List Value → Turn
access i op offset (Loads w) (I32 a ∷ vs) = loads_at i w (a + offset) vs
access i op offset (Stores w) (v ∷ I32 a ∷ vs) = stores_at i w (a + offset) (number_in w.kind v) vs
access i op offset Carries vs = Ends (events.Carried op 0)
access i op offset r vs = stuck

-- one answer of the host more is used
abbrev pub used : Inner → Inner
used i = record i { answered = i.answered + 1 }

-- -1
abbrev pub refused : Value
refused = I32 (2 ^ 32 - 1)

abbrev pub grown : Inner → ℕ → List Value → Option Answer → Turn
grown i d vs (Some (answers.Grow true)) =
    Goes (record (moved (used i) (I32 (pages i.memory) ∷ vs)) { memory = i.memory ++ zeros d })
grown i d vs (Some (answers.Grow false)) = Goes (moved (used i) (refused ∷ vs))
grown i d vs _ = Ends events.HostSpent

-- Past the greatest size it is refused, else the host says whether it may.
abbrev pub grow : ℕ → Session → Inner → List Value → Turn
grow most s i (I32 d ∷ vs) =
    if nat_le (pages i.memory + d) (min most 65536)
    then grown i d vs (slice_get s.answers i.answered)
    else Goes (moved i (refused ∷ vs))
grow most s i _ = stuck

abbrev pub copy : Inner → List Value → Turn
copy i (I32 n ∷ I32 from ∷ I32 to ∷ vs) =
    if reaches from n i.memory && reaches to n i.memory
    then Goes (record (moved i vs) { memory = written to (take n (drop from i.memory)) i.memory })
    else Traps MemoryBounds
copy i _ = stuck

abbrev pub fill : Inner → List Value → Turn
fill i (I32 n ∷ I32 v ∷ I32 to ∷ vs) =
    if reaches to n i.memory
    then Goes (record (moved i vs) { memory = written to (replicate n (v % 256)) i.memory })
    else Traps MemoryBounds
fill i _ = stuck

-- where there is a memory, this
abbrev pub with_memory : Option ℕ → Turn → Turn
with_memory None t = stuck
with_memory (Some most) t = t

abbrev pub grow_within : Option ℕ → Session → Inner → Turn
grow_within None s i = stuck
grow_within (Some most) s i = grow most s i i.frame.values

-- a load or a store; one of a float is carried, whatever is there
abbrev pub reached : Option ℕ → Inner → ℕ → ℕ → Reach → Turn
reached memory i op offset Carries = Ends (events.Carried op 0)
reached memory i op offset r = with_memory memory (access i op offset r i.frame.values)

-- One instruction of this kind, where the memory may have so many pages.
unfoldable pub own : Option ℕ → Session → Inner → Instr → Turn
own memory s i (Plain op) = plain i op
own memory s i (Block op kind) = stuck
own memory s i (Branch op k) = if op == 0x0C then branch i i.frame.values k else branch_if i k i.frame.values
own memory s i (BranchTable ls last) = branch_table i ls last i.frame.values
own memory s i (Call f) = stuck
own memory s i (CallIndirect kind table) = stuck
own memory s i (SelectTyped kinds) = on_values i 0x1C (selected i.frame.values)
own memory s i (Local op k) = local i op k
own memory s i (GlobalAt op g) = stuck
own memory s i (Access op align offset) = reached memory i op offset (reach op)
own memory s i MemorySize = with_memory memory (Goes (moved i (I32 (pages i.memory) ∷ i.frame.values)))
own memory s i MemoryGrow = grow_within memory s i
own memory s i (I32Const n) = Goes (moved i (I32 (cast_unsigned w32 n) ∷ i.frame.values))
own memory s i (I64Const n) = Goes (moved i (I64 (cast_unsigned w64 n) ∷ i.frame.values))
own memory s i (F32Const n) = Ends (events.Carried 0x43 0)
own memory s i (F64Const n) = Ends (events.Carried 0x44 0)
own memory s i (Truncate n) = Ends (events.Carried 0xFC n)
own memory s i MemoryCopy = with_memory memory (copy i i.frame.values)
own memory s i MemoryFill = with_memory memory (fill i i.frame.values)

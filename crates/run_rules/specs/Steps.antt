-- A step of the machine: one instruction. Only the cases of this file ask the world (WebAssembly Core Specification 2.0, sections 4.4.8
-- to 4.4.10).
use Rattle.std.specs.Prelude.{ℕ, ◌+◌, Bool, List, [], ◌∷◌, ◌++◌, reverse, map, flat_map, Option, Some, None, length, take, drop, replicate, slice_get, slice_set, nat_le, if◌then◌else◌}
use Rattle.std.specs.Cmp.Lexicographic.{pointwise}
use Rattle.wasm_types.specs.declared.value.ValType.{ValType}
use Rattle.wasm_types.specs.declared.function.FuncType.{FuncType}
use Rattle.wasm_types.specs.Same.{same_val, same_type}
use Rattle.wasm_instr.specs.declared.body.LocalRun.{LocalRun}
use Rattle.run_rules.specs.declared.value.Value.{Value}
use Rattle.run_rules.specs.declared.value.Value.TheVariants.{I32}
use Rattle.run_rules.specs.declared.trace.TrapKind.TheVariants.{TableBounds, NullEntry, TypeDiffers, HostTrap}
use Rattle.run_rules.specs.declared.trace.Event.{Event}
use Rattle.run_rules.specs.declared.trace.Event.TheVariants as events
use Rattle.run_rules.specs.declared.op.Op.{Op}
use Rattle.run_rules.specs.declared.op.Op.TheVariants.{Own, OpenBlock, CallTo, CallThrough, ReadCell, WriteCell, Number, Absent}
use Rattle.run_rules.specs.declared.op.Mark.{Mark}
use Rattle.run_rules.specs.declared.world.Source.{Source}
use Rattle.run_rules.specs.declared.world.Source.TheVariants.{Nowhere, Host, Code}
use Rattle.run_rules.specs.declared.world.Function.{Function}
use Rattle.run_rules.specs.declared.world.World.{World}
use Rattle.run_rules.specs.declared.state.Frame.{Frame}
use Rattle.run_rules.specs.declared.state.Inner.{Inner}
use Rattle.run_rules.specs.declared.state.State.{State}
use Rattle.run_rules.specs.declared.state.How.{How}
use Rattle.run_rules.specs.declared.state.How.TheVariants.{GoesOn, CallOver, Halts}
use Rattle.run_rules.specs.declared.session.Session.{Session}
use Rattle.run_rules.specs.declared.session.MemWrite.{MemWrite}
use Rattle.run_rules.specs.declared.session.Answer.{Answer}
use Rattle.run_rules.specs.declared.session.Answer.TheVariants as answers
use Rattle.run_rules.specs.Numbers.{type_of, value_of}
use Rattle.run_rules.specs.Memory.{reaches, written}
use Rattle.run_rules.specs.Control.{mark}
use Rattle.run_rules.specs.Own.{Turn, Goes, Leaves, Traps, Ends, own, open_block, moved, used}

-- Where a step leads, and how the run goes on.
pub record Step : Type 0 where
  pub state : State
  pub how : How

-- the functions that run and wait, the one that runs first
abbrev pub Names : Type 0
Names = List ℕ

abbrev pub Cells : Type 0
Cells = List (Option Value)

abbrev pub stepped : Names → Cells → Inner → How → Step
stepped names cells i how = record { state = record { names = names; cells = cells; inner = i }; how = how }

-- one event more
abbrev pub told : Inner → Event → Inner
told i e = record i { events = i.events ++ e ∷ [] }

-- no function runs
abbrev pub blank : Frame
blank = record { place = 0; locals = []; labels = []; values = []; results = 0 }

abbrev pub idle : Inner → Inner
idle i = record i { frame = blank; below = [] }

abbrev pub ended : Cells → Inner → Event → Step
ended cells i e = stepped [] cells (idle i) (Halts e)

abbrev pub over : Cells → Inner → Event → Step
over cells i e = stepped [] cells (idle (told i e)) CallOver

-- A function is over: its values go to the frame below, or out of the call.
abbrev pub left_to : List Frame → Names → Cells → Inner → List Value → Step
left_to [] names cells i vs = over cells i (events.Returned (reverse vs))
left_to (f ∷ fs) names cells i vs =
    stepped (drop 1 names) cells (record i { frame = record f { values = vs ++ f.values }; below = fs }) GoesOn

abbrev pub turned : Names → Cells → Inner → Turn → Step
turned names cells i (Goes j) = stepped names cells j GoesOn
turned names cells i (Leaves vs) = left_to i.below names cells i vs
turned names cells i (Traps k) = over cells i (events.Trapped k)
turned names cells i (Ends e) = ended cells i e

-- ---- calls

-- whether values have these types
abbrev pub have_types : List Value → List ValType → Bool
have_types vs ts = pointwise same_val (map type_of vs) ts

-- the values that locals begin with: zeros
abbrev pub fresh : List LocalRun → List Value
fresh runs = flat_map (λ (run : LocalRun). replicate run.count (value_of run.kind 0)) runs

-- The memory with what the host writes, where all of it fits.
abbrev pub all_written : List MemWrite → List ℕ → Option (List ℕ)
all_written [] memory = Some memory
all_written (w ∷ ws) memory = if reaches w.address (length w.bytes) memory then all_written ws (written w.address w.bytes memory) else None

abbrev pub given_back : Inner → List Value → Option (List ℕ) → Turn
given_back i vs None = Ends events.HostSpent
given_back i vs (Some memory) = Goes (record (moved i vs) { memory = memory })

-- What the host answers to a call of a function of this type: the results, on top of these values, and what it writes; a trap; or the
-- run ends, since the answer is no answer to a call of this type.
abbrev pub replied : FuncType → Inner → List Value → Option Answer → Turn
replied t i vs (Some (answers.Results writes rs)) =
    if have_types rs t.results then given_back i (reverse rs ++ vs) (all_written writes i.memory) else Ends events.HostSpent
replied t i vs (Some answers.Trap) = Traps HostTrap
replied t i vs _ = Ends events.HostSpent

-- The host is called, which uses one answer, whatever it is.
abbrev pub asking : Inner → List ℕ → List ℕ → List Value → Inner
asking i m n args = used (told i (events.Asked m n args))

-- a frame at its start
abbrev pub begun : FuncType → List Value → List LocalRun → Frame
begun t args locals = record { place = 0; locals = args ++ fresh locals; labels = []; values = []; results = length t.results }

-- Into a function that this instruction calls, with these arguments, the last one first.
abbrev pub into : Session → ℕ → Names → Cells → Inner → FuncType → List Value → List Value → Source → Step
into s g names cells i t args vs Nowhere = ended cells i events.Stuck
into s g names cells i t args vs (Host m n) =
    let j = asking i m n (reverse args) in
    turned names cells j (replied t j vs (slice_get s.answers i.answered))
into s g names cells i t args vs (Code locals code) =
    stepped (g ∷ names) cells (record i {
      frame = begun t (reverse args) locals;
      below = record i.frame { place = i.frame.place + 1; values = vs } ∷ i.below;
    }) GoesOn

abbrev pub call_as : Session → ℕ → Names → Cells → Inner → List Value → FuncType → Source → Step
call_as s g names cells i vs t source =
    let n = length t.params in
    if nat_le n (length vs) then into s g names cells i t (take n vs) (drop n vs) source else ended cells i events.Stuck

-- what is at a place, where something is
abbrev pub joined : {A : Type 0} → Option (Option A) → Option A
joined None = None
joined (Some o) = o

-- the function of a name, where it has a type
abbrev pub function_at : World → ℕ → Option Function
function_at w g = joined (slice_get w.functions g)

abbrev pub call : Session → ℕ → Names → Cells → Inner → List Value → Option Function → Step
call s g names cells i vs None = ended cells i events.Stuck
call s g names cells i vs (Some fn) = call_as s g names cells i vs fn.kind fn.source

-- A call through the table: the function's type is the written one.
abbrev pub checked_as : Session → ℕ → Names → Cells → Inner → FuncType → List Value → FuncType → Source → Step
checked_as s g names cells i t vs kind source =
    if same_type kind t then call_as s g names cells i vs kind source else over cells i (events.Trapped TypeDiffers)

abbrev pub checked : Session → ℕ → Names → Cells → Inner → FuncType → List Value → Option Function → Step
checked s g names cells i t vs None = ended cells i events.Stuck
checked s g names cells i t vs (Some fn) = checked_as s g names cells i t vs fn.kind fn.source

abbrev pub entry : World → Session → Names → Cells → Inner → FuncType → List Value → Option (Option ℕ) → Step
entry w s names cells i t vs None = over cells i (events.Trapped TableBounds)
entry w s names cells i t vs (Some None) = over cells i (events.Trapped NullEntry)
entry w s names cells i t vs (Some (Some g)) = checked s g names cells i t vs (function_at w g)

abbrev pub call_in : World → Session → Names → Cells → Inner → FuncType → List (Option ℕ) → List Value → Step
call_in w s names cells i t slots (I32 k ∷ vs) = entry w s names cells i t vs (slice_get slots k)
call_in w s names cells i t slots _ = ended cells i events.Stuck

abbrev pub call_through : World → Session → Names → Cells → Inner → FuncType → Option (List (Option ℕ)) → Step
call_through w s names cells i t None = ended cells i events.Stuck
call_through w s names cells i t (Some slots) = call_in w s names cells i t slots i.frame.values

-- ---- cells

-- the value, on top
abbrev pub pushed : Names → Cells → Inner → Option Value → Step
pushed names cells i None = ended cells i events.Stuck
pushed names cells i (Some v) = stepped names cells (moved i (v ∷ i.frame.values)) GoesOn

abbrev pub read_cell : Names → Cells → Inner → ℕ → Step
read_cell names cells i c = pushed names cells i (joined (slice_get cells c))

-- A cell without a value can't be written.
abbrev pub written_cell : Names → Cells → Inner → ℕ → Option Value → List Value → Step
written_cell names cells i c (Some old) (v ∷ vs) = stepped names (slice_set cells c (Some v)) (moved i vs) GoesOn
written_cell names cells i c _ _ = ended cells i events.Stuck

abbrev pub write_cell : Names → Cells → Inner → ℕ → List Value → Step
write_cell names cells i c vs = written_cell names cells i c (joined (slice_get cells c)) vs

-- ---- one instruction

-- The marks are those of the whole body.
abbrev pub carried_out : World → Session → List Mark → Names → Cells → Inner → Option Op → Step
carried_out w s marks names cells i (Some (Own x)) = turned names cells i (own w.memory s i x)
carried_out w s marks names cells i (Some (OpenBlock op kind)) = turned names cells i (open_block i marks op kind)
carried_out w s marks names cells i (Some (CallTo g)) = call s g names cells i i.frame.values (function_at w g)
carried_out w s marks names cells i (Some (CallThrough t)) = call_through w s names cells i t w.table
carried_out w s marks names cells i (Some (ReadCell c)) = read_cell names cells i c
carried_out w s marks names cells i (Some (WriteCell c)) = write_cell names cells i c i.frame.values
carried_out w s marks names cells i (Some (Number n)) = pushed names cells i (Some (I32 n))
carried_out w s marks names cells i (Some Absent) = ended cells i events.Stuck
carried_out w s marks names cells i None = ended cells i events.Stuck

abbrev pub in_source : World → Session → Names → Cells → Inner → Source → Step
in_source w s names cells i (Code locals code) = carried_out w s (map mark code) names cells i (slice_get code i.frame.place)
in_source w s names cells i _ = ended cells i events.Stuck

abbrev pub in_function : World → Session → Names → Cells → Inner → Option Function → Step
in_function w s names cells i None = ended cells i events.Stuck
in_function w s names cells i (Some fn) = in_source w s names cells i fn.source

-- the function that runs
abbrev pub running : World → Names → Option Function
running w [] = None
running w (f ∷ names) = function_at w f

-- One instruction.
unfoldable pub step : World → Session → State → Step
step w s t = in_function w s t.names t.cells t.inner (running w t.names)

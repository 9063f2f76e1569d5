-- States of the code as states of the definitions, and what steps lead to.
use Rattle.std.specs.Prelude.{◌≡◌, ℕ, ◌+◌, slice_get, [], ◌∷◌, ◌++◌, List, map, take, Option, Some, None}
use Rattle.run_rules.specs.declared.value.Value.{Value}
use Rattle.run_rules.specs.declared.trace.Event.{Event}
use Rattle.run_rules.specs.declared.trace.Event.TheVariants as events
use Rattle.run_rules.specs.declared.state.Frame.{Frame}
use Rattle.run_rules.specs.declared.state.Inner.{Inner}
use Rattle.run_rules.specs.declared.state.State.{State}
use Rattle.run_rules.specs.declared.state.How.{How}
use Rattle.run_rules.specs.declared.state.How.TheVariants.{GoesOn, CallOver, Halts}
use Rattle.run_rules.specs.declared.session.Session.{Session}
use Rattle.wasm_types.specs.declared.function.FuncType.{FuncType}
use Rattle.run_rules.specs.declared.world.World.{World}
use Rattle.run_rules.specs.Own.{Turn, Goes, Leaves, Traps, Ends, used}
use Rattle.run_rules.specs.Steps.{Step, Names, Cells, stepped, told, replied}
use Rattle.run_rules.specs.Runs.{Ran, Over, Closed, halted, hosted}
use Rattle.run_model.specs.declared.state.Running.{Running}
use Rattle.run_model.specs.declared.state.Active.{Active}
use Rattle.run_model.specs.declared.state.Machine.{Machine}
use Rattle.run_model.specs.declared.state.After.{After}
use Rattle.run_model.specs.declared.state.After.TheVariants as after
use Rattle.run_model.specs.declared.state.Stop.{Stop}
use Rattle.run_model.specs.declared.state.Stop.TheVariants as stop
use Rattle.run_model.specs.declared.state.Next.{Next}
use Rattle.run_model.specs.declared.state.Next.TheVariants as next

abbrev pub frame_of : Running → Frame
frame_of f = record { place = f.place; locals = f.locals.items; labels = f.layered.labels; values = f.layered.values; results = f.results }

abbrev pub inner_of : Active → Inner
inner_of a = record { frame = frame_of a.frame; below = map frame_of a.below; memory = a.memory.items; answered = a.answered; events = a.events }

abbrev pub state_of : Machine → State
state_of m = record { names = m.names; cells = m.cells.items; inner = inner_of m.inner }

-- the event that tells why a run ends
abbrev pub event_of : Stop → Event
event_of stop.Stuck = events.Stuck
event_of stop.StepsSpent = events.StepsSpent
event_of stop.HostSpent = events.HostSpent
event_of (stop.Carried op n) = events.Carried op n

abbrev pub how_of : Next → How
how_of next.GoesOn = GoesOn
how_of next.CallOver = CallOver
how_of (next.Halts s) = Halts (event_of s)

-- all but the frame is as before
pub record Stays (old new : Active) : Type 0 where
  pub below : new.below ≡ old.below
  pub memory : new.memory.items ≡ old.memory.items
  pub answered : new.answered ≡ old.answered
  pub events : new.events ≡ old.events

-- what a function gives back: as many of its values as it has results, the newest ones
abbrev pub given : Running → List Value
given f = take f.results f.layered.values

abbrev pub Turns : Turn → After → Active → Active → Type 0
Turns t after.Goes old new = t ≡ Goes (inner_of new)
Turns t after.Leaves old new = (t ≡ Leaves (given new.frame)) × Stays old new
Turns t (after.Traps k) old new = (t ≡ Traps k) × Stays old new
Turns t (after.Ends s) old new = (t ≡ Ends (event_of s)) × Stays old new

-- the same, of a turn that does not go on
abbrev pub Left : Turn → After → Running → Type 0
Left t after.Goes f = ⊥
Left t after.Leaves f = t ≡ Leaves (given f)
Left t (after.Traps k) f = t ≡ Traps k
Left t (after.Ends s) f = t ≡ Ends (event_of s)

abbrev pub turn_of : After → Active → Turn
turn_of after.Goes i = Goes (inner_of i)
turn_of after.Leaves i = Leaves (given i.frame)
turn_of (after.Traps k) i = Traps k
turn_of (after.Ends s) i = Ends (event_of s)

-- where a step led, and how the run goes on
pub record Steps (s : Step) (next : Next) (new : Machine) : Type 0 where
  pub state : s.state ≡ state_of new
  pub how : s.how ≡ how_of next

-- how the run of a call ended: it is over, or this event closes the trace
abbrev pub Drives : World → Ran → Option Stop → Machine → ℕ → Type 0
Drives w r None t n = r ≡ Over (state_of t) n
Drives w r (Some s) t n = r ≡ Closed (halted w (state_of t) (event_of s))

-- ---- parts of steps

-- into a function, with this frame at its start
abbrev pub called_in : ℕ → Names → Cells → Inner → Frame → Step
called_in g names cells i f = stepped (g ∷ names) cells (record i { frame = f; below = record i.frame { place = i.frame.place + 1 } ∷ i.below }) GoesOn

-- a call of the session whose function the host runs, which this event tells
abbrev pub hosting : Session → Cells → Inner → FuncType → Event → Step
hosting s cells i t e = let j = used (told i e) in hosted cells j (replied t j [] (slice_get s.answers i.answered))

-- the state once the host is called, which this event tells
abbrev pub asking_in : Active → Event → Active
asking_in a e = record a { answered = a.answered + 1; events = a.events ++ e ∷ [] }

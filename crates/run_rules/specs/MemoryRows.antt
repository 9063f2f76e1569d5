-- Worked instructions on memories of a few bytes, and what a module begins with.
use Rattle.std.specs.Prelude.{◌≡◌, ℕ, ◌∷◌, true, false, List, [], map, replicate, Option, Some, None, pos, refl}
use Rattle.wasm_types.specs.declared.value.ValType.TheVariants as types
use Rattle.wasm_types.specs.declared.import.ImportKind.TheVariants as kinds
use Rattle.wasm_types.specs.declared.const_expr.ConstExpr.TheVariants as exprs
use Rattle.wasm_instr.specs.declared.instr.Instr.{Instr}
use Rattle.wasm_instr.specs.declared.instr.Instr.TheVariants.{Access, MemorySize, MemoryGrow, MemoryCopy, MemoryFill}
use Rattle.wasm_module.specs.declared.structure.Module.{Module}
use Rattle.wasm_module.specs.declared.parts.DataSegment.{DataSegment}
use Rattle.run_rules.specs.declared.value.Value.{Value}
use Rattle.run_rules.specs.declared.value.Value.TheVariants.{I32, I64}
use Rattle.run_rules.specs.declared.trace.Event.TheVariants as events
use Rattle.run_rules.specs.declared.trace.TrapKind.TheVariants.{MemoryBounds}
use Rattle.run_rules.specs.declared.session.Answer.{Answer}
use Rattle.run_rules.specs.declared.session.Answer.TheVariants as answers_of
use Rattle.run_rules.specs.declared.state.Inner.{Inner}
use Rattle.run_rules.specs.Memory.{from_bytes, stored, written}
use Rattle.run_rules.specs.Own.{Turn, Goes, Traps, Ends, stuck, own}
use Rattle.run_rules.specs.Modules.{GlobalImport, cell_of, with_segments, module_trace, module_world, module_start, fits_session}
use Rattle.run_rules.specs.Runs.{begin, drive, play}
use Rattle.run_rules.specs.Steps.{step}
use Rattle.run_rules.specs.Worked.{body, «end», nothing, module_of, session, once}

-- with this memory and these values, the newest first, and after so many answers of the host
abbrev inner : ℕ → ℕ → List ℕ → List Value → Inner
inner place answered memory values = record {
  frame = record { place = place; locals = []; labels = []; values = values; results = 0 };
  below = [];
  memory = memory;
  answered = answered;
  events = [];
}

-- what an instruction led to, and what it has to
pub record Turned : Type 0 where
  pub did : Turn
  pub due : Turn

-- where the memory may have two pages and the host answers so
abbrev by : List Answer → Instr → List ℕ → List Value → Turn → Turned
by answers x memory values due = record { did = own (Some 2) (session [] answers) (inner 0 0 memory values) x; due = due }

abbrev goes : List ℕ → List Value → Turn
goes memory values = Goes (inner 1 0 memory values)

abbrev answered : List Value → Turn
answered values = Goes (inner 1 1 [] values)

abbrev turns : List Turned
turns =
    -- the low byte lies first
    by [] (Access 0x36 2 0) (replicate 6 0) (I32 0x01020304 ∷ I32 1 ∷ []) (goes (0 ∷ 4 ∷ 3 ∷ 2 ∷ 1 ∷ 0 ∷ []) [])
    ∷ by [] (Access 0x28 2 1) (0 ∷ 4 ∷ 3 ∷ 2 ∷ 1 ∷ 0 ∷ []) (I32 0 ∷ []) (goes (0 ∷ 4 ∷ 3 ∷ 2 ∷ 1 ∷ 0 ∷ []) (I32 0x01020304 ∷ []))
    -- a part of a number, with its sign or without
    ∷ by [] (Access 0x3C 0 0) (0 ∷ 0 ∷ []) (I64 0x1FF ∷ I32 1 ∷ []) (goes (0 ∷ 255 ∷ []) [])
    ∷ by [] (Access 0x2C 0 0) (128 ∷ []) (I32 0 ∷ []) (goes (128 ∷ []) (I32 4294967168 ∷ []))
    ∷ by [] (Access 0x2D 0 0) (128 ∷ []) (I32 0 ∷ []) (goes (128 ∷ []) (I32 128 ∷ []))
    -- the last byte is in the memory, and the address doesn't wrap
    ∷ by [] (Access 0x28 2 0) (replicate 5 0) (I32 1 ∷ []) (goes (replicate 5 0) (I32 0 ∷ []))
    ∷ by [] (Access 0x28 2 0) (replicate 5 0) (I32 2 ∷ []) (Traps MemoryBounds)
    ∷ by [] (Access 0x2D 0 1) (replicate 5 0) (I32 4294967295 ∷ []) (Traps MemoryBounds)
    -- a value of another type; a float
    ∷ by [] (Access 0x36 2 0) (replicate 5 0) (I64 1 ∷ I32 0 ∷ []) stuck
    ∷ by [] (Access 0x2A 2 0) [] [] (Ends (events.Carried 0x2A 0))
    -- the size and its growth: the host is asked up to the greatest size
    ∷ by [] MemorySize (replicate 9 0) [] (goes (replicate 9 0) (I32 0 ∷ []))
    ∷ by (answers_of.Grow true ∷ []) MemoryGrow [] (I32 0 ∷ []) (answered (I32 0 ∷ []))
    ∷ by (answers_of.Grow false ∷ []) MemoryGrow [] (I32 2 ∷ []) (answered (I32 4294967295 ∷ []))
    ∷ by (answers_of.Grow true ∷ []) MemoryGrow [] (I32 3 ∷ []) (goes [] (I32 4294967295 ∷ []))
    ∷ by (answers_of.Trap ∷ []) MemoryGrow [] (I32 1 ∷ []) (Ends events.HostSpent)
    -- parts that overlap; no byte at the end, and behind it
    ∷ by [] MemoryCopy (1 ∷ 2 ∷ 3 ∷ 4 ∷ 5 ∷ []) (I32 3 ∷ I32 0 ∷ I32 1 ∷ []) (goes (1 ∷ 1 ∷ 2 ∷ 3 ∷ 5 ∷ []) [])
    ∷ by [] MemoryCopy (1 ∷ 2 ∷ []) (I32 0 ∷ I32 2 ∷ I32 0 ∷ []) (goes (1 ∷ 2 ∷ []) [])
    ∷ by [] MemoryCopy (1 ∷ 2 ∷ []) (I32 0 ∷ I32 3 ∷ I32 0 ∷ []) (Traps MemoryBounds)
    ∷ by [] MemoryFill (1 ∷ 2 ∷ 3 ∷ []) (I32 2 ∷ I32 0x1FF ∷ I32 1 ∷ []) (goes (1 ∷ 255 ∷ 255 ∷ []) [])
    ∷ by [] MemoryFill (1 ∷ 2 ∷ 3 ∷ []) (I32 2 ∷ I32 0 ∷ I32 2 ∷ []) (Traps MemoryBounds)
    ∷ []

pub turns_are_due : map (λ (t : Turned). t.did) turns ≡ map (λ (t : Turned). t.due) turns
unfolding from_bytes stored written own
turns_are_due = refl

-- ---- what a module begins with

abbrev segment : Option ℕ → ℕ → List ℕ → DataSegment
segment memory at bytes = record { memory = memory; offset = exprs.I32 (pos at); bytes = bytes }

-- a later segment lies over an earlier one, and one of another memory doesn't count
segments : with_segments [] (segment None 1 (7 ∷ 8 ∷ []) ∷ segment (Some 0) 2 (9 ∷ []) ∷ segment (Some 1) 0 (5 ∷ []) ∷ []) (replicate 4 0) ≡ 0 ∷ 7 ∷ 9 ∷ 0 ∷ []
unfolding written
segments = refl

abbrev variable : ℕ → GlobalImport
variable name = record { from = 0x6D ∷ []; field = name ∷ []; kind = record { kind = types.I32; var = true } }

-- two imports of one name and type are one cell
cells : map (cell_of (variable 1 ∷ variable 2 ∷ variable 1 ∷ [])) (0 ∷ 1 ∷ 2 ∷ 3 ∷ []) ≡ 0 ∷ 1 ∷ 0 ∷ 3 ∷ []
cells = refl

-- an exported global, which begins as the session says
abbrev sharing : Module
sharing = record (module_of (nothing ∷ []) (0 ∷ []) (body [] («end» ∷ []) ∷ [])) {
  imports = record { «module» = 0x6D ∷ []; field = 0x67 ∷ []; kind = kinds.GlobalVar (record { kind = types.I32; var = true }) } ∷ [];
  exports = record { name = 0x78 ∷ []; kind = 3; index = 0 } ∷ [];
}

shown_at_the_end : (module_trace (record (session [] []) { globals = record { «module» = 0x6D ∷ []; field = 0x67 ∷ []; value = I32 5 } ∷ [] }) sharing 0).globals
    ≡ record { name = 0x78 ∷ []; value = I32 5 } ∷ []
unfolding step begin drive play module_world module_start module_trace written
shown_at_the_end = refl

-- a segment may end where the memory ends; here there is none
fits : map (λ d. fits_session (once []) (record sharing { data_segments = d ∷ [] })) (segment None 0 [] ∷ segment None 1 [] ∷ segment None 0 (1 ∷ []) ∷ []) ≡ true ∷ false ∷ false ∷ []
unfolding fits_session
fits = refl

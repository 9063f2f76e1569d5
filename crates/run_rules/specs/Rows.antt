-- Worked runs: sessions on small modules, with the bound on steps at which they end where it is near.
use Rattle.std.specs.Prelude.{◌≡◌, ℕ, true, List, [], ◌∷◌, ◌++◌, pos, negsuc}
use Rattle.std.proofs.Common.{refl}
use Rattle.wasm_types.specs.declared.value.ValType.TheVariants as types
use Rattle.wasm_types.specs.declared.import.ImportKind.TheVariants as kinds
use Rattle.wasm_types.specs.declared.const_expr.ConstExpr.TheVariants as exprs
use Rattle.wasm_instr.specs.declared.instr.Instr.{Instr}
use Rattle.wasm_instr.specs.declared.instr.Instr.TheVariants.{Plain, Block, Branch, BranchTable, Call, CallIndirect, Local, GlobalAt, MemorySize, I32Const, I64Const, F32Const}
use Rattle.wasm_instr.specs.declared.instr.BlockKind.TheVariants as blocks
use Rattle.wasm_module.specs.declared.structure.Module.{Module}
use Rattle.run_rules.specs.declared.value.Value.{Value}
use Rattle.run_rules.specs.declared.value.Value.TheVariants.{I32, I64, F64}
use Rattle.run_rules.specs.declared.trace.Event.{Event}
use Rattle.run_rules.specs.declared.trace.Event.TheVariants as events
use Rattle.run_rules.specs.declared.trace.TrapKind.TheVariants as traps
use Rattle.run_rules.specs.declared.session.Session.{Session}
use Rattle.run_rules.specs.declared.session.Answer.TheVariants as answers_of
use Rattle.std.specs.Int.Count.{count_leading_zeros, count_trailing_zeros}
use Rattle.run_rules.specs.Numbers.{biased, class_of, computed}
use Rattle.run_rules.specs.Memory.{from_bytes, stored, written}
use Rattle.run_rules.specs.Control.{end_from, else_from}
use Rattle.run_rules.specs.Own.{own, open_block}
use Rattle.run_rules.specs.Steps.{step}
use Rattle.run_rules.specs.Runs.{begin, drive, play}
use Rattle.run_rules.specs.Modules.{module_world, module_start, module_trace}
use Rattle.run_rules.specs.Worked.{Row, runs, answers, body, const, «end», nothing, int, int_to_int, ints_to_int, f_name, function_export, module_of, slots, from_one, call_f, session, once}

abbrev pub on : Module → Session → ℕ → List Event → Row
on m s n wanted = record { happened = (module_trace s m n).events; wanted = wanted }

abbrev pub gives : ℕ → List Event
gives n = events.Returned (I32 n ∷ []) ∷ []

-- one function of this type, one call with these arguments
abbrev pub alone : List Instr → List Value → List Event → Row
alone code args wanted = on (module_of (int ∷ int_to_int ∷ ints_to_int ∷ []) (2 ∷ []) (body [] (code ++ «end» ∷ []) ∷ [])) (once args) 100 wanted

-- f calls g, which gives 7
abbrev seven : Module
seven = module_of (int ∷ []) (0 ∷ 0 ∷ []) (body [] (Call 1 ∷ «end» ∷ []) ∷ body [] (const 7 ∷ «end» ∷ []) ∷ [])

-- with a table that has g in slot 1
abbrev tabled : ℕ → Module
tabled slot = record (module_of (int ∷ nothing ∷ []) (0 ∷ 0 ∷ []) (body [] (const slot ∷ CallIndirect 0 0 ∷ «end» ∷ []) ∷ body [] (const 7 ∷ «end» ∷ []) ∷ [])) { tables = slots 3 ∷ []; elements = from_one (1 ∷ []) ∷ [] }

-- the same, where the written type differs
abbrev differing : Module
differing = record (tabled 1) { bodies = body [] (const 1 ∷ CallIndirect 1 0 ∷ const 0 ∷ «end» ∷ []) ∷ body [] (const 7 ∷ «end» ∷ []) ∷ [] }

-- the sum of the numbers up to the argument, by a loop
abbrev summing : Module
summing = module_of (int_to_int ∷ []) (0 ∷ []) (body (record { count = 1; kind = types.I32 } ∷ [])
    (Block 0x03 blocks.Empty
    ∷ Local 0x20 0 ∷ Local 0x20 1 ∷ Plain 0x6A ∷ Local 0x21 1
    ∷ Local 0x20 0 ∷ const 1 ∷ Plain 0x6B ∷ Local 0x22 0
    ∷ Branch 0x0D 0 ∷ «end» ∷ Local 0x20 1 ∷ «end» ∷ []) ∷ [])

-- 10 or 20, by the argument
abbrev choosing : Module
choosing = module_of (int_to_int ∷ []) (0 ∷ []) (body []
    (Local 0x20 0 ∷ Block 0x04 (blocks.Value types.I32) ∷ const 10 ∷ Plain 0x05 ∷ const 20 ∷ «end» ∷ «end» ∷ []) ∷ [])

-- a table of branches: 1, 2 or 3
abbrev branching : Module
branching = module_of (int_to_int ∷ []) (0 ∷ []) (body []
    (Block 0x02 blocks.Empty ∷ Block 0x02 blocks.Empty ∷ Local 0x20 0 ∷ BranchTable (0 ∷ 1 ∷ []) 2 ∷ «end»
    ∷ const 1 ∷ Plain 0x0F ∷ «end» ∷ const 2 ∷ «end» ∷ []) ∷ [])

-- f asks the host, whose function takes and gives an i32
abbrev asking_host : Module
asking_host = record (module_of (int ∷ int_to_int ∷ []) (0 ∷ []) (body [] (const 5 ∷ Call 0 ∷ «end» ∷ []) ∷ [])) {
  imports = record { «module» = 0x6D ∷ []; field = 0x67 ∷ []; kind = kinds.Function 1 } ∷ [];
  exports = function_export f_name 1 ∷ [];
}

-- f is the host's own
abbrev sharing_host : Module
sharing_host = record asking_host { exports = function_export f_name 0 ∷ [] }

abbrev asked : Event
asked = events.Asked (0x6D ∷ []) (0x67 ∷ []) (I32 5 ∷ [])

-- a global that is written and read
abbrev counting : Module
counting = record (module_of (int ∷ []) (0 ∷ []) (body [] (GlobalAt 0x23 0 ∷ const 1 ∷ Plain 0x6A ∷ GlobalAt 0x24 0 ∷ GlobalAt 0x23 0 ∷ «end» ∷ []) ∷ [])) {
  globals = record { kind = record { kind = types.I32; var = true }; value = exprs.I32 (pos 40) } ∷ [];
}

abbrev pub rows : List Row
rows =
    on seven (once []) 100 (gives 7)
    ∷ on seven (once []) 4 (gives 7)
    ∷ on seven (once []) 3 (events.StepsSpent ∷ [])
    ∷ on seven (session (call_f [] ∷ call_f (I32 1 ∷ []) ∷ call_f [] ∷ []) []) 100 (gives 7 ++ events.NotCalled ∷ gives 7)
    -- numbers
    ∷ alone (const 7 ∷ I32Const (negsuc 1) ∷ Plain 0x6D ∷ []) (I32 0 ∷ I32 0 ∷ []) (gives 4294967293)
    ∷ alone (Local 0x20 0 ∷ Local 0x20 1 ∷ Plain 0x6D ∷ []) (I32 2147483648 ∷ I32 4294967295 ∷ []) (events.Trapped traps.IntegerOverflow ∷ [])
    ∷ alone (Local 0x20 0 ∷ Local 0x20 1 ∷ Plain 0x6E ∷ []) (I32 1 ∷ I32 0 ∷ []) (events.Trapped traps.DivideByZero ∷ [])
    ∷ alone (Local 0x20 0 ∷ Local 0x20 1 ∷ Plain 0x6F ∷ []) (I32 4294967289 ∷ I32 2 ∷ []) (gives 4294967295)
    ∷ alone (Local 0x20 0 ∷ Local 0x20 1 ∷ Plain 0x48 ∷ []) (I32 4294967295 ∷ I32 1 ∷ []) (gives 1)
    ∷ alone (Local 0x20 0 ∷ Local 0x20 1 ∷ Plain 0x49 ∷ []) (I32 4294967295 ∷ I32 1 ∷ []) (gives 0)
    ∷ alone (Local 0x20 0 ∷ Local 0x20 1 ∷ Plain 0x75 ∷ []) (I32 4294967288 ∷ I32 33 ∷ []) (gives 4294967292)
    ∷ alone (Local 0x20 0 ∷ Local 0x20 1 ∷ Plain 0x77 ∷ []) (I32 2147483649 ∷ I32 4 ∷ []) (gives 24)
    ∷ alone (const 128 ∷ Plain 0xC0 ∷ []) (I32 0 ∷ I32 0 ∷ []) (gives 4294967168)
    ∷ alone (I64Const (negsuc 0) ∷ Plain 0xA7 ∷ []) (I32 0 ∷ I32 0 ∷ []) (gives 4294967295)
    ∷ alone (Local 0x20 0 ∷ Plain 0x67 ∷ []) (I32 1 ∷ I32 0 ∷ []) (gives 31)
    ∷ alone (Local 0x20 0 ∷ Plain 0x45 ∷ []) (I32 0 ∷ I32 0 ∷ []) (gives 1)
    -- a wrong type, too few values, too many, no such local, no such function
    ∷ alone (I64Const (pos 1) ∷ const 1 ∷ Plain 0x6A ∷ []) (I32 0 ∷ I32 0 ∷ []) (events.Stuck ∷ [])
    ∷ alone (Plain 0x1A ∷ []) (I32 0 ∷ I32 0 ∷ []) (events.Stuck ∷ [])
    ∷ alone (const 1 ∷ const 2 ∷ []) (I32 0 ∷ I32 0 ∷ []) (events.Stuck ∷ [])
    ∷ alone (Local 0x20 2 ∷ []) (I32 0 ∷ I32 0 ∷ []) (events.Stuck ∷ [])
    ∷ alone (Call 9 ∷ []) (I32 0 ∷ I32 0 ∷ []) (events.Stuck ∷ [])
    ∷ alone (MemorySize ∷ []) (I32 0 ∷ I32 0 ∷ []) (events.Stuck ∷ [])
    ∷ alone (Plain 0x00 ∷ []) (I32 0 ∷ I32 0 ∷ []) (events.Trapped traps.Unreachable ∷ [])
    -- what is outside a block isn't seen inside
    ∷ alone (const 1 ∷ Block 0x02 blocks.Empty ∷ Plain 0x1A ∷ «end» ∷ const 1 ∷ []) (I32 0 ∷ I32 0 ∷ []) (events.Stuck ∷ [])
    -- carried
    ∷ alone (F32Const 1065353216 ∷ Plain 0x1A ∷ []) (I32 0 ∷ I32 0 ∷ []) (events.Carried 0x43 0 ∷ [])
    ∷ on (module_of (record { params = types.F64 ∷ []; results = [] } ∷ []) (0 ∷ []) (body [] (Local 0x20 0 ∷ Plain 0x1A ∷ «end» ∷ []) ∷ [])) (once (F64 9 ∷ [])) 100 (events.Returned [] ∷ [])
    -- control
    ∷ on summing (once (I32 4 ∷ [])) 100 (gives 10)
    ∷ on summing (once (I32 1 ∷ [])) 13 (gives 1)
    ∷ on summing (once (I32 1 ∷ [])) 12 (events.StepsSpent ∷ [])
    -- a branch to a loop leads to the loop itself, which is a step again
    ∷ on summing (once (I32 2 ∷ [])) 23 (gives 3)
    ∷ on summing (once (I32 2 ∷ [])) 22 (events.StepsSpent ∷ [])
    ∷ on choosing (once (I32 1 ∷ [])) 5 (gives 10)
    ∷ on choosing (once (I32 1 ∷ [])) 4 (events.StepsSpent ∷ [])
    ∷ on choosing (once (I32 0 ∷ [])) 5 (gives 20)
    ∷ on branching (once (I32 0 ∷ [])) 100 (gives 1)
    ∷ on branching (once (I32 1 ∷ [])) 100 (gives 2)
    ∷ on branching (once (I32 7 ∷ [])) 100 (events.Stuck ∷ [])
    -- the table
    ∷ on (tabled 1) (once []) 100 (gives 7)
    ∷ on (tabled 0) (once []) 100 (events.Trapped traps.NullEntry ∷ [])
    ∷ on (tabled 3) (once []) 100 (events.Trapped traps.TableBounds ∷ [])
    ∷ on differing (once []) 100 (events.Trapped traps.TypeDiffers ∷ [])
    -- the host
    ∷ on asking_host (session (call_f [] ∷ []) (answers_of.Results [] (I32 6 ∷ []) ∷ [])) 100 (asked ∷ gives 6)
    ∷ on asking_host (session (call_f [] ∷ []) (answers_of.Trap ∷ [])) 100 (asked ∷ events.Trapped traps.HostTrap ∷ [])
    -- a trap is used up
    ∷ on asking_host (session (call_f [] ∷ call_f [] ∷ []) (answers_of.Trap ∷ answers_of.Results [] (I32 6 ∷ []) ∷ [])) 100 (asked ∷ events.Trapped traps.HostTrap ∷ asked ∷ gives 6)
    ∷ on sharing_host (session (call_f (I32 5 ∷ []) ∷ call_f (I32 5 ∷ []) ∷ []) (answers_of.Trap ∷ answers_of.Results [] (I32 6 ∷ []) ∷ [])) 100 (asked ∷ events.Trapped traps.HostTrap ∷ asked ∷ gives 6)
    ∷ on asking_host (session (call_f [] ∷ []) (answers_of.Results [] (I64 6 ∷ []) ∷ [])) 100 (asked ∷ events.HostSpent ∷ [])
    ∷ on asking_host (session (call_f [] ∷ []) []) 1 (events.StepsSpent ∷ [])
    ∷ on asking_host (session (call_f [] ∷ []) []) 2 (asked ∷ events.HostSpent ∷ [])
    -- globals
    ∷ on counting (session (call_f [] ∷ call_f [] ∷ []) []) 100 (gives 41 ++ gives 42)
    ∷ []

pub all_worked : runs rows ≡ answers rows
unfolding count_leading_zeros count_trailing_zeros biased class_of computed from_bytes stored written end_from else_from own open_block step begin drive play module_world module_start module_trace
all_worked = refl

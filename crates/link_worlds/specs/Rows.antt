-- Worked links, run on both sides by the definitions alone: with nothing linked, and the output as a module. Each row tells what both do.
use Rattle.std.specs.Prelude.{◌≡◌, ℕ, List, [], ◌∷◌, map, Result, Ok, codes}
use Rattle.std.proofs.Common.{refl}
use Rattle.wl_base.specs.Choice.{◌>>=◌}
use Rattle.leb_codec.specs.Reading.{number_at as leb_number, end_of, end_within}
use Rattle.leb_codec.specs.Shortest.{u32, u32_padded, s32, s32_padded, s64}
use Rattle.wl_base.specs.declared.fault.Fault.{Fault}
use Rattle.wasm_grammar.specs.Reading.{u32_at, s32_at}
use Rattle.wasm_instr.specs.Classes.{class_of}
use Rattle.wasm_instr.specs.Reading.{instr_at}
use Rattle.wasm_instr.specs.Bodies.{locals_at, runs_at, code_at, body_at}
use Rattle.body_windows.specs.declared.operand.Operand.TheVariants as operands
use Rattle.object_file.specs.declared.object.Object.{Object}
use Rattle.round_rules.specs.Rounds.{load}
use Rattle.made_symbols.specs.declared.mode.Mode.TheVariants.{Plain}
use Rattle.name_rules.specs.Entries.{entries}
use Rattle.name_rules.specs.Meanings.{resolve}
use Rattle.live_mark.specs.Live.{reached}
use Rattle.memory_layout.specs.Memory.{places}
use Rattle.link_plan.specs.declared.plan.Plan.{Plan}
use Rattle.run_rules.specs.declared.value.Value.TheVariants.{I32}
use Rattle.run_rules.specs.declared.trace.Event.{Event}
use Rattle.run_rules.specs.declared.trace.Event.TheVariants as events
use Rattle.run_rules.specs.declared.trace.Trace.{Trace}
use Rattle.run_rules.specs.declared.trace.NamedValue.{NamedValue}
use Rattle.run_rules.specs.declared.trace.TrapKind.TheVariants as traps
use Rattle.run_rules.specs.declared.session.Session.{Session}
use Rattle.run_rules.specs.declared.session.Answer.TheVariants as answers
use Rattle.run_rules.specs.Numbers.{class_of as number_class, computed}
use Rattle.run_rules.specs.Memory.{from_bytes, written}
use Rattle.run_rules.specs.Own.{own}
use Rattle.run_rules.specs.Steps.{step}
use Rattle.run_rules.specs.Runs.{begin, drive, play}
use Rattle.run_rules.specs.Modules.{module_world, module_start, module_trace}
use Rattle.run_rules.specs.Worked.{session, call_f, once}
use Rattle.link_rules.specs.Candidates.{Readers, candidates_of}
use Rattle.link_rules.specs.Program.{Program, init_calls, parts_of, winners_of, program_of}
use Rattle.link_rules.specs.Marks.{exported, live}
use Rattle.link_rules.specs.Keys.{imports_in_order, functions, slots, globals, types}
use Rattle.link_rules.specs.Values.{shapes, windows}
use Rattle.link_rules.specs.Output.{layout, image, source_windows}
use Rattle.link_rules.specs.LinkOf.{asked_names}
use Rattle.link_rules.specs.Examples.{hex, exporting, read_as, empty_object, span, function_symbol, datum_symbol, body_at as function_at, names, segment_at, int_type}
use Rattle.link_rules.specs.NameRows.{calling, calling_file, defining, giving_1, giving_2}
use Rattle.link_rules.specs.DataRows.{giving_address, giving_file}
use Rattle.link_rules.specs.LoadingRows.{needing, needing_file}
use Rattle.link_worlds.specs.Worlds.{world_by, start_by, plan_world, plan_start, plan_trace, module_by, linked_module}

-- What happened, and the exported globals at the end: of plan and files, and of the output.
pub record Run : Type 0 where
  pub before : List Event
  pub globals_before : List NamedValue
  pub after : List Event
  pub globals_after : List NamedValue

abbrev pub run_of : Trace → Trace → Run
run_of a b = record { before = a.events; globals_before = a.globals; after = b.events; globals_after = b.globals }

abbrev pub run_program : Session → ℕ → Program → Run
run_program s n p = run_of (plan_trace s p (exported Plain p) n) (module_trace s (linked_module p (exported Plain p)) n)

abbrev pub run_link : Readers → Plan → List (List ℕ) → Session → ℕ → Result Run Fault
run_link readers plan files s n = do
  all ← candidates_of readers plan files
  objects ← load Plain (asked_names plan) all
  Ok (run_program s n (program_of Plain plan files all objects))

abbrev pub the_same : List Event → List NamedValue → Result Run Fault
the_same es gs = Ok (record { before = es; globals_before = gs; after = es; globals_after = gs })

abbrev pub gives : ℕ → Result Run Fault
gives n = the_same (events.Returned (I32 n ∷ []) ∷ []) []

pub record Row : Type 0 where
  pub run : Result Run Fault
  pub wanted : Result Run Fault

-- objects, their files, one call of `f`
abbrev pub of_objects : List Object → List (List ℕ) → ℕ → Result Run Fault
of_objects objects files n = run_link (read_as objects) (exporting 1 (codes "f" ∷ [])) files (once []) n

-- the same for two inputs
abbrev pub of_two : List Object → List (List ℕ) → Result Run Fault
of_two objects files = run_link (read_as objects) (exporting 2 (codes "f" ∷ [])) files (once []) 100

-- f calls g through its slot; g gives 7
abbrev pub through_slot : Object
through_slot = record (empty_object 1) {
  types = int_type ∷ [];
  functions = function_at 0 (span 0 15) (names 1 2 1 ∷ operands.TypeRef 8 0 ∷ operands.TableZero ∷ []) ∷ function_at 0 (span 15 4) [] ∷ [];
  symbols = function_symbol 0 (codes "f") 0 ∷ function_symbol 0 (codes "g") 1 ∷ [];
}

abbrev pub through_file : List ℕ
through_file = hex (codes "00 41 81 80 80 80 00 11 80 80 80 80 00 00 0B 00 41 07 0B")

-- f loads d, which is 42
abbrev pub loading : Object
loading = record (empty_object 1) {
  types = int_type ∷ [];
  functions = function_at 0 (span 4 11) (names 3 5 0 ∷ []) ∷ [];
  segments = segment_at (span 0 4) 2 [] ∷ [];
  symbols = datum_symbol 0 (codes "d") 0 0 4 ∷ function_symbol 0 (codes "f") 0 ∷ [];
}

abbrev pub loading_file : List ℕ
loading_file = hex (codes "2A 00 00 00 00 41 00 28 02 80 80 80 80 00 0B")

-- f reads the address of d from a cell
abbrev pub from_cell : Object
from_cell = record giving_address { functions = function_at 0 (span 4 8) (names 7 2 0 ∷ []) ∷ [] }

abbrev pub cell_file : List ℕ
cell_file = hex (codes "2A 00 00 00 00 23 80 80 80 80 00 0B")

abbrev pub rows : List Row
rows =
    record { run = of_objects (calling ∷ []) (calling_file ∷ []) 100; wanted = gives 7 }
    ∷ record { run = of_objects (calling ∷ []) (calling_file ∷ []) 3; wanted = the_same (events.StepsSpent ∷ []) [] }
    ∷ record { run = of_two (defining 1 1 ∷ defining 2 0 ∷ []) (giving_2 ∷ giving_1 ∷ []); wanted = gives 1 }
    ∷ record { run = of_two (defining 1 0 ∷ defining 2 1 ∷ []) (giving_1 ∷ giving_2 ∷ []); wanted = gives 1 }
    ∷ record { run = of_two (defining 1 1 ∷ defining 2 1 ∷ []) (giving_2 ∷ giving_1 ∷ []); wanted = gives 2 }
    ∷ record { run = of_objects (giving_address ∷ []) (giving_file ∷ []) 100; wanted = gives 1024 }
    ∷ record { run = of_objects (through_slot ∷ []) (through_file ∷ []) 100; wanted = gives 7 }
    ∷ record { run = of_objects (loading ∷ []) (loading_file ∷ []) 100; wanted = gives 42 }
    ∷ record { run = of_objects (from_cell ∷ []) (cell_file ∷ []) 100; wanted = gives 1024 }
    -- a null function is a stub
    ∷ record { run = of_objects (needing 0x11 ∷ []) (needing_file ∷ []) 100; wanted = the_same (events.Trapped traps.Unreachable ∷ []) [] }
    -- an import
    ∷ record {
      run = run_link (read_as (needing 0x50 ∷ [])) (exporting 1 (codes "f" ∷ [])) (needing_file ∷ []) (session (call_f [] ∷ []) (answers.Results [] [] ∷ [])) 100;
      wanted = the_same (events.Asked (codes "env") (codes "a") [] ∷ events.Returned [] ∷ []) [];
    }
    -- an exported datum
    ∷ record {
      run = run_link (read_as (giving_address ∷ [])) (exporting 1 (codes "f" ∷ codes "d" ∷ [])) (giving_file ∷ []) (once []) 100;
      wanted = the_same (events.Returned (I32 1024 ∷ []) ∷ []) (record { name = codes "d"; value = I32 1024 } ∷ []);
    }
    ∷ []

abbrev pub ran : List Row → List (Result Run Fault)
ran rs = map (λ row. row.run) rs

abbrev pub answered : List Row → List (Result Run Fault)
answered rs = map (λ row. row.wanted) rs

pub all_worked : ran rows ≡ answered rows
unfolding candidates_of load entries resolve program_of winners_of parts_of init_calls asked_names exported live reached shapes layout places functions slots globals types imports_in_order image source_windows windows u32 u32_padded s32 s32_padded s64 body_at locals_at runs_at code_at instr_at class_of u32_at s32_at leb_number end_of end_within number_class computed from_bytes written own step begin drive play module_world module_start module_trace world_by start_by plan_world plan_start plan_trace module_by
all_worked = refl

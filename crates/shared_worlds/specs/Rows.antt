-- A worked shared link, run on both sides by the definitions alone: with nothing linked, and the output as a module that a loader places.
use Rattle.std.specs.Prelude.{◌≡◌, ℕ, true, List, [], ◌∷◌, Option, Some, Result, Ok, codes, pos}
use Rattle.std.proofs.Common.{refl}
use Rattle.wl_base.specs.Choice.{◌>>=◌}
use Rattle.leb_codec.specs.Reading.{number_at as leb_number, end_of, end_within}
use Rattle.leb_codec.specs.Shortest.{u32, u32_padded, s32, s32_padded, s64}
use Rattle.wl_base.specs.declared.fault.Fault.{Fault}
use Rattle.wasm_grammar.specs.Reading.{u32_at, s32_at}
use Rattle.wasm_instr.specs.Classes.{class_of}
use Rattle.wasm_instr.specs.Reading.{instr_at}
use Rattle.wasm_instr.specs.Bodies.{locals_at, runs_at, code_at, body_at}
use Rattle.body_windows.specs.declared.operand.Operand.TheVariants as operands
use Rattle.object_file.specs.declared.object.Object.{Object}
use Rattle.round_rules.specs.Rounds.{load}
use Rattle.made_symbols.specs.declared.mode.Mode.TheVariants.{Shared}
use Rattle.name_rules.specs.Entries.{entries}
use Rattle.name_rules.specs.Meanings.{resolve}
use Rattle.live_mark.specs.Live.{reached}
use Rattle.memory_layout.specs.Memory.{places}
use Rattle.link_plan.specs.declared.plan.Plan.{Plan}
use Rattle.run_rules.specs.declared.value.Value.{Value}
use Rattle.run_rules.specs.declared.value.Value.TheVariants.{I32}
use Rattle.run_rules.specs.declared.trace.Event.{Event}
use Rattle.run_rules.specs.declared.trace.Event.TheVariants as events
use Rattle.run_rules.specs.declared.trace.Trace.{Trace}
use Rattle.run_rules.specs.declared.session.Call.{Call}
use Rattle.run_rules.specs.declared.session.GivenGlobal.{GivenGlobal}
use Rattle.run_rules.specs.Numbers.{class_of as number_class, computed}
use Rattle.run_rules.specs.Memory.{from_bytes, written, stored}
use Rattle.run_rules.specs.Own.{own}
use Rattle.run_rules.specs.Steps.{step}
use Rattle.run_rules.specs.Runs.{begin, drive, play}
use Rattle.run_rules.specs.Modules.{module_world, module_start}
use Rattle.link_rules.specs.Candidates.{Readers, candidates_of}
use Rattle.link_rules.specs.Program.{Program, init_calls, parts_of, winners_of, program_of}
use Rattle.link_rules.specs.Marks.{exported, live}
use Rattle.link_rules.specs.Keys.{imports_in_order, functions, slots, globals, types}
use Rattle.link_rules.specs.Values.{shapes, windows}
use Rattle.link_rules.specs.Output.{layout, image, source_windows}
use Rattle.link_rules.specs.LinkOf.{asked_names}
use Rattle.link_rules.specs.Examples.{hex, exporting, read_as, empty_object, span, function_symbol, datum_symbol, body_at as function_at, names, word_at, segment_at, int_type}
use Rattle.shared_module.specs.Outputs.{shared_by, shared_module}
use Rattle.shared_worlds.specs.Placing.{Placing, placed_world, placed_trace}
use Rattle.shared_worlds.specs.Worlds.{objects_by, objects_start_by, objects_trace}

-- What happened, of the loaded objects and of the output.
pub record Run : Type 0 where
  pub before : List Event
  pub after : List Event

abbrev pub run_program : Placing → ℕ → Program → Run
run_program x n p = record { before = (objects_trace x p (exported Shared p) n).events; after = (placed_trace x (shared_module p (exported Shared p)) n).events }

abbrev pub run_shared : Readers → Plan → List (List ℕ) → Placing → ℕ → Result Run Fault
run_shared readers plan files x n = do
  all ← candidates_of readers plan files
  objects ← load Shared (asked_names plan) all
  Ok (run_program x n (program_of Shared plan files all objects))

-- The first word of the data d holds the address of x and 2, and the second one the slot of g, which f calls through it; h reads the first.
abbrev pub pointing : Object
pointing = record (empty_object 1) {
  types = int_type ∷ [];
  functions =
      function_at 0 (span 8 18) (names 7 2 1 ∷ operands.TypeRef 11 0 ∷ operands.TableZero ∷ [])
      ∷ function_at 0 (span 26 4) []
      ∷ function_at 0 (span 30 11) (names 7 2 1 ∷ [])
      ∷ [];
  segments = segment_at (span 0 8) 2 (record (word_at 0 5 2) { addend = pos 2 } ∷ word_at 4 2 3 ∷ []) ∷ [];
  symbols =
      function_symbol 0 (codes "f") 0
      ∷ datum_symbol 0 (codes "d") 0 0 8
      ∷ datum_symbol 0x10 (codes "x") 0 0 0
      ∷ function_symbol 0 (codes "g") 1
      ∷ function_symbol 0 (codes "h") 2
      ∷ [];
}

abbrev pub pointing_file : List ℕ
pointing_file = hex (codes "00 00 00 00 00 00 00 00 00 23 80 80 80 80 00 28 02 04 11 80 80 80 80 00 00 0B 00 41 07 0B 00 23 80 80 80 80 00 28 02 00 0B")

abbrev pub of_env : List ℕ → ℕ → GivenGlobal
of_env name n = record { «module» = codes "env"; field = name; value = I32 n }

abbrev pub calls : List ℕ → Call
calls name = record { name = name; args = [] }

-- The memory's base is 32, the table's is 3, and x lies at 100.
abbrev pub placing : Placing
placing = record {
  session = record {
    calls = calls (codes "__wasm_apply_data_relocs") ∷ calls (codes "f") ∷ calls (codes "h") ∷ [];
    answers = [];
    pages = Some 1;
    globals = of_env (codes "__memory_base") 32 ∷ of_env (codes "__table_base") 3 ∷ record { «module» = codes "GOT.mem"; field = codes "x"; value = I32 100 } ∷ [];
  };
  entries = Some 5;
}

abbrev pub plan : Plan
plan = record (exporting 1 (codes "f" ∷ codes "h" ∷ [])) { shared = true }

abbrev pub gives : List Value → Event
gives vs = events.Returned vs

pub worked : run_shared (read_as (pointing ∷ [])) plan (pointing_file ∷ []) placing 100
    ≡ Ok (record { before = gives [] ∷ gives (I32 7 ∷ []) ∷ gives (I32 102 ∷ []) ∷ []; after = gives [] ∷ gives (I32 7 ∷ []) ∷ gives (I32 102 ∷ []) ∷ [] })
unfolding candidates_of load entries resolve program_of winners_of parts_of init_calls asked_names exported live reached shapes layout places functions slots globals types imports_in_order image source_windows windows u32 u32_padded s32 s32_padded s64 body_at locals_at runs_at code_at instr_at class_of u32_at s32_at leb_number end_of end_within number_class computed from_bytes written stored own step begin drive play module_world module_start shared_by placed_world placed_trace objects_by objects_start_by objects_trace
worked = refl

-- A worked link with a call that leads nowhere: a dead function calls one of a part that is dropped with its group. So it does where a null
-- function has the name, which others call.
use Rattle.std.specs.Prelude.{◌≡◌, ℕ, List, [], ◌∷◌, map, Result, Ok, codes}
use Rattle.std.proofs.Common.{refl}
use Rattle.wl_base.specs.Choice.{◌>>=◌}
use Rattle.leb_codec.specs.Reading.{number_at as leb_number, end_of, end_within}
use Rattle.wl_base.specs.declared.fault.Fault.{Fault}
use Rattle.wasm_grammar.specs.Reading.{u32_at, s32_at}
use Rattle.wasm_instr.specs.declared.instr.Instr.TheVariants as instrs
use Rattle.wasm_instr.specs.Classes.{class_of}
use Rattle.wasm_instr.specs.Reading.{instr_at}
use Rattle.wasm_instr.specs.Bodies.{locals_at, runs_at, code_at, body_at}
use Rattle.object_file.specs.declared.object.Object.{Object}
use Rattle.round_rules.specs.Rounds.{load}
use Rattle.made_symbols.specs.declared.mode.Mode.TheVariants.{Plain}
use Rattle.name_rules.specs.Entries.{entries}
use Rattle.name_rules.specs.Meanings.{resolve}
use Rattle.run_rules.specs.declared.op.Op.{Op}
use Rattle.run_rules.specs.declared.op.Op.TheVariants.{Own, CallTo, Absent}
use Rattle.run_rules.specs.declared.world.Source.{Source}
use Rattle.run_rules.specs.declared.world.Source.TheVariants.{Code}
use Rattle.link_plan.specs.declared.plan.Plan.{Plan}
use Rattle.link_rules.specs.Candidates.{candidates_of}
use Rattle.link_rules.specs.Program.{Program, init_calls, parts_of, winners_of, program_of}
use Rattle.link_rules.specs.Marks.{exported}
use Rattle.link_rules.specs.Keys.{FunctionKey, own, imports_in_order}
use Rattle.link_rules.specs.LinkOf.{asked_names}
use Rattle.link_rules.specs.Examples.{hex, exporting, read_as, empty_object, span, function_symbol, body_at as function_at, names, group_of, plain_type}
use Rattle.link_rules.specs.LoadingRows.{needing, needing_file}
use Rattle.link_worlds.specs.Bodies.{plan_source}
use Rattle.link_worlds.specs.Worlds.{layout_of}

-- A function a, which is LOCAL and in the group c, and one that calls it.
abbrev pub grouped : ℕ → List ℕ → Object
grouped input name = record (empty_object input) {
  types = plain_type ∷ [];
  functions = function_at 0 (span 0 2) [] ∷ function_at 0 (span 2 8) (names 0 2 0 ∷ []) ∷ [];
  symbols = function_symbol 2 (codes "a") 0 ∷ function_symbol 0 name 1 ∷ [];
  groups = group_of (codes "c") (0 ∷ []) [] ∷ [];
}

abbrev pub grouped_file : List ℕ
grouped_file = hex (codes "00 0B 00 10 80 80 80 80 00 0B")

-- what functions run in the loaded objects
abbrev pub run_in : List FunctionKey → Program → List Source
run_in keys p = map (plan_source p (layout_of p (exported Plain p)) p.parts) keys

abbrev pub sources_of : List Object → Plan → List (List ℕ) → List FunctionKey → Result (List Source) Fault
sources_of objects plan files keys = do
  all ← candidates_of (read_as objects) plan files
  loaded ← load Plain (asked_names plan) all
  Ok (run_in keys (program_of Plain plan files all loaded))

abbrev pub runs : Op → Source
runs call = Code [] (call ∷ Own (instrs.Plain 0x0B) ∷ [])

-- f of input 1 calls the stub of a; d of input 2 the function a of its group; e of input 3, whose group input 2 wins, nothing
pub dropped_worked : sources_of (needing 0x11 ∷ grouped 2 (codes "d") ∷ grouped 3 (codes "e") ∷ []) (exporting 3 (codes "f" ∷ [])) (needing_file ∷ grouped_file ∷ grouped_file ∷ []) (own 1 0 ∷ own 2 1 ∷ own 3 1 ∷ [])
    ≡ Ok (runs (CallTo 1) ∷ runs (CallTo 3) ∷ runs Absent ∷ [])
unfolding candidates_of load entries resolve program_of winners_of parts_of init_calls asked_names exported imports_in_order body_at locals_at runs_at code_at instr_at class_of u32_at s32_at leb_number end_of end_within
dropped_worked = refl

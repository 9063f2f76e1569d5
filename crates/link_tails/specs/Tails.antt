-- What stands behind the output of a link (WebAssembly Core 2.0, 5.5.3): custom sections in the order of wasm-ld 14, which has debug sections, then
-- `name`, then `target_features`.
use Rattle.std.specs.Prelude.{◌≡◌, ℕ, ◌+◌, ◌==◌, List, [], ◌++◌, length, if◌then◌else◌, Result, Ok}
use Rattle.object_file.specs.wl_base.Choice.{unless, ◌>>=◌}
use Rattle.object_file.specs.wl_base.declared.fault.Fault.{Fault}
use Rattle.made_symbols.specs.declared.mode.Mode.{Mode}
use Rattle.round_rules.specs.Rounds.{Candidate, load}
use Rattle.name_rules.specs.Entries.{InputSymbol}
use Rattle.link_plan.specs.declared.plan.Plan.{Plan}
use Rattle.link_rules.specs.ModeOf.{mode_of}
use Rattle.link_rules.specs.Candidates.{Readers, candidates_of}
use Rattle.link_rules.specs.Program.{Program, Part, program_of}
use Rattle.link_rules.specs.Marks.{exported, live}
use Rattle.link_rules.specs.Values.{Layout}
use Rattle.link_rules.specs.Output.{layout}
use Rattle.link_rules.specs.LinkOf.{asked_names, the_readers}
use Rattle.debug_rules.specs.Joined.{length_fault}
use Rattle.debug_tails.specs.Tails.{laid_tail}
use Rattle.debug_tails.specs.link_debug.Places.{link_inputs}
use Rattle.object_features.specs.Tail.{feature_tail}
use Rattle.function_names.specs.Section.{placed_names}

-- ---- the parts

-- The names of functions, where the words ask for them.
unfoldable pub laid_names : Mode → Program → List InputSymbol → List Part → List ℕ
laid_names mode p exports parts = placed_names mode p (layout mode p parts exports)

-- What the objects say of features, where the words ask for it; or the fault of an object.
unfoldable pub laid_features : Program → List Candidate → Result (List ℕ) Fault
laid_features p all = feature_tail p.plan.features (link_inputs p.files all p.objects)

-- What stands behind the debug sections: the names, and then the features.
abbrev pub laid_more : Mode → Program → List Candidate → List InputSymbol → List Part → Result (List ℕ) Fault
laid_more mode p all exports parts = do
  features ← laid_features p all
  Ok (laid_names mode p exports parts ++ features)

-- ---- together

-- Debug sections, and what stands behind them: with more than these the output has at most 2^31 - 1 bytes.
abbrev pub further : ℕ → List ℕ → List ℕ → Result (List ℕ) Fault
further len debug more = if length more == 0 then Ok debug else unless (length_fault (len + length (debug ++ more))) (debug ++ more)

abbrev pub both_tails : ℕ → Result (List ℕ) Fault → Result (List ℕ) Fault → Result (List ℕ) Fault
both_tails len debug more = do
  debug ← debug
  more ← more
  further len debug more

-- Of loaded objects, in the steps of the link; the number is that of the bytes before the sections: the joined debug sections, the names,
-- the features; or the first fault.
unfoldable pub laid_whole : Mode → Program → List Candidate → List InputSymbol → List Part → ℕ → Result (List ℕ) Fault
laid_whole mode p all exports parts len = both_tails len (laid_tail mode p all exports parts len) (laid_more mode p all exports parts)

abbrev pub exported_whole : Mode → Program → List Candidate → List InputSymbol → ℕ → Result (List ℕ) Fault
exported_whole mode p all exports len = laid_whole mode p all exports (live p exports) len

unfoldable pub program_whole : Mode → Program → List Candidate → ℕ → Result (List ℕ) Fault
program_whole mode p all len = exported_whole mode p all (exported mode p) len

-- ---- of files

unfoldable pub whole_tail_by : Mode → Readers → Plan → List (List ℕ) → ℕ → Result (List ℕ) Fault
whole_tail_by mode readers plan files len = do
  all ← candidates_of readers plan files
  objects ← load mode (asked_names plan) all
  program_whole mode (program_of mode plan files all objects) all len

-- What stands behind an output of so many bytes.
unfoldable pub whole_tail : Plan → List (List ℕ) → ℕ → Result (List ℕ) Fault
whole_tail plan files len = whole_tail_by (mode_of plan) the_readers plan files len

-- An output with all that stands behind it.
abbrev pub with_tail : Plan → List (List ℕ) → List ℕ → Result (List ℕ) Fault
with_tail plan files bytes = do
  tail ← whole_tail plan files (length bytes)
  Ok (bytes ++ tail)

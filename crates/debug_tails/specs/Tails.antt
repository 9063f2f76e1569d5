-- The debug sections behind the output of a link (Linking.md, "Relocation Sections"; Core 5.5.3).
use Rattle.std.specs.Prelude.{◌≡◌, ℕ, List, [], ◌++◌, length, if◌then◌else◌, Result, Ok}
use Rattle.std.proofs.Common.{ap}
use Rattle.wl_base.specs.Choice.{◌>>=◌}
use Rattle.wl_base.specs.declared.fault.Fault.{Fault}
use Rattle.made_symbols.specs.declared.mode.Mode.{Mode}
use Rattle.made_symbols.specs.declared.mode.Mode.TheVariants.{Plain}
use Rattle.round_rules.specs.Rounds.{Candidate, load}
use Rattle.name_rules.specs.Entries.{InputSymbol}
use Rattle.link_plan.specs.declared.plan.Plan.{Plan}
use Rattle.link_rules.specs.ModeOf.{mode_of, IsPlain, plain_mode}
use Rattle.link_rules.specs.Candidates.{Readers, candidates_of}
use Rattle.link_rules.specs.Program.{Program, Part, program_of}
use Rattle.link_rules.specs.Marks.{exported, live}
use Rattle.link_rules.specs.Values.{Layout}
use Rattle.link_rules.specs.Output.{layout}
use Rattle.link_rules.specs.LinkOf.{asked_names, the_readers}
use Rattle.debug_rules.specs.Joined.{joined}
use Rattle.link_debug.specs.Places.{link_places, link_inputs}

-- ---- of loaded objects, in the steps of the link; the number is that of the bytes before the sections

abbrev pub placed_tail : Mode → Program → List Candidate → List Part → List InputSymbol → Layout → ℕ → Result (List ℕ) Fault
placed_tail mode p all parts exports l len = joined len (link_inputs p.files all p.objects) (link_places mode p parts exports l)

abbrev pub live_tail : Mode → Program → List Candidate → List Part → List InputSymbol → ℕ → Result (List ℕ) Fault
live_tail mode p all parts exports len = placed_tail mode p all parts exports (layout mode p parts exports) len

-- The debug sections of the loaded objects, joined, or the first fault; nothing where the words don't ask for them.
unfoldable pub laid_tail : Mode → Program → List Candidate → List InputSymbol → List Part → ℕ → Result (List ℕ) Fault
laid_tail mode p all exports parts len = if p.plan.keep_debug then live_tail mode p all parts exports len else Ok []

abbrev pub exported_tail : Mode → Program → List Candidate → List InputSymbol → ℕ → Result (List ℕ) Fault
exported_tail mode p all exports len = laid_tail mode p all exports (live p exports) len

unfoldable pub program_tail : Mode → Program → List Candidate → ℕ → Result (List ℕ) Fault
program_tail mode p all len = exported_tail mode p all (exported mode p) len

-- ---- of files

-- By what the readers give of files: the candidates, then the loaded objects, then their sections.
unfoldable pub debug_tail_by : Mode → Readers → Plan → List (List ℕ) → ℕ → Result (List ℕ) Fault
debug_tail_by mode readers plan files len = do
  all ← candidates_of readers plan files
  objects ← load mode (asked_names plan) all
  program_tail mode (program_of mode plan files all objects) all len

-- What stands behind an output of so many bytes.
unfoldable pub debug_tail : Plan → List (List ℕ) → ℕ → Result (List ℕ) Fault
debug_tail plan files len = debug_tail_by (mode_of plan) the_readers plan files len

-- What stands behind a plain output.
pub plain_tail : (plan : Plan) (files : List (List ℕ)) (len : ℕ) → IsPlain plan → debug_tail plan files len ≡ debug_tail_by Plain the_readers plan files len
unfolding debug_tail
plain_tail plan files len plain = ap (λ mode. debug_tail_by mode the_readers plan files len) (plain_mode plan plain)

-- An output with its debug sections.
abbrev pub with_debug : Plan → List (List ℕ) → List ℕ → Result (List ℕ) Fault
with_debug plan files bytes = do
  tail ← debug_tail plan files (length bytes)
  Ok (bytes ++ tail)

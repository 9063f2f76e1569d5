-- The whole link: its bytes, checked where the plan asks for that, and behind them the sections that it asks for.
use Rattle.std.specs.Prelude.{ℕ, List, Result, Ok}
use Rattle.link_output.specs.link_program.wl_base.Choice.{unless, ◌>>=◌}
use Rattle.link_output.specs.link_program.wl_base.declared.fault.Fault.{Fault}
use Rattle.link_output.specs.link_program.link_plan.declared.plan.Plan.{Plan}
use Rattle.link_output.specs.link_program.link_rules.LinkOf.{link_of}
use Rattle.valid_shared_links.specs.valid_links.output_check.Check.{invalid_fault}
use Rattle.link_tails.specs.Tails.{with_tail}

-- The bytes, unless the plan asks for the check of the output and it finds a fault (Core 3).
abbrev pub checked : Plan → List ℕ → Result (List ℕ) Fault
checked plan bytes = do
  bytes ← unless (invalid_fault plan bytes) bytes
  Ok bytes

-- The link of files by a plan: what the definition of linking gives, then the check of its output, then what stands behind it.
unfoldable pub linked : Plan → List (List ℕ) → Result (List ℕ) Fault
linked plan files = do
  bytes ← link_of plan files
  bytes ← checked plan bytes
  with_tail plan files bytes

-- The same without the check.
unfoldable pub unchecked : Plan → List (List ℕ) → Result (List ℕ) Fault
unchecked plan files = do
  bytes ← link_of plan files
  with_tail plan files bytes

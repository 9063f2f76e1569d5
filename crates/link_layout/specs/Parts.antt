-- How the sources of windows are divided among workers, and what these leave.
use Rattle.std.specs.Prelude.{◌≡◌, ℕ, ◌+◌, List, [], length, slice_get, slice_range, Option, Some, Ok}
use Rattle.link_program.specs.reloc_apply.declared.window.Patches.{Patches}
use Rattle.wl_rows.specs.Ranges.{first_at, Rising}
use Rattle.link_layout.specs.declared.gathering.Source.{Source}
use Rattle.link_layout.specs.Seen.{Looked}
use Rattle.link_layout.specs.Put.{written_on}
use Rattle.link_layout.specs.Sources.{windows_of}

-- the sources of a worker
abbrev pub sources_in : List Source → List ℕ → ℕ → ℕ → List Source
sources_in sources cuts count worker = slice_range sources (first_at cuts count worker) (first_at cuts count (worker + 1))

-- what belongs into the windows of these sources
abbrev pub IsWritten : Looked → List Source → Patches → Type 0
IsWritten k sources patches = written_on k.mode [] (windows_of k sources) ≡ Ok patches.patches

-- The first slot has what belongs into the windows of these sources, or nothing.
abbrev pub IsFirst : Looked → List Source → List (Option Patches) → Type 0
IsFirst k sources slots = (p : Patches) → slice_get slots 0 ≡ Some (Some p) → IsWritten k sources p

-- Each worker's slot has what belongs into the windows of its sources, or nothing.
pub record AreWritten (k : Looked) (sources : List Source) (cuts : List ℕ) (count : ℕ) (slots : List (Option Patches)) : Type 0 where
  pub many : length slots ≡ length cuts + 1
  pub each : (w : ℕ) (p : Patches) → slice_get slots w ≡ Some (Some p) → IsWritten k (sources_in sources cuts count w) p

-- What belongs into the windows of all sources, if the slots have that of so many workers.
abbrev pub AreJoined : ℕ → List (Option Patches) → Patches → Type 0
AreJoined workers slots all =
    (k : Looked) (sources : List Source) (cuts : List ℕ) (count : ℕ) → workers ≡ length cuts + 1 → count ≡ length sources → Rising cuts count → AreWritten k sources cuts count slots
    → IsWritten k sources all

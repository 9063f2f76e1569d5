-- Loaded objects with nothing linked, as they run: the cells at first by what the session gives, and the memory at first with one segment
-- after another.
use Rattle.std.specs.Prelude.{ℕ, ◌+◌, ◌*◌, nat_le, Bool, List, [], ◌∷◌, length, map, if◌then◌else◌, Option, Some, unwrap_or}
use Rattle.run_rules.specs.declared.value.Value.{Value}
use Rattle.run_rules.specs.declared.state.State.{State}
use Rattle.run_rules.specs.declared.session.Session.{Session}
use Rattle.run_rules.specs.declared.trace.Trace.{Trace}
use Rattle.run_rules.specs.Memory.{zeros, written}
use Rattle.run_rules.specs.Modules.{first_value, at_first}
use Rattle.run_rules.specs.Runs.{trace_of}
use Rattle.run_modules.specs.Fits.{first_not}
use Rattle.run_machines.specs.declared.sym.SymCell.{SymCell}
use Rattle.run_machines.specs.declared.sym.SymCell.TheVariants.{Import, Holds}
use Rattle.run_machines.specs.declared.sym.SymSegment.{SymSegment}
use Rattle.run_machines.specs.declared.sym.SymWorld.{SymWorld}
use Rattle.run_machines.specs.declared.outcome.Run.{Run}
use Rattle.run_machines.specs.Runs.{if_all_fit}

abbrev pub sym_value : Session → SymCell → Option Value
sym_value s (Import from field kind) = Some (first_value s from field kind)
sym_value s (Holds value) = value

-- The pages at first: as many as the session gives an imported memory, or the program's own number.
abbrev pub sym_pages : Session → SymWorld → ℕ
sym_pages s w = if w.imported then unwrap_or s.pages w.pages else w.pages

abbrev pub with_segments : List SymSegment → List ℕ → List ℕ
with_segments [] memory = memory
with_segments (d ∷ ds) memory = with_segments ds (written d.address d.bytes memory)

unfoldable pub sym_start : Session → SymWorld → State
sym_start s w = at_first (map (sym_value s) w.cells) (with_segments w.segments (zeros (sym_pages s w)))

unfoldable pub sym_trace : Session → SymWorld → ℕ → Trace
sym_trace s w n = trace_of w.world s (sym_start s w) n

-- whether a segment fits so many bytes
abbrev pub segment_fits : ℕ → SymSegment → Bool
segment_fits room d = nat_le (d.address + length d.bytes) room

-- the first segment that doesn't fit so many pages
abbrev pub sym_outside : ℕ → List SymSegment → Option ℕ
sym_outside pages segments = first_not (segment_fits (65536 * pages)) 0 segments

unfoldable pub run_of_sym : Session → SymWorld → ℕ → Run
run_of_sym s w n = if_all_fit (sym_outside (sym_pages s w) w.segments) (sym_trace s w n)

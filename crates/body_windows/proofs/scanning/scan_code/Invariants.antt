use Rattle.std.proofs.Common.{◌≡◌, ◌+◌, ◌<◌, ◌≤◌, ◌^◌, length, [], ◌∷◌, false}
use Rattle.body_windows.specs.Merging.{walked}
use Rattle.body_windows.proofs.scanning.scan_code.Given as goal

abbrev pub invariant-loop-merger : goal.invariant-loop-merger
invariant-loop-merger l = record {
  so_far : walked l.merger l.end l.opens l.rest ≡ walked l.fn.merger l.end (false ∷ []) l.bytes;
  within : length l.rest ≤ l.end;
  room : l.merger.base + l.end < 2 ^ 32;
}

abbrev pub decreases-loop-merger : goal.decreases-loop-merger
decreases-loop-merger l = length l.rest

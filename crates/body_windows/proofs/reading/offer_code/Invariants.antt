use Rattle.std.proofs.Common.{◌≡◌, drop}
use Rattle.body_windows.specs.Immediates.{immediates}
use Rattle.body_windows.specs.Merging.{offered_all, Fit}
use Rattle.body_windows.proofs.reading.offer_code.Given as goal

abbrev pub invariant-loop-placed : goal.invariant-loop-placed
invariant-loop-placed l = record {
  so_far : offered_all l.merger (immediates (drop l.placed-index l.code)) ≡ offered_all l.fn.merger (immediates l.code);
  fit : Fit l.merger.base (immediates (drop l.placed-index l.code));
}

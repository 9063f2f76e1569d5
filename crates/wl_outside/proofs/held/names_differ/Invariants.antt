use Rattle.std.proofs.Common.{take}
use Rattle.wl_outside.specs.Held.{NamesDiffer}
use Rattle.wl_outside.proofs.held.names_differ.Given as goal

abbrev pub invariant-loop-place : goal.invariant-loop-place
invariant-loop-place l = NamesDiffer (take l.place l.files)

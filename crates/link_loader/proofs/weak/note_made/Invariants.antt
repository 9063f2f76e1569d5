use Rattle.std.proofs.Common.{◌≡◌, map, fold, drop, Some}
use Rattle.link_layout.specs.link_numbers.link_keys.Noted.{flagged}
use Rattle.link_loader.proofs.weak.note_made.Given as goal

abbrev pub invariant-loop-k : goal.invariant-loop-k
invariant-loop-k l = fold flagged l.flags (map Some (drop l.k l.names.made)) ≡ fold flagged l.fn.flags (map Some l.names.made)

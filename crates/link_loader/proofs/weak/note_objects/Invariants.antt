use Rattle.std.proofs.Common.{◌≡◌, fold, drop}
use Rattle.link_layout.specs.link_numbers.link_keys.Noted.{flagged}
use Rattle.link_loader.specs.Weak.{strong_rows}
use Rattle.link_loader.proofs.weak.note_objects.Given as goal

abbrev pub invariant-loop-at : goal.invariant-loop-at
invariant-loop-at l = fold flagged l.flags (strong_rows (drop l.at l.names.symbols) (drop l.at l.objects)) ≡ fold flagged l.fn.flags (strong_rows l.names.symbols l.objects)

use Rattle.std.proofs.Common.{◌≡◌, map, fold, drop}
use Rattle.link_layout.specs.link_numbers.link_keys.Noted.{flagged}
use Rattle.link_loader.specs.Weak.{weak_use}
use Rattle.link_loader.proofs.weak.note_row.Given as goal

abbrev pub invariant-loop-named : goal.invariant-loop-named
invariant-loop-named l =
    fold flagged l.flags (map (weak_use l.strong l.program.resolution.now.cells l.program.tables.now.symbols) (drop l.named-index l.row))
    ≡ fold flagged l.fn.flags (map (weak_use l.strong l.program.resolution.now.cells l.program.tables.now.symbols) l.row)

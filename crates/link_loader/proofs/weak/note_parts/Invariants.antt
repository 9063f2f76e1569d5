use Rattle.std.proofs.Common.{◌≡◌, flat_map, fold, drop}
use Rattle.link_layout.specs.link_numbers.link_keys.Noted.{flagged}
use Rattle.link_loader.specs.Weak.{part_uses}
use Rattle.link_loader.proofs.weak.note_parts.Given as goal

abbrev pub invariant-loop-number : goal.invariant-loop-number
invariant-loop-number l =
    fold flagged l.flags (flat_map (part_uses l.strong l.program.resolution.now.cells l.program.tables.now) (drop l.number-index l.live))
    ≡ fold flagged l.fn.flags (flat_map (part_uses l.strong l.program.resolution.now.cells l.program.tables.now) l.live)

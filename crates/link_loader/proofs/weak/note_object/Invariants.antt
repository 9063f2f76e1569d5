use Rattle.std.proofs.Common.{◌≡◌, fold, drop, []}
use Rattle.std.specs.Prelude.{slice_index_or}
use Rattle.link_layout.specs.link_numbers.link_keys.Noted.{flagged}
use Rattle.link_loader.specs.Weak.{strong_row}
use Rattle.link_loader.proofs.weak.note_object.Given as goal

abbrev pub invariant-loop-place : goal.invariant-loop-place
invariant-loop-place l =
    fold flagged l.flags (strong_row (drop l.place (slice_index_or l.names.symbols l.object [])) (drop l.place l.of.symbols))
    ≡ fold flagged l.fn.flags (strong_row (slice_index_or l.names.symbols l.object []) l.of.symbols)

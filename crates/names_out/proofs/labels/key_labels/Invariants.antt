use Rattle.std.proofs.Common.{◌≡◌, map, take}
use Rattle.names_out.specs.Told.{label_seen, key_label_told}
use Rattle.names_out.proofs.labels.key_labels.Given as goal

abbrev pub invariant-loop-key : goal.invariant-loop-key
invariant-loop-key l = map label_seen l.table.items ≡ map (key_label_told l.mode l.names.names) (take l.key-index l.keys)

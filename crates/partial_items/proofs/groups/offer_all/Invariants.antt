use Rattle.std.proofs.Common.{◌≡◌, fold, take}
use Rattle.std.specs.Prelude.{[], slice_index_or}
use Rattle.partial_items.specs.Groups.{offered}
use Rattle.partial_items.proofs.groups.offer_all.Given as goal

abbrev pub invariant-loop-place : goal.invariant-loop-place
invariant-loop-place l = l.column ≡ fold (offered l.input) l.initial.column (take l.place (slice_index_or l.names.groups l.object []))

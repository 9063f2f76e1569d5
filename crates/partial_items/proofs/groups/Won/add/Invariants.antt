use Rattle.std.proofs.Common.{◌≡◌, drop}
use Rattle.std.specs.Prelude.{[], slice_index_or}
use Rattle.partial_items.specs.Groups.{with_groups}
use Rattle.partial_items.specs.Lent.{places_seen}
use Rattle.partial_items.proofs.groups.Won.add.Given as goal

abbrev pub invariant-loop-place : goal.invariant-loop-place
invariant-loop-place l =
    with_groups (places_seen l.places) l.winners l.owner l.self l.place (drop l.place l.groups) (drop l.place (slice_index_or l.names.groups l.owner.object []))
    ≡ with_groups (places_seen l.places) l.winners l.owner l.initial.self 0 l.groups (slice_index_or l.names.groups l.owner.object [])

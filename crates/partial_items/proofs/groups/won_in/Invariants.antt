use Rattle.std.proofs.Common.{◌≡◌, drop}
use Rattle.partial_items.specs.Groups.{none_won, with_objects}
use Rattle.partial_items.specs.Lent.{places_seen}
use Rattle.partial_items.proofs.groups.won_in.Given as goal

abbrev pub invariant-loop-object : goal.invariant-loop-object
invariant-loop-object l =
    with_objects (places_seen l.places) l.winners l.entries.names.now.groups l.object l.won (drop l.object l.entries.objects.now)
    ≡ with_objects (places_seen l.places) l.winners l.entries.names.now.groups 0 none_won l.entries.objects.now

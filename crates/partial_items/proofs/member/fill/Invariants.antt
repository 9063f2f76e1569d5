use Rattle.std.proofs.Common.{◌≡◌, filter_map, take}
use Rattle.partial_items.specs.Groups.{member_with}
use Rattle.partial_items.specs.Lent.{places_seen}
use Rattle.partial_items.proofs.member.fill.Given as goal

abbrev pub invariant-loop-own : goal.invariant-loop-own
invariant-loop-own l = l.list.items ≡ filter_map (member_with (places_seen l.places) l.input l.imports) (take l.own-index l.members)

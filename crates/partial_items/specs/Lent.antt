-- What is lent to be looked up.
use Rattle.partial_items.specs.declared.member.Places.{Places as Lent}
use Rattle.partial_items.specs.Groups.{Places}

abbrev pub places_seen : Lent → Places
places_seen l = record { kept = l.kept.now; chunks = l.chunks.now; functions = l.functions }

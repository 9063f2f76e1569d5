use Rattle.std.proofs.Common.{◌≡◌, ◌-◌, length, map}
use Rattle.reloc_apply.specs.Windows.{filled}
use Rattle.debug_rules.specs.Joined.{patch_for, place_at}
use Rattle.debug_out.specs.Inputs.{places_of}
use Rattle.debug_out.specs.Refs.{debug_seen, entries_from}
use Rattle.debug_out.specs.Windows.{InBounds}
use Rattle.debug_out.proofs.windows.fill_entries.Given as goal

abbrev pub invariant-loop : goal.invariant-loop
invariant-loop l = InBounds (length l.out) (entries_from (l.count - l.counter) l.end l.left)
    × (filled (map (patch_for (place_at l.rows l.d.object) (places_of l.places) (debug_seen l.d)) (entries_from (l.count - l.counter) l.end l.left)) l.out
    ≡ filled (map (patch_for (place_at l.rows l.d.object) (places_of l.places) (debug_seen l.d)) (entries_from l.count l.end l.entries)) l.fn.out)

use Rattle.std.proofs.Common.{◌≡◌, ◌++◌, drop}
use Rattle.link_marks.specs.Seen.{places_from, is_root}
use Rattle.link_marks.proofs.roots.add_parts.Given as goal

abbrev pub invariant-loop-place : goal.invariant-loop-place
invariant-loop-place l = l.roots ++ places_from (is_root l.all) l.place (drop l.place l.parts) ≡ l.fn.roots ++ places_from (is_root l.all) 0 l.parts

use Rattle.std.proofs.Common.{◌≡◌, ◌++◌, filter_map, drop}
use Rattle.link_image.specs.Sections.{call_seen}
use Rattle.link_image.proofs.bodies.calls.Given as goal

abbrev pub invariant-loop-named : goal.invariant-loop-named
invariant-loop-named l =
    l.numbers ++ filter_map (call_seen l.numbering.functions l.symbols) (drop l.named-index l.row) ≡ filter_map (call_seen l.numbering.functions l.symbols) l.row

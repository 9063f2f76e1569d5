use Rattle.std.proofs.Common.{◌≡◌, drop, map}
use Rattle.debug_out.specs.Refs.{custom_seen}
use Rattle.object_features.specs.Onto.{behind, with_sections}
use Rattle.object_features.proofs.said.put_sections.Given as goal

abbrev pub invariant-loop-c : goal.invariant-loop-c
invariant-loop-c l = with_sections behind l.input l.front (map custom_seen (drop l.c-index l.sections)) ≡ with_sections behind l.input l.fn.front (map custom_seen l.sections)

use Rattle.std.proofs.Common.{◌≡◌, drop, map}
use Rattle.debug_out.specs.Refs.{custom_seen}
use Rattle.object_features.specs.Onto.{noted_with, with_sections, Has}
use Rattle.object_features.specs.Used.{last_seen}
use Rattle.object_features.proofs.said.add_sections.Given as goal

abbrev pub invariant-loop-c : goal.invariant-loop-c
invariant-loop-c l =
    (with_sections noted_with l.input l.used.together (map custom_seen (drop l.c-index l.sections)) ≡ with_sections noted_with l.input l.fn.used.together (map custom_seen l.sections))
    × Has l.used.together (last_seen l.used)

use Rattle.std.proofs.Common.{◌≡◌, ◌+◌, drop}
use Rattle.object_parts.specs.Reading.{parts_from}
use Rattle.object_parts.proofs.reading.add_sections.Given as goal

abbrev pub invariant-loop-at : goal.invariant-loop-at
invariant-loop-at l = parts_from l.all l.relocs l.bytes (l.from + l.at) l.parts (drop l.at l.sections) ≡ parts_from l.all l.relocs l.bytes l.from l.fn.parts l.sections

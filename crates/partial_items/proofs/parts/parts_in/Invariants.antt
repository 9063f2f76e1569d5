use Rattle.std.proofs.Common.{◌≡◌, map, take}
use Rattle.partial_items.specs.Items.{given, part_given}
use Rattle.partial_items.proofs.parts.parts_in.Given as goal

abbrev pub invariant-loop-part : goal.invariant-loop-part
invariant-loop-part l = map given l.rows ≡ map (part_given l.files l.tables l.numbers) (take l.part-index l.parts)

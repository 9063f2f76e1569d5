use Rattle.std.proofs.Common.{◌≡◌, ◌+◌, length, take}
use Rattle.std.specs.Prelude.{slice_range}
use Rattle.link_inputs.specs.Reading.{AreRead}
use Rattle.link_inputs.proofs.reading.ReaderSlicesSlot.work.Given as goal

abbrev pub invariant-loop-at : goal.invariant-loop-at
invariant-loop-at g l = (length l.items ≡ length l.fn.items)
    × AreRead l.self.reading.files.now (slice_range l.self.reading.objects.now l.from (l.from + l.at)) (take l.at l.items)

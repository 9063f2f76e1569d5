use Rattle.std.proofs.Common.{◌≡◌, ◌+◌, length}
use Rattle.std.specs.Prelude.{slice_range}
use Rattle.reloc_apply.specs.Windows.{filled}
use Rattle.reloc_apply.specs.Apart.{AreApart, from_here}
use Rattle.reloc_apply.proofs.sharing.SharingSlicesU8.work.Given as goal

abbrev pub invariant-loop-number : goal.invariant-loop-number
invariant-loop-number g l = record {
  told : filled (from_here l.start (slice_range l.patches l.number l.number-end)) l.items ≡ filled (from_here l.start (slice_range l.patches l.initial.number l.number-end)) l.initial.items;
  apart : AreApart l.start (l.start + length l.items) (slice_range l.patches l.number l.number-end);
}

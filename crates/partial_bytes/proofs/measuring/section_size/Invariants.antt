use Rattle.std.proofs.Common.{◌≡◌, drop}
use Rattle.partial_bytes.specs.Measured.{AddsUp, entry_lens}
use Rattle.partial_bytes.proofs.measuring.section_size.Given as goal

abbrev pub invariant-loop-number : goal.invariant-loop-number
invariant-loop-number l = AddsUp l.kind l.parts (drop l.number l.parts) l.at l.count l.entries × (drop l.number l.lens ≡ entry_lens l.kind l.at (drop l.number l.parts))

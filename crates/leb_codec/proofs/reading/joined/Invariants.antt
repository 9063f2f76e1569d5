use Rattle.std.proofs.Common.{◌≡◌, ◌≤◌, ◌-◌, take, drop}
use Rattle.leb_codec.specs.Reading.{end_within, low_bits}
use Rattle.leb_codec.proofs.Ends.{ahead}
use Rattle.leb_codec.proofs.reading.joined.Given as goal

abbrev pub invariant-loop-i : goal.invariant-loop-i
invariant-loop-i l = record {
  within : l.i ≤ l.greatest;
  so_far : ahead l.i (end_within (l.greatest - l.i) (drop l.i l.bytes)) ≡ end_within l.greatest l.bytes;
  joined : l.bits ≡ low_bits (take l.i l.bytes);
}

use Rattle.std.proofs.Common.{◌≡◌, ◌<◌, ◌≤◌, ◌-◌, ◌*◌, ◌^◌, ◌++◌, length, take, drop}
use Rattle.leb_codec.specs.Shortest.{shortest_signed}
use Rattle.leb_codec.specs.Writing.{turned}
use Rattle.leb_codec.proofs.writing.write_groups.Given as goal

abbrev pub invariant-loop-rest : goal.invariant-loop-rest
invariant-loop-rest l = record {
  few : l.len ≤ 9;
  room : length l.to ≡ 10;
  left : l.rest < 64 * 128 ^ (9 - l.len);
  so_far : take l.len l.to ++ shortest_signed (9 - l.len) (turned l.negative l.rest) ≡ shortest_signed 9 (turned l.negative l.fn.bits);
  kept : drop l.len l.to ≡ drop l.len l.fn.to;
}

abbrev pub decreases-loop-rest : goal.decreases-loop-rest
decreases-loop-rest l = l.rest

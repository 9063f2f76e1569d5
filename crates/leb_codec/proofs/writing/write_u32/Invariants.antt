use Rattle.std.proofs.Common.{◌≡◌, ◌<◌, ◌≤◌, ◌-◌, ◌^◌, ◌++◌, length, take, drop}
use Rattle.leb_codec.specs.Shortest.{shortest, u32}
use Rattle.leb_codec.proofs.writing.write_u32.Given as goal

abbrev pub invariant-loop-rest : goal.invariant-loop-rest
invariant-loop-rest l = record {
  few : l.len ≤ 4;
  room : length l.to ≡ 10;
  left : l.rest < 128 ^ (5 - l.len);
  so_far : take l.len l.to ++ shortest (4 - l.len) l.rest ≡ u32 l.fn.n;
  kept : drop l.len l.to ≡ drop l.len l.fn.to;
}

abbrev pub decreases-loop-rest : goal.decreases-loop-rest
decreases-loop-rest l = l.rest

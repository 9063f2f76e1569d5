use Rattle.std.proofs.Common.{◌-◌, ◌+◌, ◌^◌, vec_len}
use Rattle.host_outside.proofs.file_reading.read_all.Given as goal

-- each turn but the last takes a byte
abbrev pub decreases-loop-file : goal.decreases-loop-file
decreases-loop-file g l = 2 ^ 32 + 1 - vec_len l.bytes

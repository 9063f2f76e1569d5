use Rattle.std.proofs.Common.{length}
use Rattle.host_outside.proofs.file_reading.reads.Given as goal

-- each turn but the last takes a byte
abbrev pub decreases-loop-front : goal.decreases-loop-front
decreases-loop-front g l = length l.front

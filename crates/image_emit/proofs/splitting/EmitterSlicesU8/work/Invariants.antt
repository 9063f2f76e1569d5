use Rattle.std.proofs.Common.{◌≤◌, drop}
use Rattle.image_emit.specs.Bytes.{tree_of}
use Rattle.image_emit.specs.Parts.{upto, part_start}
use Rattle.image_emit.specs.Put.{IsPut}
use Rattle.image_emit.proofs.splitting.EmitterSlicesU8.work.Given as goal

abbrev pub invariant-loop-job : goal.invariant-loop-job
invariant-loop-job g l = (l.from ≤ l.job) × (l.job ≤ l.to)
    × IsPut l.fn.items 0 (drop (part_start (tree_of l.self.division.files.now l.self.division.image.now) l.self.division.width l.part) (upto (tree_of l.self.division.files.now l.self.division.image.now) l.job)) l.at l.items

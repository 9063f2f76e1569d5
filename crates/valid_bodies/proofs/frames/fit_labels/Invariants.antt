use Rattle.std.proofs.Common.{◌≡◌, drop}
use Rattle.valid_rules.specs.Reading.{fit}
use Rattle.valid_bodies.specs.Blocks.{labels_in}
use Rattle.valid_bodies.proofs.frames.fit_labels.Given as goal

abbrev pub invariant-loop-target : goal.invariant-loop-target
invariant-loop-target l =
    fit l.block.unreachable l.operands.own (labels_in l.types l.block l.around) l.arity (drop l.target-index l.targets) ≡ fit l.block.unreachable l.operands.own (labels_in l.types l.block l.around) l.arity l.targets

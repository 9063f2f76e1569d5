use Rattle.std.proofs.Common.{◌<◌, take, All}
use Rattle.lost_ctors.specs.Alive.{input_of}
use Rattle.lost_ctors.proofs.alive.inputs_of.Given as goal

abbrev pub invariant-loop-number : goal.invariant-loop-number
invariant-loop-number l = All (λ n. input_of l.tables n < l.inputs) (take l.number-index l.live)

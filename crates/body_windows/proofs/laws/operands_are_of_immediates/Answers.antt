use Rattle.body_windows.specs.Immediates.{immediates}
use Rattle.body_windows.proofs.Within.{operands_are}
use Rattle.body_windows.proofs.laws.operands_are_of_immediates.Goals as goal

pub returns : goal.returns
returns c = λ base relocs body operands e. operands_are base relocs (immediates body.code) operands e

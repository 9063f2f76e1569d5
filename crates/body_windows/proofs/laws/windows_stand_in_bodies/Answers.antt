use Rattle.body_windows.specs.Immediates.{immediates}
use Rattle.body_windows.proofs.Within.{operands_stand, references_stand}
use Rattle.body_windows.proofs.laws.windows_stand_in_bodies.Goals as goal

pub returns-clause-all : goal.returns-clause-all
returns-clause-all c = λ base from end relocs body operands order e. operands_stand base relocs (immediates body.code) from end operands order e

pub returns-clause-references : goal.returns-clause-references
returns-clause-references c = λ from end operands s. references_stand from end operands s

use Rattle.partial_parts_laws.proofs.ImportsTaken.{imports_are_taken}
use Rattle.partial_parts_laws.proofs.imports_are_taken.Goals as goal

pub returns : goal.returns
returns c = imports_are_taken

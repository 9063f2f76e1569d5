use Rattle.object_file.proofs.Counted.{functions_counted, globals_counted}
use Rattle.object_file.proofs.laws.index_spaces_are_counted.Goals as goal

pub returns-clause-functions : goal.returns-clause-functions
returns-clause-functions c = λ o. functions_counted o

pub returns-clause-globals : goal.returns-clause-globals
returns-clause-globals c = λ o. globals_counted o

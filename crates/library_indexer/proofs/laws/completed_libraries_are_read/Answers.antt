use Rattle.library_indexer.proofs.Read.{completed_is_read, completed_is_kept}
use Rattle.library_indexer.proofs.laws.completed_libraries_are_read.Goals as goal

pub returns-clause-read : goal.returns-clause-read
returns-clause-read c = completed_is_read

pub returns-clause-kept : goal.returns-clause-kept
returns-clause-kept c = completed_is_kept

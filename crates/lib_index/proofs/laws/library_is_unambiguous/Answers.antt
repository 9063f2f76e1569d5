use Rattle.lib_index.proofs.LibraryLaws.{one_library}
use Rattle.lib_index.proofs.laws.library_is_unambiguous.Goals as goal

pub returns : goal.returns
returns c = one_library

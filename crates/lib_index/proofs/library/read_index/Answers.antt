use Rattle.std.proofs.Common.{subst}
use Rattle.lib_index.specs.Reading.{Answers}
use Rattle.lib_index.proofs.LibraryLaws.{is_found, is_within, library_again, is_no_library}
use Rattle.lib_index.proofs.library.read_index.Goals as goal

pub returns-clause-found : goal.returns-clause-found
returns-clause-found c = is_found c.args.bytes.now c.library_at.result c.library_at.ensures

pub returns-clause-only : goal.returns-clause-only
returns-clause-only c = λ library h. subst (λ r. Answers (λ x. x) c.library_at.result r) (library_again c.args.bytes.now library h) c.library_at.ensures

pub returns-clause-magical : goal.returns-clause-magical
returns-clause-magical c = is_no_library c.args.bytes.now c.library_at.result c.library_at.ensures

pub returns-clause-within : goal.returns-clause-within
returns-clause-within c = is_within c.args.bytes.now c.library_at.result c.library_at.ensures

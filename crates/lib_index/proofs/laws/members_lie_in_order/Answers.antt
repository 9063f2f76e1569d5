use Rattle.lib_index.proofs.LibraryLaws.{library_within, library_apart, library_offers}
use Rattle.lib_index.proofs.laws.members_lie_in_order.Goals as goal

pub returns-clause-within : goal.returns-clause-within
returns-clause-within c = library_within

pub returns-clause-apart : goal.returns-clause-apart
returns-clause-apart c = library_apart

pub returns-clause-offered : goal.returns-clause-offered
returns-clause-offered c = library_offers

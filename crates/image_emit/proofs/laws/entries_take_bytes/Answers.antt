use Rattle.image_emit.proofs.CountLaws.{entries_fit, named_fit}
use Rattle.image_emit.proofs.laws.entries_take_bytes.Goals as goal

pub returns-clause-entries : goal.returns-clause-entries
returns-clause-entries c = entries_fit

pub returns-clause-elements : goal.returns-clause-elements
returns-clause-elements c = named_fit

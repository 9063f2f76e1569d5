use Rattle.partial_parts_laws.proofs.Exports.{export_names}
use Rattle.partial_parts_laws.proofs.exports_are_same.Goals as goal

pub returns : goal.returns
returns c = λ run os ls s w. export_names run os ls s w

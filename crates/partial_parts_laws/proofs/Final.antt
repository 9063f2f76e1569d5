-- The programs of the whole link and of the later one are alike.
use Rattle.partial_parts_laws.specs.AlikeLinks.{ProgramsAreAlike}
use Rattle.partial_parts_laws.proofs.Linking.{alike}
use Rattle.partial_parts_laws.proofs.Exports.{export_names}
use Rattle.partial_parts_laws.proofs.Stubs.{stubs_stay}

pub programs_are_alike : ProgramsAreAlike
programs_are_alike run os ls s w = alike run os ls s w (export_names run os ls s w) (stubs_stay run os ls s w)

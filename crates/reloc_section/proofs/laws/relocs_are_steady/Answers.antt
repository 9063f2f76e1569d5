use Rattle.reloc_section.specs.Stays.{reloc_stays, reloc_section_stays}
use Rattle.reloc_section.proofs.laws.relocs_are_steady.Goals as goal

pub returns-clause-entry : goal.returns-clause-entry
returns-clause-entry c = reloc_stays

pub returns-clause-section : goal.returns-clause-section
returns-clause-section c = reloc_section_stays

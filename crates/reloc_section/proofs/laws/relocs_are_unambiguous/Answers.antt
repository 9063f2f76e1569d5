use Rattle.wasm_grammar.specs.ReaderLaws.{one_value}
use Rattle.reloc_section.specs.Relocs.{SpellsReloc, SpellsRelocSection, reloc_at, reloc_section_at}
use Rattle.reloc_section.specs.RelocLaws.{reloc_reader, reloc_section_reader}
use Rattle.reloc_section.proofs.laws.relocs_are_unambiguous.Goals as goal

pub returns-clause-entry : goal.returns-clause-entry
returns-clause-entry c = one_value SpellsReloc reloc_at reloc_reader

pub returns-clause-section : goal.returns-clause-section
returns-clause-section c = one_value SpellsRelocSection reloc_section_at reloc_section_reader

use Rattle.wasm_grammar.specs.ReaderLaws.{one_value}
use Rattle.linking_section.specs.Linking.{SpellsSegmentInfo, SpellsInit, SpellsMember, SpellsGroup, SpellsSymbol}
use Rattle.linking_section.specs.Reading.{segment_at, init_at, member_at, group_at, symbol_at}
use Rattle.linking_section.specs.ItemLaws.{segment_reader, init_reader, member_reader, group_reader, symbol_reader}
use Rattle.linking_section.proofs.laws.items_are_unambiguous.Goals as goal

pub returns-clause-segment : goal.returns-clause-segment
returns-clause-segment c = one_value SpellsSegmentInfo segment_at segment_reader

pub returns-clause-init : goal.returns-clause-init
returns-clause-init c = one_value SpellsInit init_at init_reader

pub returns-clause-member : goal.returns-clause-member
returns-clause-member c = one_value SpellsMember member_at member_reader

pub returns-clause-group : goal.returns-clause-group
returns-clause-group c = one_value SpellsGroup group_at group_reader

pub returns-clause-symbol : goal.returns-clause-symbol
returns-clause-symbol c = one_value SpellsSymbol symbol_at symbol_reader

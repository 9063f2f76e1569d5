use Rattle.wasm_instr.specs.wasm_grammar.ReaderLaws.{one_value}
use Rattle.wasm_module.specs.Parts.{SpellsInit, SpellsGlobal, SpellsExport, SpellsElement, SpellsDataSegment}
use Rattle.wasm_module.specs.PartReading.{init_at, global_at, export_at, element_at, data_segment_at}
use Rattle.wasm_module.specs.PartLaws.{init_reader, global_reader, export_reader, element_reader, data_segment_reader}
use Rattle.wasm_module.proofs.laws.parts_are_unambiguous.Goals as goal

pub returns : goal.returns
returns c = record {
  init = λ get. one_value (SpellsInit get) (init_at get) (init_reader get);
  global = λ get. one_value (SpellsGlobal get) (global_at get) (global_reader get);
  export = one_value SpellsExport export_at export_reader;
  element = λ get. one_value (SpellsElement get) (element_at get) (element_reader get);
  data_segment = λ get. one_value (SpellsDataSegment get) (data_segment_at get) (data_segment_reader get);
}

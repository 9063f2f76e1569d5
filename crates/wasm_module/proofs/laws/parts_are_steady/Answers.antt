use Rattle.wasm_module.specs.PartStays.{init_stays, global_stays, export_stays, element_stays, data_segment_stays}
use Rattle.wasm_module.proofs.laws.parts_are_steady.Goals as goal

pub returns : goal.returns
returns c = record {
  init = init_stays;
  global = global_stays;
  export = export_stays;
  element = element_stays;
  data_segment = data_segment_stays;
}

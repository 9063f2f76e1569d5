-- Worked examples.
use Rattle.std.specs.Prelude.{◌≡◌, [], ◌∷◌, ◌++◌, Some, None, Ok, Err}
use Rattle.std.proofs.Common.{refl}
use Rattle.wasm_instr.specs.leb_codec.Reading.{number_at, end_of, end_within}
use Rattle.wasm_instr.specs.wasm_grammar.declared.fault.Stop.TheVariants.{Broken, Foreign}
use Rattle.wasm_instr.specs.wl_base.declared.item.Item.TheVariants as items
use Rattle.wasm_instr.specs.wasm_grammar.Reading.{u32_at, s32_at, many_at, vector_at, bytes_at, front_at, part_at, sized_at, whole}
use Rattle.wasm_instr.specs.wasm_types.declared.const_expr.ConstExpr.TheVariants.{I32}
use Rattle.wasm_instr.specs.wasm_types.Types.{limits_at, const_expr_at}
use Rattle.wasm_sections.specs.Sections.{header}
use Rattle.wasm_module.specs.PartReading.{init_at, element_at, data_segment_at}
use Rattle.wasm_module.specs.Sections.{customs_at, section_at, next_at, given_at}
use Rattle.wasm_module.specs.ModuleReading.{module_at, module_of}
use Rattle.std.specs.Prelude.{true, false, pos}

-- The header alone is a module that has nothing.
nothing : module_of header ≡ Ok (record {
  types = [];
  imports = [];
  functions = [];
  tables = [];
  memories = [];
  globals = [];
  exports = [];
  elements = [];
  data_count = None;
  bodies = [];
  data_segments = [];
})
unfolding module_at customs_at next_at section_at
nothing = refl

-- A memory of two pages.
one_memory : module_of (header ++ 0x05 ∷ 0x03 ∷ 0x01 ∷ 0x00 ∷ 0x02 ∷ []) ≡ Ok (record {
  types = [];
  imports = [];
  functions = [];
  tables = [];
  memories = record { min = 2; max = None } ∷ [];
  globals = [];
  exports = [];
  elements = [];
  data_count = None;
  bodies = [];
  data_segments = [];
})
unfolding module_at customs_at next_at section_at sized_at part_at whole vector_at many_at u32_at number_at end_of end_within limits_at
one_memory = refl

-- A start section is a byte that is left over.
start : module_of (header ++ 0x08 ∷ 0x01 ∷ 0x00 ∷ []) ≡ Err (Broken 8)
unfolding module_at customs_at next_at section_at
start = refl

-- So is a section that comes too late.
late : module_of (header ++ 0x05 ∷ 0x01 ∷ 0x00 ∷ 0x04 ∷ 0x01 ∷ 0x00 ∷ []) ≡ Err (Broken 11)
unfolding module_at customs_at next_at section_at sized_at part_at whole vector_at many_at u32_at number_at end_of end_within
late = refl

-- A function that has no body: the numbers are judged at the end.
no_body : module_of (header ++ 0x03 ∷ 0x02 ∷ 0x01 ∷ 0x00 ∷ []) ≡ Err (Broken 12)
unfolding module_at customs_at next_at section_at sized_at part_at whole vector_at many_at u32_at number_at end_of end_within
no_body = refl

-- A data count of one, and no data.
no_data : module_of (header ++ 0x0c ∷ 0x01 ∷ 0x01 ∷ []) ≡ Err (Broken 11)
unfolding module_at customs_at next_at section_at given_at sized_at part_at whole u32_at number_at end_of end_within
no_data = refl

-- Two functions for the slots from 1 on.
functions : element_at false 10 (0x00 ∷ 0x41 ∷ 0x01 ∷ 0x0b ∷ 0x02 ∷ 0x05 ∷ 0x06 ∷ 0x09 ∷ []) ≡ Ok (record { table = None; offset = I32 (pos 1); functions = 5 ∷ 6 ∷ [] }, 0x09 ∷ [])
unfolding element_at init_at const_expr_at s32_at vector_at many_at u32_at number_at end_of end_within
functions = refl

-- Two bytes for the memory 0 from the address 1 on, where the memory is named.
two_bytes : data_segment_at false 10 (0x02 ∷ 0x00 ∷ 0x41 ∷ 0x01 ∷ 0x0b ∷ 0x02 ∷ 0xaa ∷ 0xbb ∷ []) ≡ Ok (record { memory = Some 0; offset = I32 (pos 1); bytes = 0xaa ∷ 0xbb ∷ [] }, [])
unfolding data_segment_at init_at const_expr_at s32_at bytes_at front_at u32_at number_at end_of end_within
two_bytes = refl

-- A passive segment.
passive : data_segment_at true 10 (0x01 ∷ 0x00 ∷ []) ≡ Err (Foreign items.PassiveSegment)
unfolding data_segment_at u32_at number_at end_of end_within
passive = refl

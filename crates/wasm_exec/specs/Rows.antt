-- Worked runs: what the bytes of a module and of a script come to.
use Rattle.std.proofs.Common.{◌≡◌, refl, ℕ, List, [], ◌∷◌, ◌++◌, codes}
use Rattle.std.specs.Prelude.{Ok, Err}
use Rattle.std.specs.Fmt.{digits}
use Rattle.wasm_instr.specs.leb_codec.Reading.{number_at, end_of, end_within}
use Rattle.wasm_instr.specs.wasm_grammar.Reading.{u32_at, s32_at, many_at, vector_at, bytes_at, front_at, part_at, sized_at, whole}
use Rattle.wasm_instr.specs.wasm_types.Types.{const_expr_at}
use Rattle.wasm_module.specs.PartReading.{init_at, data_segment_at}
use Rattle.wasm_module.specs.Sections.{customs_at, section_at, next_at}
use Rattle.wasm_module.specs.ModuleReading.{module_at}
use Rattle.run_rules.specs.Runs.{begin, drive, play}
use Rattle.run_rules.specs.Modules.{module_world, module_start, module_trace}
use Rattle.run_modules.specs.Fits.{first_outside}
use Rattle.run_script.specs.Scripts.{script_of}
use Rattle.run_text.specs.Text.{line, trace_text}
use Rattle.wasm_exec.specs.declared.status.RunFault.TheVariants.{NotModule, BadScript, SegmentBounds}
use Rattle.wasm_exec.specs.Answer.{text_of, answer_of}

-- a module that has nothing
abbrev empty : List ℕ
empty = 0x00 ∷ 0x61 ∷ 0x73 ∷ 0x6D ∷ 0x01 ∷ 0x00 ∷ 0x00 ∷ 0x00 ∷ []

-- a segment of one byte, at 0, and no memory
abbrev data_alone : List ℕ
data_alone = empty ++ 0x0B ∷ 0x07 ∷ 0x01 ∷ 0x00 ∷ 0x41 ∷ 0x00 ∷ 0x0B ∷ 0x01 ∷ 0x05 ∷ []

-- Bytes that are no module are told before a line that is none.
no_bytes : answer_of 1 [] (codes "cal f") ≡ Err NotModule
unfolding answer_of module_at
no_bytes = refl

a_bad_line : answer_of 1 empty (codes "call f" ++ 10 ∷ codes "cal f") ≡ Err (BadScript 2)
unfolding answer_of module_at customs_at next_at section_at script_of
a_bad_line = refl

nothing_is_exported : answer_of 1 empty (codes "call f") ≡ Ok (line (codes "not called") ++ line (codes "memory 0") ++ line (codes "end"))
unfolding answer_of module_at customs_at next_at section_at script_of text_of first_outside module_world module_start module_trace begin drive play trace_text digits
nothing_is_exported = refl

a_segment_outside : answer_of 1 data_alone (codes "call f") ≡ Err (SegmentBounds 0)
unfolding answer_of module_at customs_at next_at section_at sized_at part_at whole vector_at many_at u32_at s32_at number_at end_of end_within data_segment_at init_at const_expr_at bytes_at front_at script_of text_of first_outside
a_segment_outside = refl

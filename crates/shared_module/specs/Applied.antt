-- The function of a shared output that makes addresses right when the module is loaded, as a body. Opcodes are Core's (5.4): 0x0B `end`, 0x23
-- `global.get`, 0x24 `global.set`, 0x36 `i32.store` of alignment 2 and offset 0, 0x6A `i32.add`.
use Rattle.std.specs.Prelude.{◌<◌, ◌^◌, List, [], ◌∷◌, ◌++◌, map, flat_map, pos, neg_ℤ, ◌≤ℤ◌, ◌<ℤ◌}
use Rattle.wasm_instr.specs.declared.instr.Instr.{Instr}
use Rattle.wasm_instr.specs.declared.instr.Instr.TheVariants as instrs
use Rattle.wasm_instr.specs.declared.body.Body.{Body}
use Rattle.dylink_out.specs.declared.word.WordReloc.{WordReloc}
use Rattle.dylink_out.specs.Loading.{Step, get_global, constant, add, store, set_global, word_steps}
use Rattle.output_module.specs.link_worlds.Bodies.{bare}

abbrev pub step_instr : Step → Instr
step_instr (get_global g) = instrs.GlobalAt 0x23 g
step_instr (constant z) = instrs.I32Const z
step_instr add = instrs.Plain 0x6A
step_instr store = instrs.Access 0x36 2 0
step_instr (set_global g) = instrs.GlobalAt 0x24 g

-- what stores these words
abbrev pub steps_of : List WordReloc → List Step
steps_of words = flat_map word_steps words

-- The body of `__wasm_apply_data_relocs`: no locals, each word, end.
abbrev pub applied : List WordReloc → Body
applied words = record { locals = []; code = map (λ x. bare (step_instr x)) (steps_of words) ++ bare (instrs.Plain 0x0B) ∷ [] }

-- The number of a global is a u32, and a constant an s32 (Core 5.2.2).
abbrev pub StepFits : Step → Type 0
StepFits (get_global g) = g < 2 ^ 32
StepFits (constant z) = (neg_ℤ (pos (2 ^ 31)) ≤ℤ z) × (z <ℤ pos (2 ^ 31))
StepFits add = Unit {0}
StepFits store = Unit {0}
StepFits (set_global g) = g < 2 ^ 32

-- The bytes of a shared output are read as its module. The reader gives places that the definition of the output has not, and a run looks at none.
use Rattle.std.specs.Prelude.{◌≡◌, ℕ, ◌<◌, ◌^◌, ◌==◌, List, [], ◌∷◌, map, length, find, if◌then◌else◌, Ok}
use Rattle.list_places.specs.Has.{Has, Apart}
use Rattle.wasm_instr.specs.declared.instr.Instr.TheVariants as instrs
use Rattle.wasm_instr.specs.declared.body.Body.{Body}
use Rattle.wasm_module.specs.declared.structure.Module.{Module}
use Rattle.wasm_module.specs.Modules.{IsModule, SameButPlaces}
use Rattle.wasm_module.specs.ModuleReading.{module_of}
use Rattle.made_symbols.specs.declared.mode.Mode.TheVariants.{Shared}
use Rattle.made_symbols.specs.Made.{call_ctors}
use Rattle.name_rules.specs.Entries.{InputSymbol}
use Rattle.reloc_apply.specs.Windows.{patch_of}
use Rattle.image_emit.specs.Bytes.{Tree, tree_of}
use Rattle.image_emit.specs.Filled.{tree_filled}
use Rattle.image_emit.specs.Spelled.{IsSpellable, module_with}
use Rattle.run_rules.specs.declared.session.Session.{Session}
use Rattle.run_rules.specs.Modules.{module_trace}
use Rattle.dylink_out.specs.Loading.{Step}
use Rattle.output_module.specs.link_worlds.link_rules.Program.{Program, Part}
use Rattle.output_module.specs.link_worlds.link_rules.Marks.{live}
use Rattle.output_module.specs.link_worlds.link_rules.Keys.{FunctionKey, outside, linker_function, stub, own, is_function_at}
use Rattle.output_module.specs.link_worlds.link_rules.Values.{Layout}
use Rattle.output_module.specs.link_worlds.link_rules.Output.{layout, image, source_windows, held, defined}
use Rattle.output_module.specs.link_worlds.link_rules.Loader.{words}
use Rattle.output_module.specs.link_worlds.link_rules.LinkOf.{output_bytes}
use Rattle.output_module.specs.link_worlds.Bodies.{no_body, bare, part_in, linked_calls}
use Rattle.output_module.specs.link_worlds.Sound.{same_part}
use Rattle.output_module.specs.Outputs.{IsCoded}
use Rattle.shared_module.specs.Applied.{applied, steps_of, StepFits}

-- ---- the output as a module

abbrev pub shared_lay : Program → List InputSymbol → Layout
shared_lay p exports = layout Shared p (live p exports) exports

-- The body of a function of the output, by its key: an import has none, the linker's own functions are the one that calls the init functions
-- and the one that makes addresses right, and a stub is `unreachable` (0x00) and `end` (0x0B).
abbrev pub shared_source : Program → Layout → List Part → FunctionKey → Body
shared_source p l parts (outside k) = no_body
shared_source p l parts (linker_function k) = if k == call_ctors then linked_calls p l (find (is_function_at 0 k) parts) else applied (words Shared p parts l)
shared_source p l parts (stub name) = record { locals = []; code = bare (instrs.Plain 0x00) ∷ bare (instrs.Plain 0x0B) ∷ [] }
shared_source p l parts (own input index) = part_in Shared l p (find (is_function_at input index) parts)

abbrev pub shared_bodies : Program → List Part → List InputSymbol → Layout → List Body
shared_bodies p parts exports l = map (shared_source p l parts) (defined Shared p parts exports l)

-- The output's tree, each window of code written, and 0 in each window of data.
abbrev pub shared_tree : Program → List Part → List InputSymbol → Layout → Tree
shared_tree p parts exports l = tree_filled (map (map patch_of) (held Shared (source_windows Shared p parts exports l))) (tree_of p.files (image Shared p parts exports l))

unfoldable pub shared_by : Program → List Part → List InputSymbol → Layout → Module
shared_by p parts exports l = module_with (shared_bodies p parts exports l) (shared_tree p parts exports l)

-- The output, with its bodies as instructions.
abbrev pub shared_module : Program → List InputSymbol → Module
shared_module p exports = shared_by p (live p exports) exports (shared_lay p exports)

-- ---- what is asked of an output to be read, and what its bytes are then

pub record IsSharedWritten (p : Program) (exports : List InputSymbol) : Type 0 where
  -- no two parts have one chunk
  pub apart : Apart same_part p.parts
  -- each live function of an object is a body with its references
  pub coded : (part : Part) → Has (live p exports) part → part.chunk.kind ≡ 0 → (part.chunk.input ≡ 0 → ⊥) → IsCoded p part
  -- the numbers in the function that makes addresses right have 32 bits
  pub stored : (x : Step) → Has (steps_of (words Shared p (live p exports) (shared_lay p exports))) x → StepFits x
  pub few : length (shared_lay p exports).numbers.functions < 2 ^ 32
  pub spellable : IsSpellable (shared_tree p (live p exports) exports (shared_lay p exports))

-- What the output's bytes spell by the grammar of modules (Core 5.5), and nothing else: the output as a tree, its live functions with numbers
-- for their references, but for the places of instructions, which bytes alone give. It gives the traces of that tree.
pub record IsSharedRead (p : Program) (exports : List InputSymbol) (bytes : List ℕ) : Type 0 where
  pub is : Module
  pub read : module_of bytes ≡ Ok is
  pub spelled : IsModule is bytes
  pub only : (other : Module) → IsModule other bytes → other ≡ is
  pub linked : SameButPlaces (shared_module p exports) is
  pub runs : (s : Session) (n : ℕ) → module_trace s is n ≡ module_trace s (shared_module p exports) n

abbrev pub SharedOutputIsRead : Type 0
SharedOutputIsRead = (p : Program) (exports : List InputSymbol) → IsSharedWritten p exports
    → IsSharedRead p exports (output_bytes Shared p (image Shared p (live p exports) exports (shared_lay p exports)) (source_windows Shared p (live p exports) exports (shared_lay p exports)))

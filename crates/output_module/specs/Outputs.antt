-- The output's bytes are read as its module. The reader gives places that the definition of the output has not, and a run looks at none.
use Rattle.std.specs.Prelude.{◌≡◌, ℕ, ◌<◌, ◌^◌, List, length, true, Ok}
use Rattle.list_places.specs.Has.{Has}
use Rattle.wasm_instr.specs.declared.body.Body.{Body}
use Rattle.wasm_instr.specs.Bodies.{SpellsBody}
use Rattle.wasm_module.specs.declared.structure.Module.{Module}
use Rattle.wasm_module.specs.Modules.{IsModule, SameButPlaces}
use Rattle.wasm_module.specs.ModuleReading.{module_of}
use Rattle.body_windows.specs.Immediates.{immediates}
use Rattle.made_symbols.specs.declared.mode.Mode.TheVariants.{Plain}
use Rattle.name_rules.specs.Entries.{InputSymbol}
use Rattle.image_emit.specs.Spelled.{IsSpellable}
use Rattle.run_rules.specs.declared.session.Session.{Session}
use Rattle.run_rules.specs.Modules.{module_trace}
use Rattle.link_worlds.specs.link_rules.Program.{Program, Part, Named}
use Rattle.link_worlds.specs.link_rules.Marks.{live}
use Rattle.link_worlds.specs.link_rules.Keys.{is_function_at}
use Rattle.link_worlds.specs.link_rules.Values.{Layout, part_bytes}
use Rattle.link_worlds.specs.link_rules.Output.{image, source_windows}
use Rattle.link_worlds.specs.link_rules.LinkOf.{output_bytes}
use Rattle.link_worlds.specs.Worlds.{layout_of, linked_tree, linked_module}
use Rattle.output_module.specs.Filled.{AllStandOn, names_in}
use Rattle.link_worlds.specs.Sound.{Sound}
use Rattle.std.specs.Prelude.{Option}

-- A function of an object: its bytes are a body, and its references stand on the body's immediates.
pub record IsCoded (p : Program) (part : Part) : Type 0 where
  pub body : Body
  pub stands : List (Option Named)
  pub spelled : SpellsBody body (part_bytes p part)
  pub on : AllStandOn (immediates body.code) stands
  pub named : part.named ≡ names_in stands

-- What is asked of an output to be read.
pub record IsWritten (p : Program) (exports : List InputSymbol) (l : Layout) : Type 0 where
  pub sound : Sound p
  pub coded : (part : Part) → Has (live p exports) part → part.chunk.kind ≡ 0 → (part.chunk.input ≡ 0 → ⊥) → IsCoded p part
  -- of the linker's functions a plain output has the one that calls the init functions
  pub made : (part : Part) (n : ℕ) → Has (live p exports) part → is_function_at 0 n part ≡ true → n ≡ 0
  pub few : length l.numbers.functions < 2 ^ 32
  pub spellable : IsSpellable (linked_tree p (live p exports) exports l)

-- What the output's bytes spell by the grammar of modules (Core 5.5), and nothing else: the output as a tree, its live functions with numbers
-- for their references, but for the places of instructions, which bytes alone give. It gives the traces of that tree.
pub record IsRead (p : Program) (exports : List InputSymbol) (bytes : List ℕ) : Type 0 where
  pub is : Module
  pub read : module_of bytes ≡ Ok is
  pub spelled : IsModule is bytes
  pub only : (other : Module) → IsModule other bytes → other ≡ is
  pub linked : SameButPlaces (linked_module p exports) is
  pub runs : (s : Session) (n : ℕ) → module_trace s is n ≡ module_trace s (linked_module p exports) n

abbrev pub OutputIsRead : Type 0
OutputIsRead = (p : Program) (exports : List InputSymbol) → IsWritten p exports (layout_of p exports)
    → IsRead p exports (output_bytes Plain p (image Plain p (live p exports) exports (layout_of p exports)) (source_windows Plain p (live p exports) exports (layout_of p exports)))

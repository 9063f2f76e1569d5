-- The output runs as the plan and the files tell, said of a program for which all is given that a link makes sure of.
use Rattle.std.specs.Prelude.{◌≡◌, ℕ, ◌<◌, ◌^◌, List, length, true, Ok}
use Rattle.list_places.specs.Has.{Has}
use Rattle.wasm_instr.specs.declared.body.Placed.{Placed}
use Rattle.wasm_module.specs.declared.structure.Module.{Module}
use Rattle.wasm_module.specs.Modules.{IsModule, SameButPlaces}
use Rattle.wasm_module.specs.ModuleReading.{module_of}
use Rattle.made_symbols.specs.declared.mode.Mode.TheVariants.{Plain}
use Rattle.name_rules.specs.Entries.{InputSymbol}
use Rattle.image_emit.specs.Spelled.{IsSpellable}
use Rattle.run_rules.specs.declared.session.Session.{Session}
use Rattle.run_rules.specs.Modules.{module_trace, fits_session}
use Rattle.link_output.specs.link_rules.Program.{Program, Part, Ref, refs}
use Rattle.link_output.specs.link_rules.Marks.{live}
use Rattle.link_output.specs.link_rules.Keys.{is_function_at}
use Rattle.link_output.specs.link_rules.Output.{image, source_windows}
use Rattle.link_output.specs.link_rules.LinkOf.{output_bytes}
use Rattle.link_facts.specs.link_worlds.Worlds.{layout_of, linked_module, linked_tree, plan_trace}
use Rattle.link_facts.specs.link_worlds.Sound.{Sound, SoundExports, IsGlobalPart}
use Rattle.link_facts.specs.link_worlds.Statements.{Holds}
use Rattle.link_facts.specs.output_module.Filled.{Reads, names_in}
use Rattle.link_facts.specs.output_module.Outputs.{IsCoded}
use Rattle.link_facts.specs.Faults.{Measured, NoFault, Enough}

-- A function of an object whose instructions read the addresses that they take from cells.
pub record IsRun (p : Program) (part : Part) : Type 0 where
  pub coded : IsCoded p part
  pub reads : (x : Placed) → Has coded.body.code x → Reads (names_in coded.stands) x

-- What a link that is accepted makes sure of.
pub record IsAccepted (p : Program) (exports : List InputSymbol) : Type 0 where
  pub sound : Sound p
  pub exported : SoundExports p exports
  pub measured : Measured p exports
  pub no_fault : NoFault p exports (layout_of p exports)
  -- each live function of an object is a body with its references
  pub functions : (part : Part) → Has (live p exports) part → part.chunk.kind ≡ 0 → (part.chunk.input ≡ 0 → ⊥) → IsRun p part
  -- the linker's functions call what they refer to, and a plain output has one
  pub calls : (part : Part) (ref : Ref) → Has (live p exports) part → part.chunk.input ≡ 0 → Has (refs part) ref → ref.kind ≡ 0
  pub made : (part : Part) (n : ℕ) → Has (live p exports) part → is_function_at 0 n part ≡ true → n ≡ 0
  -- globals of objects begin with constants
  pub constants : (part : Part) → Has (live p exports) part → part.chunk.kind ≡ 2 → (part.chunk.input ≡ 0 → ⊥) → IsGlobalPart part.content
  -- the output can be written
  pub few : length (layout_of p exports).numbers.functions < 2 ^ 32
  pub spellable : IsSpellable (linked_tree p (live p exports) exports (layout_of p exports))

-- The bytes spell one module by the grammar of modules (Core 5.5): the live functions of the program with numbers for their references, and
-- nothing dead (`linked_module`), but for places. It gives the traces of the plan and the files, and its segments fit its table and its memory.
-- The memory holds each live segment of the objects, also those of zeros, of which the module has none.
pub record Gives (p : Program) (exports : List InputSymbol) (bytes : List ℕ) : Type 0 where
  pub is : Module
  pub read : module_of bytes ≡ Ok is
  pub spelled : IsModule is bytes
  pub only : (other : Module) → IsModule other bytes → other ≡ is
  pub linked : SameButPlaces (linked_module p exports) is
  pub runs : (s : Session) (n : ℕ) → Enough s (layout_of p exports) → plan_trace s p exports n ≡ module_trace s is n
  pub fits : (s : Session) → Enough s (layout_of p exports) → fits_session s is ≡ true
  pub holds : (s : Session) → Enough s (layout_of p exports) → Holds s p exports (layout_of p exports)

abbrev pub OutputRuns : Type 0
OutputRuns = (p : Program) (exports : List InputSymbol) → IsAccepted p exports
    → Gives p exports (output_bytes Plain p (image Plain p (live p exports) exports (layout_of p exports)) (source_windows Plain p (live p exports) exports (layout_of p exports)))

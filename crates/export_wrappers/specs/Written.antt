-- What is written: the kept bytes as they are, with other sections of functions, exports and code between them.
use Rattle.std.specs.Prelude.{◌≡◌, ℕ, ◌<◌, ◌^◌, List, [], ◌∷◌, ◌++◌, length}
use Rattle.wasm_module.specs.wasm_instr.wasm_grammar.Grammar.{SpellsU32, SpellsItself, SpellsSized, SpellsMany, SpellsVector, Then}
use Rattle.wasm_module.specs.wasm_instr.wasm_grammar.Writers.{HasSpelling}
use Rattle.wasm_module.specs.wasm_instr.declared.body.Body.{Body}
use Rattle.wasm_module.specs.wasm_instr.Bodies.{SpellsBody}
use Rattle.wasm_module.specs.declared.parts.Export.{Export}
use Rattle.wasm_module.specs.declared.structure.Module.{Module}
use Rattle.wasm_module.specs.Parts.{SpellsExport}
use Rattle.wasm_module.specs.Sections.{SpellsSection}
use Rattle.wasm_module.specs.Modules.{IsModule}
use Rattle.export_wrappers.specs.Cuts.{Kept, Cut}
use Rattle.export_wrappers.specs.Wrapped.{Step, call, argument}

-- The new bytes are the old ones and a spelling behind them.
pub record Puts (Spelled : List ℕ → Type 0) (old new : List ℕ) : Type 0 where
  pub text : List ℕ
  pub spells : Spelled text
  pub parts : new ≡ old ++ text

-- A function's code: the size of its body, and the body (Core 5.5.13).
abbrev pub SpellsCode : Body → List ℕ → Type 0
SpellsCode b = SpellsSized (SpellsBody b)

-- The cut module with these functions, exports and bodies.
abbrev pub Spliced : Kept → List ℕ → List Export → List Body → List ℕ → Type 0
Spliced k functions exports bodies =
    Then (SpellsItself k.before) (Then (SpellsSection 3 [] (SpellsVector SpellsU32) functions)
    (Then (SpellsItself k.between) (Then (SpellsSection 7 [] (SpellsVector SpellsExport) exports)
    (Then (SpellsItself k.after) (Then (SpellsSection 10 [] (SpellsVector SpellsCode) bodies)
    (SpellsItself k.rest))))))

-- The module, with these functions, exports and bodies.
abbrev pub changed : Module → List ℕ → List Export → List Body → Module
changed m functions exports bodies = record {
  types = m.types;
  imports = m.imports;
  functions = functions;
  tables = m.tables;
  memories = m.memories;
  globals = m.globals;
  exports = exports;
  elements = m.elements;
  data_count = m.data_count;
  bodies = bodies;
  data_segments = m.data_segments;
}

-- It is this module that was cut, and with other sections it is the same one but for what they say.
pub record IsCut (m : Module) (c : Cut) : Type 0 where
  pub types : c.types ≡ m.types
  pub imports : c.imports ≡ m.imports
  pub functions : c.functions ≡ m.functions
  pub exports : c.exports ≡ m.exports
  pub same : length m.functions ≡ length m.bodies
  pub count : length m.bodies ≡ c.kept.count
  pub codes : SpellsMany SpellsCode m.bodies c.kept.bodies
  pub numbers : HasSpelling (SpellsMany SpellsU32 m.functions)
  pub names : HasSpelling (SpellsMany SpellsExport m.exports)
  pub joins : (functions : List ℕ) (exports : List Export) (bodies : List Body) (out : List ℕ) → length functions ≡ length bodies → Spliced c.kept functions exports bodies out
      → IsModule (changed m functions exports bodies) out

-- The number of a step is a u32.
abbrev pub FitsStep : Step → Type 0
FitsStep (call function) = function < 2 ^ 32
FitsStep (argument local) = local < 2 ^ 32

abbrev pub FitSteps : List Step → Type 0
FitSteps [] = Unit {0}
FitSteps (s ∷ ss) = FitsStep s × FitSteps ss

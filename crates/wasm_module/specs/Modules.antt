-- Modules: which bytes are one (WebAssembly Core Specification 2.0, sections 5.5.2 to 5.5.16).
use Rattle.std.specs.Prelude.{◌≡◌, ℕ, true, List, [], length, map, Option, Some, None}
use Rattle.wasm_instr.specs.wasm_grammar.Grammar.{SpellsU32, SpellsItself, SpellsSized, SpellsVector, Then}
use Rattle.wasm_instr.specs.wasm_types.Types.{SpellsFuncType, SpellsImport, SpellsTableType, SpellsLimits}
use Rattle.wasm_instr.specs.declared.instr.Instr.{Instr}
use Rattle.wasm_instr.specs.declared.body.LocalRun.{LocalRun}
use Rattle.wasm_instr.specs.declared.body.Body.{Body}
use Rattle.wasm_instr.specs.Bodies.{SpellsBody}
use Rattle.wasm_instr.specs.Placeless.{instrs_of}
use Rattle.wasm_sections.specs.Sections.{header}
use Rattle.wasm_module.specs.declared.structure.Module.{Module}
use Rattle.wasm_module.specs.Parts.{SpellsGlobal, SpellsExport, SpellsElement, SpellsDataSegment}
use Rattle.wasm_module.specs.Sections.{AreCustoms, SpellsSection, SpellsGiven}

-- The sections in their order, custom sections anywhere between them (Core 5.5.16). A start section
-- is none of them: it isn't linked. The first argument says which bytes spell a body.
abbrev pub SpellsSections : (Body → List ℕ → Type 0) → Module → List ℕ → Type 0
SpellsSections Code m =
    Then AreCustoms (Then (SpellsSection 1 [] (SpellsVector SpellsFuncType) m.types)
    (Then AreCustoms (Then (SpellsSection 2 [] (SpellsVector SpellsImport) m.imports)
    (Then AreCustoms (Then (SpellsSection 3 [] (SpellsVector SpellsU32) m.functions)
    (Then AreCustoms (Then (SpellsSection 4 [] (SpellsVector SpellsTableType) m.tables)
    (Then AreCustoms (Then (SpellsSection 5 [] (SpellsVector SpellsLimits) m.memories)
    (Then AreCustoms (Then (SpellsSection 6 [] (SpellsVector (SpellsGlobal true)) m.globals)
    (Then AreCustoms (Then (SpellsSection 7 [] (SpellsVector SpellsExport) m.exports)
    (Then AreCustoms (Then (SpellsSection 9 [] (SpellsVector (SpellsElement true)) m.elements)
    (Then AreCustoms (Then (SpellsSection 12 None SpellsGiven m.data_count)
    (Then AreCustoms (Then (SpellsSection 10 [] (SpellsVector (λ b. SpellsSized (Code b))) m.bodies)
    (Then AreCustoms (Then (SpellsSection 11 [] (SpellsVector (SpellsDataSegment true)) m.data_segments)
    AreCustoms)))))))))))))))))))))

-- A data count that is given is the number of data segments.
abbrev pub IsCount : Option ℕ → ℕ → Type 0
IsCount None n = Unit {0}
IsCount (Some count) n = count ≡ n

-- The function and the code section have equally many entries, and the data count is true (Core
-- 5.5.16).
pub record AddsUp (m : Module) : Type 0 where
  pub code : length m.functions ≡ length m.bodies
  pub counted : IsCount m.data_count (length m.data_segments)

-- A module: the header, and the sections (Core 5.5.16).
abbrev pub IsModuleOf : (Body → List ℕ → Type 0) → Module → List ℕ → Type 0
IsModuleOf Code m bytes = AddsUp m × Then (SpellsItself header) (SpellsSections Code m) bytes

abbrev pub IsModule : Module → List ℕ → Type 0
IsModule = IsModuleOf SpellsBody

-- A body without the places of its instructions.
abbrev pub placeless : Body → List LocalRun × List Instr
placeless body = (body.locals, instrs_of body.code)

-- Two modules are the same but for the places in their bodies.
pub record SameButPlaces (m other : Module) : Type 0 where
  pub rest : other ≡ record m { bodies = other.bodies }
  pub bodies : map placeless other.bodies ≡ map placeless m.bodies

-- The bytes are a module, or the same one but for the places in its bodies.
abbrev pub IsModuleButPlaces : Module → List ℕ → Type 0
IsModuleButPlaces m bytes = (other : Module) × SameButPlaces m other × IsModule other bytes

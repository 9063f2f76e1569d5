-- The section `dylink.0`: which bytes spell it, behind the section's name (tool conventions, DynamicLinking.md, "The dylink.0 Section").
use Rattle.std.specs.Prelude.{◌≡◌, ℕ, List, [], ◌∷◌}
use Rattle.wasm_grammar.specs.Grammar.{SpellsU32, SpellsName, SpellsMany, SpellsVector, Then}
use Rattle.wasm_grammar.specs.Subsections.{Subsection, SpellsSubsection, payloads_of}
use Rattle.dylink_out.specs.declared.dylink.Dylink.{Dylink}
use Rattle.dylink_out.specs.declared.dylink.Sizes.{Sizes}
use Rattle.dylink_out.specs.declared.dylink.ExportInfo.{ExportInfo}
use Rattle.dylink_out.specs.declared.dylink.ImportInfo.{ImportInfo}

-- ---- what a subsection says

-- Subsection 1: memory size, memory alignment, table size, table alignment; alignments as exponents of 2.
abbrev pub SpellsSizes : Sizes → List ℕ → Type 0
SpellsSizes s = Then (SpellsU32 s.memory_size) (Then (SpellsU32 s.memory_align) (Then (SpellsU32 s.table_size) (SpellsU32 s.table_align)))

-- An item of subsection 3: a name and flags.
abbrev pub SpellsExportInfo : ExportInfo → List ℕ → Type 0
SpellsExportInfo e = Then (SpellsName e.name) (SpellsU32 e.flags)

-- An item of subsection 4: a module's name, a field and flags.
abbrev pub SpellsImportInfo : ImportInfo → List ℕ → Type 0
SpellsImportInfo i = Then (SpellsName i.«module») (Then (SpellsName i.field) (SpellsU32 i.flags))

-- ---- subsections

-- These payloads say this: one spells it, none stands for what is said where the subsection is absent, and more there may not be.
abbrev pub IsSaid : {A : Type 0} → (A → List ℕ → Type 0) → A → List (List ℕ) → A → Type 0
IsSaid Item absent [] x = x ≡ absent
IsSaid Item absent (payload ∷ []) x = Item x payload
IsSaid Item absent (payload ∷ other ∷ more) x = ⊥

abbrev pub no_sizes : Sizes
no_sizes = record { memory_size = 0; memory_align = 0; table_size = 0; table_align = 0 }

abbrev pub sizes_of : Dylink → Sizes
sizes_of d = record { memory_size = d.memory_size; memory_align = d.memory_align; table_size = d.table_size; table_align = d.table_align }

-- The payload, behind the section's name: subsections in any order. Types 1 (sizes), 2 (needed modules), 3 (exports) and 4 (imports)
-- come at most once each; other types are skipped, however often they come.
pub record SpellsDylink (d : Dylink) (bytes : List ℕ) : Type 0 where
  pub subsections : List Subsection
  pub spelled : SpellsMany SpellsSubsection subsections bytes
  pub sizes : IsSaid SpellsSizes no_sizes (payloads_of 1 subsections) (sizes_of d)
  pub needed : IsSaid (SpellsVector SpellsName) [] (payloads_of 2 subsections) d.needed
  pub exports : IsSaid (SpellsVector SpellsExportInfo) [] (payloads_of 3 subsections) d.exports
  pub imports : IsSaid (SpellsVector SpellsImportInfo) [] (payloads_of 4 subsections) d.imports

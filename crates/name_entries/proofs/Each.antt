-- The places of the imports of each kind, from those of the three kinds that symbols name.
use Rattle.std.proofs.Common.{◌≡◌, ℕ, false, List, [], ◌∷◌, length, take, map, filter, slice_get, Option, Some, refl, ap, ◌∙◌}
use Rattle.std.proofs.Math.Seq.{take-length}
use Rattle.name_rules.specs.object_file.wasm_types.declared.import.Import.{Import}
use Rattle.name_rules.specs.object_file.linking_section.declared.symbol.SymbolKind.{SymbolKind}
use Rattle.name_rules.specs.object_file.linking_section.declared.symbol.SymbolKind.TheVariants.{Function, Datum, GlobalVar, Section, Table}
use Rattle.name_rules.specs.object_file.object_rules.declared.spaces.ImportPlaces.{ImportPlaces}
use Rattle.name_rules.specs.object_file.object_rules.Spaces.{imports_of, ArePlaces}

none : (imports : List Import) → [] ≡ map {A = Import} {B = Option Import} (λ i. Some i) (filter (λ i. false) imports)
none [] = refl
none (i ∷ is) = none is

-- the places among the first imports
abbrev pub SoFar : List Import → ℕ → SymbolKind → List ℕ → Type 0
SoFar imports n kind places = map (slice_get imports) places ≡ map (λ i. Some i) (imports_of kind (take n imports))

pub for_each : (imports : List Import) (p : ImportPlaces) (n : ℕ) → n ≡ length imports → SoFar imports n Function p.functions
    → SoFar imports n Table p.tables → SoFar imports n GlobalVar p.globals
    → ArePlaces imports p
for_each imports p n counted functions tables globals Function = functions
    ∙ ap (λ is. map (λ i. Some i) (imports_of Function is)) (ap (λ n. take n imports) counted ∙ take-length imports)
for_each imports p n counted functions tables globals Datum = none imports
for_each imports p n counted functions tables globals GlobalVar = globals
    ∙ ap (λ is. map (λ i. Some i) (imports_of GlobalVar is)) (ap (λ n. take n imports) counted ∙ take-length imports)
for_each imports p n counted functions tables globals Section = none imports
for_each imports p n counted functions tables globals Table = tables
    ∙ ap (λ is. map (λ i. Some i) (imports_of Table is)) (ap (λ n. take n imports) counted ∙ take-length imports)

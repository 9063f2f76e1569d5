-- The places of the imports of each kind.
use Rattle.std.proofs.Common.{◌≡◌, false, List, [], ◌∷◌, map, filter, Option, Some, refl}
use Rattle.object_parts.specs.wasm_types.declared.import.Import.{Import}
use Rattle.object_parts.specs.linking_section.declared.symbol.SymbolKind.TheVariants.{Function, Datum, GlobalVar, Section, Table}
use Rattle.object_rules.specs.declared.spaces.ImportPlaces.{ImportPlaces}
use Rattle.object_rules.specs.Spaces.{HoldPlaces, ArePlaces}

none : (imports : List Import) → [] ≡ map {A = Import} {B = Option Import} (λ i. Some i) (filter (λ i. false) imports)
none [] = refl
none (i ∷ is) = none is

pub for_each : (imports : List Import) (p : ImportPlaces) → HoldPlaces imports Function p.functions → HoldPlaces imports Table p.tables → HoldPlaces imports GlobalVar p.globals → ArePlaces imports p
for_each imports p functions tables globals Function = functions
for_each imports p functions tables globals Datum = none imports
for_each imports p functions tables globals GlobalVar = globals
for_each imports p functions tables globals Section = none imports
for_each imports p functions tables globals Table = tables

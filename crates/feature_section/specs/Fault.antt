-- Faults of the call that reads a payload.
use Rattle.std.specs.Prelude.{◌≡◌, List, Result, Ok, Err}
use Rattle.wasm_grammar.specs.declared.fault.ReadFault.{ReadFault}
use Rattle.wasm_grammar.specs.declared.fault.ReadFault.TheVariants as reads
use Rattle.wasm_grammar.specs.declared.fault.Stop.{Stop}
use Rattle.feature_section.specs.declared.fault.FeaturesError.{FeaturesError}
use Rattle.feature_section.specs.declared.fault.FeaturesError.TheVariants.{NotFeatures, OutOfMemory}
use Rattle.feature_section.specs.declared.feature.Feature.{Feature}

-- A fault with its place taken away.
abbrev pub features_fault : ReadFault → FeaturesError
features_fault (reads.Stopped stop) = NotFeatures
features_fault reads.OutOfMemory = OutOfMemory

-- The call answers these features, or wants memory.
abbrev pub GivesOnly : List Feature → Result (List Feature) FeaturesError → Type 0
GivesOnly features (Ok x) = x ≡ features
GivesOnly features (Err NotFeatures) = ⊥
GivesOnly features (Err OutOfMemory) = Unit {0}

-- What the call answered is what reading gives, but for the place, unless memory ran out.
abbrev pub Tells : Result (List Feature) FeaturesError → Result (List Feature) Stop → Type 0
Tells (Ok features) read = read ≡ Ok features
Tells (Err NotFeatures) read = (stop : Stop) × (read ≡ Err stop)
Tells (Err OutOfMemory) read = Unit {0}

-- What the call for a payload tells.
use Rattle.std.proofs.Common.{◌≡◌, ℕ, List, Result, Ok, Err}
use Rattle.wasm_grammar.specs.declared.fault.Stop.{Stop}
use Rattle.wasm_grammar.specs.declared.fault.ReadFault.{ReadFault}
use Rattle.wasm_grammar.specs.declared.fault.ReadFault.TheVariants.{Stopped, OutOfMemory}
use Rattle.wasm_grammar.specs.Fault.{Fails}
use Rattle.feature_section.specs.declared.feature.Feature.{Feature}
use Rattle.feature_section.specs.Fault.{features_fault, GivesOnly}
use Rattle.feature_section.specs.Payload.{SpellsFeatures}
use Rattle.feature_section.specs.Reading.{features_at}
use Rattle.feature_section.specs.PayloadLaws.{features_again}

never_both : (features : List Feature) (stop : Stop) (read : Result (List Feature) Stop) → read ≡ Ok features → read ≡ Err stop → ⊥
never_both features stop read a b = absurd cc

-- where the payload is spelled so, only want of memory is answered
pub memory_alone : (e : ReadFault) (end : ℕ) (bytes : List ℕ) → Fails e (features_at end bytes) → (features : List Feature) → SpellsFeatures features bytes → GivesOnly features (Err (features_fault e))
memory_alone (Stopped stop) end bytes f features spelled = never_both features stop (features_at end bytes) (features_again end bytes features spelled) f
memory_alone OutOfMemory end bytes f features spelled = tt

-- What the call for a payload alone tells.
use Rattle.std.proofs.Common.{ℕ, List, Result, Ok, Err, subst}
use Rattle.wasm_grammar.specs.declared.fault.Stop.{Stop}
use Rattle.wasm_grammar.specs.declared.fault.Stop.TheVariants.{Broken, Foreign}
use Rattle.wasm_grammar.specs.declared.fault.ReadFault.{ReadFault}
use Rattle.wasm_grammar.specs.declared.fault.ReadFault.TheVariants.{Stopped, OutOfMemory}
use Rattle.wasm_grammar.specs.Fault.{Fails}
use Rattle.linking_section.specs.declared.linking.Linking.{Linking}
use Rattle.linking_section.specs.Fault.{linking_fault, Tells}
use Rattle.linking_section.specs.Linking.{SpellsLinking}
use Rattle.linking_section.specs.Reading.{linking_at}
use Rattle.linking_section.specs.LinkingLaws.{linking_again}

pub fault_told : (e : ReadFault) (read : Result Linking Stop) → Fails e read → Tells (Err (linking_fault e)) read
fault_told (Stopped (Broken place)) read f = (place, f)
fault_told (Stopped (Foreign item)) read f = f
fault_told OutOfMemory read f = tt

-- where the payload is spelled so, only want of memory is answered
pub memory_alone : (e : ReadFault) (end : ℕ) (bytes : List ℕ) → Fails e (linking_at end bytes) → (l : Linking) → SpellsLinking l bytes → Tells (Err (linking_fault e)) (Ok l)
memory_alone e end bytes f l spelled = subst (Tells (Err (linking_fault e))) (linking_again end bytes l spelled) (fault_told e (linking_at end bytes) f)

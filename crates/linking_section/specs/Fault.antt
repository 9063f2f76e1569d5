-- Faults of the call that reads a payload alone: they name no place.
use Rattle.std.specs.Prelude.{◌≡◌, ℕ, Result, Ok, Err}
use Rattle.wasm_grammar.specs.declared.fault.Stop.{Stop}
use Rattle.wasm_grammar.specs.declared.fault.Stop.TheVariants as stops
use Rattle.wasm_grammar.specs.declared.fault.ReadFault.{ReadFault}
use Rattle.wasm_grammar.specs.declared.fault.ReadFault.TheVariants as reads
use Rattle.linking_section.specs.declared.fault.LinkingFault.{LinkingFault}
use Rattle.linking_section.specs.declared.fault.LinkingFault.TheVariants as faults
use Rattle.linking_section.specs.declared.linking.Linking.{Linking}

-- A fault with its place taken away.
abbrev pub linking_fault : ReadFault → LinkingFault
linking_fault (reads.Stopped (stops.Broken place)) = faults.NotLinking
linking_fault (reads.Stopped (stops.Foreign item)) = faults.Foreign item
linking_fault reads.OutOfMemory = faults.OutOfMemory

-- What the call answered is what reading gives, but for the place, unless memory ran out.
abbrev pub Tells : Result Linking LinkingFault → Result Linking Stop → Type 0
Tells (Ok l) read = read ≡ Ok l
Tells (Err faults.NotLinking) read = (place : ℕ) × (read ≡ Err (stops.Broken place))
Tells (Err (faults.Foreign item)) read = read ≡ Err (stops.Foreign item)
Tells (Err faults.OutOfMemory) read = Unit {0}

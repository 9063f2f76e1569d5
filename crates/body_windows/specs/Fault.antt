-- What the program answers where relocations and a body disagree.
use Rattle.std.specs.Prelude.{◌≡◌, List, Result, Ok, Err}
use Rattle.body_windows.specs.declared.operand.Operand.{Operand}
use Rattle.body_windows.specs.declared.fault.Mismatch.{Mismatch}
use Rattle.body_windows.specs.declared.fault.Mismatch.TheVariants as mismatches
use Rattle.body_windows.specs.declared.fault.WindowFault.{WindowFault}
use Rattle.body_windows.specs.declared.fault.WindowFault.TheVariants as faults

abbrev pub window_fault : Mismatch → WindowFault
window_fault (mismatches.Overlap place) = faults.Overlap place
window_fault (mismatches.OffImmediate place) = faults.OffImmediate place
window_fault (mismatches.BareIndex place) = faults.BareIndex place

-- What the call answered is what is said, unless memory ran out.
abbrev pub Tells : Result (List Operand) WindowFault → Result (List Operand) Mismatch → Type 0
Tells (Ok operands) said = said ≡ Ok operands
Tells (Err (faults.Overlap place)) said = said ≡ Err (mismatches.Overlap place)
Tells (Err (faults.OffImmediate place)) said = said ≡ Err (mismatches.OffImmediate place)
Tells (Err (faults.BareIndex place)) said = said ≡ Err (mismatches.BareIndex place)
Tells (Err faults.OutOfMemory) said = Unit {0}

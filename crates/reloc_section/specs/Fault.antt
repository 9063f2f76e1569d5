-- Faults of the call that reads a payload alone: they name no place.
use Rattle.std.specs.Prelude.{◌≡◌, ℕ, Result, Ok, Err}
use Rattle.wasm_grammar.specs.wl_base.declared.item.Item.{Item}
use Rattle.wasm_grammar.specs.wl_base.declared.item.Item.TheVariants as items
use Rattle.wasm_grammar.specs.declared.fault.Stop.{Stop}
use Rattle.wasm_grammar.specs.declared.fault.Stop.TheVariants as stops
use Rattle.wasm_grammar.specs.declared.fault.ReadFault.{ReadFault}
use Rattle.wasm_grammar.specs.declared.fault.ReadFault.TheVariants as reads
use Rattle.reloc_section.specs.declared.fault.RelocFault.{RelocFault}
use Rattle.reloc_section.specs.declared.fault.RelocFault.TheVariants as faults
use Rattle.reloc_section.specs.declared.section.RelocSection.{RelocSection}

-- The fault of a foreign item. Types of relocations are the only ones that reading comes to.
abbrev pub item_fault : Item → RelocFault
item_fault (items.RelocType kind) = faults.ForeignType kind
item_fault _ = faults.NotReloc

abbrev pub reloc_fault : ReadFault → RelocFault
reloc_fault (reads.Stopped (stops.Broken place)) = faults.NotReloc
reloc_fault (reads.Stopped (stops.Foreign item)) = item_fault item
reloc_fault reads.OutOfMemory = faults.OutOfMemory

-- What the call answered is what reading gives, but for the place, unless memory ran out.
abbrev pub Tells : Result RelocSection RelocFault → Result RelocSection Stop → Type 0
Tells (Ok section) read = read ≡ Ok section
Tells (Err faults.NotReloc) read = (place : ℕ) × (read ≡ Err (stops.Broken place))
Tells (Err (faults.ForeignType kind)) read = read ≡ Err (stops.Foreign (items.RelocType kind))
Tells (Err faults.OutOfMemory) read = Unit {0}

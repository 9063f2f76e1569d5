-- Worked words: the slot of a function in a window of data at offset 4, and in the own cell 5 the address of a foreign datum, whose cell is 3, and 8.
use Rattle.std.specs.Prelude.{◌≡◌, [], ◌∷◌, pos, refl}
use Rattle.wasm_instr.specs.declared.instr.Instr.TheVariants.{Plain, GlobalAt, Access, I32Const}
use Rattle.wasm_instr.specs.Placeless.{instrs_of}
use Rattle.dylink_out.specs.declared.word.WordPlace.TheVariants.{Window, Got}
use Rattle.dylink_out.specs.declared.word.WordValue.TheVariants.{OwnFunction, ForeignDatum}
use Rattle.shared_module.specs.Applied.{applied}

window_worked : instrs_of (applied (record { to = Window 4; value = OwnFunction 2 } ∷ [])).code
    ≡ GlobalAt 0x23 1 ∷ I32Const (pos 4) ∷ Plain 0x6A ∷ GlobalAt 0x23 2 ∷ I32Const (pos 2) ∷ Plain 0x6A ∷ Access 0x36 2 0 ∷ Plain 0x0B ∷ []
window_worked = refl

cell_worked : instrs_of (applied (record { to = Got 5; value = ForeignDatum 3 (pos 8) } ∷ [])).code ≡ GlobalAt 0x23 3 ∷ I32Const (pos 8) ∷ Plain 0x6A ∷ GlobalAt 0x24 5 ∷ Plain 0x0B ∷ []
cell_worked = refl

-- The operands of a body under its relocations, by looking up a relocation for each immediate.
--
-- Offsets of relocations count from the start of the code section's payload, and places of
-- immediates from the body's first byte, which stands at base. A window has five bytes.
use Rattle.std.specs.Prelude.{ℕ, ◌+◌, min, nat_lt, Bool, false, ◌==◌, if◌then◌else◌, List, [], ◌∷◌, map, Option, Some, None, Result}
use Rattle.std.specs.List.{list_any}
use Rattle.wasm_instr.specs.wl_base.Choice.{first_some, unless}
use Rattle.wasm_instr.specs.declared.body.Body.{Body}
use Rattle.reloc_section.specs.declared.entry.Reloc.{Reloc}
use Rattle.body_windows.specs.declared.operand.Operand.{Operand}
use Rattle.body_windows.specs.declared.fault.Mismatch.{Mismatch}
use Rattle.body_windows.specs.declared.fault.Mismatch.TheVariants.{Overlap, OffImmediate, BareIndex}
use Rattle.body_windows.specs.declared.immediate.Immediate.{Immediate}
use Rattle.body_windows.specs.Immediates.{immediates, needs_window, plain_operand, fills, operand_of}

-- ---- operands

-- The relocation at this offset, where there is one.
abbrev pub reloc_at : ℕ → List Reloc → Option Reloc
reloc_at offset [] = None
reloc_at offset (r ∷ rs) = if r.offset == offset then Some r else reloc_at offset rs

-- The operand at an immediate, by the relocation that was looked up.
abbrev pub operand_by : Immediate → Option Reloc → Operand
operand_by i None = plain_operand i.kind
operand_by i (Some r) = operand_of i r

abbrev pub operand_at : ℕ → List Reloc → Immediate → Operand
operand_at base relocs i = operand_by i (reloc_at (base + i.place) relocs)

-- ---- what is wrong

-- The offsets of the relocations that begin before the window of the one listed before them ends,
-- where the first number is the end of the last window.
abbrev pub overlaps_behind : ℕ → List Reloc → List ℕ
overlaps_behind end [] = []
overlaps_behind end (r ∷ rs) = if nat_lt r.offset end then r.offset ∷ overlaps_behind (r.offset + 5) rs else overlaps_behind (r.offset + 5) rs

-- The least of a number, where there is one, and more.
abbrev pub least_with : ℕ → Option ℕ → ℕ
least_with n None = n
least_with n (Some m) = min m n

abbrev pub least_from : Option ℕ → List ℕ → Option ℕ
least_from least [] = least
least_from least (n ∷ ns) = least_from (Some (least_with n least)) ns

-- The least offset of a window that overlaps one before it, or doesn't rise.
abbrev pub least_overlap : List Reloc → Option ℕ
least_overlap relocs = least_from None (overlaps_behind 0 relocs)

-- The first relocation whose window isn't an immediate of its type's kind.
abbrev pub first_off : ℕ → List Immediate → List Reloc → Option ℕ
first_off base is [] = None
first_off base is (r ∷ rs) = if list_any (fills base r) is then first_off base is rs else Some r.offset

-- Whether a relocation has to stand on the immediate, and none does.
abbrev pub is_bare : Immediate → Option Reloc → Bool
is_bare i None = needs_window i.kind
is_bare i (Some r) = false

-- The first immediate that has no relocation and has to have one.
abbrev pub first_bare : ℕ → List Reloc → List Immediate → Option ℕ
first_bare base relocs [] = None
first_bare base relocs (i ∷ is) = if is_bare i (reloc_at (base + i.place) relocs) then Some (base + i.place) else first_bare base relocs is

-- ---- all together

abbrev pub fault_with : (ℕ → Mismatch) → Option ℕ → Option Mismatch
fault_with fault None = None
fault_with fault (Some place) = Some (fault place)

-- The operands at these immediates, or the first fault: of overlaps, windows that are no immediate,
-- and bare indices.
unfoldable pub operands_at : ℕ → List Reloc → List Immediate → Result (List Operand) Mismatch
operands_at base relocs is =
    unless (first_some (fault_with Overlap (least_overlap relocs) ∷ fault_with OffImmediate (first_off base is relocs) ∷ fault_with BareIndex (first_bare base relocs is) ∷ []))
    (map (operand_at base relocs) is)

-- The operands of a body, or the first fault.
abbrev pub windows_of : ℕ → List Reloc → Body → Result (List Operand) Mismatch
windows_of base relocs body = operands_at base relocs (immediates body.code)

-- The words of lines that depend on what a fault tells.
use Rattle.std.specs.Prelude.{ℕ, ◌==◌, List, Bool, false, if◌then◌else◌, Option, Some, None, bytes_eq, codes}
use Rattle.wl_base.specs.declared.fault.What.{What}
use Rattle.wl_base.specs.declared.fault.What.TheVariants.{DataEnd, HeapBase, MaxMemory, TableSize, OutputLength, Reference}

-- Whether a name is the entry's.
abbrev pub is_entry : Option (List ℕ) → List ℕ → Bool
is_entry None name = false
is_entry (Some entry) name = bytes_eq entry name

-- What stands in front of the number that passes its limit, and behind it.
abbrev pub overflow_front : What → List ℕ
overflow_front DataEnd = codes "memory too small for data, "
overflow_front HeapBase = codes "memory too small, "
overflow_front MaxMemory = codes "maximum memory too small, "
overflow_front TableSize = codes "table too large, "
overflow_front OutputLength = codes "output too large, "
overflow_front Reference = codes "relocation out of range: "

abbrev pub overflow_end : What → List ℕ
overflow_end DataEnd = codes " bytes needed\n"
overflow_end HeapBase = codes " bytes needed\n"
overflow_end MaxMemory = codes " bytes needed\n"
overflow_end TableSize = codes " slots needed\n"
overflow_end OutputLength = codes " bytes needed\n"
overflow_end Reference = codes "\n"

-- The name of a relocation that needs a fixed address, as the object format has it.
abbrev pub relocation_name : ℕ → List ℕ
relocation_name kind =
    if kind == 1 then codes "R_WASM_TABLE_INDEX_SLEB"
    else if kind == 3 then codes "R_WASM_MEMORY_ADDR_LEB"
    else if kind == 4 then codes "R_WASM_MEMORY_ADDR_SLEB"
    else if kind == 11 then codes "R_WASM_MEMORY_ADDR_REL_SLEB"
    else if kind == 12 then codes "R_WASM_TABLE_INDEX_REL_SLEB"
    else codes "of an absolute address"

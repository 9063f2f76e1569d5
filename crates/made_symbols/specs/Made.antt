-- The linker-made symbols of each mode, in their order.
use Rattle.std.specs.Prelude.{ℕ, List, [], ◌∷◌, Bool, true, false, codes}
use Rattle.std.specs.List.{slice_index_or}
use Rattle.linking_section.specs.declared.symbol.SymbolKind.{SymbolKind}
use Rattle.linking_section.specs.declared.symbol.SymbolKind.TheVariants.{Function, Datum, GlobalVar, Table}
use Rattle.made_symbols.specs.declared.mode.Mode.{Mode}
use Rattle.made_symbols.specs.declared.mode.Mode.TheVariants.{Plain, Shared}
use Rattle.made_symbols.specs.declared.roles.Role.{Role}
use Rattle.made_symbols.specs.declared.roles.Role.TheVariants.{CallCtors, ApplyDataRelocs, StackPointer, MemoryBase, TableBase, IndirectFunctionTable, HeapBase, DataEnd, GlobalBase, DsoHandle, StackLow, StackHigh, HeapEnd}

-- A symbol that the linker makes, and what it stands for. Its class is 2 where it is a datum, which yields to a definition of an object, and else 0, as of a
-- strong definition. A global tells whether it may be written.
pub record MadeSymbol : Type 0 where
  pub name : List ℕ
  pub role : Role
  pub kind : SymbolKind
  pub class : ℕ
  pub changes : Bool

abbrev pub made_function : Role → List ℕ → MadeSymbol
made_function role name = record { name = name; role = role; kind = Function; class = 0; changes = false }

abbrev pub made_global : Role → Bool → List ℕ → MadeSymbol
made_global role changes name = record { name = name; role = role; kind = GlobalVar; class = 0; changes = changes }

abbrev pub made_table : Role → List ℕ → MadeSymbol
made_table role name = record { name = name; role = role; kind = Table; class = 0; changes = false }

abbrev pub made_datum : Role → List ℕ → MadeSymbol
made_datum role name = record { name = name; role = role; kind = Datum; class = 2; changes = false }

abbrev pub made : Mode → List MadeSymbol
made Plain =
    made_function CallCtors (codes "__wasm_call_ctors")
    ∷ made_global StackPointer true (codes "__stack_pointer")
    ∷ made_global MemoryBase false (codes "__memory_base")
    ∷ made_global TableBase false (codes "__table_base")
    ∷ made_table IndirectFunctionTable (codes "__indirect_function_table")
    ∷ made_datum HeapBase (codes "__heap_base")
    ∷ made_datum DataEnd (codes "__data_end")
    ∷ made_datum GlobalBase (codes "__global_base")
    ∷ made_datum DsoHandle (codes "__dso_handle")
    ∷ made_datum StackLow (codes "__stack_low")
    ∷ made_datum StackHigh (codes "__stack_high")
    ∷ made_datum HeapEnd (codes "__heap_end")
    ∷ []
made Shared =
    made_function CallCtors (codes "__wasm_call_ctors")
    ∷ made_function ApplyDataRelocs (codes "__wasm_apply_data_relocs")
    ∷ made_global StackPointer true (codes "__stack_pointer")
    ∷ made_global MemoryBase false (codes "__memory_base")
    ∷ made_global TableBase false (codes "__table_base")
    ∷ made_table IndirectFunctionTable (codes "__indirect_function_table")
    ∷ made_datum DsoHandle (codes "__dso_handle")
    ∷ []

-- The symbol of a number below the count.
abbrev pub made_at : Mode → ℕ → MadeSymbol
made_at mode k = slice_index_or (made mode) k (made_function CallCtors [])

-- Numbers that rules name: of `__wasm_call_ctors`, in both modes; of `__stack_pointer`, in a plain output; and of
-- `__wasm_apply_data_relocs`, in a shared one.
abbrev pub call_ctors : ℕ
call_ctors = 0

abbrev pub stack_pointer : ℕ
stack_pointer = 1

abbrev pub apply_data_relocs : ℕ
apply_data_relocs = 1

-- What the symbol of a number below the count stands for.
abbrev pub made_role : Mode → ℕ → Role
made_role mode k = (made_at mode k).role

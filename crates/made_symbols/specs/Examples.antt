-- Worked examples, and what holds of the lists as they stand.
use Rattle.std.specs.Prelude.{◌≡◌, List, [], ◌∷◌, length, map, true, codes, bytes_eq}
use Rattle.std.proofs.Common.{refl}
use Rattle.linking_section.specs.declared.symbol.SymbolKind.TheVariants.{GlobalVar}
use Rattle.wasm_grammar.specs.wl_base.Choice.{distinct}
use Rattle.made_symbols.specs.declared.mode.Mode.{Mode}
use Rattle.made_symbols.specs.declared.mode.Mode.TheVariants.{Plain, Shared}
use Rattle.made_symbols.specs.declared.roles.Role.{Role}
use Rattle.made_symbols.specs.declared.roles.Role.TheVariants.{CallCtors, ApplyDataRelocs, StackPointer, MemoryBase, TableBase, IndirectFunctionTable, HeapBase, DataEnd, GlobalBase, DsoHandle, StackLow, StackHigh, HeapEnd}
use Rattle.made_symbols.specs.Made.{made, made_at, made_role, call_ctors, apply_data_relocs}
use Rattle.made_symbols.specs.declared.table.TheConstants.{STACK_POINTER}
use Rattle.made_symbols.specs.Made.{stack_pointer as stack_pointer_number}

-- The stack pointer of a plain module is symbol 1, and may be written.
stack_pointer : made_at Plain 1 ≡ record { name = codes "__stack_pointer"; role = StackPointer; kind = GlobalVar; class = 0; changes = true }
stack_pointer = refl

-- In a shared module a function stands before it.
stack_pointer_shared : made_at Shared 2 ≡ made_at Plain 1
stack_pointer_shared = refl

-- What each stands for, by number.
roles_plain : map (λ m. m.role) (made Plain)
    ≡ CallCtors ∷ StackPointer ∷ MemoryBase ∷ TableBase ∷ IndirectFunctionTable ∷ HeapBase ∷ DataEnd ∷ GlobalBase ∷ DsoHandle ∷ StackLow ∷ StackHigh ∷ HeapEnd ∷ []
roles_plain = refl

roles_shared : map (λ m. m.role) (made Shared)
    ≡ CallCtors ∷ ApplyDataRelocs ∷ StackPointer ∷ MemoryBase ∷ TableBase ∷ IndirectFunctionTable ∷ DsoHandle ∷ []
roles_shared = refl

last_role : made_role Plain 11 ≡ HeapEnd
last_role = refl

-- The numbers that rules name are those of their roles.
call_ctors_is : (mode : Mode) → made_role mode call_ctors ≡ CallCtors
call_ctors_is Plain = refl
call_ctors_is Shared = refl

stack_pointer_is : made_role Plain stack_pointer_number ≡ StackPointer
stack_pointer_is = refl

stack_pointer_in_code : STACK_POINTER ≡ stack_pointer_number
stack_pointer_in_code = refl

apply_data_relocs_is : made_role Shared apply_data_relocs ≡ ApplyDataRelocs
apply_data_relocs_is = refl

twelve : length (made Plain) ≡ 12
twelve = refl

seven : length (made Shared) ≡ 7
seven = refl

-- No two symbols of a mode have one name.
pub names_differ : (mode : Mode) → distinct bytes_eq (map (λ m. m.name) (made mode)) ≡ map (λ m. m.name) (made mode)
names_differ Plain = refl
names_differ Shared = refl

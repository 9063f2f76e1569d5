-- What is wrong with the value of one option, or with the option: the line that refuses it, as users of wasm-ld know it.
use Rattle.std.specs.Prelude.{ℕ, Bool, not, ◌||◌, ◌==◌, List, [], ◌∷◌, Option, Some, None, codes}
use Rattle.std.specs.Option.{option_or}
use Rattle.std.specs.Str.{bytes_eq}
use Rattle.wl_base.specs.Choice.{given}
use Rattle.driver_table.specs.declared.meaning.Meaning.{Meaning}
use Rattle.driver_table.specs.declared.meaning.Meaning.TheVariants.{Refuse, GlobalBase, InitialMemory, MaxMemory, StackSize, Threads, Quoting, TableBase, PageSize, InitialHeap, Machine, Unresolved}
use Rattle.driver_table.specs.Items.{Said}
use Rattle.driver_table.specs.Texts.{line}
use Rattle.driver_table.specs.Numbers.{is_decimal, amount}

abbrev pub number_fault : List ℕ → List ℕ → Option (List ℕ)
number_fault value spelling = given (not (is_decimal value)) (line spelling (codes ": number expected, but got '") value (codes "'"))

-- a number that may be one of two
abbrev pub only : ℕ → ℕ → List ℕ → List ℕ → List ℕ → Option (List ℕ)
only a b why value spelling = option_or (number_fault value spelling) (given (not (amount value == a || amount value == b)) (line spelling (codes " is not supported: ") why []))

abbrev pub threads_fault : List ℕ → Option (List ℕ)
threads_fault value = given (not (is_decimal value) || amount value == 0) (line (codes "--threads: expected a positive integer, but got '") value (codes "'") [])

abbrev pub machine_fault : List ℕ → Option (List ℕ)
machine_fault value =
    option_or (given (bytes_eq value (codes "wasm64")) (line value (codes " is not supported") [] []))
    (given (not (bytes_eq value (codes "wasm32"))) (line (codes "invalid target architecture: ") value [] []))

-- what may become of unresolved names
abbrev pub is_unresolved : List ℕ → Bool
is_unresolved value = bytes_eq value (codes "report-all") || bytes_eq value (codes "ignore-all") || bytes_eq value (codes "import-dynamic")

abbrev pub fault_of : Meaning → List ℕ → List ℕ → Option (List ℕ)
fault_of Refuse value spelling = Some (line spelling (codes " is not supported") [] [])
fault_of GlobalBase value spelling = number_fault value spelling
fault_of InitialMemory value spelling = number_fault value spelling
fault_of MaxMemory value spelling = number_fault value spelling
fault_of StackSize value spelling = number_fault value spelling
fault_of Threads value spelling = threads_fault value
fault_of Quoting value spelling = given (not (bytes_eq value (codes "posix"))) (line (codes "--rsp-quoting=") value (codes " is not supported") [])
fault_of TableBase value spelling = only 0 1 (codes "the table begins at 1") value spelling
fault_of PageSize value spelling = only 65536 65536 (codes "pages have 65536 bytes") value spelling
fault_of InitialHeap value spelling = only 0 0 (codes "use --initial-memory") value spelling
fault_of Machine value spelling = machine_fault value
fault_of Unresolved value spelling = given (not (is_unresolved value)) (line (codes "unknown --unresolved-symbols value: ") value [] [])
fault_of other value spelling = None

abbrev pub value_fault : Said → Option (List ℕ)
value_fault said = fault_of said.meaning said.value said.spelling

-- the first fault, from left to right
abbrev pub values_fault : List Said → Option (List ℕ)
values_fault [] = None
values_fault (said ∷ items) = option_or (value_fault said) (values_fault items)

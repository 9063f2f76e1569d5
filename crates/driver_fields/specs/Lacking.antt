-- What all words together lack, the first alone: the line that refuses them.
use Rattle.std.specs.Prelude.{ℕ, ◌-◌, ◌%◌, ◌^◌, Bool, false, not, ◌&&◌, ◌||◌, ◌==◌, List, [], ◌∷◌, length, nat_lt, if◌then◌else◌, unwrap_or, is_some, Option, Some, None, codes}
use Rattle.std.specs.Option.{option_or}
use Rattle.std.specs.Str.{bytes_eq}
use Rattle.wl_base.specs.Choice.{first_some, given}
use Rattle.driver_table.specs.declared.meaning.Meaning.TheVariants.{Output, GlobalBase, InitialMemory, MaxMemory, StackSize, NoGrowableMemory, Entry, NoEntry, ExportTable, GcSections, NoGcSections, Undefined}
use Rattle.driver_table.specs.Items.{Said}
use Rattle.driver_table.specs.Texts.{line}
use Rattle.driver_table.specs.Numbers.{amount}
use Rattle.driver_fields.specs.Fields.{has, is_on, text, number, imported, exported, stack_first, stack_size, has_input, is_partial, is_shared}

abbrev pub output_fault : Option (List ℕ) → Option (List ℕ)
output_fault None = Some (line (codes "no output file specified") [] [] [])
output_fault (Some name) =
    option_or (given (length name == 0) (line (codes "no output file specified") [] [] []))
    (given (bytes_eq name (codes "-")) (line (codes "-o - is not supported") [] [] []))

-- What an object in place of a module can't have, as wasm-ld has it: an entry, or what is given to a module alone. No entry, and all parts, are
-- what it has anyway. Nor is it a shared output.
unfoldable pub beside_partial : List Said → Option (List ℕ)
beside_partial items = first_some (
    given (has ExportTable items) (line (codes "--relocatable is incompatible with --export-table") [] [] [])
    ∷ given (is_on Entry NoEntry false items) (line (codes "entry point specified for relocatable output file") [] [] [])
    ∷ given (is_on GcSections NoGcSections false items) (line (codes "-r and --gc-sections may not be used together") [] [] [])
    ∷ given (has Undefined items) (line (codes "-r and --undefined may not be used together") [] [] [])
    ∷ given (is_shared items) (line (codes "-r and -shared may not be used together") [] [] [])
    ∷ [])

unfoldable pub partial_fault : List Said → Option (List ℕ)
partial_fault items = if is_partial items then beside_partial items else None

-- the memory is env.memory where it is imported, and memory where it is exported
abbrev pub import_fault : Option (List ℕ) → Option (List ℕ)
import_fault None = None
import_fault (Some name) = given (not (bytes_eq name (codes "memory") || bytes_eq name (codes "env,memory"))) (line (codes "--import-memory=") name (codes " is not supported: the memory is env.memory") [])

abbrev pub export_fault : Option (List ℕ) → Option (List ℕ)
export_fault None = None
export_fault (Some name) = given (not (bytes_eq name (codes "memory"))) (line (codes "--export-memory=") name (codes " is not supported: the memory is exported as memory") [])

unfoldable pub memory_fault : List Said → Option (List ℕ)
memory_fault items = first_some (
    import_fault (imported items)
    ∷ given (is_some (imported items) && is_some (exported items)) (line (codes "--import-memory with --export-memory is not supported") [] [] [])
    ∷ export_fault (exported items)
    ∷ given (has NoGrowableMemory items && not (number MaxMemory items == 0)) (line (codes "--max-memory is incompatible with --no-growable-memory") [] [] [])
    ∷ given (has NoGrowableMemory items && number InitialMemory items == 0) (line (codes "--no-growable-memory without --initial-memory is not supported") [] [] [])
    ∷ [])

-- a number above the most, or none of whole units
abbrev pub range_fault : List ℕ → ℕ → ℕ → List ℕ → Option (List ℕ) → Option (List ℕ)
range_fault name most unit spelled None = None
range_fault name most unit spelled (Some value) =
    option_or (given (nat_lt most (amount value)) (line name (codes "=") value (codes " is too large")))
    (given (not (amount value % unit == 0)) (line name (codes " must be a multiple of ") spelled []))

unfoldable pub ranges_fault : List Said → Option (List ℕ)
ranges_fault items = first_some (
    range_fault (codes "--global-base") (2 ^ 32 - 1) 1 (codes "1") (text GlobalBase items)
    ∷ range_fault (codes "--initial-memory") (2 ^ 32) 65536 (codes "65536") (text InitialMemory items)
    ∷ range_fault (codes "--max-memory") (2 ^ 32) 65536 (codes "65536") (text MaxMemory items)
    ∷ range_fault (codes "-z stack-size") (2 ^ 32 - 16) 16 (codes "16") (text StackSize items)
    ∷ [])

-- data begin within the stack
abbrev pub within_stack : List Said → Bool
within_stack items = stack_first items && not (number GlobalBase items == 0) && nat_lt (number GlobalBase items) (unwrap_or (stack_size items) 65536)

unfoldable pub lacking : List Said → Option (List ℕ)
lacking items = first_some (
    output_fault (text Output items)
    ∷ partial_fault items
    ∷ memory_fault items
    ∷ ranges_fault items
    ∷ given (within_stack items) (line (codes "--global-base cannot be less than stack size when --stack-first is used") [] [] [])
    ∷ given (not (has_input items)) (line (codes "no input files") [] [] [])
    ∷ [])

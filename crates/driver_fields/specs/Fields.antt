-- What items say together: each field is a filter of the items.
use Rattle.std.specs.Prelude.{ℕ, min, Bool, true, false, not, ◌&&◌, ◌||◌, ◌==◌, List, [], codes, fold, if◌then◌else◌, unwrap_or, Option, Some, None}
use Rattle.std.specs.List.{list_any}
use Rattle.std.specs.Option.{option_or}
use Rattle.std.specs.Str.{bytes_eq}
use Rattle.wl_base.specs.Choice.{given}
use Rattle.driver_table.specs.declared.meaning.Meaning.{Meaning}
use Rattle.driver_table.specs.declared.meaning.Meaning.TheVariants.{Input, Library, Entry, NoEntry, ImportMemory, ImportMemoryAs, ExportMemory, ExportMemoryAs, AllowUndefined, ImportUndefined, Unresolved, StackFirst, NoStackFirst, GlobalBase, StackSize, InitialMemory, MaxMemory, NoGrowableMemory, Threads, FatalWarnings, NoFatalWarnings, Relocatable, Shared, StripAll, StripDebug}
use Rattle.driver_table.specs.Meanings.{same}
use Rattle.driver_table.specs.Items.{Said}
use Rattle.driver_table.specs.Texts.{line}
use Rattle.driver_table.specs.Numbers.{amount}

-- what an item of the meaning says
abbrev pub saying : {A : Type 0} → Meaning → (Said → A) → Said → Option A
saying meaning says said = given (same said.meaning meaning) (says said)

-- whether there is an item of the meaning
abbrev pub has : Meaning → List Said → Bool
has meaning items = list_any (λ said. same said.meaning meaning) items

-- what the last item that says something says, or what stands where none does
abbrev pub latest : {A : Type 0} → (Said → Option A) → A → List Said → A
latest says start items = fold (λ now said. unwrap_or (says said) now) start items

-- the last of two opposite meanings decides
abbrev pub switch : Meaning → Meaning → Said → Option Bool
switch on off said = option_or (saying on (λ _. true) said) (saying off (λ _. false) said)

abbrev pub is_on : Meaning → Meaning → Bool → List Said → Bool
is_on on off start items = latest (switch on off) start items

-- the last value of an option
abbrev pub text : Meaning → List Said → Option (List ℕ)
text meaning items = latest (saying meaning (λ s. Some s.value)) None items

-- the last number of an option; 0 is as if it weren't given
abbrev pub number : Meaning → List Said → ℕ
number meaning items = latest (saying meaning (λ s. amount s.value)) 0 items

-- the word that gives the entry
abbrev pub entry_said : Said → Option (Option (List ℕ))
entry_said said = option_or (saying Entry (λ s. Some (line (codes "--entry=") s.value [] [])) said) (saying NoEntry (λ _. Some (line (codes "--no-entry") [] [] [])) said)

abbrev pub entry : List Said → Option (List ℕ)
entry items = latest entry_said None items

-- the name of the memory, where a word says that it is imported or exported; without a name it is called so
abbrev pub memory_said : Meaning → Meaning → Said → Option (Option (List ℕ))
memory_said plain named said = option_or (saying plain (λ _. Some (codes "memory")) said) (saying named (λ s. Some s.value) said)

abbrev pub imported : List Said → Option (List ℕ)
imported items = latest (memory_said ImportMemory ImportMemoryAs) None items

abbrev pub exported : List Said → Option (List ℕ)
exported items = latest (memory_said ExportMemory ExportMemoryAs) None items

-- undefined functions are imported
abbrev pub allows_undefined : List Said → Bool
allows_undefined items = has AllowUndefined items || has ImportUndefined items

-- names to export may be absent: unresolved names are allowed or ignored
abbrev pub ignored : List Said → Bool
ignored items = latest (saying Unresolved (λ s. bytes_eq s.value (codes "ignore-all"))) false items

abbrev pub lenient : List Said → Bool
lenient items = has AllowUndefined items || ignored items

-- the stack stands before the data, as in LLVM 22, unless a place is given for these or the words say otherwise
abbrev pub stack_first : List Said → Bool
stack_first items = is_on StackFirst NoStackFirst (number GlobalBase items == 0) items

abbrev pub stack_size : List Said → Option ℕ
stack_size items = latest (saying StackSize (λ s. Some (amount s.value))) None items

-- a memory that can't grow has at most what it has at first
abbrev pub max_memory : List Said → ℕ
max_memory items = if has NoGrowableMemory items then number InitialMemory items else number MaxMemory items

abbrev pub threads : List Said → ℕ
threads items = min (number Threads items) 64

abbrev pub has_input : List Said → Bool
has_input items = has Input items || has Library items

-- one object is written in place of a module
abbrev pub is_partial : List Said → Bool
is_partial items = has Relocatable items

-- a shared output is written in place of a plain module
abbrev pub is_shared : List Said → Bool
is_shared items = has Shared items

-- debug sections are kept, as LLVM's wasm-ld keeps them, unless a word strips them
abbrev pub keeps_debug : List Said → Bool
keeps_debug items = not (has StripAll items || has StripDebug items)

-- warnings are errors
abbrev pub fatal : List Said → Bool
fatal items = is_on FatalWarnings NoFatalWarnings false items

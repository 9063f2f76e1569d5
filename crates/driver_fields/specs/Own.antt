-- The linker's own words, but for the inputs: the output, the entry, names, switches, numbers, and what is written: an object, a shared output or
-- a plain module, and whether with debug sections, in this order.
use Rattle.std.specs.Prelude.{ℕ, Bool, true, not, ◌&&◌, ◌==◌, List, [], ◌∷◌, ◌++◌, if◌then◌else◌, is_some, Option, Some, None, codes, decimal, option_to_list}
use Rattle.std.specs.List.{flat_map, filter_map}
use Rattle.std.specs.Str.{bytes_eq}
use Rattle.driver_table.specs.declared.meaning.Meaning.TheVariants.{Output, Export, ExportIfDefined, Undefined, ExportDynamic, NoExportDynamic, ExportTable, GcSections, NoGcSections, GlobalBase, InitialMemory, Warn, Z, Unresolved}
use Rattle.driver_table.specs.Meanings.{same}
use Rattle.driver_table.specs.Items.{Said}
use Rattle.driver_table.specs.Texts.{line}
use Rattle.driver_fields.specs.Fields.{has, is_on, text, number, entry, imported, allows_undefined, lenient, stack_first, stack_size, max_memory, threads, is_partial, is_shared, keeps_debug}

-- the words that are there only where the test holds
abbrev pub when : Bool → List (List ℕ) → List (List ℕ)
when test words = if test then words else []

abbrev pub wanted : List ℕ → List (List ℕ)
wanted name = codes "-u" ∷ name ∷ []

-- a name to export where it is defined: wasm-ld loads it too
unfoldable pub exported_if : List ℕ → List (List ℕ)
exported_if name = wanted name ++ line (codes "--export-if-defined=") name [] [] ∷ []

abbrev pub undefined_words : Said → List (List ℕ)
undefined_words said = when (same said.meaning Undefined) (wanted said.value)

-- a name to export, and where names may be absent a name to export where it is defined
unfoldable pub export_of : Bool → List ℕ → List (List ℕ)
export_of lenient name = if lenient then exported_if name else line (codes "--export=") name [] [] ∷ []

abbrev pub export_words : Bool → Said → List (List ℕ)
export_words lenient said = when (same said.meaning Export) (export_of lenient said.value)

abbrev pub export_if_words : Said → List (List ℕ)
export_if_words said = when (same said.meaning ExportIfDefined) (exported_if said.value)

unfoldable pub name_words : List Said → List (List ℕ)
name_words items = (flat_map undefined_words items ++ flat_map (export_words (lenient items)) items) ++ flat_map export_if_words items

-- switches that concern names. A shared output exports all definitions that aren't hidden, unless the words say otherwise.
unfoldable pub name_switches : List Said → List (List ℕ)
name_switches items =
    (when (is_on ExportDynamic NoExportDynamic (is_shared items) items) (codes "--export-dynamic" ∷ [])
    ++ when (has ExportTable items) (codes "--export-table" ∷ []))
    ++ when (allows_undefined items) (codes "--allow-undefined" ∷ [])

-- switches that concern the memory and what is in it
unfoldable pub memory_switches : List Said → List (List ℕ)
memory_switches items =
    (when (is_some (imported items)) (codes "--import-memory" ∷ [])
    ++ when (not (is_on GcSections NoGcSections true items)) (codes "--no-gc-sections" ∷ []))
    ++ when (stack_first items) (codes "--stack-first" ∷ [])

unfoldable pub switch_words : List Said → List (List ℕ)
switch_words items = name_switches items ++ memory_switches items

-- a number that is given
abbrev pub numbered : List ℕ → ℕ → List (List ℕ)
numbered name n = when (not (n == 0)) (line name (decimal n) [] [] ∷ [])

abbrev pub stack_words : Option ℕ → List (List ℕ)
stack_words None = []
stack_words (Some n) = codes "-z" ∷ line (codes "stack-size=") (decimal n) [] [] ∷ []

-- numbers that concern the memory
unfoldable pub memory_numbers : List Said → List (List ℕ)
memory_numbers items =
    (numbered (codes "--global-base=") (number GlobalBase items)
    ++ numbered (codes "--initial-memory=") (number InitialMemory items))
    ++ numbered (codes "--max-memory=") (max_memory items)

unfoldable pub number_words : List Said → List (List ℕ)
number_words items = (memory_numbers items ++ numbered (codes "--threads=") (threads items)) ++ stack_words (stack_size items)

abbrev pub output_words : Option (List ℕ) → List (List ℕ)
output_words None = []
output_words (Some name) = codes "-o" ∷ name ∷ []

-- the word of a partial link. Of the words before it the output alone then has an effect.
abbrev pub partial_words : List Said → List (List ℕ)
partial_words items = when (is_partial items) (codes "-r" ∷ [])

-- the word of a shared output
abbrev pub shared_words : List Said → List (List ℕ)
shared_words items = when (is_shared items) (codes "-shared" ∷ [])

-- the word that keeps debug sections
abbrev pub debug_words : List Said → List (List ℕ)
debug_words items = when (keeps_debug items) (codes "--keep-debug" ∷ [])

unfoldable pub own_words : List Said → List (List ℕ)
own_words items = ((((((output_words (text Output items) ++ option_to_list (entry items)) ++ name_words items) ++ switch_words items) ++ number_words items) ++ partial_words items) ++ shared_words items) ++ debug_words items

-- what is told of items that ask for something that isn't made
abbrev pub warning : Said → Option (List ℕ)
warning said =
    if same said.meaning Warn then Some (line (codes "ignored: ") said.spelling [] [])
    else if same said.meaning Z then Some (line (codes "unknown -z value: ") said.value [] [])
    else if same said.meaning Unresolved && not (bytes_eq said.value (codes "report-all")) then Some (line (codes "ignored: ") said.spelling [] [])
    else None

abbrev pub warnings : List Said → List (List ℕ)
warnings items = filter_map warning items

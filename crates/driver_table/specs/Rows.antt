-- The options as data, in tables of some 20 rows. They have the names that LLVM's wasm-ld gives them, without dashes, and those that
-- build systems write beside them. An option may be dropped where its absence can lead to the same program or to a refusal, and never to
-- another program.
use Rattle.std.specs.Prelude.{ℕ, Bool, true, false, not, List, [], ◌∷◌, codes, if◌then◌else◌, Option, Some, None}
use Rattle.std.specs.Str.{bytes_eq}
use Rattle.std.specs.Option.{option_or}
use Rattle.driver_table.specs.declared.meaning.Meaning.{Meaning}
use Rattle.driver_table.specs.declared.meaning.Meaning.TheVariants.{Drop, Warn, Refuse, Output, Entry, NoEntry, Export, ExportIfDefined, Undefined, ExportDynamic, NoExportDynamic, ExportTable, AllowUndefined, ImportUndefined, GcSections, NoGcSections, StackFirst, NoStackFirst, GlobalBase, InitialMemory, MaxMemory, NoGrowableMemory, ImportMemory, ImportMemoryAs, ExportMemory, ExportMemoryAs, Threads, Quoting, WholeArchive, NoWholeArchive, StartLib, EndLib, Library, Folder, Shared, Relocatable, FatalWarnings, NoFatalWarnings, TableBase, PageSize, InitialHeap, Version, Help, Unresolved, Machine, Z, StripAll, StripDebug, KeepSection, CheckFeatures, NoCheckFeatures, Features, ExtraFeatures}
use Rattle.driver_table.specs.declared.rows.Dashes.{Dashes}
use Rattle.driver_table.specs.declared.rows.Dashes.TheVariants.{One, Two, Any}
use Rattle.driver_table.specs.declared.rows.Row.{Row}
use Rattle.driver_table.specs.Texts.{stripped}

-- a row: the name, how many dashes stand before it, and what it means
abbrev pub row : List ℕ → Dashes → Meaning → List ℕ × Row
row name dashes meaning = (name, record { dashes = dashes; meaning = meaning })

-- switches that say something
abbrev pub switches : List (List ℕ × Row)
switches =
    row (codes "E") One ExportDynamic
    ∷ row (codes "export-dynamic") Any ExportDynamic
    ∷ row (codes "no-export-dynamic") Any NoExportDynamic
    ∷ row (codes "export-table") Two ExportTable
    ∷ row (codes "allow-undefined") Any AllowUndefined
    ∷ row (codes "import-undefined") Any ImportUndefined
    ∷ row (codes "gc-sections") Any GcSections
    ∷ row (codes "no-gc-sections") Any NoGcSections
    ∷ row (codes "stack-first") Two StackFirst
    ∷ row (codes "no-stack-first") Two NoStackFirst
    ∷ row (codes "no-growable-memory") Two NoGrowableMemory
    ∷ row (codes "import-memory") Two ImportMemory
    ∷ row (codes "export-memory") Two ExportMemory
    ∷ row (codes "no-entry") Two NoEntry
    ∷ row (codes "fatal-warnings") Any FatalWarnings
    ∷ row (codes "no-fatal-warnings") Any NoFatalWarnings
    ∷ row (codes "check-features") Two CheckFeatures
    ∷ row (codes "no-check-features") Two NoCheckFeatures
    ∷ []

-- words whose place counts, the other outputs, what is said in place of a link, and words that strip sections
abbrev pub marks : List (List ℕ × Row)
marks =
    row (codes "whole-archive") Any WholeArchive
    ∷ row (codes "no-whole-archive") Any NoWholeArchive
    ∷ row (codes "start-lib") Any StartLib
    ∷ row (codes "end-lib") Any EndLib
    ∷ row (codes "shared") Any Shared
    ∷ row (codes "relocatable") Any Relocatable
    ∷ row (codes "r") One Relocatable
    ∷ row (codes "version") Any Version
    ∷ row (codes "v") One Version
    ∷ row (codes "V") One Version
    ∷ row (codes "help") Any Help
    ∷ row (codes "strip-all") Any StripAll
    ∷ row (codes "s") One StripAll
    ∷ row (codes "strip-debug") Any StripDebug
    ∷ row (codes "S") One StripDebug
    ∷ []

-- words that are dropped: what they ask for is so, or concerns bitcode or text alone
abbrev pub dropped : List (List ℕ × Row)
dropped =
    row (codes "Bstatic") Any Drop
    ∷ row (codes "static") Any Drop
    ∷ row (codes "dn") Any Drop
    ∷ row (codes "non_shared") Any Drop
    ∷ row (codes "Bdynamic") Any Drop
    ∷ row (codes "dy") Any Drop
    ∷ row (codes "call_shared") Any Drop
    ∷ row (codes "Bsymbolic") Any Drop
    ∷ row (codes "color-diagnostics") Any Drop
    ∷ row (codes "no-color-diagnostics") Any Drop
    ∷ row (codes "demangle") Any Drop
    ∷ row (codes "no-demangle") Any Drop
    ∷ row (codes "compress-relocations") Any Drop
    ∷ row (codes "error-unresolved-symbols") Any Drop
    ∷ row (codes "no-pie") Any Drop
    ∷ row (codes "no-print-gc-sections") Any Drop
    ∷ row (codes "disable-verify") Any Drop
    ∷ row (codes "save-temps") Any Drop
    ∷ []

-- more words that are dropped; groups of libraries need no order here
abbrev pub dropped_more : List (List ℕ × Row)
dropped_more =
    row (codes "verbose") Any Drop
    ∷ row (codes "start-group") Any Drop
    ∷ row (codes "end-group") Any Drop
    ∷ row (codes "as-needed") Any Drop
    ∷ row (codes "no-as-needed") Any Drop
    ∷ row (codes "no-undefined") Any Drop
    ∷ row (codes "(") One Drop
    ∷ row (codes ")") One Drop
    ∷ row (codes "no-shlib-sigcheck") Two Drop
    ∷ row (codes "experimental-pic") Two Drop
    ∷ row (codes "merge-data-segments") Two Drop
    ∷ row (codes "no-merge-data-segments") Two Drop
    ∷ row (codes "allow-multiple-definition") Two Drop
    ∷ row (codes "no-allow-multiple-definition") Two Drop
    ∷ row (codes "lto-debug-pass-manager") Two Drop
    ∷ []

-- words that are told of, and words that are refused
abbrev pub told : List (List ℕ × Row)
told =
    row (codes "print-map") Any Warn
    ∷ row (codes "trace") Any Warn
    ∷ row (codes "print-gc-sections") Any Warn
    ∷ row (codes "build-id") Any Warn
    ∷ row (codes "warn-unresolved-symbols") Any Warn
    ∷ row (codes "noinhibit-exec") Any Warn
    ∷ row (codes "M") One Warn
    ∷ row (codes "t") One Warn
    ∷ row (codes "export-all") Two Refuse
    ∷ row (codes "growable-table") Two Refuse
    ∷ row (codes "import-table") Two Refuse
    ∷ row (codes "shared-memory") Two Refuse
    ∷ row (codes "emit-relocs") Any Refuse
    ∷ row (codes "pie") Any Refuse
    ∷ []

-- options whose value stands behind `=` or in the next word
abbrev pub either : List (List ℕ × Row)
either =
    row (codes "export") Any Export
    ∷ row (codes "export-if-defined") Any ExportIfDefined
    ∷ row (codes "undefined") Any Undefined
    ∷ row (codes "entry") Any Entry
    ∷ row (codes "threads") Any Threads
    ∷ row (codes "rsp-quoting") Any Quoting
    ∷ row (codes "library") Any Library
    ∷ row (codes "library-path") Any Folder
    ∷ row (codes "unresolved-symbols") Any Unresolved
    ∷ row (codes "mllvm") Any Drop
    ∷ row (codes "keep-section") Any KeepSection
    ∷ row (codes "soname") Any Drop
    ∷ row (codes "rpath") Any Drop
    ∷ row (codes "error-limit") Two Drop
    ∷ row (codes "thinlto-cache-policy") Two Drop
    ∷ row (codes "Map") Any Warn
    ∷ row (codes "trace-symbol") Any Warn
    ∷ row (codes "reproduce") Two Warn
    ∷ row (codes "allow-undefined-file") Any Warn
    ∷ row (codes "wrap") Any Refuse
    ∷ []

-- options whose value stands behind `=` alone
abbrev pub equals : List (List ℕ × Row)
equals =
    row (codes "global-base") Two GlobalBase
    ∷ row (codes "initial-memory") Two InitialMemory
    ∷ row (codes "max-memory") Two MaxMemory
    ∷ row (codes "import-memory") Two ImportMemoryAs
    ∷ row (codes "export-memory") Two ExportMemoryAs
    ∷ row (codes "table-base") Two TableBase
    ∷ row (codes "page-size") Two PageSize
    ∷ row (codes "initial-heap") Two InitialHeap
    ∷ row (codes "color-diagnostics") Any Drop
    ∷ row (codes "features") Any Features
    ∷ row (codes "extra-features") Any ExtraFeatures
    ∷ row (codes "lto-partitions") Two Drop
    ∷ row (codes "thinlto-cache-dir") Two Drop
    ∷ row (codes "thinlto-jobs") Two Drop
    ∷ row (codes "build-id") Any Warn
    ∷ row (codes "why-extract") Two Warn
    ∷ []

-- the row of a name
abbrev pub row_of : List (List ℕ × Row) → List ℕ → Option Row
row_of [] name = None
row_of (r ∷ rs) name = if bytes_eq name r.0 then Some r.1 else row_of rs name

-- the row of an option that stands alone in its word
unfoldable pub alone_row : List ℕ → Option Row
alone_row name = option_or (row_of switches name) (option_or (row_of marks name) (option_or (row_of dropped name) (option_or (row_of dropped_more name) (row_of told name))))

-- the row of an option with its value behind `=`
unfoldable pub equals_row : List ℕ → Option Row
equals_row name = option_or (row_of either name) (row_of equals name)

-- whether an option may be written with two dashes, and with one
abbrev pub admits : Dashes → Bool → Bool
admits One two = not two
admits Two two = two
admits Any two = true

-- what an option means that is written with one dash or two
abbrev pub meant : Bool → Option Row → Option Meaning
meant two None = None
meant two (Some row) = if admits row.dashes two then Some row.meaning else None

-- options of one letter with a value
abbrev pub letters : List (List ℕ × Meaning)
letters =
    (codes "l", Library)
    ∷ (codes "L", Folder)
    ∷ (codes "m", Machine)
    ∷ (codes "o", Output)
    ∷ (codes "O", Drop)
    ∷ (codes "z", Z)
    ∷ (codes "e", Entry)
    ∷ (codes "u", Undefined)
    ∷ (codes "y", Warn)
    ∷ []

abbrev pub or_next : Meaning → Option (List ℕ) → Option (Meaning × List ℕ) → Option (Meaning × List ℕ)
or_next meaning (Some rest) next = Some (meaning, rest)
or_next meaning None next = next

-- what the letter means that a name begins with, and what stands behind it
abbrev pub letter_in : List (List ℕ × Meaning) → List ℕ → Option (Meaning × List ℕ)
letter_in [] name = None
letter_in (row ∷ rows) name = or_next row.1 (stripped row.0 name) (letter_in rows name)

unfoldable pub letter_of : List ℕ → Option (Meaning × List ℕ)
letter_of name = letter_in letters name

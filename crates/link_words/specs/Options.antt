-- The table of options. They have the names that LLVM's wasm-ld gives them; `--make-case`, `--validate` and `--keep-debug` are our own.
use Rattle.std.specs.Prelude.{ℕ, List, [], ◌∷◌, codes, if◌then◌else◌, Option, Some, None}
use Rattle.std.specs.Str.{bytes_eq}
use Rattle.link_words.specs.declared.range.Range.TheVariants.{Address, Memory, Workers, Cases}
use Rattle.link_words.specs.declared.kind.Kind.{Kind}
use Rattle.link_words.specs.declared.kind.Kind.TheVariants.{Output, Entry, NoEntry, Export, ExportTable, ExportIfDefined, ExportDynamic, AllowUndefined, Wanted, GlobalBase, StackFirst, StackSize, InitialMemory, MaxMemory, ImportMemory, GcSections, NoGcSections, WholeArchive, NoWholeArchive, StartLib, EndLib, Threads, MakeCase, Validate, KeepDebug, Partial, Shared, Accepted}
use Rattle.link_words.specs.declared.options.Form.TheVariants.{Text, Machine, Number}
use Rattle.link_words.specs.declared.options.Form.TheVariants as forms
use Rattle.link_words.specs.declared.options.Takes.{Takes}
use Rattle.link_words.specs.declared.options.Takes.TheVariants.{Nothing, Next, Long}
use Rattle.link_words.specs.declared.options.Rule.{Rule}

-- a row: the option's word, what it says, and how it takes its value
abbrev pub row : List ℕ → Kind → Takes → List ℕ × Rule
row word kind takes = (word, record { kind = kind; takes = takes })

abbrev pub options : List (List ℕ × Rule)
options =
    row (codes "-o") Output (Next Text)
    ∷ row (codes "--entry") Entry (Long Text)
    ∷ row (codes "--no-entry") NoEntry Nothing
    ∷ row (codes "--export") Export (Long Text)
    ∷ row (codes "--export-table") ExportTable Nothing
    ∷ row (codes "--export-if-defined") ExportIfDefined (Long Text)
    ∷ row (codes "--export-dynamic") ExportDynamic Nothing
    ∷ row (codes "--allow-undefined") AllowUndefined Nothing
    ∷ row (codes "-u") Wanted (Next Text)
    ∷ row (codes "--global-base") GlobalBase (Long (Number Address))
    ∷ row (codes "--stack-first") StackFirst Nothing
    ∷ row (codes "-z") StackSize (Next forms.StackSize)
    ∷ row (codes "--initial-memory") InitialMemory (Long (Number Memory))
    ∷ row (codes "--max-memory") MaxMemory (Long (Number Memory))
    ∷ row (codes "--import-memory") ImportMemory Nothing
    ∷ row (codes "--gc-sections") GcSections Nothing
    ∷ row (codes "--no-gc-sections") NoGcSections Nothing
    ∷ row (codes "--whole-archive") WholeArchive Nothing
    ∷ row (codes "--no-whole-archive") NoWholeArchive Nothing
    ∷ row (codes "--start-lib") StartLib Nothing
    ∷ row (codes "--end-lib") EndLib Nothing
    ∷ row (codes "--threads") Threads (Long (Number Workers))
    ∷ row (codes "--make-case") MakeCase (Long (Number Cases))
    ∷ row (codes "--validate") Validate Nothing
    ∷ row (codes "--keep-debug") KeepDebug Nothing
    ∷ row (codes "-r") Partial Nothing
    ∷ row (codes "-shared") Shared Nothing
    ∷ row (codes "-m") Accepted (Next Machine)
    ∷ row (codes "-s") Accepted Nothing
    ∷ row (codes "-S") Accepted Nothing
    ∷ row (codes "--strip-all") Accepted Nothing
    ∷ row (codes "--strip-debug") Accepted Nothing
    ∷ []

-- the row of a word
abbrev pub row_of : List (List ℕ × Rule) → List ℕ → Option Rule
row_of [] word = None
row_of (row ∷ rows) word = if bytes_eq word row.0 then Some row.1 else row_of rows word

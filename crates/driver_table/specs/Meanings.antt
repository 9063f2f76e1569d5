-- Meanings, told apart by their numbers.
use Rattle.std.specs.Prelude.{ℕ, Bool, ◌==◌}
use Rattle.driver_table.specs.declared.meaning.Meaning.{Meaning}
use Rattle.driver_table.specs.declared.meaning.Meaning.TheVariants.{Input, Drop, Warn, Refuse, Output, Entry, NoEntry, Export, ExportIfDefined, Undefined, ExportDynamic, NoExportDynamic, ExportTable, AllowUndefined, ImportUndefined, GcSections, NoGcSections, StackFirst, NoStackFirst, GlobalBase, InitialMemory, MaxMemory, NoGrowableMemory, ImportMemory, ImportMemoryAs, ExportMemory, ExportMemoryAs, StackSize, Threads, Quoting, WholeArchive, NoWholeArchive, StartLib, EndLib, Library, Folder, Shared, Relocatable, FatalWarnings, NoFatalWarnings, TableBase, PageSize, InitialHeap, Version, Help, Unresolved, Machine, Z, StripAll, StripDebug, KeepSection, CheckFeatures, NoCheckFeatures, Features, ExtraFeatures}

abbrev pub code : Meaning → ℕ
code Input = 0
code Drop = 1
code Warn = 2
code Refuse = 3
code Output = 4
code Entry = 5
code NoEntry = 6
code Export = 7
code ExportIfDefined = 8
code Undefined = 9
code ExportDynamic = 10
code NoExportDynamic = 11
code ExportTable = 12
code AllowUndefined = 13
code ImportUndefined = 14
code GcSections = 15
code NoGcSections = 16
code StackFirst = 17
code NoStackFirst = 18
code GlobalBase = 19
code InitialMemory = 20
code MaxMemory = 21
code NoGrowableMemory = 22
code ImportMemory = 23
code ImportMemoryAs = 24
code ExportMemory = 25
code ExportMemoryAs = 26
code StackSize = 27
code Threads = 28
code Quoting = 29
code WholeArchive = 30
code NoWholeArchive = 31
code StartLib = 32
code EndLib = 33
code Library = 34
code Folder = 35
code Shared = 36
code Relocatable = 37
code FatalWarnings = 38
code NoFatalWarnings = 39
code TableBase = 40
code PageSize = 41
code InitialHeap = 42
code Version = 43
code Help = 44
code Unresolved = 45
code Machine = 46
code Z = 47
code StripAll = 48
code StripDebug = 49
code KeepSection = 50
code CheckFeatures = 51
code NoCheckFeatures = 52
code Features = 53
code ExtraFeatures = 54

-- whether two meanings are one
abbrev pub same : Meaning → Meaning → Bool
same a b = code a == code b

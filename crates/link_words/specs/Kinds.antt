-- Kinds, told apart by their numbers.
use Rattle.std.specs.Prelude.{ℕ, Bool, ◌==◌}
use Rattle.link_words.specs.declared.kind.Kind.{Kind}
use Rattle.link_words.specs.declared.kind.Kind.TheVariants.{Input, OnlyInputs, Output, Entry, NoEntry, Export, ExportTable, ExportIfDefined, ExportDynamic, AllowUndefined, Wanted, GlobalBase, StackFirst, StackSize, InitialMemory, MaxMemory, ImportMemory, GcSections, NoGcSections, WholeArchive, NoWholeArchive, StartLib, EndLib, Threads, MakeCase, Validate, KeepDebug, Partial, Shared, Accepted}

abbrev pub code : Kind → ℕ
code Input = 0
code OnlyInputs = 1
code Output = 2
code Entry = 3
code NoEntry = 4
code Export = 5
code ExportTable = 6
code ExportIfDefined = 7
code ExportDynamic = 8
code AllowUndefined = 9
code Wanted = 10
code GlobalBase = 11
code StackFirst = 12
code StackSize = 13
code InitialMemory = 14
code MaxMemory = 15
code ImportMemory = 16
code GcSections = 17
code NoGcSections = 18
code WholeArchive = 19
code NoWholeArchive = 20
code StartLib = 21
code EndLib = 22
code Threads = 23
code MakeCase = 24
code Validate = 25
code KeepDebug = 26
code Partial = 27
code Shared = 28
code Accepted = 29

-- whether two kinds are one
abbrev pub same : Kind → Kind → Bool
same a b = code a == code b

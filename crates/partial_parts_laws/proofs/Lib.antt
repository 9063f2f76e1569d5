pub mod Zips
pub mod Parts
mod ByKind
mod RunParts
mod Runs
mod Once
mod Middles
mod Chunks
pub mod Symbols
mod MovingLaws
mod Referred
mod Again
mod Built
mod Outside
mod Inside
mod Sides
mod Alikes
mod Skipped
mod Calls
mod Linking
mod Exports
mod Stubs
mod Final
mod Linked
mod FromFiles
mod ReadTree
mod Operands
mod Imported
mod Exported
mod Spans
mod Windows
pub mod Sectioned
pub mod KeptParts
mod PartsBack
mod StandingSymbols
pub mod SymbolsBack
mod SymbolsRead
mod RunBack
mod NamedObjects
pub mod RulesKept
pub mod Stood
mod RelocRules
pub mod WindowRules
mod GroupRules
mod NoneBroken
mod GroupsBack
mod ImportsTaken
mod NumbersFit
mod Referring
mod RelocsFit
mod Writable
mod ReadOperands

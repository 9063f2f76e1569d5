-- The relocations of the object's bodies and segments, by the tables of a program.
use Rattle.std.specs.Prelude.{◌≡◌, ℕ, false, List, map, slice_get, slice_index_or, Some, pos}
use Rattle.partial_symbols.specs.link_program.reloc_section.declared.entry.Reloc.{Reloc}
use Rattle.partial_symbols.specs.link_program.link_rules.Program.{Program, Part}
use Rattle.partial_symbols.specs.link_program.declared.symbol.Symbol.{Symbol}
use Rattle.partial_symbols.specs.link_program.declared.named.Named.{Named}
use Rattle.partial_symbols.specs.link_program.declared.named.Named.TheVariants as names
use Rattle.partial_symbols.specs.link_program.declared.program.Program.{Program as Data}
use Rattle.partial_symbols.specs.link_program.Look.{row_at}
use Rattle.partial_symbols.specs.link_program.made_symbols.declared.mode.Mode.TheVariants.{Plain}
use Rattle.partial_symbols.specs.link_program.Program.{IsProgramOf}
use Rattle.partial_symbols.specs.link_program.Stand.{PartsStand}
use Rattle.partial_symbols.specs.partial_rules.Partial.{named_reloc, type_number}
use Rattle.partial_symbols.specs.Standing.{Stood}
use Rattle.partial_symbols.specs.Known.{AreStanding}
use Rattle.partial_symbols.specs.Referring.{number_for}

-- The relocation of a window, by the symbols that stand and the numbers of types.
abbrev pub reloc_told : Stood → List Symbol → List ℕ → Named → Reloc
reloc_told s symbols numbers (names.Symbol kind place addend symbol) = record { kind = kind; offset = place; index = number_for s symbols symbol; addend = addend }
reloc_told s symbols numbers (names.Type place number) = record { kind = 6; offset = place; index = slice_index_or numbers number 0; addend = pos 0 }

-- The relocations of a part are those of the definition.
abbrev pub RelocsAre : Type 0
RelocsAre =
    (d : Data) (p : Program) → IsProgramOf Plain d p → PartsStand p → p.plan.loose_calls ≡ false → (s : Stood) → AreStanding p d.names.now.names s
    → (numbers : List ℕ) → numbers ≡ map (type_number p) d.tables.now.types → (n : ℕ) (part : Part) → slice_get p.parts n ≡ Some part
    → map (reloc_told s d.tables.now.symbols numbers) (row_at d.tables.now n) ≡ map (named_reloc p) part.named

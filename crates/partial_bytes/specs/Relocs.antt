-- The relocations of a part: what its windows name, by the numbers that the object gives.
use Rattle.std.specs.Prelude.{ℕ, List, map, slice_index_or, pos}
use Rattle.reloc_section.specs.declared.entry.Reloc.{Reloc}
use Rattle.link_program.specs.declared.named.Named.{Named}
use Rattle.link_program.specs.declared.named.Named.TheVariants as names
use Rattle.partial_bytes.specs.declared.tree.Numbers.{Numbers}
use Rattle.partial_bytes.specs.declared.tree.Part.{Part}

-- A type index has the type 6, R_WASM_TYPE_INDEX_LEB, and no addend (Linking.md, 'Relocation Sections').
abbrev pub reloc_by : Numbers → Named → Reloc
reloc_by n (names.Symbol kind place addend symbol) = record { kind = kind; offset = place; index = slice_index_or n.symbols.now symbol 0; addend = addend }
reloc_by n (names.Type place number) = record { kind = 6; offset = place; index = slice_index_or n.types.now number 0; addend = pos 0 }

abbrev pub relocs_by : Numbers → List Named → List Reloc
relocs_by n named = map (reloc_by n) named

abbrev pub relocs_of : Part → List Reloc
relocs_of p = relocs_by p.numbers.now p.named.now

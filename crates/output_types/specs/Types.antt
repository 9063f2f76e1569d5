-- The types of what an output numbers, by keys; and that they are the types which the objects give to their symbols.
use Rattle.std.specs.Prelude.{◌≡◌, ℕ, ◌==◌, Bool, true, false, ◌&&◌, List, find, Option, Some, None}
use Rattle.list_places.specs.Has.{Has}
use Rattle.link_worlds.specs.link_rules.object_file.wasm_types.declared.value.ValType.TheVariants.{I32}
use Rattle.link_worlds.specs.link_rules.object_file.wasm_types.declared.table.GlobalType.{GlobalType}
use Rattle.link_worlds.specs.link_rules.object_file.linking_section.declared.symbol.SymbolKind.TheVariants.{GlobalVar}
use Rattle.made_symbols.specs.Made.{stack_pointer}
use Rattle.made_symbols.specs.declared.mode.Mode.TheVariants.{Plain}
use Rattle.link_worlds.specs.link_rules.name_rules.Entries.{SymbolType, of_function, of_global, untyped, is_kind}
use Rattle.link_worlds.specs.link_rules.Program.{Program, Part, Content, function, segment, global, linker_made, Ref, refs}
use Rattle.link_worlds.specs.link_rules.Keys.{GlobalKey, outside_global, linker_global, own_global, got, exported_datum, ref_function, ref_global, type_of}

-- ---- globals

-- A cell of an address: an i32 that is never set.
abbrev pub constant_cell : GlobalType
constant_cell = record { kind = I32; var = false }

abbrev pub symbol_cell : SymbolType → GlobalType
symbol_cell (of_function t) = constant_cell
symbol_cell (of_global g) = g
symbol_cell untyped = constant_cell

abbrev pub content_cell : Content → GlobalType
content_cell (function t) = constant_cell
content_cell (segment info) = constant_cell
content_cell (global g) = g.kind
content_cell (linker_made m) = constant_cell

abbrev pub part_cell : Option Part → GlobalType
part_cell None = constant_cell
part_cell (Some part) = content_cell part.content

-- A chunk's kind is 2 for a global.
abbrev pub is_global_at : ℕ → ℕ → Part → Bool
is_global_at input index part = (part.chunk.kind == 2) && (part.chunk.input == input) && (part.chunk.index == index)

-- The type of a global of the output. Of the linker's own only `__stack_pointer` can be set.
abbrev pub cell_type : List Part → GlobalKey → GlobalType
cell_type parts (outside_global k) = symbol_cell k.type
cell_type parts (linker_global n) = record { kind = I32; var = n == stack_pointer }
cell_type parts (own_global input index) = part_cell (find (is_global_at input index) parts)
cell_type parts (got k) = constant_cell
cell_type parts (exported_datum e) = constant_cell

-- ---- one type a name

-- What a reference names has the type that its object gives to the symbol. A reference's kind is its relocation's type (Linking.md,
-- "Relocation Sections"): 0 is a function's index, 7 a global's.
pub record HasOneType (p : Program) (parts : List Part) (ref : Ref) : Type 0 where
  pub function : ref.kind ≡ 0 → ref.entry.type ≡ of_function (type_of p parts (ref_function ref))
  pub global : ref.kind ≡ 7 → is_kind GlobalVar ref.entry ≡ true → ref.entry.type ≡ of_global (cell_type parts (ref_global Plain ref))

abbrev pub HaveOneType : Program → List Part → Type 0
HaveOneType p parts = (part : Part) (ref : Ref) → Has parts part → Has (refs part) ref → HasOneType p parts ref

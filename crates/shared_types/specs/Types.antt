-- The types of what a shared output numbers, by keys; and that they are the types which the objects give to their symbols.
use Rattle.std.specs.Prelude.{◌≡◌, true, List, find}
use Rattle.list_places.specs.Has.{Has}
use Rattle.wasm_types.specs.declared.value.ValType.TheVariants.{I32}
use Rattle.wasm_types.specs.declared.table.GlobalType.{GlobalType}
use Rattle.linking_section.specs.declared.symbol.SymbolKind.TheVariants.{GlobalVar}
use Rattle.made_symbols.specs.declared.mode.Mode.TheVariants.{Shared}
use Rattle.name_rules.specs.Entries.{of_function, of_global, is_kind}
use Rattle.link_rules.specs.Program.{Program, Part, Ref, refs}
use Rattle.link_rules.specs.Keys.{GlobalKey, outside_global, linker_global, own_global, got, exported_datum, ref_function, ref_global, type_of}
use Rattle.output_types.specs.Types.{constant_cell, symbol_cell, part_cell, is_global_at}

-- ---- globals

-- A cell of an address of the output's own: it begins as 0, and `__wasm_apply_data_relocs` sets it.
abbrev pub own_cell : GlobalType
own_cell = record { kind = I32; var = true }

-- The type of a global of a shared output. The linker's own globals are imported, so none has a key of its own.
abbrev pub shared_cell : List Part → GlobalKey → GlobalType
shared_cell parts (outside_global k) = symbol_cell k.type
shared_cell parts (linker_global n) = constant_cell
shared_cell parts (own_global input index) = part_cell (find (is_global_at input index) parts)
shared_cell parts (got k) = own_cell
shared_cell parts (exported_datum e) = constant_cell

-- ---- one type a name

-- What a reference names has the type that its object gives to the symbol. A reference's kind is its relocation's type (Linking.md,
-- "Relocation Sections"): 0 is a function's index, 7 a global's.
pub record HasOneType (p : Program) (parts : List Part) (ref : Ref) : Type 0 where
  pub function : ref.kind ≡ 0 → ref.entry.type ≡ of_function (type_of p parts (ref_function ref))
  pub global : ref.kind ≡ 7 → is_kind GlobalVar ref.entry ≡ true → ref.entry.type ≡ of_global (shared_cell parts (ref_global Shared ref))

abbrev pub HaveOneType : Program → List Part → Type 0
HaveOneType p parts = (part : Part) (ref : Ref) → Has parts part → Has (refs part) ref → HasOneType p parts ref

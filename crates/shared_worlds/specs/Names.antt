-- The cells of a program of loaded objects that becomes a shared output, as they are before it is linked, and the numbers that the output has for
-- them. A name is a key of the link's own definitions, as in link_worlds, which has the names of functions.
use Rattle.std.specs.Prelude.{ℕ, List, [], position, slice_get, Option, Some, None, option_and_then, false, codes}
use Rattle.wasm_types.specs.declared.value.ValType.TheVariants.{I32}
use Rattle.made_symbols.specs.declared.mode.Mode.TheVariants.{Shared}
use Rattle.name_rules.specs.Entries.{of_global}
use Rattle.sim_laws.specs.Pairs.{Renaming}
use Rattle.link_rules.specs.Program.{Program}
use Rattle.link_rules.specs.Keys.{GlobalKey, outside_global, linker_global, own_global, got, exported_datum, same_function, same_global, globals}
use Rattle.link_rules.specs.Values.{Layout, address_of}
use Rattle.link_worlds.specs.Names.{all_functions}

-- What parts import, live or dead, the linker's globals and the cells of foreign addresses among them; the globals of objects; and a cell for each
-- definition whose address code reads. Two imports of one module, field and type are one. An exported datum is no cell.
abbrev pub all_cells : Program → List GlobalKey
all_cells p = globals Shared p p.parts []

abbrev pub cell_place : Program → GlobalKey → Option ℕ
cell_place p k = position (same_global k) (all_cells p)

-- A base, which the loader gives in an imported constant.
abbrev pub base_key : List ℕ → GlobalKey
base_key name = outside_global (record { module_name = codes "env"; field = name; type = of_global (record { kind = I32; var = false }) })

-- ---- from these names to the output's numbers, where it has them

-- What a cell of the output holds that nothing writes and that stands for no name: an exported datum's offset from the memory's base.
abbrev pub constant_of : Layout → GlobalKey → Option ℕ
constant_of l (outside_global k) = None
constant_of l (linker_global k) = None
constant_of l (own_global input index) = None
constant_of l (got key) = None
constant_of l (exported_datum e) = Some (address_of Shared l e)

abbrev pub renaming : Program → Layout → Renaming
renaming p l = record {
  function = λ f. option_and_then (λ k. position (same_function k) l.numbers.functions) (slice_get (all_functions p) f);
  cell = λ c. option_and_then (λ k. position (same_global k) l.numbers.globals) (slice_get (all_cells p) c);
  constant = λ d. option_and_then (constant_of l) (slice_get l.numbers.globals d);
}

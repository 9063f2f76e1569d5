-- The names of functions and cells in the program as it is before it is linked, and the numbers that the output has for them. A name is a
-- key of the link's own definitions, so that nothing is named twice; its place in the list of all keys stands for it in a run.
use Rattle.std.specs.Prelude.{◌≡◌, true, false, ℕ, ◌&&◌, List, ◌++◌, map, filter, filter_map, position, slice_get, if◌then◌else◌, Option, Some, None, option_and_then, bytes_eq}
use Rattle.wl_base.specs.Choice.{given, distinct}
use Rattle.linking_section.specs.declared.symbol.SymbolKind.TheVariants.{Function, GlobalVar}
use Rattle.made_symbols.specs.declared.mode.Mode.{Mode}
use Rattle.made_symbols.specs.declared.mode.Mode.TheVariants.{Plain}
use Rattle.name_rules.specs.Entries.{is_kind, name_of}
use Rattle.name_rules.specs.Meanings.{is_nothing}
use Rattle.reloc_apply.specs.Windows.{bits32, value}
use Rattle.sim_laws.specs.Pairs.{Renaming}
use Rattle.link_rules.specs.Program.{Program, Ref, Named, a_symbol}
use Rattle.link_rules.specs.Marks.{refs_of}
use Rattle.link_rules.specs.Keys.{FunctionKey, GlobalKey, outside, stub, outside_global, linker_global, own_global, got, exported_datum, same_function, same_global, imports_in_order, is_function_type, is_global_type, made_function_key, own_function_key, made_global_key, own_global_key, ref_function, ref_global, ref_got, is_null}
use Rattle.link_rules.specs.Values.{Layout, named_window, got_value, address_of}

-- ---- the program as it is before it is linked: its functions and cells, live or dead, are named by their places in these lists

-- a null function
abbrev pub null_name : Ref → Option (List ℕ)
null_name ref = given (is_null ref.meaning && is_kind Function ref.entry) (name_of ref.entry)

-- What symbols import, the linker's own functions, a stub for each null name, and the functions of objects that are kept.
abbrev pub all_functions : Program → List FunctionKey
all_functions p =
    map outside (filter (λ k. is_function_type k.type) (imports_in_order p))
    ++ filter_map made_function_key p.parts
    ++ map stub (distinct bytes_eq (filter_map null_name (refs_of p.parts)))
    ++ filter_map own_function_key p.parts

-- What symbols import, the linker's own globals, and the globals of objects. Two imports of one module, field and type are one.
abbrev pub all_cells : Program → List GlobalKey
all_cells p =
    map outside_global (filter (λ k. is_global_type k.type) (imports_in_order p))
    ++ filter_map made_global_key p.parts
    ++ filter_map own_global_key p.parts

abbrev pub function_place : Program → FunctionKey → Option ℕ
function_place p k = position (same_function k) (all_functions p)

-- The function that a reference calls. One whose symbol leads nowhere, as that of a dropped part, calls none; no live reference is such.
abbrev pub callee : Program → Ref → Option ℕ
callee p ref = if is_nothing ref.meaning then None else function_place p (ref_function ref)

abbrev pub cell_place : Program → GlobalKey → Option ℕ
cell_place p k = position (same_global k) (all_cells p)

-- ---- from these names to the output's numbers, where it has them

-- What a cell of the output holds that nothing writes: an address or a slot. No object has such a cell, so it stands for no name.
abbrev pub constant_of : Layout → GlobalKey → Option ℕ
constant_of l (outside_global k) = None
constant_of l (linker_global k) = None
constant_of l (own_global input index) = None
constant_of l (got key) = Some (got_value Plain l key)
constant_of l (exported_datum e) = Some (address_of Plain l e)

abbrev pub renaming : Program → Layout → Renaming
renaming p l = record {
  function = λ f. option_and_then (λ k. position (same_function k) l.numbers.functions) (slice_get (all_functions p) f);
  cell = λ c. option_and_then (λ k. position (same_global k) l.numbers.globals) (slice_get (all_cells p) c);
  constant = λ d. option_and_then (constant_of l) (slice_get l.numbers.globals d);
}

-- The number that stands in a window of an output of this mode, and in one of a plain output.
abbrev pub number_in : Mode → Layout → Named → ℕ
number_in mode l named = bits32 (value (named_window mode l named))

abbrev pub number_at : Layout → Named → ℕ
number_at l named = number_in Plain l named

-- ---- the number of a name

abbrev pub FunctionGets : Renaming → Option ℕ → ℕ → Type 0
FunctionGets r None g = ⊥
FunctionGets r (Some f) g = r.function f ≡ Some g

abbrev pub CellGets : Renaming → Option ℕ → ℕ → Type 0
CellGets r None d = ⊥
CellGets r (Some c) d = r.cell c ≡ Some d

-- What the number in a reference's window is the number of, by what the reference names. A reference's kind is its relocation's type
-- (Linking.md, "Relocation Sections"): 0 is a function's index, 7 a global's, 20 a table's.
pub record RefGets (p : Program) (l : Layout) (ref : Ref) : Type 0 where
  pub function : ref.kind ≡ 0 → FunctionGets (renaming p l) (callee p ref) (number_at l (a_symbol ref))
  pub cell : ref.kind ≡ 7 → is_kind GlobalVar ref.entry ≡ true → CellGets (renaming p l) (cell_place p (ref_global Plain ref)) (number_at l (a_symbol ref))
  pub held : ref.kind ≡ 7 → is_kind GlobalVar ref.entry ≡ false → (renaming p l).constant (number_at l (a_symbol ref)) ≡ Some (got_value Plain l (ref_got ref))
  pub table : ref.kind ≡ 20 → number_at l (a_symbol ref) ≡ 0

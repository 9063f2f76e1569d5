-- What a shared output imports besides, step by step.
use Rattle.std.specs.Prelude.{◌≡◌, ℕ, ◌==◌, Bool, List, [], map, filter_map, Option}
use Rattle.std.specs.List.{AllZip, cons_option}
use Rattle.name_entries.specs.wl_base.Choice.{distinct_onto, given}
use Rattle.name_entries.specs.linking_section.declared.symbol.SymbolKind.{SymbolKind}
use Rattle.name_entries.specs.linking_section.declared.symbol.SymbolKind.TheVariants.{GlobalVar}
use Rattle.name_entries.specs.linking_section.Flags.{kind_code}
use Rattle.name_entries.specs.made_symbols.Made.{MadeSymbol}
use Rattle.name_entries.specs.name_rules.Entries.{InputSymbol, ImportKey, same_import, entries}
use Rattle.name_entries.specs.name_rules.Further.{function_cell, the_cells, cells_in, made_imports, further_imports}
use Rattle.name_meanings.specs.declared.naming.Known.{Known}
use Rattle.name_meanings.specs.declared.naming.Found.{Found}
use Rattle.name_meanings.specs.Kept.{made_key}
use Rattle.name_meanings.specs.Means.{IsNumberOf, TellsCell}
use Rattle.name_meanings.specs.Known.{meant, resolved_of}

-- ---- the linker's globals

abbrev pub is_global_kind : SymbolKind → Bool
is_global_kind kind = kind_code kind == kind_code GlobalVar

-- The import of a linker-made symbol, if it is a global.
abbrev pub made_import : MadeSymbol → Option ImportKey
made_import m = given (is_global_kind m.kind) (made_key m.name m.changes)

-- The imports of those of these symbols that are globals are there, behind others, and have these numbers.
pub record AreMade (ms : List MadeSymbol) (old new : List ImportKey) (numbers : List ℕ) : Type 0 where
  pub imports : new ≡ distinct_onto same_import old (filter_map made_import ms)
  pub numbers_are : AllZip (IsNumberOf new) numbers (filter_map made_import ms)

-- ---- cells

-- The cell of the address of a symbol, if it is a foreign function.
abbrev pub cell_meant : Known → InputSymbol → Option ImportKey
cell_meant k e = function_cell e (meant k e)

-- From one state of what is found to the next: the answer tells the number of the symbol's cell.
pub record FindsCell (k : Known) (told : Option ℕ) (e : InputSymbol) (old new : Found) : Type 0 where
  pub tells : TellsCell new.imports told (cell_meant k e)
  pub imports : new.imports ≡ distinct_onto same_import old.imports (cons_option (cell_meant k e) [])

-- The cells of these symbols are among the imports, behind others, and these tell their numbers.
pub record AreCellsOf (k : Known) (old : List ImportKey) (es : List InputSymbol) (told : List (Option ℕ)) (f : Found) : Type 0 where
  pub tells : AllZip (TellsCell f.imports) told (map (cell_meant k) es)
  pub imports : f.imports ≡ distinct_onto same_import old (the_cells (map (cell_meant k) es))

-- ---- both

-- What goes behind the imports that symbols mean, and the numbers of it.
pub record AreFurther (k : Known) (old new : List ImportKey) (cells : List (Option ℕ)) (made : List ℕ) : Type 0 where
  pub imports : new ≡ distinct_onto same_import old (further_imports k.mode (entries k.mode k.entries.objects.now) (map (resolved_of k) k.entries.objects.now))
  pub cells_are : AllZip (TellsCell new) cells (cells_in k.mode (map (resolved_of k) k.entries.objects.now))
  pub made_are : AllZip (IsNumberOf new) made (made_imports k.mode (entries k.mode k.entries.objects.now))

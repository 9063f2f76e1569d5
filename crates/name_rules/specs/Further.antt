-- What a shared output may import that no symbol means (DynamicLinking.md): the linker's globals, and the cells in which the loader puts
-- the addresses of foreign functions.
use Rattle.std.specs.Prelude.{ℕ, ◌==◌, Bool, true, false, not, ◌&&◌, ◌||◌, List, [], ◌∷◌, ◌++◌, filter_map, flat_map, Option, codes}
use Rattle.object_file.specs.wl_base.Choice.{given}
use Rattle.object_file.specs.linking_section.declared.symbol.SymbolKind.TheVariants.{Function, Datum, GlobalVar}
use Rattle.made_symbols.specs.declared.mode.Mode.{Mode}
use Rattle.made_symbols.specs.declared.mode.Mode.TheVariants.{Plain, Shared}
use Rattle.name_rules.specs.Entries.{InputSymbol, ImportKey, is_kind, is_entry, name_of}
use Rattle.name_rules.specs.Meanings.{Meaning, here, imported, null, nothing, Resolved, cell_of}

abbrev pub is_here : Meaning → Bool
is_here (here e) = true
is_here (imported k) = false
is_here null = false
is_here nothing = false

-- In a shared output a function, datum or global that the link doesn't define is foreign.
abbrev pub is_foreign_symbol : InputSymbol → Meaning → Bool
is_foreign_symbol e m = not (is_here m) && is_entry e && (is_kind Function e || is_kind Datum e || is_kind GlobalVar e)

-- ---- the linker's globals

-- The import of a linker-made global.
abbrev pub made_global_import : InputSymbol → Option ImportKey
made_global_import e = given ((e.input == 0) && is_kind GlobalVar e) (record { module_name = codes "env"; field = name_of e; type = e.type })

abbrev pub made_imports : Mode → List InputSymbol → List ImportKey
made_imports Plain all = []
made_imports Shared all = filter_map made_global_import all

-- ---- cells

-- The cell of the address of a foreign function; a foreign function that is called means its import, and not its cell.
abbrev pub function_cell : InputSymbol → Meaning → Option ImportKey
function_cell e m = given (is_kind Function e && is_foreign_symbol e m) (cell_of e)

-- those of symbols that have these meanings
abbrev pub function_cells : List InputSymbol → List Meaning → List (Option ImportKey)
function_cells [] ms = []
function_cells (e ∷ es) [] = []
function_cells (e ∷ es) (m ∷ ms) = function_cell e m ∷ function_cells es ms

-- those of all symbols, one object behind another
abbrev pub cells_in : Mode → List Resolved → List (Option ImportKey)
cells_in Plain resolved = []
cells_in Shared resolved = flat_map (λ (r : Resolved). function_cells r.symbols r.meanings) resolved

-- ---- both

abbrev pub the_cells : List (Option ImportKey) → List ImportKey
the_cells cells = filter_map (λ cell. cell) cells

-- In the order of their numbers, behind what symbols mean: the globals, and the cells in the order of the symbols.
abbrev pub further_imports : Mode → List InputSymbol → List Resolved → List ImportKey
further_imports mode all resolved = made_imports mode all ++ the_cells (cells_in mode resolved)

-- What definitions and symbols mean, as keys.
use Rattle.std.specs.Prelude.{ℕ, ◌==◌, if◌then◌else◌, Option, unwrap_or}
use Rattle.link_program.specs.declared.symbol.Definition.{Definition}
use Rattle.link_program.specs.declared.symbol.Lead.{Lead}
use Rattle.link_program.specs.declared.symbol.Lead.TheVariants as leads
use Rattle.link_program.specs.declared.keys.FunctionKey.{FunctionKey}
use Rattle.link_program.specs.declared.keys.FunctionKey.TheVariants as functions
use Rattle.link_program.specs.declared.keys.GotKey.{GotKey}
use Rattle.link_program.specs.declared.keys.GotKey.TheVariants as cells

-- Which of its kind a definition is; the linker's are told by their numbers.
abbrev pub index_of : Definition → ℕ
index_of d = if d.input == 0 then d.place else d.index

abbrev pub function_of : Definition → FunctionKey
function_of d = functions.Own d.input (index_of d)

-- The function that a symbol means; a null one is a stub of its name.
abbrev pub function_meant : Option ℕ → Lead → FunctionKey
function_meant name (leads.Here d) = function_of d
function_meant name (leads.Import n) = functions.Import n
function_meant name leads.Null = functions.Stub (unwrap_or name 0)
function_meant name leads.Nothing = functions.Stub (unwrap_or name 0)

-- The cell of the address of a symbol, by the kind of the symbol.
abbrev pub cell_meant : ℕ → Lead → GotKey
cell_meant kind (leads.Here d) = cells.Here d
cell_meant kind (leads.Import n) = cells.Import n
cell_meant kind leads.Null = cells.Null kind
cell_meant kind leads.Nothing = cells.Null kind

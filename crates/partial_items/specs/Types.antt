-- The numbers of types in the object.
use Rattle.std.specs.Prelude.{ℕ, List, slice_index_or}
use Rattle.partial_tree.specs.link_program.wasm_types.declared.function.FuncType.{FuncType}
use Rattle.partial_tree.specs.link_program.wasm_types.Same.{same_type}
use Rattle.partial_tree.specs.link_program.index_layout.Numbers.{number_by}
use Rattle.partial_tree.specs.link_program.declared.part.Content.{Content}
use Rattle.partial_tree.specs.link_program.declared.part.Content.TheVariants as contents
use Rattle.partial_tree.specs.link_program.declared.program.Tables.{Tables}
use Rattle.partial_tree.specs.link_program.Look.{part_at}

-- The place of a type among these, or 0.
abbrev pub number_in : List FuncType → FuncType → ℕ
number_in types t = number_by same_type types t

-- The number of a function's type, by the numbers of the program's types.
abbrev pub content_number : List ℕ → Content → ℕ
content_number numbers (contents.Function number) = slice_index_or numbers number 0
content_number numbers (contents.Segment align flags) = 0
content_number numbers (contents.Global kind value) = 0
content_number numbers contents.Made = 0

abbrev pub function_type_number : Tables → List ℕ → ℕ → ℕ
function_type_number t numbers n = content_number numbers (part_at t n).content

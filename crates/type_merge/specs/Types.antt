-- The function types of the output, each once. Two are the same where their lists are (Core 2.3.6), so each stands once in the
-- type section, and all else names it by its place there (Core 2.5.1 and 2.5.2).
use Rattle.std.specs.Prelude.{ℕ, List, [], ◌∷◌, Option, position}
use Rattle.wasm_grammar.specs.wl_base.Choice.{distinct, distinct_onto}
use Rattle.wasm_types.specs.declared.function.FuncType.{FuncType}
use Rattle.wasm_types.specs.Same.{same_type}

-- The types in first-seen order.
abbrev pub merged : List FuncType → List FuncType
merged all = distinct same_type all

-- The place of a type.
abbrev pub type_number : List FuncType → FuncType → Option ℕ
type_number types t = position (same_type t) types

-- Types and one more, which goes last where it is new.
abbrev pub with_type : List FuncType → FuncType → List FuncType
with_type types t = distinct_onto same_type types (t ∷ [])

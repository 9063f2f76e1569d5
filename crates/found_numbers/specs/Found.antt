-- Numbers that are believed where the key stands there.
use Rattle.std.specs.Prelude.{ℕ, ◌+◌, Bool, false, List, position, slice_get, if◌then◌else◌, Option, Some, None, option_map}
use Rattle.link_program.specs.wasm_types.declared.import.Import.{Import}
use Rattle.link_program.specs.linking_section.declared.symbol.SymbolKind.TheVariants.{Function}
use Rattle.link_program.specs.object_rules.Spaces.{is_of}
use Rattle.link_program.specs.declared.keys.FunctionKey.{FunctionKey}
use Rattle.link_program.specs.Keys.{same_function_key}
use Rattle.link_layout.specs.link_numbers.Numbered.{Numbered}

abbrev pub is_one : {A : Type 0} → (A → A → Bool) → A → Option A → Bool
is_one same key None = false
is_one same key (Some there) = same key there

-- whether a key stands at a place of the list
abbrev pub stands_at : {A : Type 0} → (A → A → Bool) → List A → ℕ → A → Bool
stands_at same keys at key = is_one same key (slice_get keys at)

abbrev pub if_there : Bool → ℕ → Option ℕ
if_there there n = if there then Some n else None

-- The slot of a function, where it has one.
abbrev pub slot_among : Numbered → FunctionKey → Option ℕ
slot_among n f = option_map (λ k. n.first_slot + k) (position (same_function_key f) n.slots)

abbrev pub is_function_at : Option Import → Bool
is_function_at None = false
is_function_at (Some i) = is_of Function i.kind

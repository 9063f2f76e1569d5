-- What is proved of the output's module. `LinkedBy` and what is said of objects are premises; the crates above prove them of a link that gives
-- bytes.
use Rattle.std.specs.Prelude.{◌≡◌, ℕ, ◌<◌, List, length, true, Some, Ok}
use Rattle.list_places.specs.Has.{Has}
use Rattle.link_worlds.specs.link_rules.object_file.wasm_module.wasm_instr.declared.body.Body.{Body}
use Rattle.link_worlds.specs.link_rules.object_file.wasm_module.wasm_instr.Bodies.{body_at}
use Rattle.link_worlds.specs.link_rules.object_file.wasm_module.declared.structure.Module.{Module}
use Rattle.link_worlds.specs.link_rules.object_file.wasm_module.Modules.{SameButPlaces}
use Rattle.link_worlds.specs.link_rules.object_file.object_columns.declared.functions.FunctionDef.{FunctionDef}
use Rattle.link_worlds.specs.link_rules.object_file.declared.object.Object.{Object}
use Rattle.link_worlds.specs.link_rules.object_file.Spaces.{defined_type}
use Rattle.link_worlds.specs.link_rules.name_rules.Entries.{InputSymbol}
use Rattle.link_worlds.specs.link_rules.Program.{Program, Part}
use Rattle.link_worlds.specs.link_rules.Marks.{live}
use Rattle.link_worlds.specs.link_rules.Values.{part_bytes}
use Rattle.link_worlds.specs.Bodies.{linked_part}
use Rattle.link_worlds.specs.Worlds.{layout_of, linked_module}
use Rattle.link_worlds.specs.Statements.{LinkedBy}
use Rattle.valid_bodies.specs.Shapes.{shapes_in}
use Rattle.valid_bodies.specs.First.{TypedAt}
use Rattle.valid_objects.specs.Objects.{object_shapes}
use Rattle.wasm_valid.specs.Spaces.{spaces_of, context_of}
use Rattle.wasm_valid.specs.Rules.{stands}
use Rattle.wasm_valid.specs.Valid.{IsValid}
use Rattle.output_types.specs.Types.{HaveOneType}
use Rattle.output_types.specs.Spaces.{HasSpaces}
use Rattle.output_types.specs.Functions.{IsFunction, AreTyped, CallPlain}
use Rattle.output_types.specs.Checked.{IsChecked}

-- Numbers have the types of their keys.
abbrev pub NumbersKeepTypes : Type 0
NumbersKeepTypes = (p : Program) (exports : List InputSymbol) → LinkedBy p exports (layout_of p exports) → HasSpaces p exports

-- Typing sees of a live function in the module what it sees of it in its object.
abbrev pub BodiesKeepShapes : Type 0
BodiesKeepShapes = (p : Program) (exports : List InputSymbol) → LinkedBy p exports (layout_of p exports) → HaveOneType p (live p exports)
    → (part : Part) → Has (live p exports) part → part.chunk.kind ≡ 0 → (part.chunk.input ≡ 0 → ⊥)
    → (o : Object) (f : FunctionDef) → IsFunction o f part → (b : Body) → body_at (part_bytes p part) ≡ Ok b
    → shapes_in (context_of (linked_module p exports)) (defined_type o f) (linked_part p (layout_of p exports) (Some part)) ≡ object_shapes o f b

-- So each body of the module has a typing.
abbrev pub BodiesAreTyped : Type 0
BodiesAreTyped = (p : Program) (exports : List InputSymbol) → LinkedBy p exports (layout_of p exports) → HaveOneType p (live p exports)
    → AreTyped p (live p exports) → CallPlain (live p exports)
    → (k : ℕ) → k < length (linked_module p exports).bodies
    → TypedAt (context_of (linked_module p exports)) (linked_module p exports).functions (linked_module p exports).bodies k

-- The rules outside bodies hold of the module (Core 3.4).
abbrev pub RulesStand : Type 0
RulesStand = (p : Program) (exports : List InputSymbol) → LinkedBy p exports (layout_of p exports) → IsChecked p exports
    → stands (spaces_of (linked_module p exports)) (linked_module p exports) ≡ true

-- So the module is valid (Core 3.4.10).
abbrev pub OutputsAreValid : Type 0
OutputsAreValid = (p : Program) (exports : List InputSymbol) → LinkedBy p exports (layout_of p exports) → HaveOneType p (live p exports)
    → AreTyped p (live p exports) → CallPlain (live p exports) → IsChecked p exports → IsValid (linked_module p exports)

-- No rule looks at the places of instructions.
abbrev pub PlacesDontCount : Type 0
PlacesDontCount = (m other : Module) → SameButPlaces m other → IsValid m → IsValid other

-- What is proved of a shared output's module. `SharedLinkedBy` and what is said of objects are premises; the crates above prove them of a link
-- that gives bytes.
use Rattle.std.specs.Prelude.{◌≡◌, ℕ, ◌<◌, List, length, true, Some, Ok}
use Rattle.list_places.specs.Has.{Has}
use Rattle.wasm_instr.specs.declared.body.Body.{Body}
use Rattle.wasm_instr.specs.Bodies.{body_at}
use Rattle.object_columns.specs.declared.functions.FunctionDef.{FunctionDef}
use Rattle.object_file.specs.declared.object.Object.{Object}
use Rattle.object_file.specs.Spaces.{defined_type}
use Rattle.made_symbols.specs.declared.mode.Mode.TheVariants.{Shared}
use Rattle.name_rules.specs.Entries.{InputSymbol}
use Rattle.link_rules.specs.Program.{Program, Part}
use Rattle.link_rules.specs.Marks.{live}
use Rattle.link_rules.specs.Values.{part_bytes}
use Rattle.link_worlds.specs.Bodies.{part_in}
use Rattle.shared_module.specs.Outputs.{shared_lay, shared_module}
use Rattle.valid_bodies.specs.Shapes.{shapes_in}
use Rattle.valid_bodies.specs.First.{TypedAt}
use Rattle.valid_objects.specs.Objects.{object_shapes}
use Rattle.wasm_valid.specs.Spaces.{spaces_of, context_of}
use Rattle.wasm_valid.specs.Rules.{stands}
use Rattle.wasm_valid.specs.Valid.{IsValid}
use Rattle.output_types.specs.Functions.{IsFunction, AreTyped, CallPlain}
use Rattle.shared_types.specs.Types.{HaveOneType}
use Rattle.shared_types.specs.Linked.{SharedLinkedBy}
use Rattle.shared_types.specs.Spaces.{HasSpaces}
use Rattle.shared_types.specs.Checked.{IsChecked}

-- Numbers have the types of their keys.
abbrev pub SharedNumbersKeepTypes : Type 0
SharedNumbersKeepTypes = (p : Program) (exports : List InputSymbol) → SharedLinkedBy p exports → HasSpaces p exports

-- Typing sees of a live function in the module what it sees of it in its object.
abbrev pub SharedBodiesKeepShapes : Type 0
SharedBodiesKeepShapes = (p : Program) (exports : List InputSymbol) → SharedLinkedBy p exports → HaveOneType p (live p exports)
    → (part : Part) → Has (live p exports) part → part.chunk.kind ≡ 0 → (part.chunk.input ≡ 0 → ⊥)
    → (o : Object) (f : FunctionDef) → IsFunction o f part → (b : Body) → body_at (part_bytes p part) ≡ Ok b
    → shapes_in (context_of (shared_module p exports)) (defined_type o f) (part_in Shared (shared_lay p exports) p (Some part)) ≡ object_shapes o f b

-- So each body of the module has a typing.
abbrev pub SharedBodiesAreTyped : Type 0
SharedBodiesAreTyped = (p : Program) (exports : List InputSymbol) → SharedLinkedBy p exports → HaveOneType p (live p exports)
    → AreTyped p (live p exports) → CallPlain (live p exports) → IsChecked p exports
    → (k : ℕ) → k < length (shared_module p exports).bodies
    → TypedAt (context_of (shared_module p exports)) (shared_module p exports).functions (shared_module p exports).bodies k

-- The rules outside bodies hold of the module (Core 3.4).
abbrev pub SharedRulesStand : Type 0
SharedRulesStand = (p : Program) (exports : List InputSymbol) → SharedLinkedBy p exports → IsChecked p exports
    → stands (spaces_of (shared_module p exports)) (shared_module p exports) ≡ true

-- So the module is valid (Core 3.4.10).
abbrev pub SharedOutputsAreValid : Type 0
SharedOutputsAreValid = (p : Program) (exports : List InputSymbol) → SharedLinkedBy p exports → HaveOneType p (live p exports)
    → AreTyped p (live p exports) → CallPlain (live p exports) → IsChecked p exports → IsValid (shared_module p exports)

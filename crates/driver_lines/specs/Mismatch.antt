-- The lines of a function that is called by another type than its definition has. Types are told as LLVM's linker writes them.
use Rattle.std.specs.Prelude.{ℕ, List, [], ◌∷◌, ◌++◌, Option, Some, None, codes}
use Rattle.std.specs.List.{flat_map}
use Rattle.wasm_types.specs.declared.value.ValType.{ValType}
use Rattle.wasm_types.specs.declared.value.ValType.TheVariants.{I32, I64, F32, F64}
use Rattle.wasm_types.specs.declared.function.FuncType.{FuncType}
use Rattle.link_lines.specs.Pieces.{printed, joined}
use Rattle.driver_lines.specs.Called.{called_input}

abbrev pub type_word : ValType → List ℕ
type_word I32 = codes "i32"
type_word I64 = codes "i64"
type_word F32 = codes "f32"
type_word F64 = codes "f64"

-- Of what a function gives the first is told alone.
abbrev pub result_word : List ValType → List ℕ
result_word [] = codes "void"
result_word (t ∷ ts) = type_word t

abbrev pub first_text : ValType → List ℕ
first_text t = joined (type_word t ∷ [])

abbrev pub next_text : ValType → List ℕ
next_text t = joined (codes ", " ∷ type_word t ∷ [])

abbrev pub first_and_rest : {A : Type 0} → List A → Option (A × List A)
first_and_rest [] = None
first_and_rest (x ∷ xs) = Some (x, xs)

-- the text of the first item, and then those of the others
abbrev pub headed : {A : Type 0} → (A → List ℕ) → (A → List ℕ) → List A → List ℕ
headed first next [] = []
headed first next (x ∷ xs) = first x ++ flat_map next xs

abbrev pub params_text : List ValType → List ℕ
params_text ts = headed first_text next_text ts

-- a type and an input that has it, behind the line before
abbrev pub defined_text : FuncType → List (List ℕ) → List ℕ
defined_text t called =
    joined (codes "\n>>> defined as (" ∷ [])
    ++ (params_text t.params ++ joined (codes ") -> " ∷ result_word t.results ∷ codes " in " ∷ called))

-- Whether it is a warning or an error, the function's name, the type by which it is called with the input that does, and the type of its definition with the input of that.
unfoldable pub mismatch_line : List ℕ → List ℕ → List (List ℕ) → List ℕ → FuncType → ℕ → FuncType → ℕ → List ℕ
mismatch_line program severity inputs name called input defined definer =
    joined (program ∷ codes ": " ∷ severity ∷ codes ": function signature mismatch: " ∷ printed name ∷ [])
    ++ (defined_text called (called_input inputs input) ++ (defined_text defined (called_input inputs definer) ++ joined (codes "\n" ∷ [])))

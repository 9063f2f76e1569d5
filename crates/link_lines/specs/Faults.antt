-- The line of each fault.
use Rattle.std.specs.Prelude.{ℕ, List, [], ◌∷◌, ◌++◌, codes, decimal}
use Rattle.std.specs.Fmt.{signed_decimal}
use Rattle.wl_base.specs.declared.fault.Fault.{Fault}
use Rattle.wl_base.specs.declared.fault.Fault.TheVariants.{TooMuchInput, Library, TooManyInputs, TooLong, Malformed, Unsupported, IndexLies, TooManyNames, Clash, Duplicate, NotPic, Unresolved, Overflow, Invalid, BadDebug, DebugTooLong, NotPartial, PartialTooLong, Uncalled, Feature}
use Rattle.wl_base.specs.declared.fault.Part.{Part}
use Rattle.wl_base.specs.declared.fault.Part.TheVariants.{Frame, Section, Cross}
use Rattle.wl_base.specs.declared.fault.FeatureRule.{FeatureRule}
use Rattle.wl_base.specs.declared.fault.FeatureRule.TheVariants.{Disallowed, Required, NotAllowed}
use Rattle.wl_base.specs.declared.fault.InvalidAt.{InvalidAt}
use Rattle.wl_base.specs.declared.fault.InvalidAt.TheVariants.{Module, Body}
use Rattle.link_lines.specs.Pieces.{printed, joined}
use Rattle.link_lines.specs.Labels.{library_label, item_label, what_name}

-- ---- the forms of lines

-- a number between two texts
unfoldable pub number_line : List ℕ → List ℕ → List ℕ → List ℕ
number_line head n tail = joined (head ∷ n ∷ tail ∷ [])

-- a number or a name of an input
unfoldable pub input_line : ℕ → List ℕ → List ℕ → List ℕ → List ℕ
input_line input middle told tail = joined (codes "wasmld: input " ∷ decimal input ∷ middle ∷ told ∷ tail ∷ [])

-- a name of two inputs
unfoldable pub pair_line : List ℕ → List ℕ → ℕ → ℕ → List ℕ
pair_line head name first other =
    joined (head ∷ printed name ∷ codes ": input " ∷ decimal first ∷ codes " and input " ∷ decimal other ∷ codes "\n" ∷ [])

-- a label of a file or an input
unfoldable pub label_line : List ℕ → ℕ → List ℕ → List (List ℕ) → List ℕ
label_line head place middle label = joined (head ∷ decimal place ∷ middle ∷ (label ++ codes "\n" ∷ []))

unfoldable pub not_pic_line : ℕ → ℕ → ℕ → List ℕ
not_pic_line input symbol kind =
    joined (codes "wasmld: input " ∷ decimal input ∷ codes ": symbol " ∷ decimal symbol ∷ codes ": relocation " ∷ decimal kind
    ∷ codes " is not position-independent\n" ∷ [])

unfoldable pub overflow_line : List ℕ → List ℕ → List ℕ
overflow_line what needed = joined (codes "wasmld: overflow: " ∷ what ∷ codes " needs " ∷ needed ∷ codes "\n" ∷ [])

-- a feature of an input, and another input
unfoldable pub against_line : ℕ → List ℕ → List ℕ → ℕ → List ℕ
against_line input name middle by =
    joined (codes "wasmld: input " ∷ decimal input ∷ codes ": feature " ∷ printed name ∷ middle ∷ decimal by ∷ codes "\n" ∷ [])

-- ---- the lines

abbrev pub feature_line : ℕ → List ℕ → ℕ → FeatureRule → List ℕ
feature_line input name by Disallowed = against_line input name (codes " is disallowed by input ") by
feature_line input name by Required = against_line input name (codes " is required by input ") by
feature_line input name by NotAllowed = input_line input (codes ": feature ") (printed name) (codes " is not allowed\n")

abbrev pub part_line : ℕ → Part → List ℕ
part_line input Frame = number_line (codes "wasmld: input ") (decimal input) (codes ": malformed: frame\n")
part_line input (Section place) = input_line input (codes ": malformed: section ") (decimal place) (codes "\n")
part_line input (Cross rule) = input_line input (codes ": malformed: rule ") (decimal rule) (codes "\n")

abbrev pub invalid_line : InvalidAt → List ℕ
invalid_line Module = codes "wasmld: invalid output: module\n"
invalid_line (Body function) = number_line (codes "wasmld: invalid output: body ") (decimal function) (codes "\n")

abbrev pub fault_line : Fault → List ℕ
fault_line (TooMuchInput len) = number_line (codes "wasmld: too much input: ") (decimal len) (codes " bytes\n")
fault_line (Library file fault) = label_line (codes "wasmld: file ") file (codes ": bad library: ") (library_label fault)
fault_line (TooManyInputs count) = number_line (codes "wasmld: too many inputs: ") (decimal count) (codes "\n")
fault_line (TooLong input len) = input_line input (codes ": too long: ") (decimal len) (codes " bytes\n")
fault_line (Malformed input part) = part_line input part
fault_line (Unsupported input item) = label_line (codes "wasmld: input ") input (codes ": unsupported: ") (item_label item)
fault_line (IndexLies input name) = input_line input (codes ": index names ") (printed name) (codes ", which is not defined\n")
fault_line TooManyNames = codes "wasmld: too many names\n"
fault_line (Clash name first other) = pair_line (codes "wasmld: clash of ") name first other
fault_line (Duplicate name first other) = pair_line (codes "wasmld: duplicate ") name first other
fault_line (NotPic input symbol kind) = not_pic_line input symbol kind
fault_line (Unresolved name input) = input_line input (codes ": unresolved ") (printed name) (codes "\n")
fault_line (Overflow what needed) = overflow_line (what_name what) (signed_decimal needed)
fault_line (Invalid at) = invalid_line at
fault_line (BadDebug input section) = input_line input (codes ": bad debug section ") (decimal section) (codes "\n")
fault_line (DebugTooLong needed) = number_line (codes "wasmld: debug sections need ") (decimal needed) (codes " bytes\n")
fault_line (NotPartial file) = number_line (codes "wasmld: file ") (decimal file) (codes ": not an object for a partial link\n")
fault_line (PartialTooLong needed) = number_line (codes "wasmld: partial link needs ") (decimal needed) (codes " bytes\n")
fault_line Uncalled = codes "wasmld: constructors would not be called: link a start file that calls __wasm_call_ctors\n"
fault_line (Feature name input by rule) = feature_line input name by rule

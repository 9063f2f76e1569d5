-- The lines of a refused link, as users of LLVM's linker for WebAssembly know them.
use Rattle.std.specs.Prelude.{ℕ, ◌==◌, List, [], ◌∷◌, ◌++◌, if◌then◌else◌, Option, codes, decimal}
use Rattle.std.specs.Fmt.{signed_decimal}
use Rattle.wl_base.specs.declared.fault.Fault.{Fault}
use Rattle.wl_base.specs.declared.fault.Fault.TheVariants.{TooMuchInput, Library, TooManyInputs, TooLong, Malformed, Unsupported, IndexLies, TooManyNames, Clash, Duplicate, NotPic, Unresolved, Overflow, Invalid, BadDebug, DebugTooLong, NotPartial, PartialTooLong, Uncalled, Feature}
use Rattle.wl_base.specs.declared.fault.Part.{Part}
use Rattle.wl_base.specs.declared.fault.Part.TheVariants.{Frame, Section, Cross}
use Rattle.wl_base.specs.declared.fault.LibFault.{LibFault}
use Rattle.wl_base.specs.declared.fault.LibFault.TheVariants.{NotLibrary, Thin, BadHeader, NoIndex, BadIndex}
use Rattle.wl_base.specs.declared.fault.FeatureRule.{FeatureRule}
use Rattle.wl_base.specs.declared.fault.FeatureRule.TheVariants.{Disallowed, Required, NotAllowed}
use Rattle.wl_base.specs.declared.fault.InvalidAt.{InvalidAt}
use Rattle.wl_base.specs.declared.fault.InvalidAt.TheVariants.{Module, Body}
use Rattle.link_lines.specs.Pieces.{printed, joined}
use Rattle.link_lines.specs.Labels.{item_label}
use Rattle.driver_lines.specs.Called.{called_input, called_file}
use Rattle.driver_lines.specs.Words.{is_entry, overflow_front, overflow_end, relocation_name}

-- ---- lines of a text

abbrev pub error_line : List ℕ → List ℕ → List ℕ
error_line program text = joined (program ∷ codes ": error: " ∷ text ∷ codes "\n" ∷ [])

abbrev pub warning_line : List ℕ → List ℕ → List ℕ
warning_line program text = joined (program ∷ codes ": warning: " ∷ text ∷ codes "\n" ∷ [])

-- ---- the forms of lines

-- a number or a name between two texts
unfoldable pub plain_line : List ℕ → List ℕ → List ℕ → List ℕ → List ℕ
plain_line program front told end = joined (program ∷ codes ": error: " ∷ front ∷ told ∷ end ∷ [])

-- the same of an input or a file
unfoldable pub about_line : List ℕ → List ℕ → List (List ℕ) → List ℕ → List ℕ → List ℕ → List ℕ
about_line program front called middle told end =
    joined (program ∷ codes ": error: " ∷ front ∷ (called ++ middle ∷ told ∷ end ∷ []))

-- a name of two inputs, each in a line of its own
unfoldable pub pair_line : List ℕ → List ℕ → List ℕ → List ℕ → List (List ℕ) → List (List ℕ) → List ℕ
pair_line program front name between first other =
    joined (program ∷ codes ": error: " ∷ front ∷ printed name ∷ between ∷ (first ++ between ∷ (other ++ codes "\n" ∷ [])))

-- an item of an input
unfoldable pub item_line : List ℕ → List (List ℕ) → List (List ℕ) → List ℕ
item_line program called label = joined (program ∷ codes ": error: " ∷ (called ++ codes ": unsupported: " ∷ (label ++ codes "\n" ∷ [])))

-- a relocation of an input that position-independent code can't have
unfoldable pub relocation_line : List ℕ → List (List ℕ) → List ℕ → ℕ → List ℕ
relocation_line program called name symbol =
    joined (program ∷ codes ": error: "
    ∷ (called ++ codes ": relocation " ∷ name ∷ codes " cannot be used against symbol " ∷ decimal symbol ∷ codes "; recompile with -fPIC\n" ∷ []))

-- a name, and an input behind it
unfoldable pub named_line : List ℕ → List ℕ → List ℕ → List ℕ → List (List ℕ) → List ℕ → List ℕ
named_line program front name middle input end =
    joined (program ∷ codes ": error: " ∷ front ∷ printed name ∷ middle ∷ (input ++ end ∷ []))

-- a name, and two inputs behind it
unfoldable pub against_line : List ℕ → List ℕ → List ℕ → List ℕ → List (List ℕ) → List ℕ → List (List ℕ) → List ℕ
against_line program front name middle input between other =
    joined (program ∷ codes ": error: " ∷ front ∷ printed name ∷ middle
    ∷ (input ++ between ∷ (other ++ codes ". Use --no-check-features to suppress.\n" ∷ [])))

-- ---- the lines

-- a file that is no library
abbrev pub library_line : List ℕ → List (List ℕ) → LibFault → List ℕ
library_line program file NotLibrary = about_line program (codes "unknown file type: ") file [] [] (codes "\n")
library_line program file Thin = about_line program [] file (codes ": thin archives are not supported") [] (codes "\n")
library_line program file (BadHeader at) = about_line program [] file (codes ": malformed archive: bad member header at ") (decimal at) (codes "\n")
library_line program file NoIndex = about_line program [] file (codes ": archive has no index; run llvm-ranlib to add one") [] (codes "\n")
library_line program file (BadIndex cause) = about_line program [] file (codes ": malformed archive: bad symbol index (") (decimal cause) (codes ")\n")

-- The rule on init functions is the one that a program breaks, and not the compiler.
abbrev pub init_rule : ℕ
init_rule = 7

abbrev pub rule_line : List ℕ → List (List ℕ) → ℕ → List ℕ
rule_line program input rule =
    if rule == init_rule then about_line program [] input (codes ": constructor functions cannot take arguments") [] (codes "\n")
    else about_line program [] input (codes ": malformed object: rule ") (decimal rule) (codes "\n")

-- an object that is broken
abbrev pub part_line : List ℕ → List (List ℕ) → Part → List ℕ
part_line program input Frame = about_line program (codes "unknown file type: ") input [] [] (codes "\n")
part_line program input (Section place) = about_line program [] input (codes ": malformed object: section ") (decimal place) (codes "\n")
part_line program input (Cross rule) = rule_line program input rule

-- A name without a definition: one that the words ask for, or that an input's symbol has.
abbrev pub asked_line : List ℕ → Option (List ℕ) → List ℕ → List ℕ
asked_line program entry name =
    if is_entry entry name then plain_line program (codes "entry symbol not defined (pass --no-entry to suppress): ") (printed name) (codes "\n")
    else plain_line program (codes "symbol exported via --export not found: ") (printed name) (codes "\n")

abbrev pub unresolved_line : List ℕ → Option (List ℕ) → List (List ℕ) → List ℕ → ℕ → List ℕ
unresolved_line program entry inputs name input =
    if input == 0 then asked_line program entry name
    else about_line program [] (called_input inputs input) (codes ": undefined symbol: ") (printed name) (codes "\n")

abbrev pub invalid_line : List ℕ → InvalidAt → List ℕ
invalid_line program Module = plain_line program (codes "output is not valid: module") [] (codes "\n")
invalid_line program (Body function) = plain_line program (codes "output is not valid: function ") (decimal function) (codes "\n")

-- a feature that an input uses, and one that it lacks
abbrev pub feature_line : List ℕ → List ℕ → List (List ℕ) → List (List ℕ) → FeatureRule → List ℕ
feature_line program name input by Disallowed =
    against_line program (codes "Target feature '") name (codes "' used in ") input (codes " is disallowed by ") by
feature_line program name input by Required = against_line program (codes "Missing target feature '") name (codes "' in ") input (codes ", required by ") by
feature_line program name input by NotAllowed = named_line program (codes "Target feature '") name (codes "' used by ") input (codes " is not allowed.\n")

-- The line of each fault, by the program's name, the entry, and the names of inputs and of files.
abbrev pub refusal_line : List ℕ → Option (List ℕ) → List (List ℕ) → List (List ℕ) → Fault → List ℕ
refusal_line program entry inputs files (TooMuchInput len) = plain_line program (codes "too much input: ") (decimal len) (codes " bytes\n")
refusal_line program entry inputs files (Library file fault) = library_line program (called_file files file) fault
refusal_line program entry inputs files (TooManyInputs count) = plain_line program (codes "too many inputs: ") (decimal count) (codes "\n")
refusal_line program entry inputs files (TooLong input len) =
    about_line program [] (called_input inputs input) (codes ": too long: ") (decimal len) (codes " bytes\n")
refusal_line program entry inputs files (Malformed input part) = part_line program (called_input inputs input) part
refusal_line program entry inputs files (Unsupported input item) = item_line program (called_input inputs input) (item_label item)
refusal_line program entry inputs files (IndexLies input name) =
    about_line program [] (called_input inputs input) (codes ": archive index names ") (printed name) (codes ", which is not defined\n")
refusal_line program entry inputs files TooManyNames = plain_line program (codes "too many names") [] (codes "\n")
refusal_line program entry inputs files (Clash name first other) =
    pair_line program (codes "symbol type mismatch: ") name (codes "\n>>> in ") (called_input inputs first) (called_input inputs other)
refusal_line program entry inputs files (Duplicate name first other) =
    pair_line program (codes "duplicate symbol: ") name (codes "\n>>> defined in ") (called_input inputs first) (called_input inputs other)
refusal_line program entry inputs files (NotPic input symbol kind) =
    relocation_line program (called_input inputs input) (relocation_name kind) symbol
refusal_line program entry inputs files (Unresolved name input) = unresolved_line program entry inputs name input
refusal_line program entry inputs files (Overflow what needed) = plain_line program (overflow_front what) (signed_decimal needed) (overflow_end what)
refusal_line program entry inputs files (Invalid at) = invalid_line program at
refusal_line program entry inputs files (BadDebug input section) =
    about_line program [] (called_input inputs input) (codes ": malformed debug section ") (decimal section) (codes "\n")
refusal_line program entry inputs files (DebugTooLong needed) =
    plain_line program (codes "output too large with debug sections, ") (decimal needed) (codes " bytes needed\n")
refusal_line program entry inputs files (NotPartial file) =
    about_line program [] (called_file files file) (codes ": only object files can be linked with -r, and none from a library") [] (codes "\n")
refusal_line program entry inputs files (PartialTooLong needed) = plain_line program (codes "output too large, ") (decimal needed) (codes " bytes needed\n")
refusal_line program entry inputs files Uncalled =
    plain_line program (codes "constructors would not be called: link a start file that calls __wasm_call_ctors") [] (codes "\n")
refusal_line program entry inputs files (Feature name input by rule) =
    feature_line program name (called_input inputs input) (called_input inputs by) rule

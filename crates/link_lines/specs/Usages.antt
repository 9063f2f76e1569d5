-- The line of each usage: its name, and the place of its word where it is a word's.
use Rattle.std.specs.Prelude.{ℕ, List, [], ◌∷◌, codes, decimal, Option, Some, None}
use Rattle.wl_base.specs.declared.usage.Usage.{Usage}
use Rattle.wl_base.specs.declared.usage.Usage.TheVariants.{UnknownOption, MissingValue, BadNumber, BadThreads, OpenGroup, CaseAndInput, NoInput, NoOutput, PartialClash}
use Rattle.link_lines.specs.Pieces.{joined}

abbrev pub usage_name : Usage → List ℕ
usage_name (UnknownOption at) = codes "UnknownOption"
usage_name (MissingValue at) = codes "MissingValue"
usage_name (BadNumber at) = codes "BadNumber"
usage_name (BadThreads at) = codes "BadThreads"
usage_name (OpenGroup at) = codes "OpenGroup"
usage_name CaseAndInput = codes "CaseAndInput"
usage_name NoInput = codes "NoInput"
usage_name NoOutput = codes "NoOutput"
usage_name PartialClash = codes "PartialClash"

abbrev pub usage_place : Usage → Option ℕ
usage_place (UnknownOption at) = Some at
usage_place (MissingValue at) = Some at
usage_place (BadNumber at) = Some at
usage_place (BadThreads at) = Some at
usage_place (OpenGroup at) = Some at
usage_place CaseAndInput = None
usage_place NoInput = None
usage_place NoOutput = None
usage_place PartialClash = None

abbrev pub placed_line : List ℕ → Option ℕ → List ℕ
placed_line name (Some at) = joined (codes "wasmld: usage: " ∷ name ∷ codes " at word " ∷ decimal at ∷ codes "\n" ∷ [])
placed_line name None = joined (codes "wasmld: usage: " ∷ name ∷ codes "\n" ∷ [])

abbrev pub usage_line : Usage → List ℕ
usage_line usage = placed_line (usage_name usage) (usage_place usage)

-- When what is written has a spelling: lengths are u32 (which holds of all that the writer answers), and names are UTF-8 (which is the
-- caller's, and holds of all names that were read).
use Rattle.std.specs.Prelude.{ℕ, ◌<◌, ◌^◌, List, length, IsUtf8}
use Rattle.std.specs.List.{All}
use Rattle.feature_section.specs.declared.feature.Feature.{Feature}

abbrev pub IsU32 : ℕ → Type 0
IsU32 n = n < 2 ^ 32

-- A name of fewer than 2^32 bytes.
unfoldable pub IsShort : List ℕ → Type 0
IsShort name = IsU32 (length name)

-- The names and their number are short enough.
pub record NamesAreShort (names : List (List ℕ)) : Type 0 where
  pub count : IsU32 (length names)
  pub each : All IsShort names

abbrev pub NamesAreUtf8 : List (List ℕ) → Type 0
NamesAreUtf8 names = All (λ name. IsUtf8 name) names

-- So are those of what an object says.
abbrev pub FeaturesAreUtf8 : List Feature → Type 0
FeaturesAreUtf8 features = All (λ f. IsUtf8 f.name) features

abbrev pub NamesFit : List (List ℕ) → Type 0
NamesFit names = NamesAreShort names × NamesAreUtf8 names

-- The live parts, by number.
use Rattle.std.specs.Prelude.{◌≡◌, ◌<◌, ℕ, List, map, slice_get, Some, All, AllPairs, Bool, false}
use Rattle.name_meanings.specs.name_entries.name_rules.Entries.{InputSymbol}
use Rattle.name_meanings.specs.name_entries.name_rules.Meanings.{is_nothing}
use Rattle.link_rules.specs.Program.{Program, Part}
use Rattle.link_rules.specs.Marks.{refs_of}

-- The numbers rise, and are those of these parts.
pub record AreLive (p : Program) (numbers : List ℕ) (parts : List Part) : Type 0 where
  pub rise : AllPairs (λ m n. m < n) numbers
  pub are : map (slice_get p.parts) numbers ≡ map Some parts

-- No reference of these parts is unresolved.
abbrev pub AllMeant : List Part → Type 0
AllMeant parts = All (λ ref. is_nothing ref.meaning ≡ false) (refs_of parts)

-- A program with its exported winners and its live parts.
pub record Stage : Type 0 where
  pub program : Program
  pub exports : List InputSymbol
  pub parts : List Part

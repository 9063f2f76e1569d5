-- Parts of texts, and the lines that refuse words.
use Rattle.std.specs.Prelude.{◌≡◌, ℕ, List, ◌++◌, length, drop, Bool, eqb, if◌then◌else◌, Option, Some, None, codes, refl}
use Rattle.std.specs.List.{starts_with}

-- whether a text begins with another
abbrev pub begins : List ℕ → List ℕ → Bool
begins front text = starts_with eqb text front

-- what stands behind the front, where the text begins with it
abbrev pub stripped : List ℕ → List ℕ → Option (List ℕ)
stripped front text = if begins front text then Some (drop (length front) text) else None

-- a line of four parts, as `NAME: number expected, but got 'VALUE'`
abbrev pub line : List ℕ → List ℕ → List ℕ → List ℕ → List ℕ
line a b c d = ((a ++ b) ++ c) ++ d

pub front_is_cut_off : stripped (codes "--") (codes "--help") ≡ Some (codes "help")
front_is_cut_off = refl

pub other_front : stripped (codes "--") (codes "-help") ≡ None
other_front = refl

-- Paths of inputs.
use Rattle.std.specs.Prelude.{◌≡◌, ℕ, ◌+◌, ◌-◌, ◌==◌, List, [], ◌∷◌, ◌++◌, length, take, eqb, if◌then◌else◌, Option, Some, None, codes, refl}
use Rattle.std.specs.List.{ends_with}
use Rattle.driver_table.specs.Texts.{begins}

-- A path as a word: one that begins with `-` would be an option.
abbrev pub plain : List ℕ → List ℕ
plain path = if begins (codes "-") path then codes "./" ++ path else path

-- What stands before the end, where the text ends with it.
abbrev pub stripped_end : List ℕ → List ℕ → Option (List ℕ)
stripped_end end text = if ends_with eqb text end then Some (take (length text - length end) text) else None

-- How many bytes there are up to the last slash, behind `at` bytes of which `n` are up to a slash.
abbrev pub slashed : ℕ → ℕ → List ℕ → ℕ
slashed at n [] = n
slashed at n (b ∷ bs) = slashed (at + 1) (if b == 0x2f then at + 1 else n) bs

-- The folder of a path, with its slash; nothing where it has none.
abbrev pub folder_of : List ℕ → List ℕ
folder_of path = take (slashed 0 0 path) path

-- The path of a thin library's member: beside the library, unless it begins with a slash.
abbrev pub member_path : List ℕ → List ℕ → List ℕ
member_path library name = plain (if begins (codes "/") name then name else folder_of library ++ name)

pub folder_with_slash : folder_of (codes "a/b/c.o") ≡ codes "a/b/"
folder_with_slash = refl

pub no_folder : folder_of (codes "c.o") ≡ []
no_folder = refl

pub dash_in_front : plain (codes "-d/libx.a") ≡ codes "./-d/libx.a"
dash_in_front = refl

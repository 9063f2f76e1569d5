-- Where a library is found: in the first folder that has its file, as drivers expect of `-L` and `-l`. No `.so` is
-- looked for, since a shared module is no input.
use Rattle.std.specs.Prelude.{◌≡◌, ℕ, ◌-◌, List, [], ◌∷◌, ◌++◌, length, slice_get, Bool, false, eqb, if◌then◌else◌, ◌==◌, Option, Some, None, codes, is_some, refl}
use Rattle.std.specs.List.{list_any, starts_with}
use Rattle.std.specs.Str.{bytes_eq}
use Rattle.wl_outside.specs.Shelf.{Shown}

abbrev pub is_slash : Option ℕ → Bool
is_slash None = false
is_slash (Some b) = b == 0x2f

abbrev pub ends_in_slash : List ℕ → Bool
ends_in_slash folder = is_slash (slice_get folder (length folder - 1))

-- A file of a folder.
abbrev pub joined : List ℕ → List ℕ → List ℕ
joined folder file = (if ends_in_slash folder then folder else folder ++ codes "/") ++ file

-- The file of the first folder that has it.
abbrev pub found : (List ℕ → Bool) → List (List ℕ) → List ℕ → Option (List ℕ)
found holds [] file = None
found holds (folder ∷ folders) file = if holds (joined folder file) then Some (joined folder file) else found holds folders file

-- The file of a library's name.
abbrev pub library_file : List ℕ → List ℕ
library_file name = (codes "lib" ++ name) ++ codes ".a"

-- Whether a shelf holds a name.
abbrev pub holds : Shown → List ℕ → Bool
holds s name = is_some (s.held name)

-- Whether there are bytes that begin with these.
abbrev pub begins_with : Option (List ℕ) → List ℕ → Bool
begins_with None front = false
begins_with (Some bytes) front = starts_with eqb bytes front

-- ---- worked searches, in two folders

abbrev files_there : List (List ℕ)
files_there = codes "a/libx.a" ∷ codes "b/libx.a" ∷ codes "b/liby.a" ∷ codes "a/libx.so" ∷ codes "a/z.o" ∷ []

abbrev pub is_there : List ℕ → Bool
is_there name = list_any (bytes_eq name) files_there

pub first_folder : found is_there (codes "a" ∷ codes "b" ∷ []) (library_file (codes "x")) ≡ Some (codes "a/libx.a")
first_folder = refl

pub order_of_folders : found is_there (codes "b" ∷ codes "a" ∷ []) (library_file (codes "x")) ≡ Some (codes "b/libx.a")
order_of_folders = refl

pub later_folder : found is_there (codes "a" ∷ codes "b" ∷ []) (library_file (codes "y")) ≡ Some (codes "b/liby.a")
later_folder = refl

pub folder_with_slash : found is_there (codes "a/" ∷ []) (library_file (codes "x")) ≡ Some (codes "a/libx.a")
folder_with_slash = refl

pub file_as_it_stands : found is_there (codes "b" ∷ codes "a" ∷ []) (codes "z.o") ≡ Some (codes "a/z.o")
file_as_it_stands = refl

pub nowhere : found is_there (codes "a" ∷ codes "b" ∷ []) (library_file (codes "q")) ≡ None
nowhere = refl

pub no_folder : found is_there [] (library_file (codes "x")) ≡ None
no_folder = refl

-- The start file of a wasi-libc that leaves constructors to the linker: its `crt1-command.o` has no call of `__wasm_call_ctors`, since
-- wasm-ld wraps the exports in such calls. `crt1.o` of the same library calls constructors, main and destructors itself, and stands for it.
use Rattle.std.specs.Prelude.{◌≡◌, ℕ, List, [], ◌∷◌, Bool, true, false, not, eqb, ◌==◌, ◌||◌, length, if◌then◌else◌, Option, Some, None, option_and_then, is_some, Result, Ok, Err, codes, refl}
use Rattle.std.specs.List.{starts_with}
use Rattle.driver_table.specs.Texts.{line}
use Rattle.driver_words.specs.Search.{ends_in_slash, found}
use Rattle.driver_texts.specs.Paths.{plain, stripped_end}

-- Whether the bytes have a part that isn't empty.
abbrev pub has_part : List ℕ → List ℕ → Bool
has_part part [] = false
has_part part (b ∷ bs) = starts_with eqb (b ∷ bs) part || has_part part bs

-- The folder in front of the file's name, where all of the name stands behind it.
abbrev pub folder_in : List ℕ → Option (List ℕ)
folder_in front = if length front == 0 then Some (codes "./") else if ends_in_slash front then Some front else None

-- The folder of a path to a `crt1-command.o`.
abbrev pub start_folder : List ℕ → Option (List ℕ)
start_folder path = option_and_then folder_in (stripped_end (codes "crt1-command.o") path)

abbrev pub or_refused : List ℕ → Option (List ℕ) → Result (List ℕ) (List ℕ)
or_refused path (Some other) = Ok (plain other)
or_refused path None = Err (line path (codes ": constructors would not be called, and there is no crt1.o beside it or in a folder of -L") [] [])

-- What stands for the start file: `crt1.o` beside it, or in the first folder that has it.
abbrev pub beside : (List ℕ → Option (List ℕ)) → List (List ℕ) → List ℕ → List ℕ → Result (List ℕ) (List ℕ)
beside held folders path folder = or_refused path (found (λ name. is_some (held name)) (folder ∷ folders) (codes "crt1.o"))

-- Whether a file is there and doesn't call the constructors.
abbrev pub leaves : Option (List ℕ) → Bool
leaves None = false
leaves (Some bytes) = not (has_part (codes "__wasm_call_ctors") bytes)

abbrev pub started_in : (List ℕ → Option (List ℕ)) → List (List ℕ) → List ℕ → Option (List ℕ) → Result (List ℕ) (List ℕ)
started_in held folders path None = Ok path
started_in held folders path (Some folder) = if leaves (held path) then beside held folders path folder else Ok path

-- An input, or what stands for it where it is such a start file that is there.
abbrev pub started : (List ℕ → Option (List ℕ)) → List (List ℕ) → List ℕ → Result (List ℕ) (List ℕ)
started held folders path = started_in held folders path (start_folder path)

pub in_a_folder : start_folder (codes "d/crt1-command.o") ≡ Some (codes "d/")
in_a_folder = refl

pub in_none : start_folder (codes "crt1-command.o") ≡ Some (codes "./")
in_none = refl

pub another_name : start_folder (codes "d/my_crt1-command.o") ≡ None
another_name = refl

pub calls_are_found : has_part (codes "ctors") (codes "call_ctors()") ≡ true
calls_are_found = refl

-- The words of inputs and of the marks between them, from left to right.
use Rattle.std.specs.Prelude.{ℕ, List, [], ◌∷◌, ◌++◌, eqb, Bool, true, false, not, ◌&&◌, ◌||◌, map, if◌then◌else◌, Option, Some, None, unwrap_or, is_some, Result, Ok, Err, codes}
use Rattle.std.specs.List.{filter_map, ends_with}
use Rattle.wl_base.specs.Choice.{given}
use Rattle.driver_table.specs.declared.meaning.Meaning.{Meaning}
use Rattle.driver_table.specs.declared.meaning.Meaning.TheVariants.{Input, Library, Folder, WholeArchive, NoWholeArchive, StartLib, EndLib}
use Rattle.driver_table.specs.Meanings.{same}
use Rattle.driver_table.specs.Items.{Said}
use Rattle.driver_table.specs.Texts.{line, stripped}
use Rattle.driver_table.specs.Cut.{behind}
use Rattle.driver_words.specs.Search.{found, library_file, begins_with}
use Rattle.driver_texts.specs.Thin.{thin, members_of}
use Rattle.driver_texts.specs.Paths.{plain, member_path}
use Rattle.driver_words.specs.Start.{started}

-- The file of `-lNAME`, and of `-l:FILE`.
abbrev pub file_named : List ℕ → List ℕ
file_named name = unwrap_or (stripped (codes ":") name) (library_file name)

abbrev pub or_unfound : List ℕ → Option (List ℕ) → Result (List ℕ) (List ℕ)
or_unfound name (Some path) = Ok (plain path)
or_unfound name None = Err (line (codes "unable to find library -l") name [] [])

-- The path of a library.
abbrev pub library_path : (List ℕ → Option (List ℕ)) → List (List ℕ) → List ℕ → Result (List ℕ) (List ℕ)
library_path held folders name = or_unfound name (found (λ n. is_some (held n)) folders (file_named name))

-- The members of a thin library stand for it: as a group, but not inside of a group, and not where libraries are whole.
abbrev pub grouped : Bool → List (List ℕ) → List (List ℕ)
grouped within names = if within then names else codes "--start-lib" ∷ (names ++ codes "--end-lib" ∷ [])

abbrev pub members_in : List ℕ → Option (List ℕ) → List (List ℕ)
members_in path None = []
members_in path (Some text) = map (member_path path) (members_of text)

-- A thin library. What is named as an object isn't looked into.
abbrev pub is_thin : (List ℕ → Option (List ℕ)) → List ℕ → Bool
is_thin held path = not (ends_with eqb path (codes ".o")) && begins_with (held path) thin

-- The words of a path.
abbrev pub opened : (List ℕ → Option (List ℕ)) → Bool → List ℕ → List (List ℕ)
opened held within path = if is_thin held path then grouped within (members_in path (held path)) else path ∷ []

abbrev pub opened_of : (List ℕ → Option (List ℕ)) → Bool → Result (List ℕ) (List ℕ) → Result (List (List ℕ)) (List ℕ)
opened_of held within (Ok path) = Ok (opened held within path)
opened_of held within (Err refusal) = Err refusal

-- A mark where it may stand, else the line that refuses it.
abbrev pub marked : Bool → List ℕ → List ℕ → Result (List (List ℕ)) (List ℕ)
marked stands mark refusal = if stands then Ok (mark ∷ []) else Err refusal

-- The words that an item gives, inside of a group or outside, and where libraries are whole or aren't. A group may not begin in a group, nor end outside of one.
abbrev pub given_by : (List ℕ → Option (List ℕ)) → List (List ℕ) → Bool → Bool → Meaning → List ℕ → Result (List (List ℕ)) (List ℕ)
given_by held folders inside whole Input value = opened_of held (inside || whole) (started held folders (plain value))
given_by held folders inside whole Library value = opened_of held (inside || whole) (library_path held folders value)
given_by held folders inside whole StartLib value = marked (not inside) (codes "--start-lib") (codes "nested --start-lib")
given_by held folders inside whole EndLib value = marked inside (codes "--end-lib") (codes "stray --end-lib")
given_by held folders inside whole WholeArchive value = marked true (codes "--whole-archive") []
given_by held folders inside whole NoWholeArchive value = marked true (codes "--no-whole-archive") []
given_by held folders inside whole other value = Ok []

-- Whether a group is open behind an item.
abbrev pub inside_after : Bool → Meaning → Bool
inside_after inside StartLib = true
inside_after inside EndLib = false
inside_after inside other = inside

-- Whether libraries are whole behind an item.
abbrev pub whole_after : Bool → Meaning → Bool
whole_after whole WholeArchive = true
whole_after whole NoWholeArchive = false
whole_after whole other = whole

-- Words, and then what follows, where neither is refused.
abbrev pub and_then : {A E : Type 0} → Result (List A) E → Result (List A) E → Result (List A) E
and_then (Ok words) rest = behind words rest
and_then (Err e) rest = Err e

-- A group that is open at the end is closed.
abbrev pub inputs_from : (List ℕ → Option (List ℕ)) → List (List ℕ) → Bool → Bool → List Said → Result (List (List ℕ)) (List ℕ)
inputs_from held folders inside whole [] = Ok (if inside then codes "--end-lib" ∷ [] else [])
inputs_from held folders inside whole (said ∷ items) =
    and_then (given_by held folders inside whole said.meaning said.value) (inputs_from held folders (inside_after inside said.meaning) (whole_after whole said.meaning) items)

-- The folders in which libraries are looked for: all of them, wherever they stand.
abbrev pub folder_said : Said → Option (List ℕ)
folder_said said = given (same said.meaning Folder) said.value

abbrev pub folders_of : List Said → List (List ℕ)
folders_of items = filter_map folder_said items

abbrev pub inputs_of : (List ℕ → Option (List ℕ)) → List Said → Result (List (List ℕ)) (List ℕ)
inputs_of held items = inputs_from held (folders_of items) false false items

-- What words are behind a step that puts some or is refused by a line.
abbrev pub outcome : Option (List ℕ) → List (List ℕ) → Result (List (List ℕ)) (List ℕ)
outcome None words = Ok words
outcome (Some refusal) words = Err refusal

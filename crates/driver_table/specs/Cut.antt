-- How words are cut into items, from the left up to the first word that is none, as LLVM's wasm-ld cuts them: a whole word is looked up
-- first, then the name in front of `=`, then one letter with its value behind it or in the next word. So `-export-all` is `-e xport-all`.
use Rattle.std.specs.Prelude.{◌≡◌, ℕ, ◌==◌, Bool, true, false, ◌||◌, List, [], ◌∷◌, ◌++◌, length, take, drop, slice_get, codes, nat_lt, if◌then◌else◌, Option, Some, None, Result, Ok, Err, option_and_then, refl}
use Rattle.std.specs.List.{position_or_len, before_first, after_first}
use Rattle.std.specs.Option.{option_or, option_map}
use Rattle.std.specs.Str.{bytes_eq}
use Rattle.wl_base.specs.Choice.{first_some, given}
use Rattle.driver_table.specs.declared.meaning.Meaning.{Meaning}
use Rattle.driver_table.specs.declared.meaning.Meaning.TheVariants.{Input, Drop, Z, StackSize}
use Rattle.driver_table.specs.declared.cut.Begun.{Begun}
use Rattle.driver_table.specs.declared.cut.Begun.TheVariants.{Whole, Waits}
use Rattle.driver_table.specs.Meanings.{same}
use Rattle.driver_table.specs.Items.{Said, item}
use Rattle.driver_table.specs.Rows.{row_of, alone_row, either, equals_row, meant, letter_of}
use Rattle.driver_table.specs.Texts.{begins, stripped, line}

-- the two parts around the first `=`
abbrev pub is_equals : ℕ → Bool
is_equals b = b == 61

abbrev pub parts_of : List ℕ → Option (List ℕ × List ℕ)
parts_of word = if nat_lt (position_or_len is_equals word) (length word) then Some (before_first is_equals word, after_first is_equals word) else None

-- an option with its value: `-z stack-size=N` is an option of its own
abbrev pub sized : List ℕ → List ℕ → Option (List ℕ) → Said
sized value spelling (Some size) = item StackSize size (codes "-z stack-size")
sized value spelling None = item Z value spelling

abbrev pub valued : Meaning → List ℕ → List ℕ → Said
valued meaning value spelling = if same meaning Z then sized value spelling (stripped (codes "stack-size=") value) else item meaning value spelling

-- whether two dashes stand before the name, and the name
abbrev pub name_of : List ℕ → Option (Bool × List ℕ)
name_of word = option_or (option_map (λ n. (true, n)) (stripped (codes "--") word)) (option_map (λ n. (false, n)) (stripped (codes "-") word))

-- an option alone in its word
abbrev pub alone : List ℕ → Option Meaning → Option Begun
alone word meaning = option_map (λ m. Whole (item m [] word)) meaning

-- an option that waits for the next word
abbrev pub waiting : List ℕ → Option Meaning → Option Begun
waiting word meaning = option_map (λ m. Waits (item m [] word)) meaning

-- an option with its value behind `=`
abbrev pub behind_equals : Bool → List ℕ → Option (List ℕ × List ℕ) → Option Begun
behind_equals two word None = None
behind_equals two word (Some parts) = option_map (λ m. Whole (item m parts.1 word)) (meant two (equals_row parts.0))

-- `--lto-O3` and the like, which concern bitcode
abbrev pub for_bitcode : Bool → List ℕ → Bool
for_bitcode two name = if two then begins (codes "lto-O") name || begins (codes "lto-CGO") name else false

-- an option of one letter, with its value behind it or in the next word
abbrev pub lettered : List ℕ → Option (Meaning × List ℕ) → Option Begun
lettered word None = None
lettered word (Some (meaning, rest)) = Some (if length rest == 0 then Waits (item meaning [] word) else Whole (valued meaning rest word))

-- an option
unfoldable pub option_in : List ℕ → Bool → List ℕ → Option Begun
option_in word two name = first_some (
    alone word (meant two (alone_row name))
    ∷ waiting word (meant two (row_of either name))
    ∷ behind_equals two word (parts_of name)
    ∷ given (for_bitcode two name) (Whole (item Drop [] word))
    ∷ lettered word (if two then None else letter_of name)
    ∷ [])

abbrev pub named : List ℕ → Option (Bool × List ℕ) → Option Begun
named word None = Some (Whole (item Input word word))
named word (Some (two, name)) = option_in word two name

-- a word where an option may stand; `-` alone is an input
abbrev pub free_word : List ℕ → Option Begun
free_word word = named word (if bytes_eq word (codes "-") then None else name_of word)

-- a word, where an option may wait for its value
abbrev pub step : Option Said → List ℕ → Option Begun
step None word = free_word word
step (Some said) word = Some (Whole (valued said.meaning word said.spelling))

-- an item behind others; what is dropped is as if it weren't there
abbrev pub with_item : Said → List Said
with_item said = if same said.meaning Drop then [] else said ∷ []

abbrev pub behind : {A E : Type 0} → List A → Result (List A) E → Result (List A) E
behind items (Ok more) = Ok (items ++ more)
behind items (Err e) = Err e

-- the items from a word on, or the line that refuses the words
abbrev pub go_on : List ℕ → Option Begun → (Option Said → Result (List Said) (List ℕ)) → Result (List Said) (List ℕ)
go_on word None rest = Err (line (codes "unknown argument: ") word [] [])
go_on word (Some (Whole said)) rest = behind (with_item said) (rest None)
go_on word (Some (Waits said)) rest = rest (Some said)

-- an option whose value is missing, where no word is left
abbrev pub missing : Option Said → Option (List ℕ)
missing None = None
missing (Some said) = Some (line said.spelling (codes ": missing argument") [] [])

abbrev pub ended : Option (List ℕ) → Result (List Said) (List ℕ)
ended None = Ok []
ended (Some refusal) = Err refusal

abbrev pub cut_from : Option Said → List (List ℕ) → Result (List Said) (List ℕ)
cut_from waits [] = ended (missing waits)
cut_from waits (word ∷ words) = go_on word (step waits word) (λ w. cut_from w words)

abbrev pub cut_of : List (List ℕ) → Result (List Said) (List ℕ)
cut_of words = cut_from None words

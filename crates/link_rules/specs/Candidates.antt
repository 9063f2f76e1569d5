-- The candidates of a link: its objects and the members of its libraries, by precedence.
use Rattle.std.specs.Prelude.{ℕ, ◌+◌, ◌-◌, ◌^◌, ◌==◌, nat_le, min, Bool, true, false, not, ◌||◌, List, [], ◌∷◌, ◌++◌, length, take, drop, map, filter, sum_by, if◌then◌else◌, Option, Some, None, bytes_eq, Result, Ok, Err, codes}
use Rattle.name_rules.specs.object_file.wl_base.Choice.{given, unless, ◌>>=◌}
use Rattle.name_rules.specs.object_file.wl_base.declared.fault.Fault.{Fault}
use Rattle.name_rules.specs.object_file.wl_base.declared.fault.Fault.TheVariants.{TooMuchInput, TooManyInputs, Library as BadLibrary}
use Rattle.name_rules.specs.object_file.wl_base.declared.fault.LibFault.{LibFault}
use Rattle.name_rules.specs.object_file.wl_base.declared.span.Span.{Span}
use Rattle.name_rules.specs.object_file.declared.object.Object.{Object}
use Rattle.lib_index.specs.Library.{Contents}
use Rattle.round_rules.specs.Rounds.{Candidate, defined_names}
use Rattle.link_plan.specs.declared.plan.Plan.{Plan}
use Rattle.link_plan.specs.declared.plan.InputWord.{InputWord}

-- What the readers of objects and of libraries give of bytes; an object is read as an input of a number.
pub record Readers : Type 0 where
  pub object : ℕ → List ℕ → Result Object Fault
  pub library : List ℕ → Result Contents LibFault

-- ---- libraries

abbrev pub newline : List ℕ
newline = 10 ∷ []

-- A file is a library where it begins with one of the two magics of `ar`; any other is an object.
abbrev pub is_library : List ℕ → Bool
is_library bytes = bytes_eq (take 8 bytes) (codes "!<arch>" ++ newline) || bytes_eq (take 8 bytes) (codes "!<thin>" ++ newline)

-- A file as an object or as a library.
pub data Opened : Type 0 where
  object : Opened
  library : Contents → Opened

abbrev pub opened_library : ℕ → Result Contents LibFault → Result Opened Fault
opened_library file (Ok l) = Ok (library l)
opened_library file (Err fault) = Err (BadLibrary file fault)

-- The file at this place, by whether it is a library. One that can't be read is a fault.
abbrev pub opened : Readers → ℕ → List ℕ → Bool → Result Opened Fault
opened readers file bytes false = Ok object
opened readers file bytes true = opened_library file (readers.library bytes)

-- The names that the index gives for a member.
abbrev pub names_of_member : List (List ℕ × ℕ) → ℕ → List (List ℕ)
names_of_member offered member = map (λ o. o.0) (filter (λ o. o.1 == member) offered)

abbrev pub part_of : List ℕ → Span → List ℕ
part_of bytes s = take s.len (drop s.start bytes)

abbrev pub names_in : Result Object Fault → List (List ℕ)
names_in (Ok o) = defined_names o
names_in (Err fault) = []

-- ---- candidates

module _ (readers : Readers) (file : ℕ) (word : InputWord) (bytes : List ℕ) where
  -- An object of the words. A lazy one offers what it defines.
  abbrev pub plain_candidate : ℕ → Candidate
  plain_candidate input = record {
    input = input;
    file = file;
    start = 0;
    len = length bytes;
    is_member = false;
    by_need = word.lazy;
    offers = if word.lazy then names_in (readers.object input bytes) else [];
    object = readers.object input bytes;
  }

  -- The members of a library. Each offers the names that the index gives for it.
  abbrev pub members_from : ℕ → ℕ → List (List ℕ × ℕ) → List Span → List Candidate
  members_from input member offered [] = []
  members_from input member offered (s ∷ ss) = record {
    input = input;
    file = file;
    start = s.start;
    len = s.len;
    is_member = true;
    by_need = not word.whole;
    offers = names_of_member offered member;
    object = readers.object input (part_of bytes s);
  } ∷ members_from (input + 1) (member + 1) offered ss

  abbrev pub candidates_in : ℕ → Opened → List Candidate
  candidates_in input object = plain_candidate input ∷ []
  candidates_in input (library l) = members_from input 0 l.offered l.members

-- The candidates of the files from a place on, behind those that were found before.
abbrev pub candidates_from : Readers → ℕ → List Candidate → List InputWord → List (List ℕ) → Result (List Candidate) Fault
candidates_from readers file found [] files = Ok found
candidates_from readers file found (w ∷ ws) [] = Ok found
candidates_from readers file found (w ∷ ws) (bytes ∷ files) =
    opened readers file bytes (is_library bytes)
    >>= λ o. candidates_from readers (file + 1) (found ++ candidates_in readers file w bytes (length found + 1) o) ws files

-- ---- limits

abbrev pub total_len : List (List ℕ) → ℕ
total_len files = sum_by (λ f. length f) files

-- All files together have fewer than 2^32 bytes. The sum that is told has 64 bits.
abbrev pub too_much_input : List (List ℕ) → Option Fault
too_much_input files = given (nat_le (2 ^ 32) (total_len files)) (TooMuchInput (min (total_len files) (2 ^ 64 - 1)))

-- There are fewer than 2^20 candidates.
abbrev pub too_many_inputs : List Candidate → Option Fault
too_many_inputs all = given (nat_le (2 ^ 20) (length all)) (TooManyInputs (length all))

-- ---- the whole

-- The objects of a generated case stand as words of their own, neither lazy nor whole.
abbrev pub plain_word : InputWord
plain_word = record { place = 0; lazy = false; whole = false }

abbrev pub words_for : Option ℕ → List InputWord → List (List ℕ) → List InputWord
words_for None words files = words
words_for (Some n) words files = map (λ f. plain_word) files

-- All candidates, or the first fault: too much input, the first library that can't be read, too many candidates.
unfoldable pub candidates_of : Readers → Plan → List (List ℕ) → Result (List Candidate) Fault
candidates_of readers plan files = do
  words ← unless (too_much_input files) (words_for plan.make_case plan.inputs files)
  all ← candidates_from readers 0 [] words files
  unless (too_many_inputs all) all

-- Words with the words of response files in their places, and those of the response files that these name, to a depth of 20.
use Rattle.std.specs.Prelude.{◌≡◌, ◌⊎◌, ℕ, zero, suc, List, [], ◌∷◌, ◌++◌, Option, Some, None, IsTrue, IsSome, IsSomeAnd, IsUtf8, slice_get, is_some, if◌then◌else◌, ◌==◌, Result, Ok, Err, codes, refl}
use Rattle.std.specs.Option.{option_or}
use Rattle.std.specs.Str.{bytes_eq}
use Rattle.wl_outside.specs.Shelf.{Shown, Same, Grows, LoadFailed}
use Rattle.driver_words.specs.declared.stop.Stop.{Stop}
use Rattle.driver_words.specs.declared.stop.Stop.TheVariants.{Unreadable, NotText, OutOfMemory}
use Rattle.driver_texts.specs.Thin.{members_of}
use Rattle.driver_texts.specs.Tokens.{tokens_of}

-- The file that a word asks for: what stands behind @.
abbrev pub asked : List ℕ → Option (List ℕ)
asked [] = None
asked (b ∷ bs) = if b == 0x40 then Some bs else None

-- A word, or the words of the file that is there.
abbrev pub or_words : List ℕ → Option (List ℕ) → List (List ℕ)
or_words word None = word ∷ []
or_words word (Some text) = tokens_of text

abbrev pub text_of : (List ℕ → Option (List ℕ)) → Option (List ℕ) → Option (List ℕ)
text_of held None = None
text_of held (Some name) = held name

-- The words that a word stands for, one level deep: a word that its file has stands as it is.
abbrev pub expanded_word : (List ℕ → Option (List ℕ)) → List ℕ → List (List ℕ)
expanded_word held word = or_words word (text_of held (asked word))

abbrev pub expanded : (List ℕ → Option (List ℕ)) → List (List ℕ) → List (List ℕ)
expanded held [] = []
expanded held (word ∷ words) = expanded_word held word ++ expanded held words

-- The file of a word that asks for one that is there.
abbrev pub there : (List ℕ → Option (List ℕ)) → Option (List ℕ) → Option (List ℕ)
there held None = None
there held (Some name) = if is_some (held name) then Some name else None

-- The first file that words ask for, and that is there.
abbrev pub first_there : (List ℕ → Option (List ℕ)) → List (List ℕ) → Option (List ℕ)
first_there held [] = None
first_there held (word ∷ words) = option_or (there held (asked word)) (first_there held words)

-- The words where none asks for a file that is there, and else what the next step gives.
abbrev pub unless_there : List (List ℕ) → Option (List ℕ) → (List ℕ → Result (List (List ℕ)) (List ℕ)) → Result (List (List ℕ)) (List ℕ)
unless_there words None next = Ok words
unless_there words (Some name) next = next name

-- The words to this depth, or the name of a file that is deeper.
abbrev pub expanded_to : ℕ → (List ℕ → Option (List ℕ)) → List (List ℕ) → Result (List (List ℕ)) (List ℕ)
expanded_to zero held words = unless_there words (first_there held words) (λ name. Err name)
expanded_to (suc depth) held words = unless_there words (first_there held words) (λ _. expanded_to depth held (expanded held words))

-- What has been found after some loads, and what is left to be.
pub record SoFar (old new : Shown) (said left all : List (List ℕ)) : Type 0 where
  pub same : Same old new
  pub grows : Grows old new
  pub words : IsTrue old.tells → said ++ left ≡ all

-- All is held as before, and no count fell.
pub record Kept (old new : Shown) : Type 0 where
  pub same : Same old new
  pub grows : Grows old new

-- One of the words isn't UTF-8.
abbrev pub HasOther : List (List ℕ) → Type 0
HasOther words = (at : ℕ) × (word : List ℕ) × (slice_get words at ≡ Some word) × (¬ (IsUtf8 word))

-- Words of a file are no answer where one of them isn't UTF-8; the file is named.
abbrev pub Others : Stop → List ℕ → List (List ℕ) → Type 0
Others (Unreadable file) name words = ⊥
Others (NotText file) name words = (file ≡ name) × HasOther words
Others OutOfMemory name words = Unit {0}

-- A text has a word, or as a thin library a member's name, that isn't UTF-8.
abbrev pub IsNoText : List ℕ → Type 0
IsNoText text = HasOther (tokens_of text) ⊎ HasOther (members_of text)

-- Why there is no answer: the load of a file that is there failed, or a file that was loaded isn't text.
abbrev pub Blames : Stop → Shown → Shown → Type 0
Blames (Unreadable name) old new = LoadFailed old new name × (IsTrue old.tells → IsSome (old.held name))
Blames (NotText name) old new = IsTrue old.tells → IsSomeAnd (old.held name) IsNoText
Blames OutOfMemory old new = Unit {0}

-- ---- worked words, where one file is there

abbrev held_here : List ℕ → Option (List ℕ)
held_here name =
    if bytes_eq name (codes "a") then Some (codes "m.o \"x y.o\"\n'q'r\\ s.o\n@b")
    else if bytes_eq name (codes "b") then Some (codes "n.o \"\" -O2")
    else if bytes_eq name (codes "c") then Some (codes "@c m.o")
    else None

pub file_in_its_place : expanded held_here (codes "@a" ∷ codes "-o" ∷ codes "o" ∷ []) ≡ codes "m.o" ∷ codes "x y.o" ∷ codes "qr s.o" ∷ codes "@b" ∷ codes "-o" ∷ codes "o" ∷ []
file_in_its_place = refl

pub files_of_files : expanded_to 20 held_here (codes "@a" ∷ codes "-o" ∷ codes "o" ∷ []) ≡ Ok (codes "m.o" ∷ codes "x y.o" ∷ codes "qr s.o" ∷ codes "n.o" ∷ codes "-O2" ∷ codes "-o" ∷ codes "o" ∷ [])
files_of_files = refl

pub no_such_file : expanded_to 20 held_here (codes "@nosuch" ∷ codes "-o" ∷ codes "o" ∷ []) ≡ Ok (codes "@nosuch" ∷ codes "-o" ∷ codes "o" ∷ [])
no_such_file = refl

pub file_of_itself : expanded_to 20 held_here (codes "@c" ∷ codes "-o" ∷ codes "o" ∷ []) ≡ Err (codes "c")
file_of_itself = refl

-- The words of a response file, by GNU's quoting, as drivers write them: white space parts words, and quotes and
-- backslashes keep it. A backslash keeps the next byte, between quotes too.
use Rattle.std.specs.Prelude.{◌≡◌, ℕ, List, [], ◌∷◌, ◌++◌, Bool, if◌then◌else◌, ◌==◌, ◌||◌, codes, refl}
use Rattle.driver_texts.specs.declared.response.Mode.{Mode}
use Rattle.driver_texts.specs.declared.response.Mode.TheVariants.{Plain, Quoted, Escaped, EscapedIn}
use Rattle.driver_texts.specs.declared.response.Reading.{Reading}

-- a space, a tab, the end of a line or a return
abbrev pub is_space : ℕ → Bool
is_space b = b == 0x20 || b == 0x09 || b == 0x0a || b == 0x0d

-- " or '
abbrev pub is_quote : ℕ → Bool
is_quote b = b == 0x22 || b == 0x27

abbrev pub backslash : ℕ
backslash = 0x5c

-- A word ends; an empty one is none.
abbrev pub with_word : List ℕ → List (List ℕ) → List (List ℕ)
with_word [] words = words
with_word (b ∷ bs) words = words ++ (b ∷ bs) ∷ []

-- The byte is one more of the word.
abbrev pub more : Mode → ℕ → Reading → Reading
more mode b r = record { mode = mode; token = r.token ++ b ∷ []; words = r.words }

-- The byte is no part of the word, and says how the next one counts.
abbrev pub turned : Mode → Reading → Reading
turned mode r = record { mode = mode; token = r.token; words = r.words }

-- The word ends.
abbrev pub ended : Reading → Reading
ended r = record { mode = Plain; token = []; words = with_word r.token r.words }

-- One byte.
abbrev pub read : Mode → ℕ → Reading → Reading
read Escaped b r = more Plain b r
read (EscapedIn quote) b r = more (Quoted quote) b r
read (Quoted quote) b r = if b == backslash then turned (EscapedIn quote) r else if b == quote then turned Plain r else more (Quoted quote) b r
read Plain b r = if b == backslash then turned Escaped r else if is_quote b then turned (Quoted b) r else if is_space b then ended r else more Plain b r

-- A backslash at the very end stands for itself.
abbrev pub last_byte : Mode → List ℕ → List ℕ
last_byte Escaped token = token ++ backslash ∷ []
last_byte (EscapedIn quote) token = token ++ backslash ∷ []
last_byte mode token = token

abbrev pub finished : Reading → List (List ℕ)
finished r = with_word (last_byte r.mode r.token) r.words

abbrev pub read_all : Reading → List ℕ → List (List ℕ)
read_all r [] = finished r
read_all r (b ∷ bs) = read_all (read r.mode b r) bs

-- The words of a text.
abbrev pub tokens_of : List ℕ → List (List ℕ)
tokens_of text = read_all (record { mode = Plain; token = []; words = [] }) text

pub quotes_keep_spaces : tokens_of (codes "m.o \"x y.o\"\n\tq\\ r.o '' -o o") ≡ codes "m.o" ∷ codes "x y.o" ∷ codes "q r.o" ∷ codes "-o" ∷ codes "o" ∷ []
quotes_keep_spaces = refl

-- Quotes may stand inside a word, and a response file's name is a word as any other.
pub quotes_inside : tokens_of (codes "m.o \"x y.o\"\n'q'r\\ s.o\n@b") ≡ codes "m.o" ∷ codes "x y.o" ∷ codes "qr s.o" ∷ codes "@b" ∷ []
quotes_inside = refl

pub empty_words_are_none : tokens_of (codes "n.o \"\" -O2") ≡ codes "n.o" ∷ codes "-O2" ∷ []
empty_words_are_none = refl

pub quote_behind_backslash : tokens_of (codes "\"a\\\"b\" 'c\\") ≡ codes "a\"b" ∷ codes "c\\" ∷ []
quote_behind_backslash = refl

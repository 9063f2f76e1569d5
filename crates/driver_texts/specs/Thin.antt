-- Thin libraries, as GNU's and LLVM's `ar` write them: `!<thin>` and the end of a line, and then headers of 60 bytes. A header has a name
-- of 16 bytes, and at its byte 48 how many bytes follow, in decimal digits; spaces fill both up. Behind the headers `/` and `/SYM64/`
-- follows an index, and behind `//` follow long names, each with `/` and the end of a line behind it. A member's bytes are a file of its
-- own, so none follow.
use Rattle.std.specs.Prelude.{◌≡◌, ℕ, zero, suc, ◌+◌, ◌-◌, ◌%◌, List, [], ◌∷◌, ◌++◌, length, take, drop, Bool, eqb, ◌==◌, ◌||◌, nat_lt, if◌then◌else◌, codes, refl}
use Rattle.std.specs.List.{starts_with, ends_with}
use Rattle.std.specs.Str.{bytes_eq}
use Rattle.driver_table.specs.Numbers.{amount}

abbrev pub thin : List ℕ
thin = codes "!<thin>\n"

abbrev pub header_length : ℕ
header_length = 60

-- the bytes in front of the first of this value
abbrev pub until : ℕ → List ℕ → List ℕ
until stop [] = []
until stop (b ∷ bs) = if b == stop then [] else b ∷ until stop bs

-- what the header says that bytes begin with
abbrev pub name_in : List ℕ → List ℕ
name_in left = until 0x20 (take 16 left)

abbrev pub size_in : List ℕ → ℕ
size_in left = amount (until 0x20 (take 10 (drop 48 left)))

abbrev pub is_long_names : List ℕ → Bool
is_long_names name = bytes_eq name (codes "//")

-- whether bytes follow
abbrev pub is_filled : List ℕ → Bool
is_filled name = is_long_names name || bytes_eq name (codes "/") || bytes_eq name (codes "/SYM64/")

-- how many bytes there are up to the next header, which stands at an even place
abbrev pub taken : List ℕ → ℕ
taken left = if is_filled (name_in left) then header_length + size_in left + size_in left % 2 else header_length

abbrev pub longs_after : List ℕ → List ℕ → List ℕ
longs_after longs left = if is_long_names (name_in left) then take (size_in left) (drop header_length left) else longs

-- a name without the slash that ends it
abbrev pub unslashed : List ℕ → List ℕ
unslashed name = if ends_with eqb name (codes "/") then take (length name - 1) name else name

-- a member's name, which may be the place of a long one
abbrev pub member_name : List ℕ → List ℕ → List ℕ
member_name longs name = unslashed (if starts_with eqb name (codes "/") then until 0x0a (drop (amount (drop 1 name)) longs) else name)

abbrev pub names_here : List ℕ → List ℕ → List (List ℕ)
names_here longs name = if is_filled name then [] else member_name longs name ∷ []

-- The members' names, up to so many headers.
abbrev pub members_from : ℕ → List ℕ → List ℕ → List (List ℕ)
members_from zero longs left = []
members_from (suc n) longs left =
    if nat_lt (length left) header_length then [] else names_here longs (name_in left) ++ members_from n (longs_after longs left) (drop (taken left) left)

abbrev pub members_of : List ℕ → List (List ℕ)
members_of text = members_from (length text) [] (drop 8 text)

-- ---- a worked library: an index, two long names, and two members

abbrev header : List ℕ → List ℕ → List ℕ
header name size = ((name ++ codes "0           0     0     644     ") ++ size) ++ codes "`\n"

abbrev two_members : List ℕ
two_members =
    thin
    ++ header (codes "/               ") (codes "4         ") ++ codes "abcd"
    ++ header (codes "//              ") (codes "15        ") ++ codes "a.o/\n/abs/b.o/\n\n"
    ++ header (codes "/0              ") (codes "100       ")
    ++ header (codes "/5              ") (codes "100       ")

pub members_in_order : members_of two_members ≡ codes "a.o" ∷ codes "/abs/b.o" ∷ []
members_in_order = refl

-- Which bytes are the members of an archive, in the common format of ar that System V and GNU share:
-- a magic, then members, each a header of 60 bytes and its data.
use Rattle.std.specs.Prelude.{◌≡◌, ℕ, ◌+◌, ◌-◌, ◌*◌, ◌%◌, ◌<◌, List, [], ◌∷◌, ◌++◌, length, fold, replicate, Bool, if◌then◌else◌, All, ◌⊎◌}
use Rattle.std.specs.Str.{bytes_eq}
use Rattle.std.specs.Char.{is_ascii_digit}
use Rattle.lib_index.specs.declared.members.Role.{Role}
use Rattle.lib_index.specs.declared.members.Role.TheVariants.{Index, LongNames, Object}
use Rattle.lib_index.specs.declared.members.Member.{Member}

-- `!<arch>` and a newline.
abbrev pub magic : List ℕ
magic = 0x21 ∷ 0x3c ∷ 0x61 ∷ 0x72 ∷ 0x63 ∷ 0x68 ∷ 0x3e ∷ 0x0a ∷ []

-- `!<thin>`: the members are other files.
abbrev pub thin_magic : List ℕ
thin_magic = 0x21 ∷ 0x3c ∷ 0x74 ∷ 0x68 ∷ 0x69 ∷ 0x6e ∷ 0x3e ∷ []

-- The number that decimal digits write.
abbrev pub decimal : List ℕ → ℕ
decimal digits = fold (λ n digit. 10 * n + (digit - 48)) 0 digits

abbrev pub IsDigit : ℕ → Type 0
IsDigit b = is_ascii_digit b ≡ Bool.true

-- A number in a field: decimal digits, one at least, and then spaces alone.
pub record SpellsNumber (n : ℕ) (field : List ℕ) : Type 0 where
  pub digits : List ℕ
  pub spaces : List ℕ
  pub parts : field ≡ digits ++ spaces
  pub some : 0 < length digits
  pub all_digits : All IsDigit digits
  pub all_spaces : All (λ b. b ≡ 32) spaces
  pub value : n ≡ decimal digits

-- What a member is by the name field of its header: the index is `/`, the long names are `//`, each
-- filled up with spaces to 16 bytes.
abbrev pub role_of : List ℕ → Role
role_of name =
    if bytes_eq name (47 ∷ replicate 15 32) then Index
    else (if bytes_eq name (47 ∷ 47 ∷ replicate 14 32) then LongNames
    else Object)

-- A header: name 16 bytes, date 12, owner 6, group 6, mode 8, the data's size 10, and the bytes 60
-- 0A.
pub record SpellsHeader (name : List ℕ) (size : ℕ) (header : List ℕ) : Type 0 where
  pub between : List ℕ
  pub field : List ℕ
  pub parts : header ≡ name ++ (between ++ (field ++ 0x60 ∷ 0x0a ∷ []))
  pub name_long : length name ≡ 16
  pub between_long : length between ≡ 12 + 6 + 6 + 8
  pub field_long : length field ≡ 10
  pub sized : SpellsNumber size field

-- After data of odd size stands one byte, whatever it is, which may be missing at the end of the
-- file.
abbrev pub IsPadding : ℕ → List ℕ → List ℕ → Type 0
IsPadding size padding rest = (length padding ≡ size % 2) ⊎ ((padding ≡ []) × (rest ≡ []))

abbrev pub member_of : List ℕ → ℕ → ℕ → ℕ → Member
member_of name place start len = record { role = role_of name; place = place; span = record { start = start; len = len } }

-- The bytes, which reach to this end, are these members one after another.
abbrev pub AreMembers : ℕ → List Member → List ℕ → Type 0
AreMembers end [] bytes = bytes ≡ []
AreMembers end (m ∷ ms) bytes =
    (name : List ℕ) × (header : List ℕ) × (content : List ℕ) × (padding : List ℕ) × (rest : List ℕ)
    × (bytes ≡ header ++ (content ++ (padding ++ rest)))
    × SpellsHeader name (length content) header
    × IsPadding (length content) padding rest
    × (m ≡ member_of name (end - length bytes) (end - length (content ++ (padding ++ rest))) (length content))
    × AreMembers end ms rest

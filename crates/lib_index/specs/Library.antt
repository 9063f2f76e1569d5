-- A static library: an archive whose first member is the index of its symbols.
--
-- The index holds a big-endian count of four bytes, as many big-endian places of headers, and as many
-- names, each ended by a byte 0, as System V and GNU ar have it.
use Rattle.std.specs.Prelude.{◌≡◌, ℕ, ◌+◌, ◌*◌, ◌<◌, List, [], ◌∷◌, ◌++◌, length, take, drop, map, filter, fold, min, Option, Some, None, slice_get, All, Bool, true, false, not}
use Rattle.std.specs.Map.{lookup}
use Rattle.std.specs.Str.{bytes_eq}
use Rattle.wl_base.specs.declared.span.Span.{Span}
use Rattle.lib_index.specs.declared.members.Role.{Role}
use Rattle.lib_index.specs.declared.members.Role.TheVariants.{Index, LongNames, Object}
use Rattle.lib_index.specs.declared.members.Member.{Member}
use Rattle.lib_index.specs.Archive.{magic, AreMembers}

-- A library as it is seen from without: where the data of its members lie, those that are neither the
-- index nor the long names, and the names that the index gives, each with a member by its place among
-- them.
pub record Contents : Type 0 where
  pub members : List Span
  pub offered : List (List ℕ × ℕ)

-- The member that is offered for a name.
abbrev pub offer_of : Contents → List ℕ → Option ℕ
offer_of library name = lookup (bytes_eq name) library.offered

-- ---- the members that are offered

abbrev pub is_object : Role → Bool
is_object Index = false
is_object LongNames = false
is_object Object = true

-- The members that are neither the index nor the long names.
abbrev pub objects : List Member → List Member
objects members = filter (λ m. is_object m.role) members

-- The places of their headers.
abbrev pub headers : List Member → List ℕ
headers members = map (λ m. m.place) (objects members)

-- Where their data lie.
abbrev pub spans : List Member → List Span
spans members = map (λ m. m.span) (objects members)

-- The bytes of a span.
abbrev pub bytes_of : List ℕ → Span → List ℕ
bytes_of bytes span = take span.len (drop span.start bytes)

-- ---- the index

-- A big-endian number.
abbrev pub big_endian : List ℕ → ℕ
big_endian bytes = fold (λ n byte. 256 * n + byte) 0 bytes

-- A big-endian number of four bytes.
abbrev pub SpellsWord : ℕ → List ℕ → Type 0
SpellsWord n bytes = (length bytes ≡ 4) × (n ≡ big_endian bytes)

abbrev pub AreWords : List ℕ → List ℕ → Type 0
AreWords [] bytes = bytes ≡ []
AreWords (n ∷ ns) bytes = (word : List ℕ) × (rest : List ℕ) × (bytes ≡ word ++ rest) × SpellsWord n word × AreWords ns rest

-- Names, each ended by a byte 0.
abbrev pub AreNames : List (List ℕ) → List ℕ → Type 0
AreNames [] bytes = bytes ≡ []
AreNames (name ∷ names) bytes = (rest : List ℕ) × (bytes ≡ name ++ 0 ∷ rest) × All (λ b. 0 < b) name × AreNames names rest

-- The index's data: how many places there are, the places, as many names, and any bytes behind them.
pub record SpellsIndex (places : List ℕ) (names : List (List ℕ)) (content : List ℕ) : Type 0 where
  pub count : List ℕ
  pub words : List ℕ
  pub text : List ℕ
  pub more : List ℕ
  pub parts : content ≡ count ++ (words ++ (text ++ more))
  pub counted : SpellsWord (length places) count
  pub placed : AreWords places words
  pub named : AreNames names text

-- The index gives these members, by their numbers, for these names: each place is that of a member's
-- header.
pub record Gives (members : List Member) (content : List ℕ) (entries : List (List ℕ × ℕ)) : Type 0 where
  pub places : List ℕ
  pub spelled : SpellsIndex places (map (λ e. e.0) entries) content
  pub found : map Some places ≡ map (slice_get (headers members)) (map (λ e. e.1) entries)

-- The first member is the index. Where there is no member, there is no index, and nothing is given.
abbrev pub IsGiven : List ℕ → List Member → List (List ℕ × ℕ) → Type 0
IsGiven bytes [] entries = entries ≡ []
IsGiven bytes (m ∷ ms) entries = (m.role ≡ Index) × Gives (m ∷ ms) (bytes_of bytes m.span) entries

-- ---- what is offered for a name

-- The less of a number and another, if there is another.
abbrev pub less_of : ℕ → Option ℕ → ℕ
less_of k None = k
less_of k (Some j) = min k j

-- The least of some numbers; none where there are none.
abbrev pub least : List ℕ → Option ℕ
least [] = None
least (k ∷ ks) = Some (less_of k (least ks))

-- The least member that is given for the name.
abbrev pub least_of : List (List ℕ × ℕ) → List ℕ → Option ℕ
least_of entries name = least (map (λ e. e.1) (filter (λ e. bytes_eq name e.0) entries))

-- The names that are given, each once and in the order in which they first come, with the least
-- member that is given for it.
abbrev pub leasts : List (List ℕ × ℕ) → List (List ℕ × ℕ)
leasts [] = []
leasts (e ∷ es) = (e.0, less_of e.1 (least_of es e.0)) ∷ filter (λ o. not (bytes_eq e.0 o.0)) (leasts es)

-- ---- the whole

pub record IsLibrary (library : Contents) (bytes : List ℕ) : Type 0 where
  pub rest : List ℕ
  pub all : List Member
  pub entries : List (List ℕ × ℕ)
  pub begins : bytes ≡ magic ++ rest
  pub cut : AreMembers (length bytes) all rest
  pub holds : library.members ≡ spans all
  pub given : IsGiven bytes all entries
  pub offers : library.offered ≡ leasts entries

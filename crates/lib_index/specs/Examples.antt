-- Worked examples.
use Rattle.std.specs.Prelude.{◌≡◌, ℕ, List, [], ◌∷◌, ◌++◌, Ok, Err, Some, None, replicate}
use Rattle.std.proofs.Common.{refl}
use Rattle.wl_base.specs.declared.fault.LibFault.TheVariants.{NotLibrary, Thin, BadHeader, NoIndex, BadIndex}
use Rattle.lib_index.specs.Archive.{magic, thin_magic}
use Rattle.lib_index.specs.Library.{leasts, least_of}
use Rattle.lib_index.specs.Reading.{library_of, members_at, member_at, number_in, index_at, counted_index, numbers_at, number_at, entries_at}

-- A header with this name field and this size field.
abbrev header : List ℕ → List ℕ → List ℕ
header name size = name ++ (replicate 32 48 ++ (size ++ 0x60 ∷ 0x0a ∷ []))

abbrev index_name : List ℕ
index_name = 47 ∷ replicate 15 32

-- `x` and spaces.
abbrev other_name : List ℕ
other_name = 120 ∷ replicate 15 32

-- A digit and spaces.
abbrev one_digit : ℕ → List ℕ
one_digit digit = digit ∷ replicate 9 32

-- The magic alone is a library of no members.
empty_library : library_of magic ≡ Ok (record { members = []; offered = [] })
unfolding library_of members_at
empty_library = refl

-- Seven bytes of it are no library, and a thin one is refused.
too_short : library_of (0x21 ∷ 0x3c ∷ 0x61 ∷ 0x72 ∷ 0x63 ∷ 0x68 ∷ 0x3e ∷ []) ≡ Err NotLibrary
unfolding library_of
too_short = refl

thin : library_of (thin_magic ++ 0x0a ∷ []) ≡ Err Thin
unfolding library_of
thin = refl

-- `42` and spaces are 42; spaces in front, or another byte behind the digits, are no number.
digits : number_in (52 ∷ 50 ∷ replicate 8 32) ≡ Some 42
unfolding number_in
digits = refl

late_digits : number_in (32 ∷ 52 ∷ replicate 8 32) ≡ None
unfolding number_in
late_digits = refl

mixed_digits : number_in (52 ∷ 120 ∷ replicate 8 32) ≡ None
unfolding number_in
mixed_digits = refl

-- One member and no index.
no_index : library_of (magic ++ header other_name (one_digit 48)) ≡ Err NoIndex
unfolding library_of members_at member_at number_in
no_index = refl

-- The same with a size of one byte that isn't there.
past_end : library_of (magic ++ header other_name (one_digit 49)) ≡ Err (BadHeader 8)
unfolding library_of members_at member_at number_in
past_end = refl

-- An index of 8 bytes that counts 4,294,967,295 names.
short_index : library_of (magic ++ (header index_name (one_digit 56) ++ 0xff ∷ 0xff ∷ 0xff ∷ 0xff ∷ 0 ∷ 0 ∷ 0 ∷ 0 ∷ [])) ≡ Err (BadIndex 1)
unfolding library_of members_at member_at number_in index_at counted_index
short_index = refl

-- The index's own header isn't that of a member.
own_place : library_of (magic ++ (header index_name (one_digit 56) ++ 0 ∷ 0 ∷ 0 ∷ 1 ∷ 0 ∷ 0 ∷ 0 ∷ 8 ∷ [])) ≡ Err (BadIndex 2)
unfolding library_of members_at member_at number_in index_at counted_index numbers_at number_at
own_place = refl

-- One member, which stands at 76, and no name for it.
no_name : library_of (magic ++ (header index_name (one_digit 56) ++ (0 ∷ 0 ∷ 0 ∷ 1 ∷ 0 ∷ 0 ∷ 0 ∷ 76 ∷ [] ++ header other_name (one_digit 48)))) ≡ Err (BadIndex 3)
unfolding library_of members_at member_at number_in index_at counted_index numbers_at number_at entries_at
no_name = refl

-- The index gives the empty name for a member that stands at 78: an index of 9 bytes has a byte of
-- padding.
one_name : library_of (magic ++ (header index_name (one_digit 57) ++ (0 ∷ 0 ∷ 0 ∷ 1 ∷ 0 ∷ 0 ∷ 0 ∷ 78 ∷ 0 ∷ 10 ∷ [] ++ header other_name (one_digit 48)))) ≡ Ok (record { members = record { start = 138; len = 0 } ∷ []; offered = ([], 0) ∷ [] })
unfolding library_of members_at member_at number_in index_at counted_index numbers_at number_at entries_at
one_name = refl

-- `a` for 2, `b` for 1 and `a` for 0: `a` comes first, with 0.
least_first : leasts ((97 ∷ [], 2) ∷ (98 ∷ [], 1) ∷ (97 ∷ [], 0) ∷ []) ≡ (97 ∷ [], 0) ∷ (98 ∷ [], 1) ∷ []
least_first = refl

not_given : least_of ((97 ∷ [], 2) ∷ []) (99 ∷ []) ≡ None
not_given = refl

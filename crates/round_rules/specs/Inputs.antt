-- What is read before the first round, as candidates: the relation by which loading is called.
use Rattle.std.specs.Prelude.{◌≡◌, ◌<◌, ◌+◌, ◌^◌, ℕ, true, false, not, List, [], ◌∷◌, ◌==◌, filter, flat_map, map, length, if◌then◌else◌, Some, slice_get, slice_index_or, Ok}
use Rattle.object_file.specs.wl_base.declared.span.Span.{Span}
use Rattle.lib_index.specs.Library.{IsLibrary, bytes_of}
use Rattle.object_file.specs.ObjectOf.{object_of}
use Rattle.round_rules.specs.declared.given.GivenObject.{GivenObject}
use Rattle.round_rules.specs.declared.given.LibraryFile.{LibraryFile}
use Rattle.round_rules.specs.Rounds.{Candidate, defined_names}

-- An object of the words as a candidate. A plain one offers nothing, a lazy one what it defines.
pub record IsGivenAs (c : Candidate) (g : GivenObject) : Type 0 where
  pub input : c.input ≡ g.object.input
  pub is_member : c.is_member ≡ false
  pub by_need : c.by_need ≡ g.lazy
  pub offers : c.offers ≡ (if g.lazy then defined_names g.object else [])
  pub object : c.object ≡ Ok g.object

abbrev pub AreGiven : List Candidate → List GivenObject → Type 0
AreGiven [] [] = Unit {0}
AreGiven [] (g ∷ gs) = ⊥
AreGiven (c ∷ cs) [] = ⊥
AreGiven (c ∷ cs) (g ∷ gs) = IsGivenAs c g × AreGiven cs gs

-- The names that an index gives for a member.
abbrev pub names_of_member : List (List ℕ × ℕ) → ℕ → List (List ℕ)
names_of_member offered member = map (λ o. o.0) (filter (λ o. o.1 == member) offered)

-- The members of a library from one on, of which the first is the input of this number.
abbrev pub members_from : LibraryFile → List ℕ → ℕ → ℕ → List Span → List Candidate
members_from l bytes input member [] = []
members_from l bytes input member (s ∷ ss) = record {
  input = input;
  file = l.file;
  start = s.start;
  len = s.len;
  is_member = true;
  by_need = not l.whole;
  offers = names_of_member l.library.offered member;
  object = object_of input (bytes_of bytes s);
} ∷ members_from l bytes (input + 1) (member + 1) ss

abbrev pub members_of : List (List ℕ) → LibraryFile → List Candidate
members_of files l = members_from l (slice_index_or files l.file []) l.first 0 l.library.members

-- The objects of the words and the members of the libraries, each as a candidate, by precedence.
pub record AreCandidates (all : List Candidate) (given : List GivenObject) (libraries : List LibraryFile) (files : List (List ℕ)) : Type 0 where
  pub numbered : (i : ℕ) (c : Candidate) → slice_get all i ≡ Some c → c.input ≡ i + 1
  pub few : length all < 2 ^ 20
  pub objects : AreGiven (filter (λ c. not c.is_member) all) given
  pub members : filter (λ c. c.is_member) all ≡ flat_map (members_of files) libraries

-- A library is what its file holds.
abbrev pub IsRead : List (List ℕ) → LibraryFile → Type 0
IsRead files l = (bytes : List ℕ) × (slice_get files l.file ≡ Some bytes) × IsLibrary l.library bytes

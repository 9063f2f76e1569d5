-- Objects and one library behind them, as candidates.
use Rattle.std.proofs.Common.{◌≡◌, ℕ, zero, suc, ◌+◌, ◌<◌, ◌≤◌, ◌^◌, Bool, true, false, not, List, [], ◌∷◌, ◌++◌, length, map, Some, None, Ok, refl, sym, ap, subst, ◌∙◌, arith}
use Rattle.std.specs.Prelude.{filter, flat_map, slice_get, slice_index_or, if◌then◌else◌}
use Rattle.std.proofs.lemmas.List.{append-nil, length-append, length-map}
use Rattle.std.proofs.lemmas.List.Elements.{filter-append}
use Rattle.object_file.specs.wl_base.declared.span.Span.{Span}
use Rattle.lib_index.specs.Library.{bytes_of}
use Rattle.object_file.specs.ObjectOf.{object_of}
use Rattle.round_rules.specs.declared.given.GivenObject.{GivenObject}
use Rattle.round_rules.specs.declared.given.LibraryFile.{LibraryFile}
use Rattle.round_rules.specs.Rounds.{Candidate, defined_names}
use Rattle.round_rules.specs.Inputs.{AreGiven, AreCandidates, IsGivenAs, names_of_member, members_from, members_of, IsRead}

abbrev pub as_candidate : GivenObject → Candidate
as_candidate g = record { input = g.object.input; file = 0; start = 0; len = 0; is_member = false; by_need = g.lazy; offers = if g.lazy then defined_names g.object else []; object = Ok g.object }

-- the objects, and the members of the libraries behind them
abbrev pub candidates : List GivenObject → List LibraryFile → List (List ℕ) → List Candidate
candidates given libraries files = map as_candidate given ++ flat_map (members_of files) libraries

abbrev pub AreNumbered : List GivenObject → Type 0
AreNumbered given = (k : ℕ) (g : GivenObject) → slice_get given k ≡ Some g → g.object.input ≡ k + 1

-- the objects are the inputs behind one, without a gap
abbrev pub NumberedFrom : ℕ → List GivenObject → Type 0
NumberedFrom last [] = Unit {0}
NumberedFrom last (g ∷ gs) = (last < g.object.input) × (g.object.input ≤ last + 1) × NumberedFrom g.object.input gs

numbered_at : (last : ℕ) (gs : List GivenObject) → NumberedFrom last gs → (k : ℕ) (g : GivenObject) → slice_get gs k ≡ Some g → g.object.input ≡ last + k + 1
numbered_at last [] h k g e = absurd cc
numbered_at last (x ∷ xs) h zero g e = let one : x.object.input ≡ g.object.input = cc in let a = h.0 in let b = h.1 in omega (arith, one, a, b)
numbered_at last (x ∷ xs) h (suc k) g e = let p = numbered_at x.object.input xs h.2 k g e in let a = h.0 in let b = h.1 in omega (arith, p, a, b)

pub numbered_from_one : (gs : List GivenObject) → NumberedFrom 0 gs → (k : ℕ) (g : GivenObject) → slice_get gs k ≡ Some g → g.object.input ≡ k + 1
numbered_from_one gs h k g e = let p = numbered_at 0 gs h k g e in omega (arith, p)

objects_kept : (gs : List GivenObject) → AreGiven (filter (λ c. not c.is_member) (map as_candidate gs)) gs
objects_kept [] = tt
objects_kept (g ∷ gs) = (record { input = refl; is_member = refl; by_need = refl; offers = refl; object = refl }, objects_kept gs)

objects_left : (gs : List GivenObject) → filter (λ c. c.is_member) (map as_candidate gs) ≡ []
objects_left [] = refl
objects_left (g ∷ gs) = objects_left gs

members_kept : (l : LibraryFile) (bytes : List ℕ) (n m : ℕ) (ss : List Span) → filter (λ c. c.is_member) (members_from l bytes n m ss) ≡ members_from l bytes n m ss
members_kept l bytes n m [] = refl
members_kept l bytes n m (s ∷ ss) = ap (λ (cs : List Candidate). record { input = n; file = l.file; start = s.start; len = s.len; is_member = true; by_need = not l.whole; offers = names_of_member l.library.offered m; object = object_of n (bytes_of bytes s) } ∷ cs) (members_kept l bytes (n + 1) (m + 1) ss)

members_left : (l : LibraryFile) (bytes : List ℕ) (n m : ℕ) (ss : List Span) → filter (λ c. not c.is_member) (members_from l bytes n m ss) ≡ []
members_left l bytes n m [] = refl
members_left l bytes n m (s ∷ ss) = members_left l bytes (n + 1) (m + 1) ss

members_many : (l : LibraryFile) (bytes : List ℕ) (n m : ℕ) (ss : List Span) → length (members_from l bytes n m ss) ≡ length ss
members_many l bytes n m [] = refl
members_many l bytes n m (s ∷ ss) = ap suc (members_many l bytes (n + 1) (m + 1) ss)

members_numbered : (l : LibraryFile) (bytes : List ℕ) (n m : ℕ) (ss : List Span) (i : ℕ) (c : Candidate) → slice_get (members_from l bytes n m ss) i ≡ Some c → c.input ≡ n + i
members_numbered l bytes n m [] i c e = absurd cc
members_numbered l bytes n m (s ∷ ss) zero c e = let h : n ≡ c.input = cc in omega (arith, h)
members_numbered l bytes n m (s ∷ ss) (suc i) c e = let h = members_numbered l bytes (n + 1) (m + 1) ss i c e in omega (arith, h)

all_numbered : (l : LibraryFile) (bytes : List ℕ) (start : ℕ) (gs : List GivenObject) → ((k : ℕ) (g : GivenObject) → slice_get gs k ≡ Some g → g.object.input ≡ start + k) → (n : ℕ) → n ≡ start + length gs → (m : ℕ) (ss : List Span) (i : ℕ) (c : Candidate)
    → slice_get (map as_candidate gs ++ members_from l bytes n m ss) i ≡ Some c → c.input ≡ start + i
all_numbered l bytes start [] h n is m ss i c e = let k = members_numbered l bytes n m ss i c e in omega (arith, k, is)
all_numbered l bytes start (g ∷ gs) h n is m ss zero c e = let one : g.object.input ≡ c.input = cc in let k = h 0 g refl in omega (arith, one, k)
all_numbered l bytes start (g ∷ gs) h n is m ss (suc i) c e =
    let k = all_numbered l bytes (suc start) gs (λ j x at. let p = h (suc j) x at in omega (arith, p)) n (omega (arith, is)) m ss i c e in
    omega (arith, k)

pub are_candidates : (given : List GivenObject) (l : LibraryFile) (files : List (List ℕ)) → AreNumbered given → l.first ≡ length given + 1 → length given + length l.library.members < 2 ^ 20
    → AreCandidates (candidates given (l ∷ []) files) given (l ∷ []) files
are_candidates given l files numbered first few =
    let bytes = slice_index_or files l.file [] in
    let ms = members_from l (slice_index_or files l.file []) l.first 0 l.library.members in
    let flat : flat_map (members_of files) (l ∷ []) ≡ members_of files l = append-nil (members_of files l) in
    record {
      numbered = λ i c e.
          let k = all_numbered l (slice_index_or files l.file []) 1 given (λ j g at. let p = numbered j g at in omega (arith, p)) l.first (omega (arith, first)) 0 l.library.members i c
          (ap (λ (cs : List Candidate). slice_get (map as_candidate given ++ cs) i) (sym flat) ∙ e) in omega (arith, k);
      few = let a = length-append (map as_candidate given) (flat_map (members_of files) (l ∷ [])) in
          let b = length-map given as_candidate in
          let d = ap (λ (cs : List Candidate). length cs) flat ∙ members_many l (slice_index_or files l.file []) l.first 0 l.library.members in
          omega (arith, a, b, d, few);
      objects = subst (λ (cs : List Candidate). AreGiven cs given)
          (sym (filter-append (λ c. not c.is_member) (map as_candidate given) (flat_map (members_of files) (l ∷ []))
          ∙ ap (λ (cs : List Candidate). filter (λ c. not c.is_member) (map as_candidate given) ++ filter (λ c. not c.is_member) cs) flat
          ∙ ap (λ (cs : List Candidate). filter (λ c. not c.is_member) (map as_candidate given) ++ cs) (members_left l (slice_index_or files l.file []) l.first 0 l.library.members)
          ∙ append-nil (filter (λ c. not c.is_member) (map as_candidate given))))
          (objects_kept given);
      members = filter-append (λ c. c.is_member) (map as_candidate given) (flat_map (members_of files) (l ∷ []))
          ∙ ap (λ (cs : List Candidate). cs ++ filter (λ c. c.is_member) (flat_map (members_of files) (l ∷ []))) (objects_left given)
          ∙ ap (λ (cs : List Candidate). filter (λ c. c.is_member) cs) flat ∙ members_kept l (slice_index_or files l.file []) l.first 0 l.library.members ∙ sym flat;
    }

pub one_is_read : (files : List (List ℕ)) (l : LibraryFile) → IsRead files l → (k : ℕ) (d : LibraryFile) → k < 1 → IsRead files (slice_index_or (l ∷ []) k d)
one_is_read files l h zero d small = h
one_is_read files l h (suc k) d small = absurd (omega (arith, small))

-- nothing at all
pub none_given : AreCandidates [] [] [] []
none_given = record { numbered = λ i c e. absurd cc; few = omega arith; objects = tt; members = refl }

-- What is loaded at once, and its first fault.
use Rattle.std.proofs.Common.{◌≡◌, ℕ, ◌+◌, Bool, true, false, not, List, [], ◌∷◌, ◌++◌, Option, Some, None, refl, sym, ap, subst, ◌∙◌, inl, inr}
use Rattle.std.specs.Prelude.{Contains, map, filter, flat_map, slice_index_or, if◌then◌else◌}
use Rattle.std.proofs.lemmas.Bool.{cases_Bool}
use Rattle.std.proofs.lemmas.List.Elements.{filter-append}
use Rattle.object_file.specs.wl_base.declared.span.Span.{Span}
use Rattle.object_file.specs.wl_base.declared.fault.Fault.{Fault}
use Rattle.object_file.specs.wl_base.Choice.{first_some}
use Rattle.round_rules.specs.declared.given.GivenObject.{GivenObject}
use Rattle.round_rules.specs.declared.given.LibraryFile.{LibraryFile}
use Rattle.round_rules.specs.Rounds.{Candidate, fault_in, object_fault, is_loaded, at_once, is_always_read, always_read_fault}
use Rattle.round_rules.specs.RoundLaws.{inputs_in, Rise}
use Rattle.round_rules.specs.Inputs.{AreGiven, members_from, members_of, AreCandidates}
use Rattle.lib_rounds.proofs.Kept.{contains_head, contains_tail, contains_none, contains_cases, kept}
use Rattle.lib_rounds.proofs.Picked.{picked}
use Rattle.lib_rounds.proofs.Offering.{member_candidate}

-- of the candidates, those that aren't loaded by need are loaded at once
pub loaded_at_once : (all : List Candidate) → Rise (inputs_in all) → (c : Candidate) → Contains all c → is_loaded (at_once all) c ≡ not c.by_need
loaded_at_once all rise c h = picked all rise (λ c. not c.by_need) c h

-- ---- the first fault

first_skip : (o : Option Fault) (os : List (Option Fault)) → o ≡ None → first_some (o ∷ os) ≡ first_some os
first_skip o os e = ap (λ (x : Option Fault). first_some (x ∷ os)) e

first_keep : (o : Option Fault) (os qs : List (Option Fault)) → first_some os ≡ first_some qs → first_some (o ∷ os) ≡ first_some (o ∷ qs)
first_keep None os qs e = e
first_keep (Some fault) os qs e = refl

-- members of whole libraries, of the candidates: the others that are read at once have no fault
only_members : (cs : List Candidate) → ((c : Candidate) → Contains cs c → c.is_member ≡ false → object_fault c ≡ None)
    → first_some (map object_fault (filter is_always_read cs)) ≡ first_some (map object_fault (filter (λ c. not c.by_need) (filter (λ c. c.is_member) cs)))
only_members [] h = refl
only_members (c ∷ cs) h =
    let others = only_members cs (λ d m. h d (contains_tail c cs d m)) in
    elim (cases_Bool c.is_member) [
      | inl member ↦ elim (cases_Bool c.by_need) [
        | inl need ↦ rw (member, need) others
        | inr whole ↦
            rw (member, whole)
            (first_keep (object_fault c) (map object_fault (filter is_always_read cs))
            (map object_fault (filter (λ c. not c.by_need) (filter (λ c. c.is_member) cs))) others)
      ]
      | inr object ↦ rw object (first_skip (object_fault c) (map object_fault (filter is_always_read cs)) (h c (contains_head c cs) object) ∙ others)
    ]

no_fault : (cs : List Candidate) (gs : List GivenObject) → AreGiven cs gs → (c : Candidate) → Contains cs c → object_fault c ≡ None
no_fault [] [] h c m = absurd (contains_none c m)
no_fault [] (g ∷ gs) h c m = absurd h
no_fault (d ∷ ds) [] h c m = absurd h
no_fault (d ∷ ds) (g ∷ gs) h c m = elim (contains_cases d ds c m) [
  | inl same ↦ subst (λ (x : Candidate). object_fault x ≡ None) same (ap fault_in h.0.object)
  | inr later ↦ no_fault ds gs h.1 c later
]

keep_one : (p : Candidate → Bool) (c : Candidate) (cs ds : List Candidate) → p c ≡ true → filter p cs ≡ ds → filter p (c ∷ cs) ≡ c ∷ ds
keep_one p c cs ds is others = rw is (ap (λ (xs : List Candidate). c ∷ xs) others)

drop_one : (p : Candidate → Bool) (c : Candidate) (cs ds : List Candidate) → p c ≡ false → filter p cs ≡ ds → filter p (c ∷ cs) ≡ ds
drop_one p c cs ds not_so others = rw not_so others

members_whole : (l : LibraryFile) (bytes : List ℕ) (input member : ℕ) (ss : List Span) → l.whole ≡ true
    → filter (λ c. not c.by_need) (members_from l bytes input member ss) ≡ members_from l bytes input member ss
members_whole l bytes input member [] e = refl
members_whole l bytes input member (s ∷ ss) e =
    keep_one (λ c. not c.by_need) (member_candidate l bytes input member s) (members_from l bytes (input + 1) (member + 1) ss)
    (members_from l bytes (input + 1) (member + 1) ss) (rw e refl)
    (members_whole l bytes (input + 1) (member + 1) ss e)

members_needed : (l : LibraryFile) (bytes : List ℕ) (input member : ℕ) (ss : List Span) → l.whole ≡ false
    → filter (λ c. not c.by_need) (members_from l bytes input member ss) ≡ []
members_needed l bytes input member [] e = refl
members_needed l bytes input member (s ∷ ss) e =
    drop_one (λ c. not c.by_need) (member_candidate l bytes input member s) (members_from l bytes (input + 1) (member + 1) ss) [] (rw e refl)
    (members_needed l bytes (input + 1) (member + 1) ss e)

more_libraries : (files : List (List ℕ)) (l : LibraryFile) (ls : List LibraryFile) → l.whole ≡ true
    → flat_map (members_of files) (filter (λ l. l.whole) (l ∷ ls)) ≡ members_of files l ++ flat_map (members_of files) (filter (λ l. l.whole) ls)
more_libraries files l ls e = ap (λ (b : Bool). flat_map (members_of files) (if b then l ∷ filter (λ l. l.whole) ls else filter (λ l. l.whole) ls)) e

no_libraries : (files : List (List ℕ)) (l : LibraryFile) (ls : List LibraryFile) → l.whole ≡ false
    → flat_map (members_of files) (filter (λ l. l.whole) (l ∷ ls)) ≡ flat_map (members_of files) (filter (λ l. l.whole) ls)
no_libraries files l ls e = ap (λ (b : Bool). flat_map (members_of files) (if b then l ∷ filter (λ l. l.whole) ls else filter (λ l. l.whole) ls)) e

pub libraries_whole : (files : List (List ℕ)) (ls : List LibraryFile)
    → filter (λ c. not c.by_need) (flat_map (members_of files) ls) ≡ flat_map (members_of files) (filter (λ l. l.whole) ls)
libraries_whole files [] = refl
libraries_whole files (l ∷ ls) =
    let bytes : List ℕ = slice_index_or files l.file [] in
    let others = libraries_whole files ls in
    let both = filter-append (λ c. not c.by_need) (members_of files l) (flat_map (members_of files) ls) in
    elim (cases_Bool l.whole) [
      | inl whole ↦
          both
          ∙ ap (λ (cs : List Candidate). cs ++ filter (λ c. not c.by_need) (flat_map (members_of files) ls))
          (members_whole l bytes l.first 0 l.library.members whole)
          ∙ ap (λ (cs : List Candidate). members_of files l ++ cs) others ∙ sym (more_libraries files l ls whole)
      | inr need ↦
          both
          ∙ ap (λ (cs : List Candidate). cs ++ filter (λ c. not c.by_need) (flat_map (members_of files) ls))
          (members_needed l bytes l.first 0 l.library.members need)
          ∙ others ∙ sym (no_libraries files l ls need)
    ]

-- The first fault of what is read at once is that of the members of the whole libraries.
pub always_read_fault_is : (all : List Candidate) (given : List GivenObject) (libraries : List LibraryFile) (files : List (List ℕ))
    → AreCandidates all given libraries files
    → always_read_fault all ≡ first_some (map object_fault (flat_map (members_of files) (filter (λ l. l.whole) libraries)))
always_read_fault_is all given libraries files are =
    only_members all
    (λ c m object. no_fault (filter (λ c. not c.is_member) all) given are.objects c (kept (λ c. not c.is_member) all c m (rw object refl)))
    ∙ ap (λ (cs : List Candidate). first_some (map object_fault (filter (λ c. not c.by_need) cs))) are.members
    ∙ ap (λ (cs : List Candidate). first_some (map object_fault cs)) (libraries_whole files libraries)

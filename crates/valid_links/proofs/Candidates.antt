-- Each candidate is what its bytes in its file are read as.
use Rattle.std.proofs.Common.{◌≡◌, ℕ, zero, suc, ◌+◌, ◌<◌, ◌∙◌, List, [], ◌∷◌, ◌++◌, length, take, drop, refl, sym, ap, subst, arith, inl, inr, ⊎_elim, Option, Some, None, Bool, false, true, get_or}
use Rattle.std.specs.Prelude.{◌==◌, slice_get, slice_index_or, find, Result, Ok, Err}
use Rattle.std.specs.List.{position_or_len}
use Rattle.std.proofs.lemmas.Bool.{eq-eqb, ne_eqb}
use Rattle.std.proofs.lemmas.List.Folds.{find_at}
use Rattle.std.proofs.lemmas.List.Sums.{position_or_len_is}
use Rattle.std.proofs.lemmas.Option.{slice_get_within, slice_get-get_or, get_or_from_slice_get}
use Rattle.list_places.specs.Has.{Has}
use Rattle.list_places.proofs.Lists.{has_either}
use Rattle.object_file.specs.wl_base.Choice.{unless, ◌>>=◌}
use Rattle.object_file.specs.wl_base.declared.fault.Fault.{Fault}
use Rattle.object_file.specs.wl_base.declared.span.Span.{Span}
use Rattle.object_file.specs.ObjectOf.{object_of}
use Rattle.link_runs.specs.link_facts.link_worlds.link_rules.round_rules.Rounds.{Candidate}
use Rattle.link_plan.specs.declared.plan.Plan.{Plan}
use Rattle.link_plan.specs.declared.plan.InputWord.{InputWord}
use Rattle.link_runs.specs.link_facts.link_worlds.link_rules.Candidates.{Opened, object, library, opened, is_library, members_from, candidates_in, candidates_from, candidates_of, too_much_input, too_many_inputs, words_for}
use Rattle.link_runs.specs.link_facts.link_worlds.link_rules.LinkOf.{the_readers}
use Rattle.link_runs.specs.link_facts.Facts.{bytes_of}
use Rattle.link_runs.proofs.link_facts_lemmas.Steps.{guard}

pub guarded : {A F : Type 0} (t : Option F) (x y : A) → unless t x ≡ Ok y → (t ≡ None) × (x ≡ y)
guarded None x y e = (refl, grind arith)
guarded (Some g) x y e = absurd (grind arith)

bound : {A B F : Type 0} (r : Result A F) (f : A → Result B F) (y : B) → (r >>= f) ≡ Ok y → (x : A) × (f x ≡ Ok y)
bound (Ok x) f y e = (x, e)
bound (Err g) f y e = absurd (grind arith)

-- ---- found by its input

pub found : (all : List Candidate) (i : ℕ) (c : Candidate) (input : ℕ) → ((i : ℕ) (c : Candidate) → slice_get all i ≡ Some c → c.input ≡ i + 1) → slice_get all i ≡ Some c → c.input ≡ input
    → find (λ d. d.input == input) all ≡ Some c
found all i c input counted at is =
    find_at test all ∙ ap (slice_get all) first ∙ at
  where
    test : Candidate → Bool
    test d = d.input == input

    within : i < length all
    within = slice_get_within all i c at

    own : c.input ≡ i + 1
    own = counted i c at

    before : (k : ℕ) → k < i → test (get_or all k c) ≡ false
    before k below =
        let other : (get_or all k c).input ≡ k + 1 = counted k (get_or all k c) (slice_get-get_or all k c (omega (arith, below, within))) in
        ne_eqb (get_or all k c).input input (omega (arith, other, own, is))

    itself : test (get_or all i c) ≡ true
    itself = eq-eqb (get_or all i c).input input (ap (λ (d : Candidate). d.input) (get_or_from_slice_get all i c c at) ∙ is)

    first : position_or_len test all ≡ i
    first = position_or_len_is test all i c (omega (arith, within)) before (λ h. itself)

-- ---- read of its bytes

abbrev pub IsReadAs : List (List ℕ) → Candidate → Type 0
IsReadAs files c = c.object ≡ object_of c.input (bytes_of files c)

take_whole : {A : Type 0} (xs : List A) → take (length xs) xs ≡ xs
take_whole [] = refl
take_whole (x ∷ xs) = ap (λ ys. x ∷ ys) (take_whole xs)

-- a list from a place on
from_place : {A : Type 0} (xs : List A) (k : ℕ) (y : A) (ys : List A) (other : A) → y ∷ ys ≡ drop k xs → (slice_index_or xs k other ≡ y) × (ys ≡ drop (k + 1) xs)
from_place [] zero y ys other e = absurd (grind arith)
from_place [] (suc k) y ys other e = absurd (grind arith)
from_place (x ∷ xs) zero y ys other e = (grind arith, grind arith)
from_place (x ∷ xs) (suc k) y ys other e =
    let r = from_place xs k y ys other e in
    let z : suc (k + 1) ≡ suc k + 1 = omega arith in
    (r.0, r.1 ∙ ap (λ n. drop n (x ∷ xs)) z)

module _ (files : List (List ℕ)) where
  members_read : (file : ℕ) (w : InputWord) (b : List ℕ) (input member : ℕ) (offered : List (List ℕ × ℕ)) (ss : List Span) → slice_index_or files file [] ≡ b
      → (c : Candidate) → Has (members_from the_readers file w b input member offered ss) c → IsReadAs files c
  members_read file w b input member offered [] z c h = absurd h
  members_read file w b input member offered (s ∷ ss) z c (inl e) = subst (IsReadAs files) e (ap (λ x. object_of input (take s.len (drop s.start x))) (sym z))
  members_read file w b input member offered (s ∷ ss) z c (inr h) = members_read file w b (input + 1) (member + 1) offered ss z c h

  file_read : (file : ℕ) (w : InputWord) (b : List ℕ) (input : ℕ) (o : Opened) → slice_index_or files file [] ≡ b → (c : Candidate) → Has (candidates_in the_readers file w b input o) c → IsReadAs files c
  file_read file w b input object z c (inl e) = subst (IsReadAs files) e (ap (object_of input) (sym (ap (take (length b)) z ∙ take_whole b)))
  file_read file w b input object z c (inr h) = absurd h
  file_read file w b input (library l) z c h = members_read file w b input 0 l.offered l.members z c h

  ok_back : (xs ys : List Candidate) (r : Result (List Candidate) Fault) → r ≡ Ok xs → r ≡ Ok ys → ys ≡ xs
  ok_back xs ys r a b = grind arith

  all_read : (file : ℕ) (seen : List Candidate) (ws : List InputWord) (bs : List (List ℕ)) (all : List Candidate) → bs ≡ drop file files → ((c : Candidate) → Has seen c → IsReadAs files c)
      → candidates_from the_readers file seen ws bs ≡ Ok all → (c : Candidate) → Has all c → IsReadAs files c
  all_read file seen [] bs all z s e c h = s c (subst (λ xs. Has xs c) (ok_back seen all (Ok seen) refl e) h)
  all_read file seen (w ∷ ws) [] all z s e c h = s c (subst (λ xs. Has xs c) (ok_back seen all (Ok seen) refl e) h)
  all_read file seen (w ∷ ws) (b ∷ bs) all z s e c h =
      let o = bound (opened the_readers file b (is_library b)) (λ o. candidates_from the_readers (file + 1) (seen ++ candidates_in the_readers file w b (length seen + 1) o) ws bs) all e in
      let p = from_place files file b bs [] z in
      all_read (file + 1) (seen ++ candidates_in the_readers file w b (length seen + 1) o.0) ws bs all p.1
      (λ d k. ⊎_elim (s d) (file_read file w b (length seen + 1) o.0 p.0 d) (has_either seen (candidates_in the_readers file w b (length seen + 1) o.0) d k)) o.1 c h

  pub candidates_read : (plan : Plan) (all : List Candidate) → candidates_of the_readers plan files ≡ Ok all → (c : Candidate) → Has all c → IsReadAs files c
  unfolding candidates_of
  candidates_read plan all e =
      let a = guard (too_much_input files) (words_for plan.make_case plan.inputs files) _ all e in
      let b = bound_by (candidates_from the_readers 0 [] (words_for plan.make_case plan.inputs files) files) refl a.1 in
      all_read 0 [] (words_for plan.make_case plan.inputs files) files all refl (λ c h. absurd h) b
    where
      bound_by : (r : Result (List Candidate) Fault) → candidates_from the_readers 0 [] (words_for plan.make_case plan.inputs files) files ≡ r
          → (r >>= λ xs. unless (too_many_inputs xs) xs) ≡ Ok all → candidates_from the_readers 0 [] (words_for plan.make_case plan.inputs files) files ≡ Ok all
      bound_by (Ok xs) q h = q ∙ ap Ok (guarded (too_many_inputs xs) xs all h).1
      bound_by (Err f) q h = absurd (grind arith)

-- What is read at once, beside the candidates.
use Rattle.std.proofs.Common.{◌≡◌, ◌∙◌, ◌+◌, ◌<◌, ◌≤◌, ℕ, zero, suc, Bool, true, cond, List, [], ◌∷◌, ◌++◌, length, take, drop, Some, Result, Ok, Err, refl, sym, ap, subst, arith}
use Rattle.std.specs.Prelude.{not, slice_get, map, filter, flat_map, All}
use Rattle.std.proofs.lemmas.List.Sums.{sum_by-cons}
use Rattle.std.proofs.lemmas.List.Elements.{All-nil, All-cons}
use Rattle.link_program.specs.wl_base.Choice.{◌>>=◌}
use Rattle.link_program.specs.wl_base.declared.fault.Fault.{Fault}
use Rattle.link_program.specs.wl_base.declared.span.Span.{Span}
use Rattle.link_program.specs.object_file.declared.object.Object.{Object}
use Rattle.link_program.specs.object_file.ObjectOf.{object_of}
use Rattle.link_program.proofs.object_file_lemmas.Read.{object_found}
use Rattle.link_program.proofs.object_file_lemmas.SoundObject.{input_is}
use Rattle.link_program.specs.lib_index.Library.{Contents}
use Rattle.link_program.specs.round_rules.declared.given.GivenObject.{GivenObject}
use Rattle.link_program.specs.round_rules.declared.given.LibraryFile.{LibraryFile}
use Rattle.link_program.specs.round_rules.Rounds.{Candidate}
use Rattle.link_program.specs.round_rules.Inputs as inputs
use Rattle.link_program.specs.round_rules.Inputs.{IsGivenAs, AreGiven, AreCandidates, IsRead, members_of}
use Rattle.link_program.specs.link_plan.declared.plan.InputWord.{InputWord}
use Rattle.link_program.specs.link_rules.Candidates.{plain_candidate, members_from, names_in}
use Rattle.link_program.specs.link_rules.LinkOf.{the_readers}
use Rattle.link_program.specs.declared.home.Home.{Home}
use Rattle.link_program.specs.Loaded.{home_of}
use Rattle.link_inputs.specs.declared.numbering.ObjectFile.{ObjectFile}
use Rattle.link_inputs.specs.declared.opening.OpenFile.{OpenFile}
use Rattle.link_inputs.specs.declared.opening.OpenFile.TheVariants as files
use Rattle.link_inputs.specs.Opened.{count_in, input_count}
use Rattle.link_inputs.specs.Sources.{homes_in, objects_from, libraries_from, homes_from}
use Rattle.link_inputs.specs.Reading.{file_at, given_by, given_of, given_from}
use Rattle.link_inputs.specs.Inputs.{candidates_at, inputs_from}
use Rattle.link_inputs.proofs.Binds.{bind_ok, ok_is}
use Rattle.link_inputs.proofs.Files.{IsOpened, AreOpened}
use Rattle.link_inputs.proofs.Places.{at_rest, behind_rest, file_is}

-- ---- members

abbrev is_plain : Candidate → Bool
is_plain c = not c.is_member

abbrev is_member : Candidate → Bool
is_member c = c.is_member

module _ (file : ℕ) (w : InputWord) (b : List ℕ) where
  abbrev cut : ℕ → ℕ → List (List ℕ × ℕ) → List Span → List Candidate
  cut input member offered ss = members_from the_readers file w b input member offered ss

  no_plain : (input member : ℕ) (offered : List (List ℕ × ℕ)) (ss : List Span) (rest : List Candidate)
      → filter is_plain (cut input member offered ss ++ rest) ≡ filter is_plain rest
  no_plain input member offered [] rest = refl
  no_plain input member offered (s ∷ ss) rest = no_plain (input + 1) (member + 1) offered ss rest

  all_members : (input member : ℕ) (offered : List (List ℕ × ℕ)) (ss : List Span) (rest : List Candidate)
      → filter is_member (cut input member offered ss ++ rest) ≡ cut input member offered ss ++ filter is_member rest
  all_members input member offered [] rest = refl
  all_members input member offered (s ∷ ss) rest =
      ap (λ (cs : List Candidate). let ds : List Candidate = record {
        input = input;
        file = file;
        start = s.start;
        len = s.len;
        is_member = true;
        by_need = not w.whole;
        offers = inputs.names_of_member offered member;
        object = object_of input (take s.len (drop s.start b));
      } ∷ cs in ds) (all_members (input + 1) (member + 1) offered ss rest)

  same_members : (l : Contents) (first input member : ℕ) (ss : List Span)
      → inputs.members_from (record { file = file; first = first; whole = w.whole; library = l }) b input member ss ≡ cut input member l.offered ss
  same_members l first input member [] = refl
  same_members l first input member (s ∷ ss) =
      ap (λ (cs : List Candidate). let ds : List Candidate = record {
        input = input;
        file = file;
        start = s.start;
        len = s.len;
        is_member = true;
        by_need = not w.whole;
        offers = inputs.names_of_member l.offered member;
        object = object_of input (take s.len (drop s.start b));
      } ∷ cs in ds) (same_members l first (input + 1) (member + 1) ss)

  members_home : (input member : ℕ) (offered : List (List ℕ × ℕ)) (ss : List Span)
      → map (λ (s : Span). let h : Home = record { file = file; start = s.start; len = s.len } in h) ss ≡ map home_of (cut input member offered ss)
  members_home input member offered [] = refl
  members_home input member offered (s ∷ ss) =
      ap (λ (hs : List Home). let is : List Home = record { file = file; start = s.start; len = s.len } ∷ hs in is) (members_home (input + 1) (member + 1) offered ss)

-- a library's members are those of its file
pub library_members : (whole : List (List ℕ)) (file input : ℕ) (w : InputWord) (b : List ℕ) (l : Contents) → file_at whole file ≡ b
    → members_of whole (record { file = file; first = input; whole = w.whole; library = l }) ≡ candidates_at file input w b (files.Library l)
library_members whole file input w b l is =
    ap (λ (x : List ℕ). inputs.members_from (record { file = file; first = input; whole = w.whole; library = l }) x input 0 l.members) is
    ∙ same_members file w b l input input 0 l.members

pub members_are : (whole : List (List ℕ)) (file input : ℕ) (ws : List InputWord) (bs : List (List ℕ)) (os : List OpenFile) → bs ≡ drop file whole
    → length ws ≡ length bs → AreOpened bs os
    → filter is_member (inputs_from file input ws bs os) ≡ flat_map (members_of whole) (libraries_from file input ws os)
members_are whole file input [] bs os at same are = refl
members_are whole file input (w ∷ ws) [] os at same are = absurd (omega (arith, same))
members_are whole file input (w ∷ ws) (b ∷ bs) [] at same are = absurd are
members_are whole file input (w ∷ ws) (b ∷ bs) (files.Object n ∷ os) at same are =
    members_are whole (file + 1) (input + 1) ws bs os (behind_rest whole file b bs at) (omega (arith, same)) are.1
members_are whole file input (w ∷ ws) (b ∷ bs) (files.Library l ∷ os) at same are =
    let n : ℕ = input + length l.members in
    all_members file w b input 0 l.offered l.members (inputs_from (file + 1) n ws bs os)
    ∙ ap (λ (cs : List Candidate). candidates_at file input w b (files.Library l) ++ cs)
    (members_are whole (file + 1) n ws bs os (behind_rest whole file b bs at) (omega (arith, same)) are.1)
    ∙ ap (λ (cs : List Candidate). cs ++ flat_map (members_of whole) (libraries_from (file + 1) n ws os))
    (sym (library_members whole file input w b l (file_is whole file b bs at)))

-- ---- objects of the words

given_as : (file input : ℕ) (w : InputWord) (b : List ℕ) (r : Result Object Fault) (g : GivenObject) → object_of input b ≡ r
    → given_by input w.lazy r ≡ Ok g → IsGivenAs (plain_candidate the_readers file w b input) g
given_as file input w b (Err f) g e is = absurd cc
given_as file input w b (Ok o) g e is =
    let same : record { object = o; lazy = w.lazy } ≡ g = ok_is is in
    subst (IsGivenAs (plain_candidate the_readers file w b input)) same (record {
      input = sym (input_is input b o (object_found input b o e));
      is_member = refl;
      by_need = refl;
      offers = ap (λ (r : Result Object Fault). cond w.lazy (names_in r) []) e;
      object = e;
    })

pub given_are : (whole : List (List ℕ)) (file input : ℕ) (ws : List InputWord) (bs : List (List ℕ)) (os : List OpenFile) (gs : List GivenObject)
    → bs ≡ drop file whole → length ws ≡ length bs → AreOpened bs os → given_from whole (objects_from file input ws os) ≡ Ok gs
    → AreGiven (filter is_plain (inputs_from file input ws bs os)) gs
given_are whole file input [] [] os [] at same are e = tt
given_are whole file input [] [] os (g ∷ gs) at same are e = absurd cc
given_are whole file input [] (b ∷ bs) os gs at same are e = absurd (omega (arith, same))
given_are whole file input (w ∷ ws) [] os gs at same are e = absurd (omega (arith, same))
given_are whole file input (w ∷ ws) (b ∷ bs) [] gs at same are e = absurd are
given_are whole file input (w ∷ ws) (b ∷ bs) (files.Library l ∷ os) gs at same are e =
    let n : ℕ = input + length l.members in
    subst (λ (cs : List Candidate). AreGiven cs gs) (sym (no_plain file w b input 0 l.offered l.members (inputs_from (file + 1) n ws bs os)))
    (given_are whole (file + 1) n ws bs os gs (behind_rest whole file b bs at) (omega (arith, same)) are.1 e)
given_are whole file input (w ∷ ws) (b ∷ bs) (files.Object n ∷ os) [] at same are e =
    let o : ObjectFile = record { file = file; input = input; lazy = w.lazy } in
    let a = bind_ok (given_of whole o) (λ g. given_from whole (objects_from (file + 1) (input + 1) ws os) >>= λ gs. Ok (g ∷ gs)) [] e in
    let r = bind_ok (given_from whole (objects_from (file + 1) (input + 1) ws os)) (λ gs. Ok (a.0 ∷ gs)) [] a.2 in
    let none : a.0 ∷ r.0 ≡ [] = ok_is r.2 in absurd cc
given_are whole file input (w ∷ ws) (b ∷ bs) (files.Object n ∷ os) (g ∷ gs) at same are e =
    let o : ObjectFile = record { file = file; input = input; lazy = w.lazy } in
    let a = bind_ok (given_of whole o) (λ g. given_from whole (objects_from (file + 1) (input + 1) ws os) >>= λ gs. Ok (g ∷ gs)) (g ∷ gs) e in
    let r = bind_ok (given_from whole (objects_from (file + 1) (input + 1) ws os)) (λ gs. Ok (a.0 ∷ gs)) (g ∷ gs) a.2 in
    let both : a.0 ∷ r.0 ≡ g ∷ gs = ok_is r.2 in
    let head : a.0 ≡ g = cc in
    let rest : r.0 ≡ gs = cc in
    let is = file_is whole file b bs at in (
      given_as file input w b (object_of input b) g refl
          (ap (λ (x : List ℕ). given_by input w.lazy (object_of input x)) (sym is) ∙ a.1 ∙ ap (λ (x : GivenObject). let y : Result GivenObject (ℕ × Fault) = Ok x in y) head),
      given_are whole (file + 1) (input + 1) ws bs os gs (behind_rest whole file b bs at) (omega (arith, same)) are.1
          (r.1 ∙ ap (λ (x : List GivenObject). let y : Result (List GivenObject) (ℕ × Fault) = Ok x in y) rest),
    )

-- ---- homes

map_both : {X Y : Type 0} (f : X → Y) (xs ys : List X) → map f (xs ++ ys) ≡ map f xs ++ map f ys
map_both f [] ys = refl
map_both {Y = Y} f (x ∷ xs) ys = ap (λ (zs : List Y). f x ∷ zs) (map_both f xs ys)

home_at : (file input : ℕ) (w : InputWord) (b : List ℕ) (o : OpenFile) → IsOpened b o → homes_in file o ≡ map home_of (candidates_at file input w b o)
home_at file input w b (files.Object n) is = ap (λ (len : ℕ). let hs : List Home = record { file = file; start = 0; len = len } ∷ [] in hs) is.1
home_at file input w b (files.Library l) is = members_home file w b input 0 l.offered l.members

pub homes_are : (file input : ℕ) (ws : List InputWord) (bs : List (List ℕ)) (os : List OpenFile) → length ws ≡ length bs → AreOpened bs os
    → homes_from file os ≡ map home_of (inputs_from file input ws bs os)
homes_are file input [] [] [] same are = refl
homes_are file input [] [] (o ∷ os) same are = absurd are
homes_are file input [] (b ∷ bs) os same are = absurd (omega (arith, same))
homes_are file input (w ∷ ws) [] os same are = absurd (omega (arith, same))
homes_are file input (w ∷ ws) (b ∷ bs) [] same are = absurd are
homes_are file input (w ∷ ws) (b ∷ bs) (o ∷ os) same are =
    ap (λ (hs : List Home). hs ++ homes_from (file + 1) os) (home_at file input w b o are.0)
    ∙ ap (λ (hs : List Home). map home_of (candidates_at file input w b o) ++ hs) (homes_are (file + 1) (input + count_in o) ws bs os (omega (arith, same)) are.1)
    ∙ sym (map_both home_of (candidates_at file input w b o) (inputs_from (file + 1) (input + count_in o) ws bs os))

-- ---- what the calls below ask for

-- each object's file is there
pub fit_from : (file input : ℕ) (ws : List InputWord) (os : List OpenFile) (i : ℕ) (o : ObjectFile) → slice_get (objects_from file input ws os) i ≡ Some o
    → o.file < file + length os
fit_from file input [] os i o e = absurd cc
fit_from file input (w ∷ ws) [] i o e = absurd cc
fit_from file input (w ∷ ws) (files.Library l ∷ os) i o e = omega (arith, fit_from (file + 1) (input + length l.members) ws os i o e)
fit_from file input (w ∷ ws) (files.Object n ∷ os) zero o e =
    let s : record { file = file; input = input; lazy = w.lazy } ≡ o = cc in
    omega (arith, ap (λ (x : ObjectFile). x.file) s)
fit_from file input (w ∷ ws) (files.Object n ∷ os) (suc i) o e = omega (arith, fit_from (file + 1) (input + 1) ws os i o e)

-- each library is that of its file
pub libraries_read : (whole : List (List ℕ)) (file input : ℕ) (ws : List InputWord) (bs : List (List ℕ)) (os : List OpenFile) → bs ≡ drop file whole
    → AreOpened bs os → All (IsRead whole) (libraries_from file input ws os)
libraries_read whole file input [] bs os at are = All-nil (IsRead whole)
libraries_read whole file input (w ∷ ws) [] [] at are = All-nil (IsRead whole)
libraries_read whole file input (w ∷ ws) [] (o ∷ os) at are = absurd are
libraries_read whole file input (w ∷ ws) (b ∷ bs) [] at are = absurd are
libraries_read whole file input (w ∷ ws) (b ∷ bs) (files.Object n ∷ os) at are =
    libraries_read whole (file + 1) (input + 1) ws bs os (behind_rest whole file b bs at) are.1
libraries_read whole file input (w ∷ ws) (b ∷ bs) (files.Library l ∷ os) at are =
    All-cons (IsRead whole) (record { file = file; first = input; whole = w.whole; library = l }) (libraries_from (file + 1) (input + length l.members) ws os)
    (b, at_rest whole file b bs at, are.0)
    (libraries_read whole (file + 1) (input + length l.members) ws bs os (behind_rest whole file b bs at) are.1)

-- each library's inputs are among all
abbrev pub IsFew : ℕ → LibraryFile → Type 0
IsFew n l = l.first + length l.library.members ≤ n

pub libraries_few : (n file input : ℕ) (ws : List InputWord) (os : List OpenFile) → input + input_count os ≤ n → All (IsFew n) (libraries_from file input ws os)
libraries_few n file input [] os le = All-nil (IsFew n)
libraries_few n file input (w ∷ ws) [] le = All-nil (IsFew n)
libraries_few n file input (w ∷ ws) (files.Object k ∷ os) le = libraries_few n (file + 1) (input + 1) ws os (omega (arith, le, sum_by-cons count_in (files.Object k) os))
libraries_few n file input (w ∷ ws) (files.Library l ∷ os) le =
    All-cons (IsFew n) (record { file = file; first = input; whole = w.whole; library = l }) (libraries_from (file + 1) (input + length l.members) ws os)
    (omega (arith, le, sum_by-cons count_in (files.Library l) os)) (libraries_few n (file + 1) (input + length l.members) ws os (omega (arith, le, sum_by-cons count_in (files.Library l) os)))

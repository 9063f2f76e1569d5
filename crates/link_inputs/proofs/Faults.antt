-- The least fault of what is read at once.
use Rattle.std.proofs.Common.{◌≡◌, ◌∙◌, ◌+◌, ◌<◌, ◌≤◌, ℕ, Bool, true, false, cond, List, [], ◌∷◌, ◌++◌, length, take, drop, Option, Some, None, Result, Ok, Err, refl, sym, ap, arith}
use Rattle.std.specs.Prelude.{map, filter, nat_le, ◌&&◌, ◌==◌}
use Rattle.std.proofs.lemmas.Bool.{lt-leb, le-leb}
use Rattle.link_program.specs.lib_index.Library.{Contents}
use Rattle.link_program.specs.wl_base.Choice.{first_some, ◌>>=◌}
use Rattle.link_program.specs.wl_base.declared.fault.Fault.{Fault}
use Rattle.link_program.specs.wl_base.declared.span.Span.{Span}
use Rattle.link_program.specs.object_file.declared.object.Object.{Object}
use Rattle.link_program.specs.object_file.ObjectOf.{object_of}
use Rattle.link_program.specs.round_rules.declared.given.GivenObject.{GivenObject}
use Rattle.link_program.specs.round_rules.declared.given.LibraryFile.{LibraryFile}
use Rattle.link_program.specs.round_rules.Rounds.{Candidate, object_fault, fault_in, is_always_read, always_read_fault}
use Rattle.link_program.specs.round_rules.Inputs.{members_of}
use Rattle.link_program.specs.link_plan.declared.plan.InputWord.{InputWord}
use Rattle.link_program.specs.link_rules.Candidates.{plain_candidate, members_from}
use Rattle.link_program.specs.link_rules.LinkOf.{the_readers}
use Rattle.link_inputs.specs.declared.numbering.ObjectFile.{ObjectFile}
use Rattle.link_inputs.specs.declared.opening.OpenFile.{OpenFile}
use Rattle.link_inputs.specs.declared.opening.OpenFile.TheVariants as files
use Rattle.link_inputs.specs.Sources.{objects_from, libraries_from}
use Rattle.link_inputs.specs.Reading.{file_at, given_by, given_from, whole_before, fault_of, least_of}
use Rattle.link_inputs.specs.Inputs.{candidates_at, inputs_from}
use Rattle.link_inputs.proofs.Binds.{err_is}
use Rattle.link_inputs.proofs.Files.{AreOpened}
use Rattle.link_inputs.proofs.Places.{behind_rest, file_is}
use Rattle.link_inputs.proofs.Members.{or_else, fault_both}
use Rattle.link_inputs.proofs.Made.{library_members}

least_both : (a b : Option Fault) (f : Fault) → least_of (or_else a b) f ≡ or_else a (least_of b f)
least_both None b f = refl
least_both (Some g) b f = refl

-- ---- members

module _ (file : ℕ) (b : List ℕ) where
  -- those of a whole library are read at once, and no others
  read_whole : (place : ℕ) (lazy : Bool) (input member : ℕ) (offered : List (List ℕ × ℕ)) (ss : List Span) (rest : List Candidate)
      → (let w : InputWord = record { place = place; lazy = lazy; whole = true } in
      filter is_always_read (members_from the_readers file w b input member offered ss ++ rest) ≡ members_from the_readers file w b input member offered ss ++ filter is_always_read rest)
  read_whole place lazy input member offered [] rest = refl
  read_whole place lazy input member offered (s ∷ ss) rest =
      ap (λ (cs : List Candidate). let ds : List Candidate = record {
        input = input;
        file = file;
        start = s.start;
        len = s.len;
        is_member = true;
        by_need = false;
        offers = map (λ o. o.0) (filter (λ o. o.1 == member) offered);
        object = object_of input (take s.len (drop s.start b));
      } ∷ cs in ds) (read_whole place lazy (input + 1) (member + 1) offered ss rest)

  not_read : (place : ℕ) (lazy : Bool) (input member : ℕ) (offered : List (List ℕ × ℕ)) (ss : List Span) (rest : List Candidate)
      → (let w : InputWord = record { place = place; lazy = lazy; whole = false } in
      filter is_always_read (members_from the_readers file w b input member offered ss ++ rest) ≡ filter is_always_read rest)
  not_read place lazy input member offered [] rest = refl
  not_read place lazy input member offered (s ∷ ss) rest = not_read place lazy (input + 1) (member + 1) offered ss rest

-- ---- libraries

and_false : (a : Bool) → (a && false) ≡ false
and_false true = refl
and_false false = refl

-- none begins so early
none_before : (whole : List (List ℕ)) (k file input : ℕ) (ws : List InputWord) (os : List OpenFile) → k < input
    → whole_before whole k (libraries_from file input ws os) ≡ []
none_before whole k file input [] os lt = refl
none_before whole k file input (w ∷ ws) [] lt = refl
none_before whole k file input (w ∷ ws) (files.Object n ∷ os) lt = none_before whole k (file + 1) (input + 1) ws os (omega (arith, lt))
none_before whole k file input (w ∷ ws) (files.Library l ∷ os) lt =
    let no : nat_le input k ≡ false = lt-leb input k lt in
    rw (no, and_false w.whole) (none_before whole k (file + 1) (input + length l.members) ws os (omega (arith, lt)))

-- ---- all

-- The first object of the words that has a fault is this input, and what is known of all.
abbrev pub Least : List (List ℕ) → ℕ → ℕ → Fault → List Candidate → List LibraryFile → Type 0
Least whole input k f all libraries = (input ≤ k) × (always_read_fault all ≡ least_of (fault_of (whole_before whole k libraries)) f)

-- the first object has a fault
at_fault : (input k : ℕ) (f g : Fault) → (let r : Result (List GivenObject) (ℕ × Fault) = Err (input, f) in r ≡ Err (k, g)) → (input ≡ k) × (f ≡ g)
at_fault input k f g e =
    let p : (let q : ℕ × Fault = (input, f) in q) ≡ (k, g) = err_is e in
    (ap (λ q. q.0) p, ap (λ q. q.1) p)

rest_err : (g : GivenObject) (k : ℕ) (f : Fault) (r : Result (List GivenObject) (ℕ × Fault))
    → (r >>= λ gs. (let y : Result (List GivenObject) (ℕ × Fault) = Ok (g ∷ gs) in y)) ≡ Err (k, f) → r ≡ Err (k, f)
rest_err g k f (Ok gs) e = absurd cc
rest_err g k f (Err x) e = let same : x ≡ (k, f) = err_is e in ap (λ (y : ℕ × Fault). let r : Result (List GivenObject) (ℕ × Fault) = Err y in r) same

module _ (whole : List (List ℕ)) (file input : ℕ) (w : InputWord) (b : List ℕ) (k : ℕ) (f : Fault) (rest : List Candidate) (libraries : List LibraryFile)
    (objects : List ObjectFile) (none : k < input + 1 → whole_before whole k libraries ≡ [])
    (later : given_from whole objects ≡ Err (k, f) → Least whole (input + 1) k f rest libraries) where
  by_object : (r : Result Object Fault) → object_of input b ≡ r
      → (given_by input w.lazy r >>= λ g. given_from whole objects >>= λ gs. (let y : Result (List GivenObject) (ℕ × Fault) = Ok (g ∷ gs) in y)) ≡ Err (k, f)
      → Least whole input k f (plain_candidate the_readers file w b input ∷ rest) libraries
  by_object (Err g) is e =
      let p = at_fault input k g f e in (
        omega (arith, p.0),
        ap (λ (o : Option Fault). first_some (o ∷ map object_fault (filter is_always_read rest))) (ap fault_in is)
            ∙ ap (λ (x : Fault). Some x) p.1
            ∙ sym (ap (λ (cs : List Candidate). least_of (fault_of cs) f) (none (omega (arith, p.0)))),
      )
  by_object (Ok o) is e =
      let l = later (rest_err (record { object = o; lazy = w.lazy }) k f (given_from whole objects) e) in (
        omega (arith, l.0),
        ap (λ (x : Option Fault). first_some (x ∷ map object_fault (filter is_always_read rest))) (ap fault_in is) ∙ l.1,
      )

-- a library that is loaded whole, and one that isn't
module _ (whole : List (List ℕ)) (file input : ℕ) (b : List ℕ) (is : file_at whole file ≡ b) (place : ℕ) (lazy : Bool) (l : Contents) (k : ℕ) (f : Fault)
    (rest : List Candidate) (libraries : List LibraryFile) (later : Least whole (input + length l.members) k f rest libraries) where
  abbrev word : Bool → InputWord
  word all = record { place = place; lazy = lazy; whole = all }

  abbrev this : Bool → LibraryFile
  this all = record { file = file; first = input; whole = all; library = l }

  members : (all : Bool) → List Candidate
  members all = members_from the_readers file (word all) b input 0 l.offered l.members

  by_whole : (all : Bool) → Least whole input k f (candidates_at file input (word all) b (files.Library l) ++ rest) (this all ∷ libraries)
  by_whole true =
      let early : nat_le input k ≡ true = le-leb input k (omega (arith, later.0)) in
      let ms : List Candidate = candidates_at file input (word true) b (files.Library l) in
      let own : members_of whole (this true) ≡ ms = library_members whole file input (word true) b l is in (
        omega (arith, later.0),
        ap fault_of (read_whole file b place lazy input 0 l.offered l.members rest)
            ∙ fault_both ms (filter is_always_read rest)
            ∙ ap (or_else (fault_of ms)) later.1
            ∙ sym (least_both (fault_of ms) (fault_of (whole_before whole k libraries)) f)
            ∙ ap (λ (x : Option Fault). least_of x f) (sym (fault_both ms (whole_before whole k libraries)))
            ∙ ap (λ (cs : List Candidate). least_of (fault_of (cs ++ whole_before whole k libraries)) f) (sym own)
            ∙ ap (λ (t : Bool). least_of (fault_of (cond t (members_of whole (this true)) [] ++ whole_before whole k libraries)) f) (sym early),
      )
  by_whole false = (omega (arith, later.0), ap fault_of (not_read file b place lazy input 0 l.offered l.members rest) ∙ later.1)

pub least_is : (whole : List (List ℕ)) (file input : ℕ) (ws : List InputWord) (bs : List (List ℕ)) (os : List OpenFile) (k : ℕ) (f : Fault)
    → bs ≡ drop file whole → length ws ≡ length bs → AreOpened bs os → given_from whole (objects_from file input ws os) ≡ Err (k, f)
    → Least whole input k f (inputs_from file input ws bs os) (libraries_from file input ws os)
least_is whole file input [] bs os k f at same are e = absurd cc
least_is whole file input (w ∷ ws) [] os k f at same are e = absurd (omega (arith, same))
least_is whole file input (w ∷ ws) (b ∷ bs) [] k f at same are e = absurd are
least_is whole file input (w ∷ ws) (b ∷ bs) (files.Object n ∷ os) k f at same are e =
    by_object whole file input w b k f (inputs_from (file + 1) (input + 1) ws bs os) (libraries_from (file + 1) (input + 1) ws os)
    (objects_from (file + 1) (input + 1) ws os) (λ lt. none_before whole k (file + 1) (input + 1) ws os lt)
    (λ err. least_is whole (file + 1) (input + 1) ws bs os k f (behind_rest whole file b bs at) (omega (arith, same)) are.1 err)
    (object_of input b) refl
    (ap (λ (x : List ℕ). given_by input w.lazy (object_of input x) >>= λ g. given_from whole
    (objects_from (file + 1) (input + 1) ws os) >>= λ gs. (let y : Result (List GivenObject) (ℕ × Fault) = Ok (g ∷ gs) in y)) (sym (file_is whole file b bs at)) ∙ e)
least_is whole file input (w ∷ ws) (b ∷ bs) (files.Library l ∷ os) k f at same are e =
    by_whole whole file input b (file_is whole file b bs at) w.place w.lazy l k f (inputs_from (file + 1) (input + length l.members) ws bs os)
    (libraries_from (file + 1) (input + length l.members) ws os)
    (least_is whole (file + 1) (input + length l.members) ws bs os k f (behind_rest whole file b bs at) (omega (arith, same)) are.1 e) w.whole

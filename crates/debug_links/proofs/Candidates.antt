-- A loaded object is what the bytes of the candidate with its number are read as.
use Rattle.std.proofs.Common.{◌≡◌, ◌∙◌, ℕ, zero, suc, ◌+◌, ◌≤◌, true, false, List, [], ◌∷◌, ◌++◌, length, take, drop, Option, Some, None, Result, Ok, Err, inl, inr, refl, sym, ap, subst, arith}
use Rattle.std.specs.Prelude.{◌==◌, filter, find, slice_index_or}
use Rattle.std.proofs.lemmas.Bool.{eq-eqb, ne_eqb}
use Rattle.list_places.specs.Has.{Has}
use Rattle.list_places.proofs.Lists.{has_filter, has_pick}
use Rattle.object_file.specs.wl_base.Choice.{unless, ◌>>=◌}
use Rattle.object_file.specs.wl_base.declared.fault.Fault.{Fault}
use Rattle.object_file.specs.wl_base.declared.span.Span.{Span}
use Rattle.object_file.specs.declared.object.Object.{Object}
use Rattle.object_file.specs.ObjectOf.{object_of}
use Rattle.object_file.proofs.Read.{object_found}
use Rattle.object_file.proofs.SoundObject.{input_is}
use Rattle.valid_links.specs.link_runs.link_program.link_plan.declared.plan.Plan.{Plan}
use Rattle.valid_links.specs.link_runs.link_program.link_plan.declared.plan.InputWord.{InputWord}
use Rattle.valid_links.specs.link_runs.link_facts.Facts.{bytes_of}
use Rattle.valid_links.specs.link_runs.link_program.made_symbols.declared.mode.Mode.{Mode}
use Rattle.valid_links.specs.link_runs.link_program.round_rules.Rounds.{Candidate, object_in, is_loaded, objects_of, loaded_inputs, load}
use Rattle.valid_links.specs.link_runs.link_program.link_rules.Candidates.{Opened, object, library, opened, is_library, members_from, candidates_in, candidates_from, too_much_input, too_many_inputs, words_for, candidates_of}
use Rattle.valid_links.specs.link_runs.link_program.link_rules.LinkOf.{the_readers}

pub bind_ok : {A B : Type 0} (r : Result A Fault) (f : A → Result B Fault) (y : B) → (r >>= f) ≡ Ok y → (x : A) × (r ≡ Ok x) × (f x ≡ Ok y)
bind_ok (Ok x) f y e = (x, refl, e)
bind_ok (Err d) f y e = absurd cc

pub ok_is : {A : Type 0} {x y : A} → (let r : Result A Fault = Ok x in r ≡ Ok y) → x ≡ y
ok_is e = cc

pub unless_ok : {A : Type 0} (t : Option Fault) (x y : A) → unless t x ≡ Ok y → x ≡ y
unless_ok None x y e = ok_is e
unless_ok (Some f) x y e = absurd cc

-- ---- lists

take_whole : {A : Type 0} (xs : List A) → take (length xs) xs ≡ xs
take_whole [] = refl
take_whole (x ∷ xs) = ap (λ ys. x ∷ ys) (take_whole xs)

-- a list from a place on
from_place : {A : Type 0} (xs : List A) (k : ℕ) (y : A) (ys : List A) (other : A) → y ∷ ys ≡ drop k xs → (slice_index_or xs k other ≡ y) × (ys ≡ drop (k + 1) xs)
from_place [] zero y ys other e = absurd (grind arith)
from_place [] (suc k) y ys other e = absurd (grind arith)
from_place (x ∷ xs) zero y ys other e = (grind arith, grind arith)
from_place (x ∷ xs) (suc k) y ys other e =
    let r = from_place xs k y ys other e in
    let z : suc (k + 1) ≡ suc k + 1 = omega arith in
    (r.0, r.1 ∙ ap (λ n. drop n (x ∷ xs)) z)

-- ---- candidates

module _ (files : List (List ℕ)) where
  -- the candidates from a number on, each read of its bytes
  abbrev pub AreRead : ℕ → List Candidate → Type 0
  AreRead input [] = Unit {0}
  AreRead input (c ∷ cs) = (c.input ≡ input) × (c.object ≡ object_of input (bytes_of files c)) × AreRead (input + 1) cs

  both_read : (input : ℕ) (cs ds : List Candidate) → AreRead input cs → AreRead (input + length cs) ds → AreRead input (cs ++ ds)
  both_read input [] ds p q = subst (λ n. AreRead n ds) (let n : input + 0 ≡ input = omega arith in n) q
  both_read input (c ∷ cs) ds p q =
      let n : input + suc (length cs) ≡ input + 1 + length cs = omega arith in
      (p.0, p.1, both_read (input + 1) cs ds p.2 (subst (λ n. AreRead n ds) n q))

  members_read : (file : ℕ) (w : InputWord) (b : List ℕ) (input member : ℕ) (offered : List (List ℕ × ℕ)) (ss : List Span) → slice_index_or files file [] ≡ b
      → AreRead input (members_from the_readers file w b input member offered ss)
  members_read file w b input member offered [] z = tt
  members_read file w b input member offered (s ∷ ss) z = (refl, ap (λ x. object_of input (take s.len (drop s.start x))) (sym z), members_read file w b (input + 1) (member + 1) offered ss z)

  file_read : (file : ℕ) (w : InputWord) (b : List ℕ) (input : ℕ) (o : Opened) → slice_index_or files file [] ≡ b → AreRead input (candidates_in the_readers file w b input o)
  file_read file w b input object z = (refl, ap (object_of input) (sym (ap (take (length b)) z ∙ take_whole b)), tt)
  file_read file w b input (library l) z = members_read file w b input 0 l.offered l.members z

  from_read : (file : ℕ) (seen : List Candidate) (ws : List InputWord) (bs : List (List ℕ)) (all : List Candidate) → bs ≡ drop file files → AreRead 1 seen
      → candidates_from the_readers file seen ws bs ≡ Ok all → AreRead 1 all
  from_read file seen [] bs all z read e = subst (AreRead 1) (ok_is e) read
  from_read file seen (w ∷ ws) [] all z read e = subst (AreRead 1) (ok_is e) read
  from_read file seen (w ∷ ws) (b ∷ bs) all z read e =
      let o = bind_ok (opened the_readers file b (is_library b)) (λ o. candidates_from the_readers (file + 1) (seen ++ candidates_in the_readers file w b (length seen + 1) o) ws bs) all e in
      let p = from_place files file b bs [] z in
      let new = candidates_in the_readers file w b (length seen + 1) o.0 in
      let n : length seen + 1 ≡ 1 + length seen = omega arith in
      from_read (file + 1) (seen ++ new) ws bs all p.1 (both_read 1 seen new read (subst (λ n. AreRead n new) n (file_read file w b (length seen + 1) o.0 p.0))) o.2

  pub candidates_read : (plan : Plan) (all : List Candidate) → candidates_of the_readers plan files ≡ Ok all → AreRead 1 all
  unfolding candidates_of
  candidates_read plan all e =
      let a = bind_ok (unless (too_much_input files) (words_for plan.make_case plan.inputs files)) _ all e in
      let b = bind_ok (candidates_from the_readers 0 [] a.0 files) (λ xs. unless (too_many_inputs xs) xs) all a.2 in
      subst (AreRead 1) (unless_ok (too_many_inputs b.0) b.0 all b.2) (from_read 0 [] a.0 files b.0 refl tt b.1)

  -- ---- loaded objects

  -- the candidate of an object's number is there, and its bytes are that object; numbers count from 1
  abbrev pub IsRead : List Candidate → Object → Type 0
  IsRead all o = (c : Candidate) × (find (λ d. d.input == o.input) all ≡ Some c) × (object_of o.input (bytes_of files c) ≡ Ok o) × (1 ≤ o.input)

  number_of : (input : ℕ) (bytes : List ℕ) (o : Object) → object_of input bytes ≡ Ok o → o.input ≡ input
  number_of input bytes o e = input_is input bytes o (object_found input bytes o e)

  read_in : (input : ℕ) (cs : List Candidate) (c : Candidate) (o : Object) → AreRead input cs → Has cs c → c.object ≡ Ok o
      → (find (λ d. d.input == o.input) cs ≡ Some c) × (object_of o.input (bytes_of files c) ≡ Ok o) × (input ≤ o.input)
  read_in input [] c o read h e = absurd h
  read_in input (d ∷ cs) c o read (inl same) e =
      let is : object_of input (bytes_of files c) ≡ Ok o = subst (λ (x : Candidate). object_of input (bytes_of files x) ≡ Ok o) same (sym read.1 ∙ (ap (λ (x : Candidate). x.object) same ∙ e)) in
      let n = number_of input (bytes_of files c) o is in
      let test : (d.input == o.input) ≡ true = eq-eqb d.input o.input (read.0 ∙ sym n) in
      (rw test (ap Some same), subst (λ k. object_of k (bytes_of files c) ≡ Ok o) (sym n) is, omega (arith, n))
  read_in input (d ∷ cs) c o read (inr h) e =
      let r = read_in (input + 1) cs c o read.2 h e in
      let test : (d.input == o.input) ≡ false = ne_eqb d.input o.input (omega (arith, r.2, read.0)) in
      (rw test r.0, r.1, omega (arith, r.2))

  object_is : (r : Result Object Fault) (o : Object) → object_in r ≡ Some o → r ≡ Ok o
  object_is (Ok x) o e = cc
  object_is (Err f) o e = absurd cc

  pub loaded_read : (plan : Plan) (all : List Candidate) (objects : List Object) → candidates_of the_readers plan files ≡ Ok all
      → (mode : Mode) (asked : List (List ℕ)) → load mode asked all ≡ Ok objects → (o : Object) → Has objects o → IsRead all o
  unfolding load
  loaded_read plan all objects e mode asked l o h =
      let loaded = bind_ok (loaded_inputs mode asked all) (λ (loaded : List ℕ). (let y : Result (List Object) Fault = Ok (objects_of all loaded) in y)) objects l in
      let picked : Has (objects_of all loaded.0) o = subst (λ os. Has os o) (sym (ok_is loaded.2)) h in
      let c = has_pick (λ (c : Candidate). object_in c.object) (filter (is_loaded loaded.0) all) o picked in
      let r = read_in 1 all c.0 o (candidates_read plan all e) (has_filter (is_loaded loaded.0) all c.0 c.1).0 (object_is c.0.object o c.2) in
      (c.0, r.0, r.1, r.2)

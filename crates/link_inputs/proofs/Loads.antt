-- What is loaded of candidates in their places is sound.
use Rattle.std.proofs.Common.{◌≡◌, ◌∙◌, ◌+◌, ◌-◌, ◌<◌, ◌≤◌, ◌^◌, ℕ, Bool, true, List, [], ◌∷◌, length, drop, Option, Some, Result, Ok, Err, refl, sym, ap, subst, arith, inl, inr}
use Rattle.std.specs.Prelude.{slice_get, map, filter, filter_map, All}
use Rattle.std.proofs.lemmas.Bool.{cases_Bool}
use Rattle.std.proofs.lemmas.List.Elements.{All-nil, All-cons}
use Rattle.link_program.specs.wl_base.Choice.{unless, ◌>>=◌}
use Rattle.link_program.specs.wl_base.declared.fault.Fault.{Fault}
use Rattle.link_program.specs.object_file.declared.object.Object.{Object}
use Rattle.link_program.specs.object_file.Sound.{Sound}
use Rattle.link_program.proofs.object_file_lemmas.Read.{object_found}
use Rattle.link_program.proofs.object_file_lemmas.SoundObject.{input_is, read_is_sound}
use Rattle.link_program.specs.made_symbols.declared.mode.Mode.{Mode}
use Rattle.link_program.specs.round_rules.Rounds.{Candidate, object_in, objects_of, is_loaded, at_once, always_read_fault, rounds, loaded_inputs, load}
use Rattle.link_program.specs.name_entries.View.{InputsRise}
use Rattle.link_program.specs.declared.home.Home.{Home}
use Rattle.link_program.specs.Loaded.{home_of, IsReadFrom, IsLoaded}
use Rattle.link_inputs.proofs.Binds.{bind_ok, ok_is}
use Rattle.link_inputs.proofs.Places.{Stands, Placed, numbered, at_rest, behind_rest}

-- ---- loading

-- what is loaded are objects of candidates
pub load_of : (mode : Mode) (asked : List (List ℕ)) (all : List Candidate) (objects : List Object) → load mode asked all ≡ Ok objects
    → (loaded : List ℕ) × (objects ≡ objects_of all loaded)
unfolding load
load_of mode asked all objects e =
    let r = bind_ok (loaded_inputs mode asked all) (λ loaded. (let y : Result (List Object) Fault = Ok (objects_of all loaded) in y)) objects e in
    (r.0, sym (ok_is r.2))

-- a fault of what is read at once is told
pub load_refused : (mode : Mode) (asked : List (List ℕ)) (all : List Candidate) (f : Fault) → always_read_fault all ≡ Some f → load mode asked all ≡ Err f
unfolding load
load_refused mode asked all f e =
    ap (λ (t : Option Fault). (unless t (at_once all) >>= rounds mode asked all (length all + 1)) >>= λ loaded. (let y : Result (List Object) Fault = Ok (objects_of all loaded) in y)) e

-- ---- objects in their places

pub read_from : (files : List (List ℕ)) (c : Candidate) (o : Object) → Stands files c → c.object ≡ Ok o → IsReadFrom files c o
read_from files c o s e =
    let is = object_found c.input s.bytes o (sym s.object ∙ e) in
    record {
      input = sym (input_is c.input s.bytes o is);
      object = e;
      sound = subst (λ (n : ℕ). Sound n o) s.long (read_is_sound c.input s.bytes o is);
      file = s.file;
      lies = s.lies;
    }

module _ (files : List (List ℕ)) (p : Candidate → Bool) where
  abbrev picked : List Candidate → List Object
  picked cs = filter_map (λ c. object_in c.object) (filter p cs)

  -- inputs rise
  rise_by : (last input : ℕ) (c : Candidate) (cs : List Candidate) (r : Result Object Fault) → p c ≡ true → c.object ≡ r → last < input → input < 2 ^ 20
      → c.input ≡ input → Stands files c → ((last : ℕ) → last < input + 1 → InputsRise last (picked cs)) → InputsRise last (picked (c ∷ cs))
  rise_by last input c cs (Ok o) is e lt few number s later =
      let n : o.input ≡ input = sym (read_from files c o s e).input ∙ number in
      rw (is, e) (omega (arith, lt, n), omega (arith, few, n), later o.input (omega (arith, n)))
  rise_by last input c cs (Err f) is e lt few number s later = rw (is, e) (later last (omega (arith, lt)))

  pub rise_from : (last input : ℕ) (cs : List Candidate) → last < input → input + length cs ≤ 2 ^ 20 → Placed files input cs → InputsRise last (picked cs)
  rise_from last input [] lt few placed = tt
  rise_from last input (c ∷ cs) lt few placed =
      let later : (k : ℕ) → k < input + 1 → InputsRise k (picked cs) = λ k below. rise_from k (input + 1) cs below (omega (arith, few)) placed.2 in
      elim (cases_Bool (p c)) [
        | inl is ↦ rise_by last input c cs c.object is refl lt (omega (arith, few)) placed.0 placed.1 later
        | inr not_so ↦ rw not_so (later last (omega (arith, lt)))
      ]

  module _ (all : List Candidate) where
    abbrev Found : Object → Type 0
    Found o = (c : Candidate) × (slice_get all (o.input - 1) ≡ Some c) × IsReadFrom files c o

    found_by : (i : ℕ) (c : Candidate) (cs : List Candidate) (r : Result Object Fault) → p c ≡ true → c.object ≡ r → c ∷ cs ≡ drop i all
        → c.input ≡ i + 1 → Stands files c → All Found (picked cs) → All Found (picked (c ∷ cs))
    found_by i c cs (Ok o) is e at number s later =
        let read = read_from files c o s e in
        let place : i ≡ o.input - 1 = omega (arith, number, read.input) in
        rw (is, e) (All-cons Found o (picked cs) (c, subst (λ (n : ℕ). slice_get all n ≡ Some c) place (at_rest all i c cs at), read) later)
    found_by i c cs (Err f) is e at number s later = rw (is, e) later

    pub found_from : (i : ℕ) (cs : List Candidate) → cs ≡ drop i all → Placed files (i + 1) cs → All Found (picked cs)
    found_from i [] at placed = All-nil Found
    found_from i (c ∷ cs) at placed =
        let later : All Found (picked cs) = found_from (i + 1) cs (behind_rest all i c cs at) placed.2 in
        elim (cases_Bool (p c)) [
          | inl is ↦ found_by i c cs c.object is refl at placed.0 placed.1 later
          | inr not_so ↦ rw not_so later
        ]

pub loaded_is : (mode : Mode) (files asked : List (List ℕ)) (all : List Candidate) (objects : List Object) (starts : List Home)
    → Placed files 1 all → length all < 2 ^ 20 → load mode asked all ≡ Ok objects → starts ≡ map home_of all → IsLoaded files all objects starts
loaded_is mode files asked all objects starts placed few e homes =
    let l = load_of mode asked all objects e in
    record {
      numbered = λ i c at. omega (arith, numbered files 1 all placed i c at);
      homes = homes;
      rise = subst (InputsRise 0) (sym l.1) (rise_from files (is_loaded l.0) 0 1 all (omega arith) (omega (arith, few)) placed);
      each = subst (All (Found files (is_loaded l.0) all)) (sym l.1) (found_from files (is_loaded l.0) all 0 all refl placed);
    }

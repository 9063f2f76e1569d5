-- The candidates of files behind others: in parts, by number, and under other numbers.
use Rattle.std.proofs.Common.{◌≡◌, ℕ, suc, ◌+◌, ◌-◌, ◌<◌, ◌^◌, Bool, true, false, ◌||◌, List, [], ◌∷◌, ◌++◌, length, refl, sym, ap, subst, ◌∙◌, append_assoc, append-nil, inl, inr, ⊎_elim, arith}
use Rattle.std.specs.Prelude.{Option, Some, None, Result, Ok, Err, if◌then◌else◌, nat_lt, slice_index_or}
use Rattle.std.specs.List.{AllZip}
use Rattle.std.proofs.lemmas.List.{length-append}
use Rattle.list_places.specs.Has.{Has}
use Rattle.list_places.proofs.Lists.{has_either}
use Rattle.name_rules.specs.object_file.wl_base.Choice.{first_some, given, ◌>>=◌}
use Rattle.name_rules.specs.object_file.wl_base.declared.fault.Fault.{Fault}
use Rattle.name_rules.specs.object_file.wl_base.declared.fault.Fault.TheVariants.{TooLong}
use Rattle.name_rules.specs.object_file.wl_base.declared.fault.LibFault.{LibFault}
use Rattle.name_rules.specs.object_file.wl_base.declared.span.Span.{Span}
use Rattle.object_rules.specs.wasm_sections.declared.section.SectionSpan.{SectionSpan}
use Rattle.object_rules.specs.wasm_sections.declared.fault.FrameFault.{FrameFault}
use Rattle.object_rules.specs.wasm_sections.Reading.{frame_at}
use Rattle.object_rules.specs.object_parts.declared.parts.Parts.{Parts}
use Rattle.object_rules.specs.object_parts.declared.reading.SectionStop.{SectionStop}
use Rattle.object_rules.specs.object_parts.Reading.{parts_of}
use Rattle.object_rules.specs.Rules.{broken_rule}
use Rattle.name_rules.specs.object_file.declared.object.Object.{Object}
use Rattle.name_rules.specs.object_file.Objects.{object_from}
use Rattle.name_rules.specs.object_file.ObjectOf.{agreed, spelled_object, framed_object, object_of}
use Rattle.lib_index.specs.Library.{Contents}
use Rattle.lib_index.specs.Reading.{library_of}
use Rattle.round_rules.specs.Rounds.{Candidate, defined_names}
use Rattle.link_plan.specs.declared.plan.InputWord.{InputWord}
use Rattle.link_rules.specs.Candidates.{is_library, Opened, object, library, opened_library, opened, part_of, names_in, plain_candidate, members_from, candidates_in, candidates_from}
use Rattle.link_rules.specs.LinkOf.{the_readers}
use Rattle.partial_rules.specs.PartialLink.{first_not_plain}
use Rattle.partial_loading_laws.specs.Alike.{AlikeRead, AlikeCandidate}
use Rattle.partial_loading_laws.specs.Numbered.{AreNumbered, IsWholeFile}
use Rattle.partial_loading_laws.proofs.Names.{ok_is, bind_ok}
use Rattle.partial_loading_laws.proofs.Zips.{zip_length, zip_append}

-- ---- candidates behind others

abbrev pub onto : List Candidate → Result (List Candidate) Fault → Result (List Candidate) Fault
onto cs (Ok ds) = Ok (cs ++ ds)
onto cs (Err f) = Err f

-- The candidates of files from a place on, behind so many others.
abbrev pub behind : ℕ → ℕ → List InputWord → List (List ℕ) → Result (List Candidate) Fault
behind file n [] files = Ok []
behind file n (w ∷ ws) [] = Ok []
behind file n (w ∷ ws) (b ∷ fs) =
    opened the_readers file b (is_library b)
    >>= λ o. onto (candidates_in the_readers file w b (n + 1) o) (behind (file + 1) (n + length (candidates_in the_readers file w b (n + 1) o)) ws fs)

pub onto_ok : (cs : List Candidate) (r : Result (List Candidate) Fault) (all : List Candidate) → onto cs r ≡ Ok all → (ds : List Candidate) × (r ≡ Ok ds) × (all ≡ cs ++ ds)
onto_ok cs (Ok ds) all e = (ds, refl, sym (ok_is (cs ++ ds) all _ refl e))
onto_ok cs (Err f) all e = absurd (grind arith)

-- what is put behind none
pub from_none : (r : Result (List Candidate) Fault) (all : List Candidate) → onto [] r ≡ Ok all → r ≡ Ok all
from_none (Ok cs) all e = e
from_none (Err f) all e = absurd (grind arith)

onto_twice : (cs ds : List Candidate) (r : Result (List Candidate) Fault) → onto (cs ++ ds) r ≡ onto cs (onto ds r)
onto_twice cs ds (Ok es) = ap (λ xs. Ok xs) (append_assoc cs ds es)
onto_twice cs ds (Err f) = refl

pub from_behind : (file : ℕ) (found : List Candidate) (ws : List InputWord) (fs : List (List ℕ)) → candidates_from the_readers file found ws fs ≡ onto found (behind file (length found) ws fs)
from_behind file found [] fs = ap (λ cs. Ok cs) (sym (append-nil found))
from_behind file found (w ∷ ws) [] = ap (λ cs. Ok cs) (sym (append-nil found))
from_behind file found (w ∷ ws) (b ∷ fs) = by_opened (opened the_readers file b (is_library b)) (λ cs. from_behind (file + 1) cs ws fs)
  where
    by_opened : (o : Result Opened Fault) → ((cs : List Candidate) → candidates_from the_readers (file + 1) cs ws fs ≡ onto cs (behind (file + 1) (length cs) ws fs))
        → (o >>= λ o. candidates_from the_readers (file + 1) (found ++ candidates_in the_readers file w b (length found + 1) o) ws fs)
        ≡ onto found (o >>= λ o. onto (candidates_in the_readers file w b (length found + 1) o) (behind (file + 1) (length found + length (candidates_in the_readers file w b (length found + 1) o)) ws fs))
    by_opened (Err f) again = refl
    by_opened (Ok o) again =
        let cs = candidates_in the_readers file w b (length found + 1) o in
        again (found ++ cs)
        ∙ (ap (λ n. onto (found ++ cs) (behind (file + 1) n ws fs)) (length-append found cs) ∙ onto_twice found cs (behind (file + 1) (length found + length cs) ws fs))

-- ---- in parts

cut_rest : (file n : ℕ) (ws vs : List InputWord) (gs : List (List ℕ)) (cs : List Candidate) (r : Result (List Candidate) Fault)
    → onto cs (r >>= λ ds. onto ds (behind (file + 1 + length ws) (n + length cs + length ds) vs gs)) ≡ (onto cs r >>= λ ds. onto ds (behind (file + suc (length ws)) (n + length ds) vs gs))
cut_rest file n ws vs gs cs (Err f) = refl
cut_rest file n ws vs gs cs (Ok ds) =
    let a : file + 1 + length ws ≡ file + suc (length ws) = omega arith in
    let l : length (cs ++ ds) ≡ length cs + length ds = length-append cs ds in
    let b : n + length cs + length ds ≡ n + length (cs ++ ds) = omega (arith, l) in
    sym (onto_twice cs ds (behind (file + 1 + length ws) (n + length cs + length ds) vs gs))
    ∙ (ap (λ f. onto (cs ++ ds) (behind f (n + length cs + length ds) vs gs)) a ∙ ap (λ m. onto (cs ++ ds) (behind (file + suc (length ws)) m vs gs)) b)

pub cut_behind : (file n : ℕ) (ws vs : List InputWord) (fs gs : List (List ℕ)) → length ws ≡ length fs
    → behind file n (ws ++ vs) (fs ++ gs) ≡ (behind file n ws fs >>= λ cs. onto cs (behind (file + length ws) (n + length cs) vs gs))
cut_behind file n [] vs [] gs long =
    let a : file ≡ file + 0 = omega arith in
    let b : n ≡ n + 0 = omega arith in
    ap (λ f. behind f n vs gs) a ∙ (ap (λ m. behind (file + 0) m vs gs) b ∙ onto_none (behind (file + 0) (n + 0) vs gs))
  where
    onto_none : (r : Result (List Candidate) Fault) → r ≡ onto [] r
    onto_none (Ok cs) = refl
    onto_none (Err f) = refl
cut_behind file n [] vs (f ∷ fs) gs long = absurd (omega (arith, long))
cut_behind file n (w ∷ ws) vs [] gs long = absurd (omega (arith, long))
cut_behind file n (w ∷ ws) vs (b ∷ fs) gs long =
    by_opened (opened the_readers file b (is_library b)) (λ m. cut_behind (file + 1) m ws vs fs gs (omega (arith, long)))
  where
    Cut : ℕ → Type 0
    Cut m = behind (file + 1) m (ws ++ vs) (fs ++ gs) ≡ (behind (file + 1) m ws fs >>= λ ds. onto ds (behind (file + 1 + length ws) (m + length ds) vs gs))

    by_opened : (o : Result Opened Fault) → ((m : ℕ) → Cut m)
        → (o >>= λ o. onto (candidates_in the_readers file w b (n + 1) o) (behind (file + 1) (n + length (candidates_in the_readers file w b (n + 1) o)) (ws ++ vs) (fs ++ gs)))
        ≡ ((o >>= λ o. onto (candidates_in the_readers file w b (n + 1) o) (behind (file + 1) (n + length (candidates_in the_readers file w b (n + 1) o)) ws fs))
        >>= λ cs. onto cs (behind (file + suc (length ws)) (n + length cs) vs gs))
    by_opened (Err f) again = refl
    by_opened (Ok o) again =
        let cs = candidates_in the_readers file w b (n + 1) o in
        ap (onto cs) (again (n + length cs)) ∙ cut_rest file n ws vs gs cs (behind (file + 1) (n + length cs) ws fs)

pub record Cuts (file n : ℕ) (ws vs : List InputWord) (fs gs : List (List ℕ)) (all : List Candidate) : Type 0 where
  pub left : List Candidate
  pub right : List Candidate
  pub first : behind file n ws fs ≡ Ok left
  pub second : behind (file + length ws) (n + length left) vs gs ≡ Ok right
  pub all_are : all ≡ left ++ right

pub behind_cut : (file n : ℕ) (ws vs : List InputWord) (fs gs : List (List ℕ)) (all : List Candidate) → length ws ≡ length fs → behind file n (ws ++ vs) (fs ++ gs) ≡ Ok all → Cuts file n ws vs fs gs all
behind_cut file n ws vs fs gs all long e =
    let a = bind_ok (behind file n ws fs) (λ cs. onto cs (behind (file + length ws) (n + length cs) vs gs)) all (sym (cut_behind file n ws vs fs gs long) ∙ e) in
    let b = onto_ok a.0 (behind (file + length ws) (n + length a.0) vs gs) all a.2 in
    record { left = a.0; right = b.0; first = a.1; second = b.1; all_are = b.2 }

pub behind_join : (file n : ℕ) (ws vs : List InputWord) (fs gs : List (List ℕ)) (cs ds : List Candidate) → length ws ≡ length fs → behind file n ws fs ≡ Ok cs
    → behind (file + length ws) (n + length cs) vs gs ≡ Ok ds → behind file n (ws ++ vs) (fs ++ gs) ≡ Ok (cs ++ ds)
behind_join file n ws vs fs gs cs ds long a b =
    cut_behind file n ws vs fs gs long
    ∙ (ap (λ r. r >>= λ xs. onto xs (behind (file + length ws) (n + length xs) vs gs)) a ∙ ap (onto cs) b)

-- ---- one that is opened

pub opened_again : (file other : ℕ) (b : List ℕ) (lib : Bool) (o : Opened) → opened the_readers file b lib ≡ Ok o → opened the_readers other b lib ≡ Ok o
opened_again file other b false o e = e
opened_again file other b true o e = by_library (library_of b) e
  where
    by_library : (r : Result Contents LibFault) → opened_library file r ≡ Ok o → opened_library other r ≡ Ok o
    by_library (Ok l) e = e
    by_library (Err f) e = absurd (grind arith)

pub record Opens (file n : ℕ) (w : InputWord) (ws : List InputWord) (b : List ℕ) (fs : List (List ℕ)) (all : List Candidate) : Type 0 where
  pub file_is : Opened
  pub others : List Candidate
  pub opens : opened the_readers file b (is_library b) ≡ Ok file_is
  pub rest : behind (file + 1) (n + length (candidates_in the_readers file w b (n + 1) file_is)) ws fs ≡ Ok others
  pub all_are : all ≡ candidates_in the_readers file w b (n + 1) file_is ++ others

pub behind_opens : (file n : ℕ) (w : InputWord) (ws : List InputWord) (b : List ℕ) (fs : List (List ℕ)) (all : List Candidate) → behind file n (w ∷ ws) (b ∷ fs) ≡ Ok all → Opens file n w ws b fs all
behind_opens file n w ws b fs all e =
    let a = bind_ok (opened the_readers file b (is_library b)) (λ o. onto (candidates_in the_readers file w b (n + 1) o) (behind (file + 1) (n + length (candidates_in the_readers file w b (n + 1) o)) ws fs)) all e in
    let r = onto_ok (candidates_in the_readers file w b (n + 1) a.0) (behind (file + 1) (n + length (candidates_in the_readers file w b (n + 1) a.0)) ws fs) all a.2 in
    record { file_is = a.0; others = r.0; opens = a.1; rest = r.1; all_are = r.2 }

-- ---- by number

numbered_append : (n : ℕ) (cs ds : List Candidate) → AreNumbered n cs → AreNumbered (n + length cs) ds → AreNumbered n (cs ++ ds)
numbered_append n [] ds a b = let z : n + 0 ≡ n = omega arith in subst (λ m. AreNumbered m ds) z b
numbered_append n (c ∷ cs) ds a b = let z : n + suc (length cs) ≡ n + 1 + length cs = omega arith in (a.0, numbered_append (n + 1) cs ds a.1 (subst (λ m. AreNumbered m ds) z b))

members_numbered : (file n member : ℕ) (w : InputWord) (b : List ℕ) (offered : List (List ℕ × ℕ)) (ss : List Span) → AreNumbered n (members_from the_readers file w b (n + 1) member offered ss)
members_numbered file n member w b offered [] = tt
members_numbered file n member w b offered (s ∷ ss) = (refl, members_numbered file (n + 1) (member + 1) w b offered ss)

in_numbered : (file n : ℕ) (w : InputWord) (b : List ℕ) (o : Opened) → AreNumbered n (candidates_in the_readers file w b (n + 1) o)
in_numbered file n w b object = (refl, tt)
in_numbered file n w b (library l) = members_numbered file n 0 w b l.offered l.members

pub behind_numbered : (file n : ℕ) (ws : List InputWord) (fs : List (List ℕ)) (all : List Candidate) → behind file n ws fs ≡ Ok all → AreNumbered n all
behind_numbered file n [] fs all e = subst (AreNumbered n) (ok_is [] all _ refl e) tt
behind_numbered file n (w ∷ ws) [] all e = subst (AreNumbered n) (ok_is [] all _ refl e) tt
behind_numbered file n (w ∷ ws) (b ∷ fs) all e =
    let o = behind_opens file n w ws b fs all e in
    let cs = candidates_in the_readers file w b (n + 1) o.file_is in
    subst (AreNumbered n) (sym o.all_are) (numbered_append n cs o.others (in_numbered file n w b o.file_is) (behind_numbered (file + 1) (n + length cs) ws fs o.others o.rest))

-- ---- what is read of bytes

members_read : (file input member : ℕ) (w : InputWord) (b : List ℕ) (offered : List (List ℕ × ℕ)) (ss : List Span) (c : Candidate) → Has (members_from the_readers file w b input member offered ss) c
    → (bytes : List ℕ) × (c.object ≡ object_of c.input bytes)
members_read file input member w b offered [] c has = absurd has
members_read file input member w b offered (s ∷ ss) c (inl is) = (part_of b s, subst (λ (x : Candidate). x.object ≡ object_of x.input (part_of b s)) is refl)
members_read file input member w b offered (s ∷ ss) c (inr has) = members_read file (input + 1) (member + 1) w b offered ss c has

in_read : (file input : ℕ) (w : InputWord) (b : List ℕ) (o : Opened) (c : Candidate) → Has (candidates_in the_readers file w b input o) c → (bytes : List ℕ) × (c.object ≡ object_of c.input bytes)
in_read file input w b object c (inl is) = (b, subst (λ (x : Candidate). x.object ≡ object_of x.input b) is refl)
in_read file input w b object c (inr has) = absurd has
in_read file input w b (library l) c has = members_read file input 0 w b l.offered l.members c has

pub behind_read : (file n : ℕ) (ws : List InputWord) (fs : List (List ℕ)) (all : List Candidate) → behind file n ws fs ≡ Ok all → (c : Candidate) → Has all c → (bytes : List ℕ) × (c.object ≡ object_of c.input bytes)
behind_read file n [] fs all e c has = absurd (subst (λ (cs : List Candidate). Has cs c) (sym (ok_is [] all _ refl e)) has)
behind_read file n (w ∷ ws) [] all e c has = absurd (subst (λ (cs : List Candidate). Has cs c) (sym (ok_is [] all _ refl e)) has)
behind_read file n (w ∷ ws) (b ∷ fs) all e c has =
    let o = behind_opens file n w ws b fs all e in
    let cs = candidates_in the_readers file w b (n + 1) o.file_is in
    ⊎_elim (λ h. in_read file (n + 1) w b o.file_is c h) (λ h. behind_read (file + 1) (n + length cs) ws fs o.others o.rest c h) (has_either cs o.others c (subst (λ (xs : List Candidate). Has xs c) o.all_are has))

-- ---- under other numbers

agreed_alike : (i j : ℕ) (all : List SectionSpan) (parts : Parts) (o : Option ℕ) → AlikeRead i j (agreed i all parts o) (agreed j all parts o)
unfolding object_from
agreed_alike i j all parts None = (refl, refl)
agreed_alike i j all parts (Some rule) = tt

spelled_alike : (i j : ℕ) (b : List ℕ) (all : List SectionSpan) (p : Result Parts SectionStop) → AlikeRead i j (spelled_object i b all p) (spelled_object j b all p)
spelled_alike i j b all (Ok parts) = agreed_alike i j all parts (broken_rule all b parts)
spelled_alike i j b all (Err e) = tt

framed_alike : (i j : ℕ) (b : List ℕ) (f : Result (List SectionSpan) FrameFault) → AlikeRead i j (framed_object i b f) (framed_object j b f)
framed_alike i j b (Ok all) = spelled_alike i j b all (parts_of all b)
framed_alike i j b (Err e) = tt

pub read_alike : (i j : ℕ) (b : List ℕ) → AlikeRead i j (object_of i b) (object_of j b)
unfolding object_of
read_alike i j b = by_length (nat_lt (2 ^ 30) (length b))
  where
    by_length : (long : Bool) → AlikeRead i j (if long then Err (TooLong i (length b)) else framed_object i b (frame_at b)) (if long then Err (TooLong j (length b)) else framed_object j b (frame_at b))
    by_length true = tt
    by_length false = framed_alike i j b (frame_at b)

names_alike : (i j : ℕ) (x y : Result Object Fault) → AlikeRead i j x y → names_in y ≡ names_in x
names_alike i j (Ok o) (Ok u) r = ap (λ (v : Object). defined_names v) r.1
names_alike i j (Ok o) (Err g) r = absurd r
names_alike i j (Err f) (Ok u) r = absurd r
names_alike i j (Err f) (Err g) r = refl

module _ (move : ℕ → ℕ) (files other_files : List (List ℕ)) where
  abbrev Beside : Candidate → Candidate → Type 0
  Beside c d = AlikeCandidate move files other_files c d

  -- numbers behind n move to those behind k
  abbrev Shifts : ℕ → ℕ → Type 0
  Shifts n k = (m : ℕ) → n < m → move m + n ≡ m + k

  members_shift : (file other n k i j member : ℕ) (w : InputWord) (b : List ℕ) (offered : List (List ℕ × ℕ)) (ss : List Span) → Shifts n k → n < i → j + n ≡ i + k
      → slice_index_or other_files other [] ≡ slice_index_or files file [] → AllZip Beside (members_from the_readers file w b i member offered ss) (members_from the_readers other w b j member offered ss)
  members_shift file other n k i j member w b offered [] shifts low at same = tt
  members_shift file other n k i j member w b offered (s ∷ ss) shifts low at same =
      let m : move i + n ≡ i + k = shifts i low in
      let q : j ≡ move i = omega (arith, m, at) in (
        record { input = q; file = same; start = refl; len = refl; is_member = refl; by_need = refl; offers = refl; object = read_alike i j (part_of b s) },
        members_shift file other n k (i + 1) (j + 1) (member + 1) w b offered ss shifts (omega (arith, low)) (omega (arith, at)) same,
      )

  in_shift : (file other n k : ℕ) (w : InputWord) (b : List ℕ) (o : Opened) → Shifts n k → slice_index_or other_files other [] ≡ slice_index_or files file []
      → AllZip Beside (candidates_in the_readers file w b (n + 1) o) (candidates_in the_readers other w b (k + 1) o)
  in_shift file other n k w b object shifts same =
      let m : move (n + 1) + n ≡ n + 1 + k = shifts (n + 1) (omega arith) in
      let q : k + 1 ≡ move (n + 1) = omega (arith, m) in (
        record {
          input = q;
          file = same;
          start = refl;
          len = refl;
          is_member = refl;
          by_need = refl;
          offers = ap (λ (ns : List (List ℕ)). if w.lazy then ns else []) (names_alike (n + 1) (k + 1) (object_of (n + 1) b) (object_of (k + 1) b) (read_alike (n + 1) (k + 1) b));
          object = read_alike (n + 1) (k + 1) b;
        },
        tt,
      )
  in_shift file other n k w b (library l) shifts same = members_shift file other n k (n + 1) (k + 1) 0 w b l.offered l.members shifts (omega arith) (omega arith) same

  abbrev StandFrom : List (List ℕ) → ℕ → List (List ℕ) → Type 0
  StandFrom all file fs = (k : ℕ) → k < length fs → slice_index_or all (file + k) [] ≡ slice_index_or fs k []

  next_stand : (all : List (List ℕ)) (file : ℕ) (b : List ℕ) (fs : List (List ℕ)) → StandFrom all file (b ∷ fs) → StandFrom all (file + 1) fs
  next_stand all file b fs at k low = let z : file + 1 + k ≡ file + suc k = omega arith in ap (λ m. slice_index_or all m []) z ∙ at (suc k) (omega (arith, low))

  first_stands : (all : List (List ℕ)) (file : ℕ) (b : List ℕ) (fs : List (List ℕ)) → StandFrom all file (b ∷ fs) → slice_index_or all file [] ≡ b
  first_stands all file b fs at = let z : file ≡ file + 0 = omega arith in ap (λ m. slice_index_or all m []) z ∙ at 0 (omega arith)

  pub record Shifted (other k : ℕ) (ws : List InputWord) (fs : List (List ℕ)) (all : List Candidate) : Type 0 where
    pub moved : List Candidate
    pub are : behind other k ws fs ≡ Ok moved
    pub beside : AllZip Beside all moved

  pub behind_shift : (file other n k : ℕ) (ws : List InputWord) (fs : List (List ℕ)) (all : List Candidate) → StandFrom files file fs → StandFrom other_files other fs → Shifts n k
      → behind file n ws fs ≡ Ok all → Shifted other k ws fs all
  behind_shift file other n k [] fs all at at_too shifts e = record { moved = []; are = refl; beside = subst (λ cs. AllZip Beside cs []) (ok_is [] all _ refl e) tt }
  behind_shift file other n k (w ∷ ws) [] all at at_too shifts e = record { moved = []; are = refl; beside = subst (λ cs. AllZip Beside cs []) (ok_is [] all _ refl e) tt }
  behind_shift file other n k (w ∷ ws) (b ∷ fs) all at at_too shifts e =
      let o = behind_opens file n w ws b fs all e in
      let cs = candidates_in the_readers file w b (n + 1) o.file_is in
      let ds = candidates_in the_readers other w b (k + 1) o.file_is in
      let z : AllZip Beside cs ds = in_shift file other n k w b o.file_is shifts (first_stands other_files other b fs at_too ∙ sym (first_stands files file b fs at)) in
      let l : length ds ≡ length cs = zip_length Beside cs ds z in
      let r = behind_shift (file + 1) (other + 1) (n + length cs) (k + length ds) ws fs o.others (next_stand files file b fs at) (next_stand other_files other b fs at_too)
      (λ m low. let s : move m + n ≡ m + k = shifts m (omega (arith, low)) in omega (arith, s, l)) o.rest in
      record {
        moved = ds ++ r.moved;
        are = ap (λ x. x >>= λ o. onto (candidates_in the_readers other w b (k + 1) o) (behind (other + 1) (k + length (candidates_in the_readers other w b (k + 1) o)) ws fs)) (opened_again file other b (is_library b) o.file_is o.opens)
            ∙ ap (onto ds) r.are;
        beside = subst (λ xs. AllZip Beside xs (ds ++ r.moved)) (sym o.all_are) (zip_append Beside cs o.others ds r.moved z r.beside);
      }

-- ---- files that are plain objects

none_first : (b : Bool) (n : ℕ) (rest : Option ℕ) → first_some (given b n ∷ rest ∷ []) ≡ None → (b ≡ false) × (rest ≡ None)
none_first true n rest e = absurd cc
none_first false n None e = (refl, refl)
none_first false n (Some k) e = absurd cc

both_false : (a b : Bool) → (a || b) ≡ false → (a ≡ false) × (b ≡ false)
both_false true b e = absurd cc
both_false false b e = (refl, e)

pub record AreWholeFiles (files : List (List ℕ)) (file n : ℕ) (ws : List InputWord) (all : List Candidate) : Type 0 where
  pub each : (c : Candidate) → Has all c → IsWholeFile files file n c
  pub many : length all ≡ length ws

pub behind_whole : (files : List (List ℕ)) (counted file n : ℕ) (ws : List InputWord) (fs : List (List ℕ)) (all : List Candidate) → length ws ≡ length fs
    → ((k : ℕ) → k < length fs → slice_index_or files (file + k) [] ≡ slice_index_or fs k []) → first_not_plain counted ws fs ≡ None → behind file n ws fs ≡ Ok all → AreWholeFiles files file n ws all
behind_whole files counted file n [] fs all long at none e =
    subst (AreWholeFiles files file n []) (ok_is [] all _ refl e) (record { each = λ c has. absurd has; many = refl })
behind_whole files counted file n (w ∷ ws) [] all long at none e = absurd (omega (arith, long))
behind_whole files counted file n (w ∷ ws) (b ∷ fs) all long at none e =
    let p = none_first (w.lazy || is_library b) counted (first_not_plain (counted + 1) ws fs) none in
    let q = both_false w.lazy (is_library b) p.0 in
    let o = behind_opens file n w ws b fs all e in
    let is : object ≡ o.file_is = opened_is o.file_is (ap (opened the_readers file b) (sym q.1) ∙ o.opens) in
    let zero_more : file ≡ file + 0 = omega arith in
    let here : slice_index_or files file [] ≡ b = ap (λ m. slice_index_or files m []) zero_more ∙ at 0 (omega arith) in
    let c : Candidate = plain_candidate the_readers file w b (n + 1) in
    let one : candidates_in the_readers file w b (n + 1) o.file_is ≡ c ∷ [] = sym (ap (candidates_in the_readers file w b (n + 1)) is) in
    let r = behind_whole files (counted + 1) (file + 1) (n + 1) ws fs o.others (omega (arith, long)) (λ k low. let z : file + 1 + k ≡ file + suc k = omega arith in ap (λ m. slice_index_or files m []) z ∙ at (suc k) (omega (arith, low))) p.1
    (sym (ap (λ (cs : List Candidate). behind (file + 1) (n + length cs) ws fs) one) ∙ o.rest) in
    subst (AreWholeFiles files file n (w ∷ ws)) (sym (o.all_are ∙ ap (λ cs. cs ++ o.others) one))
    (record {
      each = λ d has. by_place o.others d q.0 here r has;
      many = ap suc r.many;
    })
  where
    opened_is : (o : Opened) → opened the_readers file b false ≡ Ok o → object ≡ o
    opened_is o e = ok_is object o _ refl e

    by_place : (others : List Candidate) (d : Candidate) → w.lazy ≡ false → slice_index_or files file [] ≡ b → AreWholeFiles files (file + 1) (n + 1) ws others → Has (plain_candidate the_readers file w b (n + 1) ∷ others) d → IsWholeFile files file n d
    by_place others d eager here r (inl is) =
        subst (IsWholeFile files file n) is
        (record {
          by_need = eager;
          is_member = refl;
          offers = ap (λ (lazy : Bool). if lazy then names_in (object_of (n + 1) b) else []) eager;
          start = refl;
          place = omega arith;
          len = ap (λ (bs : List ℕ). length bs) (sym here);
          object = ap (object_of (n + 1)) (sym here);
        })
    by_place others d eager here r (inr has) =
        let s = r.each d has in
        let z : d.input + (file + 1) ≡ d.file + (n + 1 + 1) = s.place in
        record { by_need = s.by_need; is_member = s.is_member; offers = s.offers; start = s.start; place = omega (arith, z); len = s.len; object = s.object }

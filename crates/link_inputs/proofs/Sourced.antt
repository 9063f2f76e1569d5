-- From files that are opened and numbered to what is loaded.
use Rattle.std.proofs.Common.{◌≡◌, ◌∙◌, ◌+◌, ◌<◌, ◌≤◌, ◌^◌, ℕ, Bool, true, false, List, [], ◌∷◌, length, Option, Some, None, Result, Ok, Err, refl, sym, ap, subst, arith}
use Rattle.std.specs.Prelude.{slice_get, map, replicate, unwrap_or, nat_le, All, IfOk, IfSome}
use Rattle.std.proofs.lemmas.List.{length-replicate}
use Rattle.std.proofs.lemmas.List.Elements.{All-weaker}
use Rattle.std.proofs.lemmas.Bool.{leb-false}
use Rattle.link_program.specs.wl_base.Choice.{given, unless, ◌>>=◌}
use Rattle.link_program.specs.wl_base.declared.fault.Fault.{Fault}
use Rattle.link_program.specs.wl_base.declared.fault.Fault.TheVariants.{TooManyInputs}
use Rattle.link_program.specs.made_symbols.declared.mode.Mode.{Mode}
use Rattle.link_program.specs.round_rules.declared.given.GivenObject.{GivenObject}
use Rattle.link_program.specs.round_rules.declared.given.LibraryFile.{LibraryFile}
use Rattle.link_program.specs.round_rules.Rounds.{Candidate, always_read_fault, load}
use Rattle.link_program.specs.round_rules.Inputs.{AreCandidates, IsRead}
use Rattle.link_program.specs.link_plan.Plan.{IsPlan}
use Rattle.link_program.specs.link_plan.declared.plan.Plan.{Plan}
use Rattle.link_program.specs.link_plan.declared.plan.InputWord.{InputWord}
use Rattle.link_program.specs.link_rules.Candidates.{plain_word, words_for, too_much_input, candidates_of}
use Rattle.link_program.specs.link_rules.ModeOf.{mode_of}
use Rattle.link_program.specs.link_rules.LinkOf.{asked_names, the_readers}
use Rattle.link_program.specs.Loaded.{given_or_none, the_candidates, home_of, IsLoaded}
use Rattle.link_program.specs.declared.error.LinkError.{LinkError}
use Rattle.link_program.specs.declared.error.LinkError.TheVariants.{Refused, OutOfMemory}
use Rattle.link_inputs.specs.declared.inputs.Inputs.{Inputs}
use Rattle.link_inputs.specs.declared.numbering.ObjectFile.{ObjectFile}
use Rattle.link_inputs.specs.declared.numbering.Sources.{Sources}
use Rattle.link_inputs.specs.declared.opening.OpenFile.{OpenFile}
use Rattle.link_inputs.specs.declared.reading.ReadError.{ReadError}
use Rattle.link_inputs.specs.declared.reading.ReadError.TheVariants as errors
use Rattle.link_program.specs.Answers.{Fails, Stops, Answers}
use Rattle.link_inputs.specs.Opened.{opened_from, opened_files, input_count, too_many}
use Rattle.link_inputs.specs.Words.{words_by, words_of}
use Rattle.link_inputs.specs.Sources.{objects_from, libraries_from, AreSources}
use Rattle.link_inputs.specs.Reading.{Reads, given_from, FitIn, fault_of, whole_before, least_of, IsLeast}
use Rattle.link_inputs.specs.Inputs.{loaded_of, inputs_from}
use Rattle.link_inputs.specs.Loaded.{AreInputs, LoadedAreSound}
use Rattle.link_inputs.specs.Steps.{or_none, all_opened, all_inputs, Sourced, LoadsAll}
use Rattle.link_inputs.proofs.Binds.{bind_ok, ok_is}
use Rattle.link_inputs.proofs.Files.{AreOpened, opened_are, opened_long}
use Rattle.link_inputs.proofs.Cut.{inputs_long, candidates_are}
use Rattle.link_inputs.proofs.Places.{Placed, inputs_placed, numbered}
use Rattle.link_inputs.proofs.Made.{members_are, given_are, homes_are, fit_from, libraries_read, libraries_few, IsFew}
use Rattle.link_inputs.proofs.Faults.{least_is}
use Rattle.link_inputs.proofs.Loads.{load_refused, loaded_is}

-- ---- words

plain_words : (files : List (List ℕ)) → replicate (length files) plain_word ≡ map (λ f. plain_word) files
plain_words [] = refl
plain_words (f ∷ files) = ap (λ (ws : List InputWord). let xs : List InputWord = plain_word ∷ ws in xs) (plain_words files)

words_same : (m : Option ℕ) (ws : List InputWord) (files : List (List ℕ)) → words_by m ws (length files) ≡ words_for m ws files
words_same None ws files = refl
words_same (Some n) ws files = plain_words files

pub words_are : (plan : Plan) (files : List (List ℕ)) → words_of plan (length files) ≡ words_for plan.make_case plan.inputs files
words_are plan files = words_same plan.make_case plan.inputs files

long_by : (m : Option ℕ) (ws : List InputWord) (n : ℕ) → n ≡ unwrap_or m (length ws) → length (words_by m ws n) ≡ n
long_by None ws n e = sym e
long_by (Some k) ws n e = length-replicate n plain_word

-- There is a word for each file.
pub words_long : (plan : Plan) (files : List (List ℕ)) → length files ≡ unwrap_or plan.make_case (length plan.inputs)
    → length (words_of plan (length files)) ≡ length files
words_long plan files e = long_by plan.make_case plan.inputs (length files) e

few_by_case : (m : Option ℕ) (inputs n : ℕ) → IfSome m (λ k. (1 ≤ k) × (k ≤ 20000)) → inputs < 2 ^ 32 → n ≡ unwrap_or m inputs → n < 2 ^ 32
few_by_case None inputs n some few e = omega (arith, few, e)
few_by_case (Some k) inputs n some few e = omega (arith, some.1, e)

-- There are fewer than 2^32 files.
pub few_files : (plan : Plan) (files : List (List ℕ)) → IsPlan plan → length files ≡ unwrap_or plan.make_case (length plan.inputs) → length files < 2 ^ 32
few_files plan files is e = few_by_case plan.make_case (length plan.inputs) (length files) is.cases is.inputs e

-- ---- files that are opened

by_count : (os ps : List OpenFile) (k : Bool) → nat_le (2 ^ 20) (input_count os) ≡ k
    → unless (given k (TooManyInputs (input_count os))) os ≡ Ok ps → (input_count os < 2 ^ 20) × (os ≡ ps)
by_count os ps true is e = absurd cc
by_count os ps false is e = (leb-false (2 ^ 20) (input_count os) is, ok_is e)

passed : (t : Option Fault) (xs ys : List (List ℕ)) → unless t xs ≡ Ok ys → xs ≡ ys
passed None xs ys e = ok_is e
passed (Some f) xs ys e = absurd cc

few_by : (os ps : List OpenFile) → unless (too_many os) os ≡ Ok ps → (input_count os < 2 ^ 20) × (os ≡ ps)
few_by os ps e = by_count os ps (nat_le (2 ^ 20) (input_count os)) refl e

pub opened_ok : (files : List (List ℕ)) (os : List OpenFile) → opened_files files ≡ Ok os → (opened_from 0 files ≡ Ok os) × (input_count os < 2 ^ 20)
unfolding opened_files
opened_ok files os e =
    let a = bind_ok (unless (too_much_input files) files) (λ fs. opened_from 0 fs >>= λ os. unless (too_many os) os) os e in
    let same = passed (too_much_input files) files a.0 a.1 in
    let r = bind_ok (opened_from 0 a.0) (λ os. unless (too_many os) os) os a.2 in
    let few = few_by r.0 os r.2 in (
      subst (λ (fs : List (List ℕ)). opened_from 0 fs ≡ Ok os) (sym same) (subst (λ (xs : List OpenFile). opened_from 0 a.0 ≡ Ok xs) few.1 r.1),
      subst (λ (xs : List OpenFile). input_count xs < 2 ^ 20) few.1 few.0,
    )

-- ---- inputs that are numbered

module _ (plan : Plan) (files : List (List ℕ)) (s : Sources) (h : Sourced plan files s) where
  abbrev ws : List InputWord
  ws = words_of plan (length files)

  abbrev os : List OpenFile
  os = all_opened files

  abbrev all : List Candidate
  all = all_inputs plan files

  are : AreOpened files os
  are = opened_are 0 files os h.opened

  placed : Placed files 1 all
  placed = inputs_placed files 0 1 ws files os refl are

  few : length all < 2 ^ 20
  few = omega (arith, inputs_long 0 1 ws files os h.words (opened_long files os are), h.few)

  pub fits : (objects : List ObjectFile) → objects ≡ s.objects → FitIn files objects
  fits objects is = λ i o e.
      let at : slice_get (objects_from 0 1 ws os) i ≡ Some o = subst (λ (xs : List ObjectFile). slice_get xs i ≡ Some o) (is ∙ h.are.objects) e in
      omega (arith, fit_from 0 1 ws os i o at, opened_long files os are)

  given_all : (gs : List GivenObject) (objects : List ObjectFile) → objects ≡ s.objects → given_from files objects ≡ Ok gs → given_from files (objects_from 0 1 ws os) ≡ Ok gs
  given_all gs objects is e = subst (λ (xs : List ObjectFile). given_from files xs ≡ Ok gs) (is ∙ h.are.objects) e

  pub candidates : (gs : List GivenObject) (objects : List ObjectFile) (libraries : List LibraryFile) → objects ≡ s.objects → libraries ≡ s.libraries
      → given_from files objects ≡ Ok gs → AreCandidates all gs libraries files
  candidates gs objects libraries is same e = subst (λ (ls : List LibraryFile). AreCandidates all gs ls files) (sym (same ∙ h.are.libraries)) (record {
    numbered = λ i c at. omega (arith, numbered files 1 all placed i c at);
    few = few;
    objects = given_are files 0 1 ws files os gs refl h.words are (given_all gs objects is e);
    members = members_are files 0 1 ws files os refl h.words are;
  })

  pub all_read : (libraries : List LibraryFile) → libraries ≡ s.libraries → All (IsRead files) libraries
  all_read libraries same = subst (All (IsRead files)) (sym (same ∙ h.are.libraries)) (libraries_read files 0 1 ws files os refl are)

  pub all_few : (libraries : List LibraryFile) → libraries ≡ s.libraries → All (λ l. l.first + length l.library.members < 2 ^ 32) libraries
  all_few libraries same = subst (All (λ l. l.first + length l.library.members < 2 ^ 32)) (sym (same ∙ h.are.libraries))
      (All-weaker (IsFew (1 + input_count os)) (λ l. l.first + length l.library.members < 2 ^ 32) (λ l le. omega (arith, le, h.few))
      (libraries_from 0 1 ws os) (libraries_few (1 + input_count os) 0 1 ws os (omega arith)))

  pub homes_all : s.homes ≡ map home_of all
  homes_all = h.are.homes ∙ homes_are 0 1 ws files os h.words are

  fails_all : (mode : Mode) (asked : List (List ℕ)) (e : LinkError) → Stops e (always_read_fault all) → Fails e (load mode asked all)
  fails_all mode asked (Refused f) is = load_refused mode asked all f is
  fails_all mode asked OutOfMemory is = tt

  pub refused : (mode : Mode) (asked : List (List ℕ)) (objects : List ObjectFile) (libraries : List LibraryFile) (k : ℕ) (f : Fault) (e : LinkError)
      → objects ≡ s.objects → libraries ≡ s.libraries → given_from files objects ≡ Err (k, f)
      → Stops e (least_of (fault_of (whole_before files k libraries)) f) → Fails e (load mode asked all)
  refused mode asked objects libraries k f e is same err by =
      let at : given_from files (objects_from 0 1 ws os) ≡ Err (k, f) = subst (λ (xs : List ObjectFile). given_from files xs ≡ Err (k, f)) (is ∙ h.are.objects) err in
      let l = least_is files 0 1 ws files os k f refl h.words are at in
      fails_all mode asked e (subst (Stops e) (sym l.1) (subst (λ (ls : List LibraryFile). Stops e (least_of (fault_of (whole_before files k ls)) f)) (same ∙ h.are.libraries) by))

  pub refused_by : (mode : Mode) (asked : List (List ℕ)) (objects : List ObjectFile) (libraries : List LibraryFile) (first : ReadError) (e : LinkError)
      → objects ≡ s.objects → libraries ≡ s.libraries → (let r : Result (List GivenObject) ReadError = Err first in Reads r (given_from files objects))
      → IsLeast e files libraries first → Fails e (load mode asked all)
  refused_by mode asked objects libraries (errors.Refused k f) e is same err by = refused mode asked objects libraries k f e is same err by
  refused_by mode asked objects libraries errors.OutOfMemory e is same err by = subst (λ (x : LinkError). Fails x (load mode asked all)) (sym by) tt

  -- all candidates are these
  pub candidates_all : opened_files files ≡ Ok os → candidates_of the_readers plan files ≡ Ok all
  candidates_all e =
      candidates_are plan files ws (words_are plan files) h.words
      ∙ ap (λ (r : Result (List OpenFile) Fault). r >>= λ os. (let y : Result (List Candidate) Fault = Ok (inputs_from 0 1 ws files os) in y)) e

-- ---- the whole

pub sourced : (plan : Plan) (files : List (List ℕ)) (opened : List OpenFile) (s : Sources) → opened_files files ≡ Ok opened
    → length files ≡ unwrap_or plan.make_case (length plan.inputs) → length files < 2 ^ 32 → AreSources (words_of plan (length files)) opened s
    → Sourced plan files s
sourced plan files opened s e same few are =
    let r = opened_ok files opened e in
    let is : opened ≡ all_opened files = sym (ap (λ (x : Result (List OpenFile) Fault). or_none x) r.0) in
    record {
      opened = r.0 ∙ ap (λ (xs : List OpenFile). let y : Result (List OpenFile) Fault = Ok xs in y) is;
      words = words_long plan files same;
      few_files = few;
      few = subst (λ (xs : List OpenFile). input_count xs < 2 ^ 20) is r.1;
      are = subst (λ (xs : List OpenFile). AreSources (words_of plan (length files)) xs s) is are;
    }

-- files that can't be opened
pub refused_early : (mode : Mode) (plan : Plan) (files : List (List ℕ)) (e : LinkError) → length files ≡ unwrap_or plan.make_case (length plan.inputs)
    → Fails e (opened_files files) → Fails e (loaded_of mode plan files)
unfolding loaded_of
refused_early mode plan files (Refused f) same is =
    ap (λ (r : Result (List Candidate) Fault). r >>= λ all. load mode (asked_names plan) all)
    (candidates_are plan files (words_of plan (length files)) (words_are plan files) (words_long plan files same)
    ∙ ap (λ (r : Result (List OpenFile) Fault). r >>= λ os. (let y : Result (List Candidate) Fault = Ok (inputs_from 0 1 (words_of plan (length files)) files os) in y)) is)
refused_early mode plan files OutOfMemory same is = tt

module _ (plan : Plan) (files : List (List ℕ)) (opened : List OpenFile) (s : Sources) (e : opened_files files ≡ Ok opened)
    (same : length files ≡ unwrap_or plan.make_case (length plan.inputs)) (h : Sourced plan files s) where
  told : candidates_of the_readers plan files ≡ Ok (all_inputs plan files)
  told =
      let r = opened_ok files opened e in
      let is : opened ≡ all_opened files = sym (ap (λ (x : Result (List OpenFile) Fault). or_none x) r.0) in
      candidates_all plan files s h (e ∙ ap (λ (xs : List OpenFile). let y : Result (List OpenFile) Fault = Ok xs in y) is)

  steps : loaded_of (mode_of plan) plan files ≡ load (mode_of plan) (asked_names plan) (all_inputs plan files)
  unfolding loaded_of
  steps = ap (λ (r : Result (List Candidate) Fault). r >>= λ all. load (mode_of plan) (asked_names plan) all) told

  pub exact : (r : Result Inputs LinkError) → LoadsAll r plan files → Answers (λ i. i.loaded) r (loaded_of (mode_of plan) plan files)
  exact (Ok i) l = steps ∙ l.0
  exact (Err (Refused f)) l = steps ∙ l
  exact (Err OutOfMemory) l = tt

  pub found : (r : Result Inputs LinkError) → LoadsAll r plan files → IfOk r (AreInputs (mode_of plan) plan files)
  found (Ok i) l =
      let is : all_inputs plan files ≡ the_candidates plan files = sym (ap given_or_none told) in
      record {
        candidates = told ∙ ap (λ (all : List Candidate). let y : Result (List Candidate) Fault = Ok all in y) is;
        objects = subst (λ (all : List Candidate). load (mode_of plan) (asked_names plan) all ≡ Ok i.loaded) is l.0;
        loaded = subst (λ (all : List Candidate). IsLoaded files all i.loaded i.homes) is
            (loaded_is (mode_of plan) files (asked_names plan) (all_inputs plan files) i.loaded i.homes (placed plan files s h) (few plan files s h) l.0 l.1);
      }
  found (Err x) l = tt

-- ---- the law

pub all_sound : LoadedAreSound
all_sound mode plan files asked all objects same e loads =
    let ws : List InputWord = words_of plan (length files) in
    let long = words_long plan files same in
    let r = bind_ok (opened_files files) (λ os. (let y : Result (List Candidate) Fault = Ok (inputs_from 0 1 ws files os) in y)) all
    (sym (candidates_are plan files ws (words_are plan files) long) ∙ e) in
    let opened = opened_ok files r.0 r.1 in
    let are = opened_are 0 files r.0 opened.0 in
    let is : inputs_from 0 1 ws files r.0 ≡ all = ok_is r.2 in
    let few : length all < 2 ^ 20 = subst (λ (cs : List Candidate). length cs < 2 ^ 20) is
    (omega (arith, inputs_long 0 1 ws files r.0 long (opened_long files r.0 are), opened.1)) in
    (few, loaded_is mode files asked all objects (map home_of all) (subst (Placed files 1) is (inputs_placed files 0 1 ws files r.0 refl are)) few loads refl)

-- The candidates of a link are those of its opened files.
use Rattle.std.proofs.Common.{◌≡◌, ◌∙◌, ◌+◌, ◌^◌, ℕ, Bool, true, false, List, [], ◌∷◌, ◌++◌, length, Option, Some, None, Result, Ok, Err, refl, sym, ap, arith}
use Rattle.std.specs.Prelude.{nat_le}
use Rattle.std.proofs.lemmas.List.{length-append, append_assoc, append-nil}
use Rattle.std.proofs.lemmas.List.Sums.{sum_by-cons}
use Rattle.link_program.specs.wl_base.Choice.{given, unless, ◌>>=◌}
use Rattle.link_program.specs.wl_base.declared.fault.Fault.{Fault}
use Rattle.link_program.specs.wl_base.declared.fault.Fault.TheVariants.{TooManyInputs}
use Rattle.link_program.specs.wl_base.declared.fault.LibFault.{LibFault}
use Rattle.link_program.specs.wl_base.declared.span.Span.{Span}
use Rattle.link_program.specs.lib_index.Library.{Contents}
use Rattle.link_program.specs.lib_index.Reading.{library_of}
use Rattle.link_program.specs.round_rules.Rounds.{Candidate}
use Rattle.link_program.specs.link_plan.declared.plan.Plan.{Plan}
use Rattle.link_program.specs.link_plan.declared.plan.InputWord.{InputWord}
use Rattle.link_program.specs.link_rules.Candidates as rules
use Rattle.link_program.specs.link_rules.Candidates.{is_library, members_from, candidates_from, candidates_of, too_much_input, too_many_inputs, words_for}
use Rattle.link_program.specs.link_rules.LinkOf.{the_readers}
use Rattle.link_inputs.specs.declared.opening.OpenFile.{OpenFile}
use Rattle.link_inputs.specs.declared.opening.OpenFile.TheVariants.{Object, Library}
use Rattle.link_inputs.specs.Opened.{library_file, opened_as, opened_file, opened_from, opened_files, count_in, input_count, too_many}
use Rattle.link_inputs.specs.Inputs.{candidates_at, inputs_from}
use Rattle.link_inputs.proofs.Binds.{bind_same, bind_two}
use Rattle.link_inputs.proofs.Files.{opened_are, opened_long}

-- ---- how many

members_long : (file : ℕ) (w : InputWord) (b : List ℕ) (input member : ℕ) (offered : List (List ℕ × ℕ)) (ss : List Span)
    → length (members_from the_readers file w b input member offered ss) ≡ length ss
members_long file w b input member offered [] = refl
members_long file w b input member offered (s ∷ ss) = omega (arith, members_long file w b (input + 1) (member + 1) offered ss)

pub many_at : (file input : ℕ) (w : InputWord) (b : List ℕ) (o : OpenFile) → length (candidates_at file input w b o) ≡ count_in o
many_at file input w b (Object len) = refl
many_at file input w b (Library l) = members_long file w b input 0 l.offered l.members

pub inputs_long : (file input : ℕ) (ws : List InputWord) (bs : List (List ℕ)) (os : List OpenFile) → length ws ≡ length bs → length os ≡ length bs
    → length (inputs_from file input ws bs os) ≡ input_count os
inputs_long file input [] [] [] a b = refl
inputs_long file input [] [] (o ∷ os) a b = absurd (omega (arith, b))
inputs_long file input [] (x ∷ bs) os a b = absurd (omega (arith, a))
inputs_long file input (w ∷ ws) [] os a b = absurd (omega (arith, a))
inputs_long file input (w ∷ ws) (x ∷ bs) [] a b = absurd (omega (arith, b))
inputs_long file input (w ∷ ws) (x ∷ bs) (o ∷ os) a b =
    omega (
      arith,
      length-append (candidates_at file input w x o) (inputs_from (file + 1) (input + count_in o) ws bs os),
      many_at file input w x o,
      inputs_long (file + 1) (input + count_in o) ws bs os (omega (arith, a)) (omega (arith, b)),
      sum_by-cons count_in o os,
    )

-- ---- one file after another

module _ {Y : Type 0} (file input : ℕ) (w : InputWord) (b : List ℕ) (next : List Candidate → Result Y Fault) where
  of_library : (r : Result Contents LibFault)
      → (rules.opened_library file r >>= λ o. next (rules.candidates_in the_readers file w b input o))
      ≡ (library_file file r >>= λ o. next (candidates_at file input w b o))
  of_library (Ok l) = refl
  of_library (Err f) = refl

  of_file : (k : Bool)
      → (rules.opened the_readers file b k >>= λ o. next (rules.candidates_in the_readers file w b input o))
      ≡ (opened_as file b k >>= λ o. next (candidates_at file input w b o))
  of_file false = refl
  of_file true = of_library (library_of b)

abbrev All : Type 0
All = Result (List Candidate) Fault

-- what the files from a place on are, behind what was found before
abbrev behind : List Candidate → ℕ → List InputWord → List (List ℕ) → List OpenFile → All
behind found file ws bs os = Ok (found ++ inputs_from file (length found + 1) ws bs os)

module _ (file : ℕ) (found : List Candidate) (w : InputWord) (b : List ℕ) (ws : List InputWord) (bs : List (List ℕ))
    (later : (found : List Candidate) → candidates_from the_readers (file + 1) found ws bs ≡ (opened_from (file + 1) bs >>= behind found (file + 1) ws bs)) where
  abbrev here : OpenFile → List Candidate
  here o = candidates_at file (length found + 1) w b o

  put : (o : OpenFile) (os : List OpenFile) → behind (found ++ here o) (file + 1) ws bs os ≡ behind found file (w ∷ ws) (b ∷ bs) (o ∷ os)
  put o os =
      let n : length (found ++ here o) + 1 ≡ length found + 1 + count_in o = omega (arith, length-append found (here o), many_at file (length found + 1) w b o) in
      ap (λ (k : ℕ). let r : All = Ok (found ++ here o ++ inputs_from (file + 1) k ws bs os) in r) n
      ∙ ap (λ (xs : List Candidate). let r : All = Ok xs in r) (append_assoc found (here o) (inputs_from (file + 1) (length found + 1 + count_in o) ws bs os))

  one_more : candidates_from the_readers file found (w ∷ ws) (b ∷ bs) ≡ (opened_from file (b ∷ bs) >>= behind found file (w ∷ ws) (b ∷ bs))
  one_more =
      of_file file (length found + 1) w b (λ cs. candidates_from the_readers (file + 1) (found ++ cs) ws bs) (is_library b)
      ∙ bind_same (opened_file file b) (λ o. candidates_from the_readers (file + 1) (found ++ here o) ws bs)
      (λ o. opened_from (file + 1) bs >>= λ os. behind found file (w ∷ ws) (b ∷ bs) (o ∷ os))
      (λ o. later (found ++ here o) ∙ bind_same (opened_from (file + 1) bs) (behind (found ++ here o) (file + 1) ws bs)
      (λ os. behind found file (w ∷ ws) (b ∷ bs) (o ∷ os)) (λ os. put o os))
      ∙ bind_two (opened_file file b) (opened_from (file + 1) bs) (λ o os. o ∷ os) (behind found file (w ∷ ws) (b ∷ bs))

pub from_opened : (ws : List InputWord) (bs : List (List ℕ)) → length ws ≡ length bs → (file : ℕ) (found : List Candidate)
    → candidates_from the_readers file found ws bs ≡ (opened_from file bs >>= behind found file ws bs)
from_opened [] [] same file found = ap (λ (xs : List Candidate). let r : All = Ok xs in r) (sym (append-nil found))
from_opened [] (b ∷ bs) same file found = absurd (omega (arith, same))
from_opened (w ∷ ws) [] same file found = absurd (omega (arith, same))
from_opened (w ∷ ws) (b ∷ bs) same file found = one_more file found w b ws bs (λ f. from_opened ws bs (omega (arith, same)) (file + 1) f)

-- ---- the whole

too_many_same : (all : List Candidate) (os : List OpenFile) → length all ≡ input_count os → too_many_inputs all ≡ too_many os
too_many_same all os same = ap (λ (n : ℕ). given (nat_le (2 ^ 20) n) (TooManyInputs n)) same

unless_then : (t : Option Fault) (os : List OpenFile) (all : List Candidate) (make : List OpenFile → List Candidate) → make os ≡ all
    → (let r : All = unless t all in r) ≡ ((let r : Result (List OpenFile) Fault = unless t os in r) >>= λ os. (let r : All = Ok (make os) in r))
unless_then None os all make is = ap (λ (xs : List Candidate). let r : All = Ok xs in r) (sym is)
unless_then (Some f) os all make is = refl

module _ (ws : List InputWord) (files : List (List ℕ)) (same : length ws ≡ length files) where
  abbrev made : List OpenFile → List Candidate
  made os = inputs_from 0 1 ws files os

  counted : (r : Result (List OpenFile) Fault) → ((os : List OpenFile) → r ≡ Ok os → length os ≡ length files)
      → (r >>= behind [] 0 ws files >>= λ all. unless (too_many_inputs all) all)
      ≡ (r >>= λ os. unless (too_many os) os >>= λ os. (let r : All = Ok (made os) in r))
  counted (Ok os) long =
      ap (λ (t : Option Fault). let r : All = unless t (made os) in r) (too_many_same (made os) os (inputs_long 0 1 ws files os same (long os refl)))
      ∙ unless_then (too_many os) os (made os) made refl
  counted (Err f) long = refl

  assoc : (r : Result (List OpenFile) Fault)
      → (r >>= λ os. unless (too_many os) os >>= λ os. (let r : All = Ok (made os) in r))
      ≡ ((r >>= λ os. unless (too_many os) os) >>= λ os. (let r : All = Ok (made os) in r))
  assoc (Ok os) = refl
  assoc (Err f) = refl

  after : (t : Option Fault)
      → (unless t ws >>= λ ws. candidates_from the_readers 0 [] ws files >>= λ all. unless (too_many_inputs all) all)
      ≡ ((unless t files >>= λ files. opened_from 0 files >>= λ os. unless (too_many os) os) >>= λ os. (let r : All = Ok (made os) in r))
  after None =
      ap (λ (r : All). r >>= λ all. unless (too_many_inputs all) all) (from_opened ws files same 0 [])
      ∙ counted (opened_from 0 files) (λ os e. opened_long files os (opened_are 0 files os e))
      ∙ assoc (opened_from 0 files)
  after (Some f) = refl

-- The candidates are those of the files, where these can be opened.
pub candidates_are : (plan : Plan) (files : List (List ℕ)) (ws : List InputWord) → ws ≡ words_for plan.make_case plan.inputs files → length ws ≡ length files
    → candidates_of the_readers plan files ≡ (opened_files files >>= λ os. Ok (inputs_from 0 1 ws files os))
unfolding candidates_of opened_files
candidates_are plan files ws is same =
    ap (λ (xs : List InputWord). unless (too_much_input files) xs >>= λ ws. candidates_from the_readers 0 [] ws files >>= λ all. unless (too_many_inputs all) all) (sym is)
    ∙ after ws files same (too_much_input files)

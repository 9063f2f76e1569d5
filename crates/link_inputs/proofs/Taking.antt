-- Objects that are taken from their slots one after another.
use Rattle.std.proofs.Common.{◌≡◌, ◌∙◌, ℕ, List, [], ◌∷◌, ◌++◌, Result, Ok, Err, refl, sym, ap, length, arith}
use Rattle.std.proofs.lemmas.List.{append_assoc, append-nil}
use Rattle.link_program.specs.wl_base.Choice.{◌>>=◌}
use Rattle.link_program.specs.wl_base.declared.fault.Fault.{Fault}
use Rattle.link_program.specs.round_rules.declared.given.GivenObject.{GivenObject}
use Rattle.link_inputs.specs.declared.numbering.ObjectFile.{ObjectFile}
use Rattle.link_inputs.specs.declared.reading.ReadError.{ReadError}
use Rattle.link_inputs.specs.declared.reading.ReadError.TheVariants as errors
use Rattle.link_inputs.specs.Reading.{Reads, given_from, AreRead}

pub nothing_left : {X : Type 0} (l : List X) → length l ≡ 0 → l ≡ []
nothing_left [] h = refl
nothing_left (x ∷ xs) h = absurd (omega (arith, h))

abbrev pub Taken : Type 0
Taken = Result (List GivenObject) (ℕ × Fault)

-- what is read, behind what was taken before
abbrev pub onto : List GivenObject → Taken → Taken
onto before r = r >>= λ gs. Ok (before ++ gs)

pub starts : (r : Taken) → onto [] r ≡ r
starts (Ok os) = refl
starts (Err f) = refl

put_on : (before : List GivenObject) (g : GivenObject) (r : Taken) → onto (before ++ g ∷ []) r ≡ onto before (r >>= λ gs. Ok (g ∷ gs))
put_on before g (Ok gs) = ap (λ (xs : List GivenObject). let y : Taken = Ok xs in y) (append_assoc before (g ∷ []) gs)
put_on before g (Err f) = refl

-- what is left to take
abbrev pub Left : List (List ℕ) → List GivenObject → List (Result GivenObject ReadError) → Taken → Type 0
Left files before slots total = (later : List ObjectFile) × AreRead files later slots × (onto before (given_from files later) ≡ total)

pub goes_on : (files : List (List ℕ)) (before : List GivenObject) (g : GivenObject) (slots : List (Result GivenObject ReadError)) (total : Taken)
    → Left files before (Ok g ∷ slots) total → Left files (before ++ g ∷ []) slots total
goes_on files before g slots total ([], are, so_far) = absurd are
goes_on files before g slots total (o ∷ os, are, so_far) = (
  os,
  are.1,
  (put_on before g (given_from files os)
      ∙ ap (onto before) (sym (ap (λ (r : Result GivenObject (ℕ × Fault)). r >>= λ g. given_from files os >>= λ gs. Ok (g ∷ gs)) are.0))
      ∙ so_far),
)

pub fails_at : (files : List (List ℕ)) (before : List GivenObject) (e : ReadError) (slots : List (Result GivenObject ReadError)) (total : Taken)
    → Left files before (Err e ∷ slots) total → (let r : Result (List GivenObject) ReadError = Err e in Reads r total)
fails_at files before (errors.Refused input fault) slots total ([], are, so_far) = absurd are
fails_at files before (errors.Refused input fault) slots total (o ∷ os, are, so_far) =
    sym so_far ∙ ap (onto before) (ap (λ (r : Result GivenObject (ℕ × Fault)). r >>= λ g. given_from files os >>= λ gs. Ok (g ∷ gs)) are.0)
fails_at files before errors.OutOfMemory slots total left = tt

pub is_done : (files : List (List ℕ)) (before : List GivenObject) (total : Taken) → Left files before [] total → total ≡ Ok before
is_done files before total ([], are, so_far) = sym so_far ∙ ap (λ (xs : List GivenObject). let y : Taken = Ok xs in y) (append-nil before)
is_done files before total (o ∷ os, are, so_far) = absurd are

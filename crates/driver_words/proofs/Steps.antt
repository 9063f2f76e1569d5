-- One item more, over plain variables.
use Rattle.std.proofs.Common.{◌≡◌, ℕ, List, ◌++◌, Some, None, Result, Ok, Err, refl, ap, ◌∙◌, append_assoc}
use Rattle.driver_table.specs.Cut.{behind}
use Rattle.driver_words.specs.Inputs.{and_then, outcome}

abbrev pub Words : Type 0
Words = Result (List (List ℕ)) (List ℕ)

ok_is : {A E : Type 0} {a b : A} → (let r : Result A E = Ok a in r ≡ Ok b) → a ≡ b
ok_is e = cc

behind_both : (a b : List (List ℕ)) (r : Words) → behind (a ++ b) r ≡ behind a (behind b r)
behind_both a b (Ok more) = ap (λ (words : List (List ℕ)). let r : Words = Ok words in r) (append_assoc a b more)
behind_both a b (Err refusal) = refl

pub goes_on : (old new : List (List ℕ)) (given rest : Words) → outcome None new ≡ behind old given → behind new rest ≡ behind old (and_then given rest)
goes_on old new (Ok words) rest e = ap (λ (w : List (List ℕ)). behind w rest) (ok_is e) ∙ behind_both old words rest
goes_on old new (Err refusal) rest e = absurd cc

pub is_refused : (line : List ℕ) (old new : List (List ℕ)) (given rest : Words) → outcome (Some line) new ≡ behind old given → (let r : Words = Err line in r ≡ behind old (and_then given rest))
is_refused line old new (Ok words) rest e = absurd cc
is_refused line old new (Err refusal) rest e = e

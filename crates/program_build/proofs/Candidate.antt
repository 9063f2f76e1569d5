-- The candidate of a loaded object, found by its input.
use Rattle.std.proofs.Common.{◌≡◌, ℕ, ◌+◌, ◌-◌, ◌<◌, ◌≤◌, ◌==◌, ◌∙◌, List, length, sym, ap, arith, Option, Some, None, false, true, get_or}
use Rattle.std.specs.Prelude.{slice_get, find}
use Rattle.std.specs.List.{position_or_len}
use Rattle.std.proofs.lemmas.Bool.{eq-eqb, ne_eqb}
use Rattle.std.proofs.lemmas.List.Folds.{find_at}
use Rattle.std.proofs.lemmas.List.Sums.{position_or_len_is}
use Rattle.std.proofs.lemmas.Option.{slice_get_within, slice_get-get_or, get_or_from_slice_get}
use Rattle.loose_calls.specs.link_program.round_rules.Rounds.{Candidate}

abbrev pub Counted : List Candidate → Type 0
Counted all = (i : ℕ) (c : Candidate) → slice_get all i ≡ Some c → c.input ≡ i + 1

pub found : (all : List Candidate) (i : ℕ) (c : Candidate) (input : ℕ) → Counted all → slice_get all i ≡ Some c → c.input ≡ input
    → find (λ d. d.input == input) all ≡ Some c
found all i c input counted at is =
    find_at test all ∙ ap (slice_get all) first ∙ at
  where
    test : Candidate → Rattle.std.specs.Prelude.Bool
    test d = d.input == input

    within : i < length all
    within = slice_get_within all i c at

    own : c.input ≡ i + 1
    own = counted i c at

    before : (k : ℕ) → k < i → test (get_or all k c) ≡ false
    before k below =
        let other : (get_or all k c).input ≡ k + 1 = counted k (get_or all k c) (slice_get-get_or all k c (omega (arith, below, within))) in
        ne_eqb (get_or all k c).input input (omega (arith, other, own, is))

    itself : test (get_or all i c) ≡ true
    itself = eq-eqb (get_or all i c).input input (ap (λ (d : Candidate). d.input) (get_or_from_slice_get all i c c at) ∙ is)

    first : position_or_len test all ≡ i
    first = position_or_len_is test all i c (omega (arith, within)) before (λ h. itself)

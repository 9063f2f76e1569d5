-- Putting names one after another, as a loop does.
use Rattle.std.proofs.Common.{◌≡◌, ℕ, ◌+◌, ◌<◌, List, [], ◌∷◌, ◌++◌, length, take, get_or, sym, ap, subst, ◌∙◌, append_assoc}
use Rattle.std.specs.List.{All, flat_map}
use Rattle.std.proofs.lemmas.List.{take_more, flat_map_more}
use Rattle.std.proofs.lemmas.List.Elements.{All-push}

-- What is there is what was there and the spellings of these names, which fit.
abbrev pub ArePut : (List ℕ → List ℕ) → (List ℕ → Type 0) → List ℕ → List ℕ → List ℕ → List (List ℕ) → Type 0
ArePut spelled Short old count now names = (now ≡ old ++ (count ++ flat_map spelled names)) × All Short names

one_more : (spelled : List ℕ → List ℕ) (Short : List ℕ → Type 0) (old count now new name : List ℕ) (names : List (List ℕ)) → ArePut spelled Short old count now names → new ≡ now ++ spelled name → Short name
    → ArePut spelled Short old count new (names ++ name ∷ [])
one_more spelled Short old count now new name names so_far is short = (
  is ∙ ap (λ (t : List ℕ). t ++ spelled name) (so_far.0 ∙ sym (append_assoc old count (flat_map spelled names))) ∙ flat_map_more spelled (old ++ count) names name ∙ append_assoc old count (flat_map spelled (names ++ name ∷ [])),
  All-push Short names name so_far.1 short,
)

pub goes_on : (spelled : List ℕ → List ℕ) (Short : List ℕ → Type 0) (old count now new name : List ℕ) (names : List (List ℕ)) (i : ℕ) → i < length names → name ≡ get_or names i name → ArePut spelled Short old count now (take i names)
    → new ≡ now ++ spelled name → Short name → ArePut spelled Short old count new (take (i + 1) names)
goes_on spelled Short old count now new name names i lt at so_far is short =
    let more : take (i + 1) names ≡ take i names ++ name ∷ [] = take_more names i name lt ∙ ap (λ (x : List ℕ). take i names ++ x ∷ []) (sym at) in
    subst (ArePut spelled Short old count new) (sym more) (one_more spelled Short old count now new name (take i names) so_far is short)

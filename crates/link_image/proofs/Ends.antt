-- The end of a list of pairs.
use Rattle.std.proofs.Common.{◌≡◌, ℕ, zero, suc, ◌+◌, ◌≤◌, List, [], ◌∷◌, ◌++◌, drop, length, refl, sym, ap, ◌∙◌, arith, append-nil}
use Rattle.link_program.specs.name_rules.Entries.{ImportKey}
use Rattle.link_image.specs.Imports.{functions_seen}
use Rattle.link_image.specs.Sections.{types_seen}

pub no_imports : (imports : List ImportKey) (ts : List ℕ) → functions_seen imports ts [] ≡ []
no_imports imports [] = refl
no_imports imports (t ∷ ts) = refl

pub no_types : (ts : List ℕ) → types_seen ts [] ≡ []
no_types [] = refl
no_types (t ∷ ts) = refl

drop_past : {A : Type 0} (xs : List A) (n : ℕ) → length xs ≤ n → drop n xs ≡ []
drop_past [] zero le = refl
drop_past [] (suc n) le = refl
drop_past (x ∷ xs) zero le = absurd (omega (arith, le))
drop_past (x ∷ xs) (suc n) le = drop_past xs n (omega (arith, le))

-- nothing is left
pub ended : {A B : Type 0} (g : List A → List B) (made whole : List B) (xs : List A) (n : ℕ) → g [] ≡ [] → length xs ≤ n → made ++ g (drop n xs) ≡ whole → made ≡ whole
ended g made whole xs n none le before = sym (append-nil made) ∙ ap (λ r. made ++ r) (sym (ap g (drop_past xs n le) ∙ none)) ∙ before

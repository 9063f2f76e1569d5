-- The name of a variant, piece by piece.
use Rattle.std.proofs.Common.{◌≡◌, ℕ, List, [], ◌∷◌, ◌++◌, ap, ◌∙◌, append_assoc}

pub marked : (old mid new types : List ℕ) → mid ≡ old ++ 255 ∷ [] → new ≡ mid ++ types → new ≡ old ++ 255 ∷ types
marked old mid new types mark rest = rest ∙ ap (λ l. l ++ types) mark ∙ append_assoc old (255 ∷ []) types

pub all_marked : (none first second marks whole params results name : List ℕ) → none ≡ [] → first ≡ none ++ 255 ∷ params → second ≡ first ++ 255 ∷ results
    → marks ≡ second ++ 255 ∷ [] → whole ≡ marks ++ name → whole ≡ 255 ∷ params ++ 255 ∷ results ++ 255 ∷ name
all_marked none first second marks whole params results name empty one two mark rest =
    rest
    ∙ ap (λ l. l ++ name) (mark ∙ ap (λ l. l ++ 255 ∷ []) (two ∙ ap (λ l. l ++ 255 ∷ results) (one ∙ ap (λ l. l ++ 255 ∷ params) empty)))
    ∙ append_assoc ((255 ∷ params) ++ 255 ∷ results) (255 ∷ []) name

-- The members of a thin library, as a group where they aren't in one.
use Rattle.std.proofs.Common.{◌≡◌, ◌++◌, ℕ, Bool, false, List, ◌∷◌, [], codes, sym, ap, ◌∙◌, append_assoc}
use Rattle.driver_words.specs.Inputs.{grouped}

pub is_grouped : (within : Bool) (words one two three names : List (List ℕ)) (begin end : List ℕ) → within ≡ false
    → one ≡ words ++ begin ∷ [] → begin ≡ codes "--start-lib" → two ≡ one ++ names → three ≡ two ++ end ∷ [] → end ≡ codes "--end-lib"
    → three ≡ words ++ grouped within names
is_grouped within words one two three names begin end outside begun begin_is put ended end_is =
    let first = codes "--start-lib" ∷ [] in
    let last = codes "--end-lib" ∷ [] in
    ended ∙ ap (λ (e : List ℕ). two ++ e ∷ []) end_is ∙ ap (λ (ws : List (List ℕ)). ws ++ last) put
    ∙ ap (λ (ws : List (List ℕ)). (ws ++ names) ++ last) begun ∙ ap (λ (b : List ℕ). ((words ++ b ∷ []) ++ names) ++ last) begin_is
    ∙ append_assoc (words ++ first) names last ∙ append_assoc words first (names ++ last)
    ∙ ap (λ (b : Bool). words ++ grouped b names) (sym outside)

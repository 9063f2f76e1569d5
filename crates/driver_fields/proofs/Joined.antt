-- Lists put behind one another.
use Rattle.std.proofs.Common.{◌≡◌, ◌++◌, ℕ, List, ap, ◌∙◌, append_assoc}

pub three : (words a b c one two all : List (List ℕ)) → one ≡ words ++ a → two ≡ one ++ b → all ≡ two ++ c → all ≡ words ++ ((a ++ b) ++ c)
three words a b c one two all first second third =
    third ∙ ap (λ (ws : List (List ℕ)). ws ++ c) (second ∙ ap (λ (ws : List (List ℕ)). ws ++ b) first ∙ append_assoc words a b) ∙ append_assoc words (a ++ b) c

-- The windows that a test has looked at have values.
use Rattle.std.proofs.Common.{◌≡◌, ℕ, ◌+◌, ◌<◌, List, [], ◌++◌, length, take, drop, sym, ap, ◌∙◌, subst}
use Rattle.std.specs.Prelude.{slice_index_or}
use Rattle.std.specs.List.{All}
use Rattle.std.proofs.lemmas.List.{take_more, append-nil, take-append-drop}
use Rattle.std.proofs.lemmas.List.Elements.{All-push}
use Rattle.reloc_apply.specs.declared.window.Window.{Window}
use Rattle.reloc_apply.specs.declared.window.Patch.{Patch}
use Rattle.reloc_apply.specs.Windows.{IsSum}

pub one_more_sum : (ws : List Window) (i : ℕ) (none : Window) → i < length ws → All IsSum (take i ws) → IsSum (slice_index_or ws i none) → All IsSum (take (i + 1) ws)
one_more_sum ws i none below h is = subst (All IsSum) (sym (take_more ws i none below)) (All-push IsSum (take i ws) (slice_index_or ws i none) h is)

-- a list that is cut in two, with none behind it
pub three_pieces : (all front back none one two three : List Patch) (n : ℕ) → front ≡ take n all → back ≡ drop n all → none ≡ [] → one ≡ front → two ≡ one ++ back → three ≡ two ++ none
    → three ≡ all
three_pieces all front back none one two three n a b c d e f =
    f ∙ ap (λ xs. two ++ xs) c ∙ append-nil two ∙ e ∙ ap (λ xs. xs ++ back) (d ∙ a) ∙ ap (λ xs. take n all ++ xs) b ∙ take-append-drop n all

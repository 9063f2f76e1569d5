-- What holds of the translation.
use Rattle.std.specs.Prelude.{◌≡◌, ℕ, List, [], ◌++◌, IsOk, Ok}
use Rattle.driver_table.specs.Cut.{cut_of}
use Rattle.driver_words.specs.Translated.{World, cut_and_answered}

-- Words that are cut into no item, as those of meaning Drop with their values, may be left out behind any words that are cut whole.
abbrev pub DroppedAreLeftOut : Type 0
DroppedAreLeftOut = (held : World) (front dropped words : List (List ℕ)) → IsOk (cut_of front) → cut_of dropped ≡ Ok []
    → cut_and_answered held (front ++ dropped ++ words) ≡ cut_and_answered held (front ++ words)

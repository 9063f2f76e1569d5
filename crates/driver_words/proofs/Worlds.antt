-- What is held alike gives alike.
use Rattle.std.proofs.Common.{◌≡◌, ℕ, Bool, IsTrue, List, Option, Result, ap, ◌∙◌}
use Rattle.wl_outside.specs.Shelf.{Shown, Same, Grows}
use Rattle.driver_table.specs.Cut.{behind}
use Rattle.driver_words.proofs.Held.{held_same, still_tells}
use Rattle.driver_table.specs.declared.meaning.Meaning.{Meaning}
use Rattle.driver_words.specs.Start.{beside}
use Rattle.driver_words.specs.declared.answer.Answer.{Answer}
use Rattle.driver_words.specs.Expand.{expanded_to}
use Rattle.driver_words.specs.Translated.{expanded_and_answered, translated_words}
use Rattle.driver_words.specs.Inputs.{given_by, opened_of}

pub given_same : (old new : Shown) (folders : List (List ℕ)) (inside whole : Bool) (meaning : Meaning) (value : List ℕ) → Same old new → IsTrue old.tells
    → given_by new.held folders inside whole meaning value ≡ given_by old.held folders inside whole meaning value
given_same old new folders inside whole meaning value same tells = ap (λ (held : List ℕ → Option (List ℕ)). given_by held folders inside whole meaning value) (held_same old new same tells)

pub beside_same : (old new : Shown) (folders : List (List ℕ)) (path folder : List ℕ) → Same old new → IsTrue old.tells → beside new.held folders path folder ≡ beside old.held folders path folder
beside_same old new folders path folder same tells = ap (λ (held : List ℕ → Option (List ℕ)). beside held folders path folder) (held_same old new same tells)

pub opened_same : (old new : Shown) (within : Bool) (path : Result (List ℕ) (List ℕ)) → Same old new → IsTrue old.tells → opened_of new.held within path ≡ opened_of old.held within path
opened_same old new within path same tells = ap (λ (held : List ℕ → Option (List ℕ)). opened_of held within path) (held_same old new same tells)

-- the words of a path behind a load are those of the path before it
pub put_behind : (old mid : Shown) (within : Bool) (path is : Result (List ℕ) (List ℕ)) (words : List (List ℕ)) (all : Result (List (List ℕ)) (List ℕ)) → Same old mid → Grows old mid
    → (IsTrue old.tells → path ≡ is) → (IsTrue mid.tells → all ≡ behind words (opened_of mid.held within path)) → IsTrue old.tells → all ≡ behind words (opened_of old.held within is)
put_behind old mid within path is words all same grows called put tells =
    put (still_tells old mid grows tells)
    ∙ ap (λ (r : Result (List (List ℕ)) (List ℕ)). behind words r) (opened_same old mid within path same tells ∙ ap (λ (p : Result (List ℕ) (List ℕ)). opened_of old.held within p) (called tells))

expanded_alike : (old mid : Shown) (expanded : Result (List (List ℕ)) (List ℕ)) → Same old mid → IsTrue old.tells → expanded_and_answered mid.held expanded ≡ expanded_and_answered old.held expanded
expanded_alike old mid expanded same tells = ap (λ (held : List ℕ → Option (List ℕ)). expanded_and_answered held expanded) (held_same old mid same tells)

-- so are the answers of words
pub answered_behind : (old mid : Shown) (expanded : Result (List (List ℕ)) (List ℕ)) (words : List (List ℕ)) (answer : Answer) → Same old mid → Grows old mid
    → (IsTrue old.tells → expanded ≡ expanded_to 20 old.held words) → (IsTrue mid.tells → answer ≡ expanded_and_answered mid.held expanded) → IsTrue old.tells → answer ≡ translated_words old.held words
answered_behind old mid expanded words answer same grows is put tells =
    put (still_tells old mid grows tells) ∙ expanded_alike old mid expanded same tells
    ∙ ap (λ (r : Result (List (List ℕ)) (List ℕ)). expanded_and_answered old.held r) (is tells)

-- What each outcome says of drivers' words and of the shelf before and after, and its exit status.
use Rattle.std.specs.Prelude.{◌≡◌, ℕ, Bool, List, IsTrue, min}
use Rattle.wl_outside.specs.Shelf.{Shown, Same}
use Rattle.link_command.specs.declared.asked.Asked.{Asked}
use Rattle.link_command.specs.declared.status.Status.{Status}
use Rattle.link_command.specs.Status.{code_of as status_code}
use Rattle.driver_words.specs.declared.answer.Answer.{Answer}
use Rattle.driver_words.specs.declared.answer.Answer.TheVariants.{Links, Says, Refuses}
use Rattle.driver_words.specs.Expand.{Blames}
use Rattle.driver_words.specs.Translated.{translated}
use Rattle.driver_command.specs.declared.outcome.Outcome.{Outcome}
use Rattle.driver_command.specs.declared.outcome.Outcome.TheVariants.{Said, Unsaid, Refused, Stopped, Linked}
use Rattle.driver_command.specs.Linked.{LinksAs}

abbrev pub code_of : Outcome → ℕ
code_of (Said what) = 0
code_of (Unsaid what) = 1
code_of (Refused line) = 1
code_of (Stopped stop) = 1
code_of (Linked status) = min (status_code status) 1

-- what the words stand for, where the shelf tells what it holds
abbrev pub Means : Shown → List (List ℕ) → Answer → Type 0
Means before words answer = IsTrue before.tells → translated before.held words ≡ answer

-- The words are the linker's, and the link by its own words, with what is asked beside them, shows what it shows.
pub record IsLink (status : Status) (before after : Shown) (words : List (List ℕ)) : Type 0 where
  pub own : List (List ℕ)
  pub warnings : List (List ℕ)
  pub fatal : Bool
  pub asked : Asked
  pub means : Means before words (Links own warnings fatal asked.names asked.features)
  pub shows : LinksAs fatal asked status before after own

-- outcome by outcome
abbrev pub Ends : Outcome → Shown → Shown → List (List ℕ) → Type 0
Ends (Said what) before after words = Means before words (Says what) × Same before after
Ends (Unsaid what) before after words = Means before words (Says what) × Same before after
Ends (Refused line) before after words = Means before words (Refuses line) × Same before after
Ends (Stopped stop) before after words = Blames stop before after × Same before after
Ends (Linked status) before after words = IsLink status before after words

-- What is due where the words stand for this: a link by the own words that shows all that `link_like_lld` promises of them, the line that
-- refuses them, or the text that is asked for. It fails to come only where there is no answer to the words.
abbrev pub IsDue : Outcome → Shown → Shown → Answer → Type 0
IsDue (Stopped stop) before after answer = Blames stop before after
IsDue (Linked status) before after (Links own warnings fatal names features) = LinksAs fatal (record { names = names; features = features }) status before after own
IsDue (Refused line) before after (Refuses due) = line ≡ due
IsDue (Said what) before after (Says due) = what ≡ due
IsDue (Unsaid what) before after (Says due) = what ≡ due
IsDue outcome before after answer = ⊥

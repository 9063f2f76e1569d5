-- Since words stand for one thing, what comes is what is due.
use Rattle.std.proofs.Common.{◌≡◌, ℕ, List, IsTrue, refl, sym, subst}
use Rattle.wl_outside.specs.Shelf.{Shown, Same}
use Rattle.wl_outside.specs.Sink.{Told}
use Rattle.driver_words.specs.declared.answer.Answer.{Answer}
use Rattle.driver_words.specs.declared.answer.Answer.TheVariants.{Says}
use Rattle.driver_words.specs.declared.answer.What.{What}
use Rattle.driver_words.specs.Translated.{translated}
use Rattle.driver_command.specs.declared.outcome.Outcome.{Outcome}
use Rattle.driver_command.specs.declared.outcome.Outcome.TheVariants.{Said, Unsaid, Refused, Stopped, Linked}
use Rattle.driver_command.specs.Ends.{Means, Ends, IsDue}
use Rattle.driver_command.specs.Told.{SaidOf}

pub due : (outcome : Outcome) (before after : Shown) (words : List (List ℕ)) → Ends outcome before after words → IsTrue before.tells
    → IsDue outcome before after (translated before.held words)
due (Said what) before after words ends told = subst (λ (a : Answer). IsDue (Said what) before after a) (sym (ends.0 told)) refl
due (Unsaid what) before after words ends told = subst (λ (a : Answer). IsDue (Unsaid what) before after a) (sym (ends.0 told)) refl
due (Refused line) before after words ends told = subst (λ (a : Answer). IsDue (Refused line) before after a) (sym (ends.0 told)) refl
due (Stopped stop) before after words ends told = ends.0
due (Linked status) before after words ends told = subst (λ (a : Answer). IsDue (Linked status) before after a) (sym (ends.means told)) ends.shows

-- a text that is asked for
pub said : (outcome : Outcome) (what : What) (old new : Told) (before after : Shown) (words : List (List ℕ)) → SaidOf outcome what old new
    → Means before words (Says what) → Same before after → Ends outcome before after words
said (Said given) what old new before after words h means same = (subst (λ (w : What). Means before words (Says w)) (sym h.0) means, same)
said (Unsaid given) what old new before after words h means same = (subst (λ (w : What). Means before words (Says w)) (sym h.0) means, same)
said (Refused line) what old new before after words h means same = absurd h
said (Stopped stop) what old new before after words h means same = absurd h
said (Linked status) what old new before after words h means same = absurd h

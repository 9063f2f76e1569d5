-- Worked words: what clap makes of them.
use Rattle.std.proofs.Common.{◌≡◌, refl, List, ℕ, [], ◌∷◌, codes}
use Rattle.std.specs.Prelude.{Some}
use Rattle.clap.specs.declared.error.kind.ErrorKind.TheVariants as kind
use Rattle.clap.proofs.OnLiterals.{clap_on_literals}
use Rattle.run_words.specs.Words.{run_app, refusals, given_word}
use Rattle.run_words.specs.Reads.{steps_in}

abbrev usual : List (List ℕ)
usual = codes "m.wasm" ∷ codes "--script" ∷ codes "s" ∷ codes "--steps=100" ∷ []

usual_is_taken : refusals usual ≡ []
unfolding clap_on_literals run_app refusals
usual_is_taken = refl

its_module : given_word (codes "MODULE") usual ≡ Some (codes "m.wasm")
unfolding clap_on_literals run_app given_word
its_module = refl

its_steps : given_word (codes "steps") usual ≡ Some (codes "100")
unfolding clap_on_literals run_app given_word
its_steps = refl

steps_are_100 : steps_in (codes "100") ≡ 100
steps_are_100 = refl

nothing_is_refused : refusals [] ≡ kind.MissingRequiredArgument ∷ []
unfolding clap_on_literals run_app refusals
nothing_is_refused = refl

help_is_refused : refusals (codes "--help" ∷ []) ≡ kind.DisplayHelp ∷ []
unfolding clap_on_literals run_app refusals
help_is_refused = refl

too_many_steps : refusals (codes "m" ∷ codes "--script=s" ∷ codes "--steps=1000000001" ∷ []) ≡ kind.ValueValidation ∷ []
unfolding clap_on_literals run_app refusals
too_many_steps = refl

a_plus_may_lead : refusals (codes "m" ∷ codes "--script=s" ∷ codes "--steps=+5" ∷ []) ≡ []
unfolding clap_on_literals run_app refusals
a_plus_may_lead = refl

no_minus : refusals (codes "m" ∷ codes "--script=s" ∷ codes "--steps=-0" ∷ []) ≡ kind.ValueValidation ∷ []
unfolding clap_on_literals run_app refusals
no_minus = refl

two_modules : refusals (codes "m" ∷ codes "n" ∷ codes "--script=s" ∷ codes "--steps=5" ∷ []) ≡ kind.UnknownArgument ∷ []
unfolding clap_on_literals run_app refusals
two_modules = refl

an_empty_module : refusals (codes "" ∷ codes "--script=s" ∷ codes "--steps=5" ∷ []) ≡ []
unfolding clap_on_literals run_app refusals
an_empty_module = refl

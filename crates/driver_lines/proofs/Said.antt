-- What was printed, by the line that it is.
use Rattle.std.proofs.Common.{◌≡◌, ℕ, List, Option, Result, subst, sym, ap, ◌∙◌}
use Rattle.wl_base.specs.declared.fault.Fault.{Fault}
use Rattle.wl_base.specs.declared.fault.FeatureRule.{FeatureRule}
use Rattle.wl_outside.specs.declared.sink.Failed.{Failed}
use Rattle.wl_outside.specs.Sink.{Told, Wrote}
use Rattle.driver_lines.specs.Lines.{about_line, pair_line, feature_line, refusal_line}

pub said : (r : Result (Unit {0}) Failed) (a b : List ℕ) (old new : Told) → b ≡ a → Wrote r a old new → Wrote r b old new
said r a b old new is wrote = subst (λ line. Wrote r line old new) (sym is) wrote

-- the line of a fault is that of the variant that it is
pub at : (r : Result (Unit {0}) Failed) (program : List ℕ) (entry : Option (List ℕ)) (inputs files : List (List ℕ)) (fault variant : Fault) (old new : Told)
    → fault ≡ variant → Wrote r (refusal_line program entry inputs files variant) old new → Wrote r (refusal_line program entry inputs files fault) old new
at r program entry inputs files fault variant old new is wrote = said r _ _ old new (ap (refusal_line program entry inputs files) is) wrote

-- how an input is called is told
pub about : (r : Result (Unit {0}) Failed) (program front middle told end : List ℕ) (texts called : List (List ℕ)) (old new : Told)
    → texts ≡ called → Wrote r (about_line program front texts middle told end) old new → Wrote r (about_line program front called middle told end) old new
about r program front middle told end texts called old new is wrote =
    said r _ _ old new (sym (ap (λ (t : List (List ℕ)). about_line program front t middle told end) is)) wrote

pub pair : (r : Result (Unit {0}) Failed) (program front name between : List ℕ) (a b first other : List (List ℕ)) (old new : Told)
    → a ≡ first → b ≡ other → Wrote r (pair_line program front name between a b) old new → Wrote r (pair_line program front name between first other) old new
pair r program front name between a b first other old new is also wrote =
    said r _ _ old new (sym (ap (λ (t : List (List ℕ)). pair_line program front name between t b) is ∙ ap (λ (t : List (List ℕ)). pair_line program front name between first t) also)) wrote

pub featured : (r : Result (Unit {0}) Failed) (program name : List ℕ) (a b input by : List (List ℕ)) (rule : FeatureRule) (old new : Told)
    → a ≡ input → b ≡ by → Wrote r (feature_line program name a b rule) old new → Wrote r (feature_line program name input by rule) old new
featured r program name a b input by rule old new is also wrote =
    said r _ _ old new (sym (ap (λ (t : List (List ℕ)). feature_line program name t b rule) is ∙ ap (λ (t : List (List ℕ)). feature_line program name input t rule) also)) wrote

-- A partial link is refused by what is found of names, and else is what is made of the program.
use Rattle.std.proofs.Common.{◌≡◌, ℕ, List, Option, Some, None, Result, refl, sym, ap, ◌∙◌}
use Rattle.partial_items.specs.link_program.wl_base.Choice.{unless, ◌>>=◌}
use Rattle.partial_items.specs.link_program.wl_base.declared.fault.Fault.{Fault}
use Rattle.partial_items.specs.link_program.name_rules.Cases.{clash, clash_by, duplicate}
use Rattle.partial_items.specs.link_program.link_rules.Program.{Program}
use Rattle.partial_items.specs.link_program.link_rules.LinkOf.{too_many_names}
use Rattle.partial_items.specs.partial_rules.PartialLink.{partial_program}
use Rattle.relink_out.specs.Made.{made_of}
use Rattle.relink_out.specs.Laws.{PartialIsMade}

-- Steps that may stop, and what is done behind them.
chained : (p : Program) (first : Option Fault) (one other last : Program → Option Fault) (rest : Program → Result (List ℕ) Fault) → one p ≡ other p
    → (unless first p >>= λ p. unless (one p) p >>= λ p. unless (last p) p >>= rest) ≡ ((unless first p >>= λ p. unless (other p) p >>= λ p. unless (last p) p) >>= rest)
chained p (Some fault) one other last rest same = refl
chained p None one other last rest same = ap (λ f. unless f p >>= λ p. unless (last p) p >>= rest) same ∙ second (other p)
  where
    second : (o : Option Fault) → (unless o p >>= λ p. unless (last p) p >>= rest) ≡ ((unless o p >>= λ p. unless (last p) p) >>= rest)
    second (Some fault) = refl
    second None = refl

pub partial_is_made : PartialIsMade
unfolding partial_program made_of
partial_is_made p strict =
    chained p (too_many_names p) (λ p. clash p.entries) (λ p. clash_by p.plan.loose_calls p.entries) (λ p. duplicate p.entries) made_of (ap (λ b. clash_by b p.entries) (sym strict))

-- The round that a plan is.
use Rattle.std.specs.Prelude.{ℕ, List}
use Rattle.mark_bits.specs.declared.party.Party.{Party}
use Rattle.live_mark.specs.declared.plan.Plan.{Plan}
use Rattle.live_mark.specs.Shares.{Round, round}

abbrev pub round_of : List (List ℕ) → Party → ℕ → Plan → Round
round_of targets before parts p = round p.bits.now targets p.rooting p.places.now parts before

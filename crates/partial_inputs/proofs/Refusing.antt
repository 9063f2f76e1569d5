-- Where the faults of inputs stand in a partial link.
use Rattle.std.proofs.Common.{◌≡◌, ℕ, List, [], ◌∷◌, refl, ap, Option, Some, None, Result, Ok, Err}
use Rattle.std.specs.Prelude.{option_map}
use Rattle.link_program.specs.wl_base.Choice.{first_some, unless, ◌>>=◌}
use Rattle.link_program.specs.wl_base.declared.fault.Fault.{Fault}
use Rattle.link_program.specs.wl_base.declared.fault.Fault.TheVariants.{NotPartial}
use Rattle.link_program.specs.link_rules.Candidates.{too_much_input}
use Rattle.link_plan.specs.declared.plan.Plan.{Plan}
use Rattle.partial_rules.specs.PartialLink.{bare, first_not_plain, partial_of, partial_by}
use Rattle.partial_inputs.specs.Refused.{joined, RefusedFirst, ThenJoined}

module _ (plan : Plan) (files : List (List ℕ)) where
  abbrev last : Option Fault → Result (List ℕ) Fault
  last b = unless b files >>= λ files. joined (bare plan) files

  abbrev both : Option Fault → Result (List ℕ) Fault
  both a = unless a files >>= λ files. unless (option_map NotPartial (first_not_plain 0 plan.inputs files)) files >>= λ files. joined (bare plan) files

  abbrev told : Option Fault → Result (List ℕ) Fault
  told (Some g) = Err g
  told None = Ok []

  last_stops : (f : Fault) (b : Option Fault) → first_some (b ∷ []) ≡ Some f → last b ≡ Err f
  last_stops f (Some g) e = ap told e
  last_stops f None e = absurd cc

  both_stop : (f : Fault) (a : Option Fault) → first_some (a ∷ option_map NotPartial (first_not_plain 0 plan.inputs files) ∷ []) ≡ Some f → both a ≡ Err f
  both_stop f (Some g) e = ap told e
  both_stop f None e = last_stops f (option_map NotPartial (first_not_plain 0 plan.inputs files)) e

  last_goes : (b : Option Fault) → first_some (b ∷ []) ≡ None → last b ≡ joined (bare plan) files
  last_goes (Some g) e = absurd cc
  last_goes None e = refl

  both_go : (a : Option Fault) → first_some (a ∷ option_map NotPartial (first_not_plain 0 plan.inputs files) ∷ []) ≡ None → both a ≡ joined (bare plan) files
  both_go (Some g) e = absurd cc
  both_go None e = last_goes (option_map NotPartial (first_not_plain 0 plan.inputs files)) e

pub refused_first : RefusedFirst
unfolding partial_of partial_by
refused_first plan files f e = both_stop plan files f (too_much_input files) e

pub then_joined : ThenJoined
unfolding partial_of partial_by
then_joined plan files e = both_go plan files (too_much_input files) e

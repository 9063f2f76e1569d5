-- The first faults of a program, one after another.
use Rattle.std.proofs.Common.{◌≡◌, ◌∙◌, refl, ap, [], ◌∷◌, Option, Some, None, Result, Err}
use Rattle.loose_calls.specs.link_program.wl_base.Choice.{first_some, unless, ◌>>=◌}
use Rattle.loose_calls.specs.link_program.wl_base.declared.fault.Fault.{Fault}
use Rattle.loose_calls.specs.link_program.name_rules.Cases.{clash_by, duplicate}
use Rattle.loose_calls.specs.link_program.link_rules.Program.{Program}
use Rattle.loose_calls.specs.link_program.link_rules.LinkOf.{too_many_names}
use Rattle.program_build.specs.Steps.{case_of}
use Rattle.program_build.specs.Found.{found_of}

abbrev last : Program → Result Program Fault
last p = unless (duplicate p.entries) p

abbrev next : Program → Result Program Fault
next p = unless (clash_by p.plan.loose_calls p.entries) p >>= last

found_by : (p : Program) (t c d : Option Fault) → too_many_names p ≡ t → clash_by p.plan.loose_calls p.entries ≡ c → duplicate p.entries ≡ d → found_of p ≡ unless (first_some (t ∷ c ∷ d ∷ [])) p
found_by p (Some fault) c d t-is c-is d-is = ap (λ o. unless o p >>= next) t-is
found_by p None (Some fault) d t-is c-is d-is = ap (λ o. unless o p >>= next) t-is ∙ ap (λ o. unless o p >>= last) c-is
found_by p None None (Some fault) t-is c-is d-is = ap (λ o. unless o p >>= next) t-is ∙ ap (λ o. unless o p >>= last) c-is ∙ ap (λ o. unless o p) d-is
found_by p None None None t-is c-is d-is = ap (λ o. unless o p >>= next) t-is ∙ ap (λ o. unless o p >>= last) c-is ∙ ap (λ o. unless o p) d-is

by_first : (p : Program) → found_of p ≡ unless (first_some (too_many_names p ∷ clash_by p.plan.loose_calls p.entries ∷ duplicate p.entries ∷ [])) p
by_first p = found_by p (too_many_names p) (clash_by p.plan.loose_calls p.entries) (duplicate p.entries) refl refl refl

pub too_many : (p : Program) (fault : Fault) → too_many_names p ≡ Some fault → found_of p ≡ Err fault
too_many p fault is = by_first p ∙ ap (λ o. unless (first_some (o ∷ clash_by p.plan.loose_calls p.entries ∷ duplicate p.entries ∷ [])) p) is

pub a_case : (p : Program) (o : Option Fault) → too_many_names p ≡ None → case_of p.plan.loose_calls p.entries ≡ o → found_of p ≡ unless o p
a_case p o few is =
    by_first p ∙ ap (λ o. unless (first_some (o ∷ clash_by p.plan.loose_calls p.entries ∷ duplicate p.entries ∷ [])) p) few ∙ ap (λ o. unless o p) is

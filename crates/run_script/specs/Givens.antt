-- The imports of the globals that a script gives.
use Rattle.std.specs.Prelude.{Bool, List, [], ◌∷◌, ◌++◌, Option, Some, None, if◌then◌else◌}
use Rattle.std.specs.List.{list_any}
use Rattle.run_rules.specs.declared.session.GivenGlobal.{GivenGlobal}
use Rattle.run_script.specs.Scripts.{is_again}
use Rattle.run_script.specs.declared.givens.Pair.{Pair}
use Rattle.run_script.specs.contracts.givens.PairPartialEq.TheImpl as pair_eq

abbrev pub pair_of : GivenGlobal → Pair
pair_of g = record { «module» = g.«module»; field = g.field }

abbrev pub same_pair : Pair → Pair → Bool
same_pair = (pair_eq.eq-value).it

-- one more, unless there is one of the same import
abbrev pub with_given : List GivenGlobal → GivenGlobal → Option (List GivenGlobal)
with_given gs g = if list_any (is_again g) gs then None else Some (gs ++ g ∷ [])

use Rattle.std.proofs.Common.{ap}
use Rattle.std.specs.Prelude.{option_map}
use Rattle.run_rules.specs.declared.world.Source.TheVariants.{Code}
use Rattle.sym_parts.proofs.AllOf.{all_there}
use Rattle.sym_parts.proofs.bodies.body.Goals as goal

pub returns : goal.returns
returns c = ap (option_map (Code c.args.body.locals)) (all_there _ c.in_ok-ops.ops c.in_ok-ops.ensures)

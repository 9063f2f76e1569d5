use Rattle.object_rules.proofs.Each.{for_each}
use Rattle.object_rules.proofs.spaces.ImportPlaces.of.Goals as goal

pub returns : goal.returns
returns c = for_each c.args.imports.now _ c.in_ok-functions.ensures c.in_ok-tables.ensures c.in_ok-globals.ensures

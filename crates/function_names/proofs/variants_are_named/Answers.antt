use Rattle.function_names.proofs.Variants.{are_named}
use Rattle.function_names.proofs.variants_are_named.Goals as goal

pub returns : goal.returns
returns c = are_named

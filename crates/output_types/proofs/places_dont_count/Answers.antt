use Rattle.output_types.proofs.places_dont_count.Goals as goal
use Rattle.output_types.proofs.Places.{places}

pub returns : goal.returns
returns c = λ m other same valid. places m other same valid

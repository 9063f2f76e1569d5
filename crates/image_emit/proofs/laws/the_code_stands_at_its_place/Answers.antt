use Rattle.image_emit.proofs.Stands.{code_stands, no_code}
use Rattle.image_emit.proofs.laws.the_code_stands_at_its_place.Goals as goal

pub returns-clause-stands : goal.returns-clause-stands
returns-clause-stands c = code_stands

pub returns-clause-none : goal.returns-clause-none
returns-clause-none c = no_code

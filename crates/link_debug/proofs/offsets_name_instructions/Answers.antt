use Rattle.image_emit.proofs.Stands.{code_stands}
use Rattle.link_debug.proofs.Named.{offset_names, dropped, live_placed}
use Rattle.link_debug.proofs.offsets_name_instructions.Goals as goal

pub returns-clause-named : goal.returns-clause-named
returns-clause-named c = λ p exports w e n is. offset_names c.filled_bodies_are_read.ensures code_stands p exports w e n is

pub returns-clause-dropped : goal.returns-clause-dropped
returns-clause-dropped c = λ p exports w e gone. dropped c.filled_bodies_are_read.ensures code_stands p exports w e gone

pub returns-clause-placed : goal.returns-clause-placed
returns-clause-placed c = λ p exports w e part some is. live_placed c.filled_bodies_are_read.ensures code_stands p exports w e part some is

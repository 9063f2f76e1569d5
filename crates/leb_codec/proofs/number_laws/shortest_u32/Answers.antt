use Rattle.leb_codec.proofs.Computed.{u32_spells, u32_least}
use Rattle.leb_codec.proofs.number_laws.shortest_u32.Goals as goal

pub returns-clause-spells : goal.returns-clause-spells
returns-clause-spells c = u32_spells

pub returns-clause-shortest : goal.returns-clause-shortest
returns-clause-shortest c = u32_least

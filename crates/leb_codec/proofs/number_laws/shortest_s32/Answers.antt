use Rattle.leb_codec.proofs.Computed.{s32_spelled, s32_least}
use Rattle.leb_codec.proofs.number_laws.shortest_s32.Goals as goal

pub returns-clause-spells : goal.returns-clause-spells
returns-clause-spells c = s32_spelled

pub returns-clause-shortest : goal.returns-clause-shortest
returns-clause-shortest c = s32_least
